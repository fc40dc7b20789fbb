-- Numbers that `parse` takes and refuses.
use Rattle.std.proofs.Common.{◌≡◌, ◌<◌, ◌^◌, ◌&&◌, ℕ, List, [], ◌∷◌, length, Result, Err, None, Bool, true, false, not, refl, ap, sym, ◌∙◌, subst, arith, inl, inr, nat_le, nat_lt}
use Rattle.std.proofs.lemmas.Bool.{cases_Bool, and_parts}
use Rattle.std.proofs.lemmas.Bool.Decides.{nat_tests}
use Rattle.std.proofs.lemmas.Str.Parse.{numerals_by_value, tells_all_ascii_digits, parse_digits}
use Rattle.std.specs.Char.{is_ascii_digit}
use Rattle.std.specs.List.{list_all}
use Rattle.std.specs.Result.{OkIff}
use Rattle.std.specs.Str.{all_ascii_digits}
use Rattle.std.specs.Str.Parse.{ParsesUnsigned, digits_value}
use Rattle.aps_words.specs.Number.{is_numeral, has_leading_zero, within, number_in}

all_same : (ds : List ℕ) → list_all is_ascii_digit ds ≡ all_ascii_digits ds
all_same [] = refl
all_same (c ∷ cs) = ap (λ b. is_ascii_digit c && b) (all_same cs)

past : (low high n : ℕ) → high < n → within low high n ≡ None
past low high n h =
    let e : nat_le n high ≡ false = grind (arith, nat_tests) in
    elim (cases_Bool (nat_le low n)) [ inl above ↦ rw (above, e) refl | inr below ↦ rw below refl ]

module _ (word : List ℕ) (numeral : is_numeral word ≡ true) where
  abbrev digits : Bool
  digits = list_all is_ascii_digit word && not (has_leading_zero word)

  some_digits : 0 < length word
  some_digits = let some : nat_lt 0 (length word) ≡ true = (and_parts digits _ numeral).1 in grind (arith, nat_tests)

  parsed : {E : Type 0} (r : Result ℕ E) → ParsesUnsigned 64 10 word r → OkIff r ((0 < length word) × (digits_value 10 word < 2 ^ 64)) (digits_value 10 word)
  parsed r h =
      let all : list_all is_ascii_digit word ≡ true = (and_parts _ (not (has_leading_zero word)) (and_parts digits (nat_lt 0 (length word)) numeral).0).0 in
      parse_digits (numerals_by_value _ tells_all_ascii_digits) 64 word r h (sym (all_same word) ∙ all)

  pub number-refused : {E : Type 0} (low high : ℕ) (r : Result ℕ E) (e : E) → high < 2 ^ 64 → ParsesUnsigned 64 10 word r → r ≡ Err e → number_in low high word ≡ None
  number-refused {E} low high r e fits h is =
      let large : high < digits_value 10 word = elim (cases_Bool (nat_lt (digits_value 10 word) (2 ^ 64))) [
        | inl small ↦ absurd (parsed (Err e) (subst (ParsesUnsigned {E = E} 64 10 word) is h) (some_digits, grind (arith, nat_tests)))
        | inr other ↦ grind (arith, nat_tests)
      ] in
      rw numeral (past low high _ large)
