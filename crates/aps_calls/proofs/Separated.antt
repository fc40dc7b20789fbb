-- The parts of a text by its separating line lie inside it.
use Rattle.std.proofs.Common.{◌≡◌, ℕ, zero, suc, ◌+◌, ◌≤◌, ◌<◌, List, drop, length, Bool, true, false, cond, Option, Some, None, IfSome, refl, sym, ap, subst, arith, length-append, length-drop}
use Rattle.std.specs.List.{find, range_with_len, starts_with}
use Rattle.std.specs.Option.{option_map}
use Rattle.std.specs.Prelude.{nat_eq}
use Rattle.std.proofs.lemmas.Bool.{and_parts}
use Rattle.std.proofs.lemmas.Bool.Decides.{Decides-eqb}
use Rattle.std.proofs.lemmas.Slice.Eq.{starts_is}
use Rattle.aps_text.specs.declared.separator.JournalAt.{JournalAt}
use Rattle.aps_text.specs.Separator.{begins_line, journal_place, parted_at, separates, separator}

found_in : (p : ℕ → Bool) (a n place : ℕ) → find p (range_with_len a n) ≡ Some place → (place < a + n) × (p place ≡ true)
found_in p a zero place h = absurd cc
found_in p a (suc n) place h = by_test (p a) refl h (found_in p (a + 1) n place) where
  by_test : (t : Bool) → p a ≡ t → cond t (Some a) (find p (range_with_len (a + 1) n)) ≡ Some place
      → (find p (range_with_len (a + 1) n) ≡ Some place → (place < a + 1 + n) × (p place ≡ true)) → (place < a + suc n) × (p place ≡ true)
  by_test true is found more = let same : a ≡ place = cc in (omega (arith, same), subst (λ x. p x ≡ true) same is)
  by_test false is found more = let rest = more found in (omega (arith, rest.0), rest.1)

starts_long : (bytes needle : List ℕ) → starts_with nat_eq bytes needle ≡ true → length needle ≤ length bytes
starts_long bytes needle h =
    let parts = (starts_is Decides-eqb bytes needle true (sym h)).0 refl in
    let lengths = ap length parts in
    omega (arith, lengths, length-append needle (drop (length needle) bytes))

inside : (bytes : List ℕ) (place : ℕ) → find (separates bytes) (range_with_len 0 (length bytes)) ≡ Some place
    → (place ≤ length bytes) × (place + length separator ≤ length bytes)
inside bytes place h =
    let found = found_in (separates bytes) 0 (length bytes) place h in
    let starts = (and_parts (begins_line bytes place) (starts_with nat_eq (drop place bytes) separator) found.1).1 in
    let long = starts_long (drop place bytes) separator starts in
    (omega (arith, found.0), omega (arith, found.0, long, length-drop place bytes))

pub separated_inside : (bytes : List ℕ) (at : JournalAt) → journal_place bytes ≡ Some at
    → (at.scenario_len ≤ length bytes) × (at.journal_from ≤ length bytes)
separated_inside bytes at h = by_place (find (separates bytes) (range_with_len 0 (length bytes))) refl h where
  by_place : (o : Option ℕ) → find (separates bytes) (range_with_len 0 (length bytes)) ≡ o → option_map parted_at o ≡ Some at
      → (at.scenario_len ≤ length bytes) × (at.journal_from ≤ length bytes)
  by_place None is found = absurd cc
  by_place (Some place) is found =
      let same : parted_at place ≡ at = cc in
      subst (λ (a : JournalAt). (a.scenario_len ≤ length bytes) × (a.journal_from ≤ length bytes)) same (inside bytes place is)

pub separated_within : (bytes : List ℕ) (o : Option JournalAt) → o ≡ journal_place bytes
    → IfSome o (λ at. (at.scenario_len ≤ length bytes) × (at.journal_from ≤ length bytes))
separated_within bytes None is = tt
separated_within bytes (Some at) is = separated_inside bytes at (sym is)
