-- Where the processors' last entries ended.
use Rattle.std.proofs.Common.{◌≡◌, ℕ, ◌+◌, ◌<◌, ◌≤◌, List, [], ◌∷◌, ◌++◌, length, take, slice_index, slice_set, get_or, Bool, true, false, nat_eq, if◌then◌else◌, Option, Some, unwrap_or, refl, sym, ap, ◌∙◌, arith}
use Rattle.std.proofs.lemmas.List.{take_more}
use Rattle.std.proofs.lemmas.Bool.Decides.{nat_tests}
use Rattle.std.proofs.lemmas.Grind.{common_steps}
use Rattle.std.proofs.lemmas.List.Sums.{fold-append}
use Rattle.aps_model.specs.declared.entry.Entry.{Entry}
use Rattle.aps_model.specs.Due.{last_to, last_end}
use Rattle.aps_model.specs.Limits.{most_cpus}

unwrapped : (b : Bool) (to : ℕ) (found : Option ℕ) → unwrap_or (if b then Some to else found) 0 ≡ (if b then to else unwrap_or found 0)
unwrapped true to found = refl
unwrapped false to found = refl

-- where a processor's last entry ended, with one entry more
last_end_more : (h : List Entry) (e : Entry) (c : ℕ) → last_end (h ++ e ∷ []) c ≡ (if nat_eq e.cpu c then e.to else last_end h c)
last_end_more h e c = ap (λ (found : Option ℕ). unwrap_or found 0) (fold-append _ _ h (e ∷ [])) ∙ unwrapped (nat_eq e.cpu c) e.to (last_to h c)

put-at : (ends : List ℕ) (cpu to c : ℕ) → c < length ends → slice_index (slice_set ends cpu to) c ≡ (if nat_eq cpu c then to else slice_index ends c)
put-at ends cpu to c inside = grind (arith, nat_tests, common_steps)

pub ends_more : (ends : List ℕ) (h : List Entry) (e : Entry) → most_cpus ≤ length ends
    → ((c : ℕ) → c < most_cpus → slice_index ends c ≡ last_end h c)
    → (c : ℕ) → c < most_cpus → slice_index (slice_set ends e.cpu e.to) c ≡ last_end (h ++ e ∷ []) c
ends_more ends h e places so_far c small = rw (put-at ends e.cpu e.to c (omega arith), last_end_more h e c, so_far c small) refl

-- the elements before one, with that one
pub taken : {X : Type 0} (xs : List X) (i : ℕ) (x : X) → i < length xs → x ≡ get_or xs i x → take (i + 1) xs ≡ take i xs ++ x ∷ []
taken xs i x inside is = take_more xs i x inside ∙ ap (λ y. take i xs ++ y ∷ []) (sym is)
