-- The row without those who were due.
use Rattle.std.proofs.Common.{◌≡◌, ◌⊎◌, inl, inr, ℕ, zero, suc, ◌<◌, ◌≤◌, Bool, true, false, cond, List, [], ◌∷◌, length, set, get_or, refl, sym, ◌∙◌, ap, subst, Option, Some, None, arith, add-one, get_or-set_same, get_or-set_other}
use Rattle.std.proofs.lemmas.Bool.{cases_eq, cases_lt}
use Rattle.std.proofs.lemmas.List.{set_past}
use Rattle.aps_model.specs.TickWork.{insert_sleeper, is_earlier}
use Rattle.aps_timer.specs.Sleepers.{SleepsUntil, all_due, due_by, without_all}
use Rattle.aps_timer.proofs.Due.{due_now}
use Rattle.aps_timer.proofs.Places.{taken_within}
use Rattle.aps_timer.proofs.Turns.{gathered, gathered_more, with_sleeper}

abbrev Row : Type 0
Row = List (Option ℕ)

abbrev Sleepers : Type 0
Sleepers = List (ℕ × ℕ)

-- ---- one place of the row

set_nothing : (row : Row) (x : ℕ) → get_or (set row x None) x None ≡ None
set_nothing row x = elim (cases_lt x (length row)) [
  | inl below ↦ get_or-set_same row x None None below
  | inr past ↦ ap (λ (r : Row). get_or r x None) (set_past row x None past) ∙ past_none row x past
]
  where
    past_none : (row : Row) (x : ℕ) → length row ≤ x → get_or row x None ≡ None
    past_none [] x past = refl
    past_none (o ∷ row) zero past = absurd (omega (arith, past))
    past_none (o ∷ row) (suc x) past = past_none row x (omega (arith, past))

-- ---- all of them

-- whoever doesn't sleep doesn't afterwards
awake_still : (row : Row) (sleepers : Sleepers) (x : ℕ) → get_or row x None ≡ None → get_or (without_all row sleepers) x None ≡ None
awake_still row [] x none = none
awake_still row (s ∷ ss) x none = awake_still (set row s.1 None) ss x (elim (cases_eq x s.1) [
  | inl same ↦ ap (get_at (set row s.1 None)) same ∙ set_nothing row s.1
  | inr other ↦ get_or-set_other row s.1 x None None other ∙ none
])
  where
    get_at : Row → ℕ → Option ℕ
    get_at row x = get_or row x None

-- each doesn't sleep afterwards, or as before
same_or_out : (row : Row) (sleepers : Sleepers) (x : ℕ)
    → (get_or (without_all row sleepers) x None ≡ None) ⊎ (get_or (without_all row sleepers) x None ≡ get_or row x None)
same_or_out row [] x = inr refl
same_or_out row (s ∷ ss) x = elim (cases_eq x s.1) [
  | inl same ↦
      inl (awake_still (set row s.1 None) ss x (ap (λ (y : ℕ). get_or (set row s.1 None) y None) same ∙ set_nothing row s.1))
  | inr other ↦ elim (same_or_out (set row s.1 None) ss x) [
    | inl out ↦ inl out
    | inr stays ↦ inr (stays ∙ get_or-set_other row s.1 x None None other)
  ]
]

-- thread x is one of them
abbrev IsAmong : ℕ → Sleepers → Type 0
IsAmong x [] = ⊥
IsAmong x (s ∷ ss) = (s.1 ≡ x) ⊎ IsAmong x ss

-- whoever is one of them doesn't sleep afterwards
taken_out : (row : Row) (sleepers : Sleepers) (x : ℕ) → IsAmong x sleepers → get_or (without_all row sleepers) x None ≡ None
taken_out row [] x among = absurd among
taken_out row (s ∷ ss) x (inl here) =
    awake_still (set row s.1 None) ss x (ap (λ (y : ℕ). get_or (set row s.1 None) y None) (sym here) ∙ set_nothing row s.1)
taken_out row (s ∷ ss) x (inr later) = taken_out (set row s.1 None) ss x later

-- ---- who is one of them

among_inserted : (p : ℕ × ℕ) (qs : Sleepers) (x : ℕ) → IsAmong x qs → IsAmong x (insert_sleeper p qs)
among_inserted p [] x among = absurd among
among_inserted p (q ∷ qs) x among = by_order (is_earlier p q) among (among_inserted p qs x)
  where
    by_order : (t : Bool) → IsAmong x (q ∷ qs) → (IsAmong x qs → IsAmong x (insert_sleeper p qs))
        → IsAmong x (cond t (p ∷ q ∷ qs) (q ∷ insert_sleeper p qs))
    by_order true among rest = inr among
    by_order false (inl here) rest = inl here
    by_order false (inr later) rest = inr (rest later)

inserted : (p : ℕ × ℕ) (qs : Sleepers) → IsAmong p.1 (insert_sleeper p qs)
inserted p [] = inl refl
inserted p (q ∷ qs) = by_order (is_earlier p q) (inserted p qs)
  where
    by_order : (t : Bool) → IsAmong p.1 (insert_sleeper p qs) → IsAmong p.1 (cond t (p ∷ q ∷ qs) (q ∷ insert_sleeper p qs))
    by_order true rest = inl refl
    by_order false rest = inr rest

among_with : (qs : Sleepers) (o : Option (ℕ × ℕ)) (x : ℕ) → IsAmong x qs → IsAmong x (with_sleeper qs o)
among_with qs None x among = among
among_with qs (Some p) x among = among_inserted p qs x among

-- whatever a number gives is gathered
gathered_among : (f : ℕ → Option (ℕ × ℕ)) (x until : ℕ) → f x ≡ Some (until, x) → (n : ℕ) → x < n → IsAmong x (gathered f n)
gathered_among f x until gives zero below = absurd (omega (arith, below))
gathered_among f x until gives (suc n) below =
    let more : gathered f (suc n) ≡ with_sleeper (gathered f n) (f n) = ap (gathered f) (sym (add-one n)) ∙ gathered_more f n in
    subst (IsAmong x) (sym more) (elim (cases_eq x n) [
      | inl last ↦
          subst (λ (o : Option (ℕ × ℕ)). IsAmong x (with_sleeper (gathered f n) o)) (sym (ap f (sym last) ∙ gives)) (inserted (until, x) (gathered f n))
      | inr other ↦ among_with (gathered f n) (f n) x (gathered_among f x until gives n (omega (arith, below, other)))
    ])

-- once they are taken out nobody is due
pub nobody_left : (row : List (Option ℕ)) (now x until : ℕ) → SleepsUntil (without_all row (all_due row now)) x until → now < until
nobody_left row now x until asleep = elim (cases_lt now until) [
  | inl later ↦ later
  | inr due ↦ elim (same_or_out row (all_due row now) x) [
    | inl out ↦ (let never : None ≡ Some until = sym out ∙ asleep in absurd cc)
    | inr stays ↦
        let was : SleepsUntil row x until = sym stays ∙ asleep in
        let gives : due_by now x (get_or row x None) ≡ Some (until, x) = ap (due_by now x) was ∙ due_now now x until due in
        let out = taken_out row (all_due row now) x
        (gathered_among (λ y. due_by now y (get_or row y None)) x until gives (length row) (taken_within row x until was)) in
        let never : None ≡ Some until = sym out ∙ asleep in
        absurd cc
  ]
]
