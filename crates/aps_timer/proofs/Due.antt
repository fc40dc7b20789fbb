-- The sleepers of a row whose moment has come: the first is taken out, one more falls asleep.
use Rattle.std.proofs.Common.{◌≡◌, ◌≢◌, ◌⊎◌, inl, inr, ℕ, ◌<◌, ◌≤◌, Bool, true, false, cond, nat_le, List, [], ◌∷◌, length, set, get_or, refl, sym, ◌∙◌, ap, subst, Option, Some, None, arith, length-set, get_or-set_same, get_or-set_other}
use Rattle.std.proofs.lemmas.Bool.{cases_eq}
use Rattle.std.proofs.lemmas.Bool.Decides.{nat_tests}
use Rattle.aps_model.specs.TickWork.{is_earlier}
use Rattle.aps_timer.specs.Sleepers.{IsFirstDue, SleepsUntil, all_due, due_by}
use Rattle.aps_timer.proofs.Places.{taken_within}
use Rattle.aps_timer.proofs.Turns.{gathered, gathered_first, gathered_none, gathered_same}

abbrev Row : Type 0
Row = List (Option ℕ)

-- what thread x of the row gives
abbrev due_in : Row → ℕ → ℕ → Option (ℕ × ℕ)
due_in row now x = due_by now x (get_or row x None)

pub due_now : (now x until : ℕ) → until ≤ now → due_by now x (Some until) ≡ Some (until, x)
due_now now x until due = grind (arith, nat_tests)

pub due_later : (now x until : ℕ) → now < until → due_by now x (Some until) ≡ None
due_later now x until later = grind (arith, nat_tests)

-- who is due sleeps
due_asleep : (now x : ℕ) (o : Option ℕ) (q : ℕ × ℕ) → due_by now x o ≡ Some q → (until : ℕ) × (o ≡ Some until) × (q ≡ (until, x))
due_asleep now x None q is = absurd cc
due_asleep now x (Some until) q is = (until, refl, by (nat_le until now) is)
  where
    by : (t : Bool) → cond t (Some (until, x)) None ≡ Some q → q ≡ (until, x)
    by true e = cc
    by false e = absurd cc

-- the first of those who are due is taken out, and the others are due still
pub first_out : (row : List (Option ℕ)) (now x : ℕ) → (is : IsFirstDue row now x)
    → all_due row now ≡ (is.until, x) ∷ all_due (set row x None) now
first_out row now x is =
    let within : x < length row = taken_within row x is.until is.asleep in
    let same_length = length-set row x None in
    gathered_first (due_in row now) (due_in (set row x None) now) (is.until, x) x (record {
      first = ap (due_by now x) is.asleep ∙ due_now now x is.until is.due;
      none = ap (due_by now x) (get_or-set_same row x None None within);
      same = λ y other. ap (due_by now y) (sym (get_or-set_other row x y None None other));
      later = λ y q due. later within y q due (cases_eq y x);
    }) (length row) within
    ∙ ap (λ n. (is.until, x) ∷ gathered (due_in (set row x None) now) n) (sym same_length)
  where
    later : x < length row → (y : ℕ) (q : ℕ × ℕ) → due_in (set row x None) now y ≡ Some q → (y ≡ x) ⊎ (y ≢ x)
        → is_earlier (is.until, x) q ≡ true
    later within y q due (inl e) =
        let none : due_in (set row x None) now y ≡ None =
        ap (due_in (set row x None) now) e ∙ ap (due_by now x) (get_or-set_same row x None None within) in
        let never : None ≡ Some q = sym none ∙ due in
        absurd cc
    later within y q due (inr other) =
        let still : due_in row now y ≡ Some q = ap (due_by now y) (sym (get_or-set_other row x y None None other)) ∙ due in
        let asleep = due_asleep now y (get_or row y None) q still in
        subst (λ p. is_earlier (is.until, x) p ≡ true) (sym asleep.2) (is.first y asleep.0 other asleep.1)

-- nobody is due
pub none_due : (row : List (Option ℕ)) (now : ℕ) → ((x until : ℕ) → SleepsUntil row x until → now < until) → all_due row now ≡ []
none_due row now later = gathered_none (due_in row now) (length row) (λ x. by x (get_or row x None) refl)
  where
    by : (x : ℕ) (o : Option ℕ) → get_or row x None ≡ o → due_by now x (get_or row x None) ≡ None
    by x None is = ap (due_by now x) is
    by x (Some until) is = ap (due_by now x) is ∙ due_later now x until (later x until is)

-- whoever falls asleep until a later moment isn't due
pub later_asleep : (row : List (Option ℕ)) (x until now : ℕ) → x < length row → get_or row x None ≡ None → now < until
    → all_due (set row x (Some until)) now ≡ all_due row now
later_asleep row x until now within awake later =
    ap (gathered (due_in (set row x (Some until)) now)) (length-set row x (Some until))
    ∙ gathered_same (due_in (set row x (Some until)) now) (due_in row now) (length row) (λ y. same y (cases_eq y x))
  where
    same : (y : ℕ) → (y ≡ x) ⊎ (y ≢ x) → due_in (set row x (Some until)) now y ≡ due_in row now y
    same y (inl e) =
        ap (due_in (set row x (Some until)) now) e
        ∙ ap (due_by now x) (get_or-set_same row x (Some until) None within)
        ∙ due_later now x until later
        ∙ sym (ap (due_by now x) awake)
        ∙ ap (due_in row now) (sym e)
    same y (inr other) = ap (due_by now y) (get_or-set_other row x y (Some until) None other)
