-- The sleepers that wake at a moment, taken out of the timer and woken one after the other.
use Rattle.std.proofs.Common.{◌≡◌, length-set, set, ℕ, ◌+◌, ◌<◌, ◌≤◌, List, [], ◌∷◌, length, take, refl, ◌∙◌, ap, Option, Some, None, Bool, true, false, cond, get_or, arith}
use Rattle.std.specs.List.{cons_option, filter_map, fold, range_with_len}
use Rattle.std.proofs.lemmas.List.{take_more}
use Rattle.std.proofs.lemmas.List.FromFn.{length-range_with_len}
use Rattle.std.proofs.lemmas.List.Sums.{fold-append}
use Rattle.aps_model.specs.Operation.{go_on}
use Rattle.aps_model.specs.Scenario.{Scenario}
use Rattle.aps_model.specs.SchedulerState.{SchedulerState}
use Rattle.aps_model.specs.TickWork.{insert_sleeper, is_earlier, wake_all, waking}
use Rattle.aps_timer.specs.Sleepers.{all_due, due_by, without_all}
use Rattle.aps_core.specs.Sleepers.{numbers_of}

abbrev Sleepers : Type 0
Sleepers = List (ℕ × ℕ)

-- ---- how many

insert_length : (sleeper : ℕ × ℕ) (sleepers : Sleepers) → length (insert_sleeper sleeper sleepers) ≡ length sleepers + 1
insert_length sleeper [] = refl
insert_length sleeper (first ∷ rest) = by_order (is_earlier sleeper first) (insert_length sleeper rest)
  where
    by_order : (t : Bool) → length (insert_sleeper sleeper rest) ≡ length rest + 1 → length (cond t (sleeper ∷ first ∷ rest) (first ∷ insert_sleeper sleeper rest)) ≡ length (first ∷ rest) + 1
    by_order true more = omega arith
    by_order false more = omega (arith, more)

inserted_length : (sleepers added : Sleepers) → length (fold (λ all sleeper. insert_sleeper sleeper all) sleepers added) ≡ length sleepers + length added
inserted_length sleepers [] = omega arith
inserted_length sleepers (z ∷ zs) = omega (arith, inserted_length (insert_sleeper z sleepers) zs, insert_length z sleepers)

kept_length : (f : ℕ → Option (ℕ × ℕ)) (xs : List ℕ) → length (filter_map f xs) ≤ length xs
kept_length f [] = omega arith
kept_length f (x ∷ xs) = by_item (f x) (kept_length f xs)
  where
    by_item : (o : Option (ℕ × ℕ)) → length (filter_map f xs) ≤ length xs → length (cons_option o (filter_map f xs)) ≤ length (x ∷ xs)
    by_item None few = omega (arith, few)
    by_item (Some z) few = omega (arith, few)

-- no more are due than there are threads
pub few_due : (row : List (Option ℕ)) (now : ℕ) → length (all_due row now) ≤ length row
few_due row now =
    let f : ℕ → Option (ℕ × ℕ) = λ x. due_by now x (get_or row x None) in
    let xs = range_with_len 0 (length row) in
    omega (arith, inserted_length [] (filter_map f xs), kept_length f xs, length-range_with_len 0 (length row))

-- the row has as many places without them
pub without_count : (row : List (Option ℕ)) (sleepers : List (ℕ × ℕ)) → length (without_all row sleepers) ≡ length row
without_count row [] = refl
without_count row (s ∷ ss) = without_count (set row s.1 None) ss ∙ length-set row s.1 None

-- ---- the wakes

abbrev pub all_woken : Scenario → ℕ → SchedulerState → List ℕ → SchedulerState
all_woken scenario now s woken = fold (λ state x. go_on scenario state x now) s woken

pub woken_more : (scenario : Scenario) (now : ℕ) (s : SchedulerState) (woken : List ℕ) (i : ℕ) → i < length woken
    → all_woken scenario now s (take (i + 1) woken) ≡ go_on scenario (all_woken scenario now s (take i woken)) (get_or woken i 0) now
woken_more scenario now s woken i lt =
    ap (all_woken scenario now s) (take_more woken i 0 lt)
    ∙ fold-append (λ state x. go_on scenario state x now) s (take i woken) (get_or woken i 0 ∷ [])

by_numbers : (scenario : Scenario) (now : ℕ) (sleepers : Sleepers) (s : SchedulerState)
    → all_woken scenario now s (numbers_of sleepers) ≡ fold (λ state (sleeper : ℕ × ℕ). go_on scenario state sleeper.1 now) s sleepers
by_numbers scenario now [] s = refl
by_numbers scenario now (z ∷ zs) s = by_numbers scenario now zs (go_on scenario s z.1 now)

-- they are the wakes of the tick
pub all_wakes : (scenario : Scenario) (now : ℕ) (s : SchedulerState) (woken : List ℕ) → woken ≡ numbers_of (waking s now) → all_woken scenario now s woken ≡ wake_all scenario now s
all_wakes scenario now s woken are = ap (all_woken scenario now s) are ∙ by_numbers scenario now (waking s now) s
