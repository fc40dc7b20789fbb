use lib.Chars.{codes}
use Rattle.std.proofs.Common.{◌≡◌, ℕ, List, [], ◌∷◌, ◌++◌, refl, Some, None, false, true, map, length, arith}
use Rattle.std.specs.Fmt.{digits}
use Rattle.aps_model.specs.declared.partition.PartitionRow.{PartitionRow}
use Rattle.aps_model.specs.declared.entry.Done.TheVariants.{Nothing}
use Rattle.aps_model.specs.declared.entry.End.TheVariants.{Horizon, Limit, Reboot}
use Rattle.aps_model.specs.declared.entry.Order.TheVariants.{Free, Fixed}
use Rattle.aps_model.specs.Opening.{opening}
use Rattle.aps_model.specs.Due.{HasTurn}
use Rattle.aps_model.specs.Step.{step}
use Rattle.aps_model.specs.After.{after, end_of}
use Rattle.aps_model.specs.Legal.{fixed_run}
use Rattle.aps_model.specs.Loaded.{rows_of_tick}
use Rattle.aps_model.specs.Bound.{IsWithinBudget, IsWithinCritical}
use Rattle.aps_model.specs.Journal.{journal_text}
use Rattle.aps_model.specs.Upgrade.{upgraded}
use Rattle.aps_model.specs.Seat.{own_entries}
use Rattle.worked_proofs.proofs.Line.{line, replayed, each_has_turn}
use Rattle.worked_proofs.proofs.Rows.TwoEqual.{scenario as two_equal}
use Rattle.worked_proofs.proofs.Rows.TwoProcessors.{scenario as two_processors}
use Rattle.worked_proofs.proofs.Rows.BudgetChange.{scenario as budget_change}
use Rattle.worked_proofs.proofs.Rows.CriticalThread.{scenario as critical_thread}
use Rattle.worked_proofs.proofs.Rows.SleepingWorker.{scenario as sleeping_worker}
use Rattle.worked_proofs.proofs.Rows.Rebooted.{scenario as rebooted}

-- ---- ends

limited : end_of two_equal 7 (fixed_run two_equal 7) ≡ Some Limit
unfolding after
limited = refl

limited_length : length (fixed_run two_equal 7) ≡ 7
limited_length = refl

-- the reboot comes before the limit that it reaches
reboot_first : end_of rebooted 3 (fixed_run rebooted 3) ≡ Some (Reboot 1)
unfolding after
reboot_first = refl

open_still : end_of two_equal 1000 (fixed_run two_equal 7) ≡ None
unfolding after
open_still = refl

-- ---- free order: processor 1 may begin, which it may not in fixed order

second_begins : (step two_processors (opening two_processors) [] 1).entry ≡ line 1 0 0 None None false Nothing (Some 0) None None
second_begins = refl

second_has_turn : HasTurn Free (opening two_processors) [] 1
second_has_turn = record {
  exists = omega arith;
  least = λ d below. omega arith;
  lowest = λ fixed. absurd (other fixed);
}
  where
    other : Free ≡ Fixed → ⊥
    other e = cc

second_has_to_wait : HasTurn Fixed (opening two_processors) [] 1 → ⊥
second_has_to_wait turn = omega (arith, turn.lowest refl 0 (omega arith))

-- a whole run in free order in which processor 1 begins

abbrev turns : List ℕ
turns = 1 ∷ 0 ∷ 0 ∷ 1 ∷ 0 ∷ 1 ∷ 0 ∷ 1 ∷ 1 ∷ 0 ∷ 0 ∷ 1 ∷ 0 ∷ 0 ∷ 1 ∷ 0 ∷ 1 ∷ 1 ∷ 0 ∷ 1 ∷ 0 ∷ 0 ∷ 1 ∷ []

turns_taken : each_has_turn two_processors turns ≡ true
turns_taken = refl

entries_of_turns : replayed two_processors turns ≡
    line 1 0 0 None None false Nothing (Some 0) None None
    ∷ line 0 0 0 None None false Nothing (Some 1) None None
    ∷ line 0 0 1000000 (Some 1) (Some 0) false Nothing (Some 1) None None
    ∷ line 1 0 1000000 (Some 0) (Some 0) false Nothing (Some 0) None None
    ∷ line 0 1000000 2000000 (Some 1) (Some 0) false Nothing (Some 1) None None
    ∷ line 1 1000000 2000000 (Some 0) (Some 0) false Nothing (Some 0) None None
    ∷ line 0 2000000 3000000 (Some 1) (Some 0) false Nothing (Some 1) None None
    ∷ line 1 2000000 3000000 (Some 0) (Some 0) false Nothing (Some 0) None None
    ∷ line 1 3000000 4000000 (Some 0) (Some 0) false Nothing (Some 0) None None
    ∷ line 0 3000000 4000000 (Some 1) (Some 0) false Nothing (Some 1) None None
    ∷ line 0 4000000 5000000 (Some 1) (Some 0) false Nothing (Some 1) None None
    ∷ line 1 4000000 5000000 (Some 0) (Some 0) false Nothing (Some 2) None (Some 0)
    ∷ line 0 5000000 5000000 (Some 1) (Some 0) false Nothing (Some 3) None None
    ∷ line 0 5000000 6000000 (Some 3) (Some 1) false Nothing (Some 3) None None
    ∷ line 1 5000000 6000000 (Some 2) (Some 1) false Nothing (Some 2) None None
    ∷ line 0 6000000 7000000 (Some 3) (Some 1) false Nothing (Some 3) None None
    ∷ line 1 6000000 7000000 (Some 2) (Some 1) false Nothing (Some 2) None None
    ∷ line 1 7000000 8000000 (Some 2) (Some 1) false Nothing (Some 2) None None
    ∷ line 0 7000000 8000000 (Some 3) (Some 1) false Nothing (Some 3) None None
    ∷ line 1 8000000 9000000 (Some 2) (Some 1) false Nothing (Some 2) None None
    ∷ line 0 8000000 9000000 (Some 3) (Some 1) false Nothing (Some 3) None None
    ∷ line 0 9000000 10000000 (Some 3) (Some 1) false Nothing None None None
    ∷ line 1 9000000 10000000 (Some 2) (Some 1) false Nothing None None None
    ∷ []
entries_of_turns = refl

over_after_turns : end_of two_processors 1000 (replayed two_processors turns) ≡ Some Horizon
unfolding after
over_after_turns = refl

-- ---- the rows of a tick are those that its first entry leaves

abbrev budgets : List PartitionRow → List ℕ
budgets rows = map (λ (row : PartitionRow). row.budget) rows

rows_before : budgets (rows_of_tick budget_change (fixed_run budget_change 1000) 29) ≡ 50 ∷ 50 ∷ []
unfolding after
rows_before = refl

rows_from : budgets (rows_of_tick budget_change (fixed_run budget_change 1000) 30) ≡ 70 ∷ 30 ∷ []
unfolding after
rows_from = refl

-- ---- the journal, whole

sleeping_journal : journal_text (fixed_run sleeping_worker 1000) ≡
    codes "0 0 0 - - - - 1 - -\n"
    ++ codes "0 0 400000 1 1 - run 0 1 -\n"
    ++ codes "0 400000 1000000 0 0 - - 1 - -\n"
    ++ codes "0 1000000 1001000 1 1 - repeat 1 - -\n"
    ++ codes "0 1001000 1401000 1 1 - run 0 1 -\n"
    ++ codes "0 1401000 2000000 0 0 - - 0 1 -\n"
    ++ codes "0 2000000 3000000 0 0 - - - - -\n"
unfolding digits
sleeping_journal = refl

-- ---- an upgrade

upgraded_budgets : budgets (upgraded two_equal).partitions ≡ 500 ∷ 500 ∷ []
upgraded_budgets = refl

-- ---- a seat's own entries

own_of_second : length (own_entries 1 1 (fixed_run two_processors 1000)) ≡ 11
own_of_second = refl

-- ---- the bounds, in the first window of the critical thread, in which they are met with equality

within_budget : IsWithinBudget critical_thread.shape critical_thread.partitions (fixed_run critical_thread 1000) 0 1
within_budget = record { above = omega arith; below = omega arith }

within_critical : IsWithinCritical critical_thread.shape critical_thread.partitions (fixed_run critical_thread 1000) 0 1
within_critical = record { above = omega arith; none = λ none. absurd (omega (arith, none)) }
