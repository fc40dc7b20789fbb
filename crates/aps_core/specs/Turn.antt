use Rattle.std.specs.Prelude.{◌≡◌, ℕ, ◌++◌, [], ◌∷◌, Some, None, ⊤}
use Rattle.aps_model.specs.declared.entry.Entry.{Entry}
use Rattle.aps_model.specs.declared.entry.Order.TheVariants.{Fixed}
use Rattle.aps_model.specs.Due.{HasTurn, due}
use Rattle.aps_model.specs.Step.{step}
use Rattle.laws_runs.specs.Starving.{HasEnough}
use Rattle.aps_core.specs.declared.turn.Turn.{Turn}
use Rattle.aps_core.specs.declared.turn.Turn.TheVariants.{Ended, NotYet, Took}
use Rattle.aps_core.specs.Run.{Run, end_of_run, state_of_run}

-- the processor has the turn in the run's order
abbrev pub HasTurnIn : Run → ℕ → Type 0
HasTurnIn run c = HasTurn run.setup.order (state_of_run run) run.entries c

-- the run goes on, and the processor hasn't the turn; the first is the lowest one that has it, and is due then
pub record IsNotYet (run : Run) (c first moment : ℕ) : Type 0 where
  pub goes_on : end_of_run run ≡ None
  pub waits : HasTurnIn run c → ⊥
  pub lowest : HasTurn Fixed (state_of_run run) run.entries first
  pub at_due : moment ≡ due (state_of_run run) run.entries first

-- the run goes on, the processor has the turn, and this is the entry of its step
pub record IsTurnTaken (run : Run) (c : ℕ) (e : Entry) : Type 0 where
  pub goes_on : end_of_run run ≡ None
  pub turn : HasTurnIn run c
  pub stepped : e ≡ (step run.setup.scenario (state_of_run run) run.entries c).entry

-- what the processor's turn is: of these cases one holds, and fixes the answer
abbrev pub IsTurn : Run → ℕ → Turn → Type 0
IsTurn run c (Ended end) = end_of_run run ≡ Some end
IsTurn run c (NotYet first moment) = IsNotYet run c first moment
IsTurn run c (Took e) = IsTurnTaken run c e

-- the run with one entry more
abbrev pub with_entry : Run → Entry → Run
with_entry run e = record run { entries = run.entries ++ e ∷ [] }

-- the run after the turn
abbrev pub after_turn : Run → Turn → Run
after_turn run (Ended end) = run
after_turn run (NotYet first moment) = run
after_turn run (Took e) = with_entry run e

-- the entry that was taken, if one was, is the processor's
abbrev pub IsOwnEntry : ℕ → Turn → Type 0
IsOwnEntry c (Ended end) = ⊤
IsOwnEntry c (NotYet first moment) = ⊤
IsOwnEntry c (Took e) = e.cpu ≡ c

-- where there is no limit, and as many threads of each partition with a budget, by inheritance, are ready or run as there are
-- processors, no partition is starved at the entry that was taken; the pick moves threads between ready and running alone
abbrev pub IsFed : Run → Turn → Type 0
IsFed run (Ended end) = ⊤
IsFed run (NotYet first moment) = ⊤
IsFed run (Took e) = HasEnough (state_of_run (with_entry run e)) → e.starved ≡ None
