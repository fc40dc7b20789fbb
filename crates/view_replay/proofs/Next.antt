-- The entry of the step that comes next.
use Rattle.std.proofs.Common.{◌≡◌, ℕ, [], ◌∷◌, ◌++◌, None, sym, subst}
use Rattle.aps_model.specs.declared.entry.Entry.{Entry}
use Rattle.aps_model.specs.Due.{due}
use Rattle.aps_model.specs.History.{IsEntry}
use Rattle.aps_model.specs.Legal.{IsLegal}
use Rattle.aps_model.specs.Valid.{IsScenario}
use Rattle.aps_core.specs.Run.{Run, end_of_run, state_of_run}
use Rattle.aps_core.specs.Turn.{HasTurnIn}
use Rattle.aps_core.proofs.Kept.{not_over}
use Rattle.aps_core.proofs.Turns.{IsDueNow, due_now}
use Rattle.view_replay.specs.Entry.{entry_of}

-- what is known of it
pub next_due : (run : Run) (c : ℕ) → IsScenario run.setup.scenario → IsLegal run.setup.scenario run.setup.order run.entries → end_of_run run ≡ None → HasTurnIn run c
    → IsDueNow run.setup.scenario run.setup.order (state_of_run run) run.entries c
next_due run c valid legal goes_on turn = due_now run.setup.scenario run.setup.order run.entries c valid legal (not_over run goes_on) turn

-- this entry, which is that of the step
pub record IsNextEntry (run : Run) (c : ℕ) (e : Entry) : Type 0 where
  pub legal : IsLegal run.setup.scenario run.setup.order (run.entries ++ e ∷ [])
  pub to : e.to ≡ due (state_of_run run) run.entries c
  pub fits : IsEntry e

pub next_entry : (run : Run) (c : ℕ) (e : Entry) → IsScenario run.setup.scenario → IsLegal run.setup.scenario run.setup.order run.entries → end_of_run run ≡ None → HasTurnIn run c → e ≡ entry_of run c → IsNextEntry run c e
next_entry run c e valid legal goes_on turn is =
    let now = next_due run c valid legal goes_on turn in
    subst (IsNextEntry run c) (sym is) (record { legal = now.legal; to = now.to; fits = now.fits })
