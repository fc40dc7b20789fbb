-- What a run that has ended makes due.
use Rattle.std.proofs.Common.{◌≡◌, ◌∙◌, [], Some, IsSome, ap, subst, sym}
use Rattle.aps_model.specs.declared.entry.Order.{Order}
use Rattle.aps_model.specs.declared.entry.Order.TheVariants.{Fixed}
use Rattle.aps_model.specs.After.{end_of}
use Rattle.aps_model.specs.Legal.{IsLegal, fixed_run}
use Rattle.aps_model.specs.Valid.{IsScenario}
use Rattle.laws_runs.specs.Runs.{EndsNoSooner}
use Rattle.laws_runs.proofs.FixedRun.{run_is_one}
use Rattle.aps_core.specs.Run.{Run, Setup, end_of_run}
use Rattle.view_words.specs.declared.asked.Report.{Report}
use Rattle.view_top.specs.Due.{Due, IsDueOfSetup, IsReported, status_by}

-- a run in fixed order that has ended is the one that its setup makes
pub ended_run : (setup : Setup) (after : Run) → after.setup ≡ setup → setup.order ≡ Fixed → IsScenario after.setup.scenario
    → IsLegal after.setup.scenario after.setup.order after.entries → EndsNoSooner after.setup.scenario after.setup.limit after.entries → IsSome (end_of_run after)
    → after ≡ record { setup = setup; entries = fixed_run setup.scenario setup.limit }
ended_run setup after same fixed valid legal no_sooner ended =
    let order : after.setup.order ≡ Fixed = ap (λ (s : Setup). s.order) same ∙ fixed in
    let in_fixed : IsLegal after.setup.scenario Fixed after.entries = subst (λ (o : Order). IsLegal after.setup.scenario o after.entries) order legal in
    let entries : after.entries ≡ fixed_run after.setup.scenario after.setup.limit =
    run_is_one after.setup.scenario after.setup.limit after.entries valid (record { legal = in_fixed; ended = ended; no_sooner = no_sooner }) in
    ap (λ h. record { setup = after.setup; entries = h }) entries ∙ ap (λ (s : Setup). record { setup = s; entries = fixed_run s.scenario s.limit }) same

-- so its report is due
pub run_due : (report : Report) (setup : Setup) (after : Run) (due : Due) → after ≡ record { setup = setup; entries = fixed_run setup.scenario setup.limit }
    → IsReported report after.setup.scenario after.entries (status_by (end_of_run after)) due → IsDueOfSetup report setup due
run_due report setup after due is told =
    subst (λ (r : Run). IsReported report r.setup.scenario r.entries (status_by (end_of_run r)) due) is told
