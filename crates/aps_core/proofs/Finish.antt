-- The run to its end.
use Rattle.std.proofs.Common.{◌≡◌, ℕ, ◌-◌, ◌<◌, [], ◌∷◌, ◌++◌, length, sym, ◌∙◌, ap, append_assoc, Some, None, arith}
use Rattle.std.specs.Option.{is_some}
use Rattle.aps_model.specs.declared.entry.End.{End}
use Rattle.aps_model.specs.declared.entry.Entry.{Entry}
use Rattle.aps_model.specs.After.{after}
use Rattle.aps_model.specs.Due.{first_due}
use Rattle.aps_model.specs.Legal.{fixed_run, fixed_steps}
use Rattle.aps_model.specs.Step.{step}
use Rattle.aps_model.proofs.AfterLaws.{after_none}
use Rattle.laws_runs.specs.Runs.{finished}
use Rattle.laws_runs.proofs.FixedRun.{finish_steps, finish_stops}
use Rattle.aps_core.specs.Core.{IsUnderWay}
use Rattle.aps_core.specs.Run.{IsLater, Run, end_of_run, finished_run, state_of_run}
use Rattle.aps_core.specs.Turn.{with_entry}

-- one step of the lowest processor that has the turn
pub finish_more : (run next : Run) (c : ℕ) (e : Entry) → IsUnderWay run → length run.entries < run.setup.limit → end_of_run run ≡ None → c ≡ first_due (state_of_run run) run.entries (state_of_run run).shape.cpus
    → e ≡ (step run.setup.scenario (state_of_run run) run.entries c).entry → next ≡ with_entry run e → finished_run next ≡ finished_run run
finish_more run next c e r room goes_on lowest is same =
    let scenario = run.setup.scenario in
    let first : e ≡ (step scenario (state_of_run run) run.entries (first_due (state_of_run run) run.entries (state_of_run run).shape.cpus)).entry =
    is ∙ ap (λ d. (step scenario (state_of_run run) run.entries d).entry) lowest in
    ap finished_run same
    ∙ ap (λ x. record run { entries = finished scenario run.setup.limit (run.entries ++ x ∷ []) }) first
    ∙ ap (λ es. record run { entries = es }) (sym (finish_steps scenario run.setup.order run.setup.limit run.entries r.setup.valid r.legal room goes_on))

-- and no further once it has ended
pub finish_done : (run : Run) (end : End) → end_of_run run ≡ Some end → finished_run run ≡ run
finish_done run end ended = ap (λ es. record run { entries = es }) (finish_stops run.setup.scenario run.setup.limit run.entries (ap is_some ended))

-- from no entries it is the fixed run
pub finish_fixed : (run : Run) → run.entries ≡ [] → (finished_run run).entries ≡ fixed_run run.setup.scenario run.setup.limit
finish_fixed run empty =
    ap (finished run.setup.scenario run.setup.limit) empty
    ∙ ap (λ n. fixed_steps run.setup.scenario n (after run.setup.scenario []) []) whole
    ∙ ap (λ a. fixed_steps run.setup.scenario run.setup.limit a []) (after_none run.setup.scenario)
  where
    whole : run.setup.limit - 0 ≡ run.setup.limit
    whole = omega arith

-- a run further on, with one entry more
pub later_more : (run mid next : Run) (e : Entry) → IsLater run mid → next ≡ with_entry mid e → IsLater run next
later_more run mid next e later same = (
  later.0 ++ e ∷ [],
  same ∙ ap (λ m. with_entry m e) later.1 ∙ ap (λ es. record run { entries = es }) (append_assoc run.entries later.0 (e ∷ [])),
)
