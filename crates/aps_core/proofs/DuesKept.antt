-- The dues that a core keeps, after one entry more.
use Rattle.std.proofs.Common.{◌≡◌, ℕ, ◌<◌, List, [], ◌∷◌, ◌++◌, length, refl, sym, ◌∙◌, ap, subst, None, slice_index, arith}
use Rattle.aps_model.specs.declared.entry.Entry.{Entry}
use Rattle.aps_model.specs.After.{After}
use Rattle.aps_model.specs.Due.{due}
use Rattle.aps_model.specs.History.{History}
use Rattle.aps_model.specs.Limits.{most_cpus}
use Rattle.aps_model.specs.SchedulerState.{SchedulerState}
use Rattle.aps_model.specs.Step.{Step, step}
use Rattle.laws_runs.specs.Sound.{IsSound}
use Rattle.laws_runs.specs.Untouched.{IsStepOf}
use Rattle.laws_runs.proofs.Channels.{names_channels}
use Rattle.laws_runs.proofs.Counts.{counts_law}
use Rattle.laws_runs.proofs.MomentLaws.{first_is_due, flag_due}
use Rattle.laws_runs.proofs.Sound.{sound, sound_step_of}
use Rattle.aps_core.specs.Core.{StandsForRun}
use Rattle.aps_core.specs.NextDues.{AreDues, dues_after}
use Rattle.aps_core.specs.Run.{Run, end_of_run, state_of_run}
use Rattle.aps_core.specs.Turn.{HasTurnIn}
use Rattle.aps_core.proofs.Kept.{cpu_within, due_in, one_more}
use Rattle.aps_core.proofs.NextDues.{due_after, flags_after, row_after}

-- at the start everybody is due at 0
pub dues_none : (s : SchedulerState) (dues : List ℕ) → ((d : ℕ) → slice_index dues d ≡ 0) → AreDues s [] dues
dues_none s dues none = λ d inside. none d ∙ sym (first_is_due s [] d refl)

-- the processors are those of the scenario
pub cpus_now : (run : Run) (kept : History) (state : SchedulerState) → StandsForRun run kept state → length state.cpus ≡ run.setup.scenario.shape.cpus
cpus_now run kept state core = ap (λ (s : SchedulerState). length s.cpus) core.machine ∙ (counts_law run.setup.scenario run.setup.order run.entries core.keeps.setup.valid core.keeps.legal).cpus

-- the processors stay
pub cpus_after : (run : Run) (kept : History) (state : SchedulerState) (c : ℕ) (e : Entry) (left : After) → StandsForRun run kept state → end_of_run run ≡ None → HasTurnIn run c
    → step run.setup.scenario state run.entries c ≡ record { entry = e; state = left.state; reboot = left.reboot } → length left.state.cpus ≡ run.setup.scenario.shape.cpus
cpus_after run kept state c e left core goes_on turn steps =
    let more = one_more run kept state c e left core goes_on turn steps in
    subst (λ (a : After). length a.state.cpus ≡ run.setup.scenario.shape.cpus) more.leaves (counts_law run.setup.scenario run.setup.order (run.entries ++ e ∷ []) core.keeps.setup.valid more.legal).cpus

pub own_within : (run : Run) (kept : History) (state : SchedulerState) (c : ℕ) (e : Entry) (left : After) → StandsForRun run kept state → end_of_run run ≡ None → HasTurnIn run c
    → step run.setup.scenario state run.entries c ≡ record { entry = e; state = left.state; reboot = left.reboot } → c < length left.state.cpus
own_within run kept state c e left core goes_on turn steps =
    let before = cpu_within run kept state c core (due_in run kept state c core goes_on turn).exists in
    omega (arith, before, cpus_after run kept state c e left core goes_on turn steps)

pub dues_more : (run : Run) (kept : History) (state : SchedulerState) (c : ℕ) (e : Entry) (left : After) (dues : List ℕ) (own : ℕ)
    → StandsForRun run kept state → end_of_run run ≡ None → HasTurnIn run c
    → step run.setup.scenario state run.entries c ≡ record { entry = e; state = left.state; reboot = left.reboot }
    → length dues ≡ most_cpus → AreDues state run.entries dues → own ≡ due left.state (run.entries ++ e ∷ []) c → AreDues left.state (run.entries ++ e ∷ []) (dues_after dues e own)
dues_more run kept state c e left dues own core goes_on turn steps whole before own_is =
    let scenario = run.setup.scenario in
    let order = run.setup.order in
    let h = run.entries in
    let valid = core.keeps.setup.valid in
    let s = state_of_run run in
    let m = sound scenario order valid h core.keeps.legal in
    let more = one_more run kept state c e left core goes_on turn steps in
    let out : step scenario s h c ≡ record { entry = e; state = left.state; reboot = left.reboot } = ap (λ (t : SchedulerState). step scenario t h c) (sym core.machine) ∙ steps in
    let st : IsStepOf scenario s h c e left.state = subst (λ (o : Step). IsStepOf scenario s h c o.entry o.state) out (sound_step_of scenario order s h c valid m turn) in
    let after : IsSound scenario left.state (h ++ e ∷ []) = subst (λ (a : After). IsSound scenario a.state (h ++ e ∷ [])) more.leaves (sound scenario order valid (h ++ e ∷ []) more.legal) in
    let few = valid.shape.few_cpus in
    row_after s left.state h c own e dues whole (omega (arith, few, cpus_after run kept state c e left core goes_on turn steps)) st.cpu_count st.cpu st.to
    (subst (λ (t : SchedulerState). AreDues t h dues) core.machine before) own_is
    (λ d inside ne.
    due_after scenario s h c d e left.state (step scenario s h c) st ne (ap (λ (o : Step). o.entry) out) (ap (λ (o : Step). o.state) out)
    (λ f flag. flag_due left.state (h ++ e ∷ []) d f flag (after.timely.flag_stepped d f flag))
    (flags_after scenario s h c d (names_channels scenario valid) m.grounded.plain m.grounded.kept ne inside))
