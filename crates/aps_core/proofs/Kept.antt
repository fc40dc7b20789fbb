-- What a core keeps from step to step.
use Rattle.std.proofs.Common.{◌≡◌, ◌≢◌, ◌⊎◌, ℕ, zero, suc, ◌+◌, ◌<◌, ◌≤◌, List, [], ◌∷◌, ◌++◌, length, refl, sym, ◌∙◌, ap, subst, cond, true, false, nat_eq, Option, Some, None, arith, inl, inr}
use Rattle.std.specs.List.{list_all, range_with_len}
use Rattle.std.proofs.lemmas.List.{length-append}
use Rattle.std.proofs.lemmas.Bool.Decides.{nat_tests}
use Rattle.aps_model.specs.declared.entry.End.{End}
use Rattle.aps_model.specs.declared.entry.End.TheVariants.{Limit}
use Rattle.aps_model.specs.declared.entry.Entry.{Entry}
use Rattle.aps_model.specs.declared.entry.Order.{Order}
use Rattle.aps_model.specs.After.{After, after, at_start, end_of, left_by, or_limit, over, over_by, stands_at, state_after}
use Rattle.aps_model.specs.declared.entry.Order.TheVariants.{Fixed, Free}
use Rattle.aps_model.specs.Due.{HasTurn, due, first_due, last_to}
use Rattle.aps_model.specs.History.{History, IsEntry}
use Rattle.aps_model.specs.Legal.{IsLegal}
use Rattle.aps_model.specs.Opening.{opening}
use Rattle.aps_model.specs.Recorded.{recorded, recorded_from}
use Rattle.aps_model.specs.Scenario.{Scenario}
use Rattle.aps_model.specs.SchedulerState.{SchedulerState}
use Rattle.aps_model.specs.Shape.{horizon}
use Rattle.aps_model.specs.Step.{Step, step}
use Rattle.aps_model.specs.Valid.{IsScenario}
use Rattle.aps_model.proofs.AfterLaws.{IsLegal-append, after-append, after_none, legal_none}
use Rattle.laws_runs.proofs.ChangeLaws.{only_grow, room}
use Rattle.laws_runs.proofs.Counts.{counts_law}
use Rattle.laws_runs.proofs.EnoughThreads.{enough_law}
use Rattle.laws_runs.proofs.ReplyLaws.{few_answered}
use Rattle.laws_runs.proofs.RowLaws.{in_order, in_range, rows_stay}
use Rattle.laws_runs.proofs.Turns.{any_turn, one_turn}
use Rattle.laws_runs.proofs.WaitFacts.{test_eq, test_ne}
use Rattle.laws_runs.specs.Runs.{EndsNoSooner}
use Rattle.aps_core.specs.Core.{StandsForRun, IsSetup, IsUnderWay}
use Rattle.aps_core.specs.CanRecord.{CanRecord, HasTold}
use Rattle.aps_core.specs.Kept.{KeepsFrame}
use Rattle.aps_core.specs.Run.{Run, Setup, end_of_run, history_of_run, rooms_of, state_of_run, with_last}
use Rattle.aps_core.specs.declared.turn.Turn.TheVariants.{Took}
use Rattle.aps_core.specs.Turn.{HasTurnIn, IsFed, with_entry}
use Rattle.aps_core.specs.Ready.{IsReady}
use Rattle.aps_core.proofs.Ready.{ready}
use Rattle.aps_core.proofs.Turns.{IsDueNow, due_now}
use Rattle.laws_runs.proofs.FixedRun.{nothing_before}

-- ---- the end

goes_on_over : (o : Option End) (limit count : ℕ) → or_limit o limit count ≡ None → (o ≡ None) × (count ≢ limit)
goes_on_over (Some end) limit count e = absurd cc
goes_on_over None limit count e = (refl, λ same. absurd (at_limit (sym (ap (λ b. cond b (Some Limit) None) (test_eq count limit same)) ∙ e)))
  where
    at_limit : Some Limit ≡ None → ⊥
    at_limit f = cc

-- a run that goes on isn't over, and is below its limit
pub not_over : (run : Run) → end_of_run run ≡ None → over (after run.setup.scenario run.entries) run.entries ≡ None
not_over run e = (goes_on_over (over (after run.setup.scenario run.entries) run.entries) run.setup.limit (length run.entries) e).0

pub below_limit : (run : Run) → IsUnderWay run → end_of_run run ≡ None → length run.entries < run.setup.limit
below_limit run r e =
    let ne = (goes_on_over (over (after run.setup.scenario run.entries) run.entries) run.setup.limit (length run.entries) e).1 in
    omega (arith, r.fits, ne)

-- ---- the start

not_there : (moment n : ℕ) → 1 ≤ n → list_all (λ c. stands_at moment (last_to [] c)) (range_with_len 0 n) ≡ false
not_there moment zero some = absurd (omega (arith, some))
not_there moment (suc n) some = refl

starts : (setup : Setup) → IsSetup setup → or_limit (over (at_start setup.scenario) []) setup.limit 0 ≡ None
starts setup s =
    ap (λ b. or_limit (over_by None b) setup.limit 0) (not_there (horizon setup.scenario.shape) setup.scenario.shape.cpus s.valid.shape.some_cpu)
    ∙ ap (λ b. cond b (Some Limit) None) (test_ne 0 setup.limit (λ e. omega (arith, e, s.some)))

pub begun_core : (setup : Setup) (kept : History) (state : SchedulerState) → IsSetup setup
    → kept ≡ record { scenario = setup.scenario; entries = []; replies = []; changes = []; rows = setup.scenario.partitions; shape = setup.scenario.shape; end = None; room = rooms_of setup }
    → state ≡ opening setup.scenario
    → StandsForRun (record { setup = setup; entries = [] }) kept state
begun_core setup kept state s kept_is state_is =
    let run : Run = record { setup = setup; entries = [] } in
    let start = after_none setup.scenario in
    let ended : or_limit (over (at_start setup.scenario) []) setup.limit 0 ≡ None = starts setup s in
    record {
      keeps = record {
        setup = s;
        legal = legal_none setup.scenario setup.order;
        no_sooner = λ before later e same. absurd (nothing_before before later e same);
        fits = omega arith;
      };
      recorded =
          kept_is
          ∙ ap (λ (o : Option End). record { scenario = setup.scenario; entries = []; replies = []; changes = []; rows = setup.scenario.partitions; shape = setup.scenario.shape; end = o; room = rooms_of setup }) (sym ended)
          ∙ ap (recorded_from setup.scenario setup.limit (rooms_of setup) []) (sym start);
      machine = state_is ∙ sym (ap (λ (a : After). a.state) start);
    }

-- ---- what the core's parts have at a step

pub cpu_exists : (run : Run) (kept : History) (state : SchedulerState) (c : ℕ) → StandsForRun run kept state → c < run.setup.scenario.shape.cpus → c < length state.cpus
cpu_exists run kept state c core lt =
    omega (arith, lt, ap (λ (t : SchedulerState). length t.cpus) core.machine, (counts_law run.setup.scenario run.setup.order run.entries core.keeps.setup.valid core.keeps.legal).cpus)

pub due_in : (run : Run) (kept : History) (state : SchedulerState) (c : ℕ) → StandsForRun run kept state → end_of_run run ≡ None → HasTurnIn run c
    → IsDueNow run.setup.scenario run.setup.order state run.entries c
due_in run kept state c core goes_on turn =
    subst (λ s. IsDueNow run.setup.scenario run.setup.order s run.entries c) (sym core.machine)
    (due_now run.setup.scenario run.setup.order run.entries c core.keeps.setup.valid core.keeps.legal (not_over run goes_on) turn)

-- and of that the step rests on
pub ready_in : (run : Run) (kept : History) (state : SchedulerState) (c : ℕ) → StandsForRun run kept state → end_of_run run ≡ None → HasTurnIn run c
    → IsReady run.setup.scenario state run.entries c
ready_in run kept state c core goes_on turn =
    subst (λ s. IsReady run.setup.scenario s run.entries c) (sym core.machine)
    (ready run.setup.scenario run.setup.order run.entries c core.keeps.setup.valid core.keeps.legal (omega (arith, core.keeps.fits, core.keeps.setup.few)) (not_over run goes_on) turn)

-- ---- one entry more

-- what stands before some entry of a list with one more stands before that one, or before an entry of the list
last_or_before : (h before later : List Entry) (e x : Entry) → h ++ e ∷ [] ≡ before ++ x ∷ later → (before ≡ h) ⊎ ((rest : List Entry) × (h ≡ before ++ x ∷ rest))
last_or_before [] [] later e x same = inl refl
last_or_before [] (b ∷ before) later e x same = absurd (nothing_before before later x (tail_of same))
  where
    tail_of : e ∷ [] ≡ b ∷ (before ++ x ∷ later) → [] ≡ before ++ x ∷ later
    tail_of f = cc
last_or_before (y ∷ ys) [] later e x same = inr (ys, ap (λ (z : Entry). z ∷ ys) (head_of same))
  where
    head_of : y ∷ (ys ++ e ∷ []) ≡ x ∷ later → y ≡ x
    head_of f = cc
last_or_before (y ∷ ys) (b ∷ before) later e x same = more (last_or_before ys before later e x (tail_of same))
  where
    head_of : y ∷ (ys ++ e ∷ []) ≡ b ∷ (before ++ x ∷ later) → y ≡ b
    head_of f = cc

    tail_of : y ∷ (ys ++ e ∷ []) ≡ b ∷ (before ++ x ∷ later) → ys ++ e ∷ [] ≡ before ++ x ∷ later
    tail_of f = cc

    more : (before ≡ ys) ⊎ ((rest : List Entry) × (ys ≡ before ++ x ∷ rest)) → (b ∷ before ≡ y ∷ ys) ⊎ ((rest : List Entry) × (y ∷ ys ≡ b ∷ (before ++ x ∷ rest)))
    more (inl here) = inl (ap (λ z. z ∷ before) (sym (head_of same)) ∙ ap (λ zs. y ∷ zs) here)
    more (inr there) = inr (there.0, ap (λ z. z ∷ ys) (head_of same) ∙ ap (λ zs. b ∷ zs) there.1)

no_sooner_more : (run : Run) (e : Entry) → EndsNoSooner run.setup.scenario run.setup.limit run.entries → end_of_run run ≡ None → EndsNoSooner run.setup.scenario run.setup.limit (run.entries ++ e ∷ [])
no_sooner_more run e first goes_on before later x same =
    elim (last_or_before run.entries before later e x same) [
      | inl here ↦ subst (λ g. end_of run.setup.scenario run.setup.limit g ≡ None) (sym here) goes_on
      | inr there ↦ first before there.0 x there.1
    ]

pub length_more : (h : List Entry) (e : Entry) → length (h ++ e ∷ []) ≡ length h + 1
length_more h e = length-append h (e ∷ [])

-- the entry of the step, what it leaves, and the history with both
pub record IsMore (run : Run) (kept : History) (state : SchedulerState) (c : ℕ) (e : Entry) (kept' : History) (left : After) : Type 0 where
  pub steps : step run.setup.scenario state run.entries c ≡ record { entry = e; state = left.state; reboot = left.reboot }
  pub added : kept' ≡ with_last kept run.setup.limit left.reboot left.state e

pub own_entry : (run : Run) (kept : History) (state : SchedulerState) (c : ℕ) (e : Entry) (left : After) → StandsForRun run kept state → end_of_run run ≡ None → HasTurnIn run c
    → step run.setup.scenario state run.entries c ≡ record { entry = e; state = left.state; reboot = left.reboot } → e.cpu ≡ c
own_entry run kept state c e left core goes_on turn steps =
    sym (ap (λ (out : Step). out.entry.cpu) steps) ∙ (due_in run kept state c core goes_on turn).own

-- the history with it is legal, and leaves what the step left
pub record IsOneMore (run : Run) (e : Entry) (left : After) : Type 0 where
  pub legal : IsLegal run.setup.scenario run.setup.order (run.entries ++ e ∷ [])
  pub leaves : after run.setup.scenario (run.entries ++ e ∷ []) ≡ left

pub one_more : (run : Run) (kept : History) (state : SchedulerState) (c : ℕ) (e : Entry) (left : After) → StandsForRun run kept state → end_of_run run ≡ None → HasTurnIn run c
    → step run.setup.scenario state run.entries c ≡ record { entry = e; state = left.state; reboot = left.reboot } → IsOneMore run e left
one_more run kept state c e left core goes_on turn steps =
    let own = own_entry run kept state c e left core goes_on turn steps in
    let scenario = run.setup.scenario in
    let s = state_of_run run in
    let at : (step scenario s run.entries e.cpu).entry ≡ e =
    ap (λ d. (step scenario s run.entries d).entry) own ∙ ap (λ t. (step scenario t run.entries c).entry) (sym core.machine) ∙ ap (λ (out : Step). out.entry) steps in
    record {
      legal = IsLegal-append scenario run.setup.order run.entries e core.keeps.legal (not_over run goes_on) (subst (HasTurnIn run) (sym own) turn) (sym at);
      leaves =
          after-append scenario run.entries e
          ∙ ap (λ t. left_by (step scenario t run.entries e.cpu)) (sym core.machine)
          ∙ ap (λ d. left_by (step scenario state run.entries d)) own
          ∙ ap left_by steps;
    }

-- enough threads of each partition with a budget feed it at the entry
pub fed_in : (run : Run) (kept : History) (state : SchedulerState) (c : ℕ) (e : Entry) (left : After) → StandsForRun run kept state → end_of_run run ≡ None → HasTurnIn run c
    → step run.setup.scenario state run.entries c ≡ record { entry = e; state = left.state; reboot = left.reboot } → IsFed run (Took e)
fed_in run kept state c e left core goes_on turn steps =
    let more = one_more run kept state c e left core goes_on turn steps in
    enough_law run.setup.scenario run.setup.order run.entries e core.keeps.setup.valid more.legal

core_more : (run : Run) (kept : History) (state : SchedulerState) (c : ℕ) (e : Entry) (kept' : History) (left : After)
    → StandsForRun run kept state → end_of_run run ≡ None → HasTurnIn run c → IsMore run kept state c e kept' left
    → StandsForRun (with_entry run e) kept' left.state
core_more run kept state c e kept' left core goes_on turn m =
    let more = one_more run kept state c e left core goes_on turn m.steps in
    let scenario = run.setup.scenario in
    record {
      keeps = record {
        setup = core.keeps.setup;
        legal = more.legal;
        no_sooner = no_sooner_more run e core.keeps.no_sooner goes_on;
        fits = omega (arith, length_more run.entries e, below_limit run core.keeps goes_on);
      };
      recorded =
          m.added
          ∙ ap (λ (k : History). with_last k run.setup.limit left.reboot left.state e) core.recorded
          ∙ ap (recorded_from scenario run.setup.limit (rooms_of run.setup) (run.entries ++ e ∷ [])) (sym more.leaves);
      machine = sym (ap (λ (a : After). a.state) more.leaves);
    }

-- ---- what the history takes over

-- from a state to the one after one entry more
can_record : (scenario : Scenario) (order : Order) (h : List Entry) (e : Entry) (limit : ℕ) → IsScenario scenario → IsLegal scenario order (h ++ e ∷ [])
    → CanRecord (recorded scenario limit (rooms_of (record { scenario = scenario; order = order; limit = limit })) h) (state_after scenario (h ++ e ∷ []))
can_record scenario order h e limit valid legal =
    let grow = only_grow scenario order h (e ∷ []) valid legal in
    let order' = in_order scenario order (h ++ e ∷ []) valid legal in
    let replies = few_answered scenario order (h ++ e ∷ []) valid legal in
    let changes = room scenario order (h ++ e ∷ []) valid legal in
    record {
      replies = grow.replies;
      changes = grow.changes;
      reply_room = replies;
      change_room = omega (arith, changes, replies);
      no_fewer = (rows_stay scenario order h (e ∷ []) valid legal).count;
      few_rows = order'.named.few;
      rows = in_range scenario order (h ++ e ∷ []) valid legal;
      shape = order'.shape;
    }

pub can_record_in : (run : Run) (kept : History) (state : SchedulerState) (c : ℕ) (e : Entry) (left : After) → StandsForRun run kept state → end_of_run run ≡ None → HasTurnIn run c
    → step run.setup.scenario state run.entries c ≡ record { entry = e; state = left.state; reboot = left.reboot } → CanRecord kept left.state
can_record_in run kept state c e left core goes_on turn steps =
    let more = one_more run kept state c e left core goes_on turn steps in
    subst (λ (k : History). CanRecord k left.state) (sym core.recorded)
    (subst (λ (a : After). CanRecord (history_of_run run) a.state) more.leaves
    (can_record run.setup.scenario run.setup.order run.entries e run.setup.limit core.keeps.setup.valid more.legal))

-- where the state keeps rows and lists, the history has them
pub told_in : (run : Run) (kept : History) (state next : SchedulerState) → StandsForRun run kept state → KeepsFrame state next → HasTold kept next
told_in run kept state next core k = record {
  replies = k.replies ∙ ap (λ (s : SchedulerState). s.replies) core.machine ∙ sym (ap (λ (h : History). h.replies) core.recorded);
  changes = k.changes ∙ ap (λ (s : SchedulerState). s.changes) core.machine ∙ sym (ap (λ (h : History). h.changes) core.recorded);
  rows = k.rows ∙ ap (λ (s : SchedulerState). s.rows) core.machine ∙ sym (ap (λ (h : History). h.rows) core.recorded);
  shape = k.shape ∙ ap (λ (s : SchedulerState). s.shape) core.machine ∙ sym (ap (λ (h : History). h.shape) core.recorded);
}

-- ---- turns

pub cpus_of : (run : Run) → IsUnderWay run → (state_of_run run).shape.cpus ≡ run.setup.scenario.shape.cpus
cpus_of run r = (counts_law run.setup.scenario run.setup.order run.entries r.setup.valid r.legal).sizes.cpus

pub cpu_within : (run : Run) (kept : History) (state : SchedulerState) (c : ℕ) → StandsForRun run kept state → c < length state.cpus → c < run.setup.scenario.shape.cpus
cpu_within run kept state c core lt =
    omega (arith, lt, ap (λ (t : SchedulerState). length t.cpus) core.machine, (counts_law run.setup.scenario run.setup.order run.entries core.keeps.setup.valid core.keeps.legal).cpus)

pub first_lowest : (run : Run) (kept : History) (state : SchedulerState) (order : Order) (c : ℕ) → StandsForRun run kept state → c ≡ first_due state run.entries state.shape.cpus
    → HasTurn order (state_of_run run) run.entries c
first_lowest run kept state order c core is =
    let s = state_of_run run in
    let there : c ≡ first_due s run.entries s.shape.cpus = is ∙ ap (λ (t : SchedulerState). first_due t run.entries t.shape.cpus) core.machine in
    subst (HasTurn order s run.entries) (sym there)
    (any_turn order s run.entries (first_due s run.entries s.shape.cpus) (one_turn s run.entries (omega (arith, cpus_of run core.keeps, core.keeps.setup.valid.shape.some_cpu))).has)

-- in free order, who is due with the lowest that has the turn
pub free_turn : (run : Run) (c first : ℕ) → IsUnderWay run → run.setup.order ≡ Free → c < run.setup.scenario.shape.cpus → HasTurn Fixed (state_of_run run) run.entries first
    → due (state_of_run run) run.entries c ≡ due (state_of_run run) run.entries first → HasTurnIn run c
free_turn run c first r free lt lowest same = record {
  exists = omega (arith, lt, cpus_of run r);
  least = λ d below. omega (arith, same, lowest.least d below);
  lowest = λ fixed. absurd (other (sym free ∙ fixed));
}
  where
    other : Free ≡ Fixed → ⊥
    other e = cc

-- the moments of the entry
pub entry_fits : (run : Run) (kept : History) (state : SchedulerState) (c : ℕ) (e : Entry) (left : After) → StandsForRun run kept state → end_of_run run ≡ None → HasTurnIn run c
    → step run.setup.scenario state run.entries c ≡ record { entry = e; state = left.state; reboot = left.reboot } → IsEntry e
entry_fits run kept state c e left core goes_on turn steps =
    subst (λ (out : Step). IsEntry out.entry) steps (due_in run kept state c core goes_on turn).fits

pub same_number : (a b : ℕ) → nat_eq a b ≡ true → a ≡ b
same_number a b e = grind (arith, nat_tests)

-- the step over equal scenarios and entries
pub step_read : (scenario scenario' : Scenario) (state : SchedulerState) (h h' : List Entry) (c : ℕ) (out : Step) → scenario' ≡ scenario → h' ≡ h → step scenario' state h' c ≡ out → step scenario state h c ≡ out
step_read scenario scenario' state h h' c out e f steps =
    ap (λ z. step z state h c) (sym e) ∙ ap (λ z. step scenario' state z c) (sym f) ∙ steps

-- the same core, whose run is read from its history
pub core_kept : (run : Run) (kept : History) (state : SchedulerState) (c : ℕ) (e : Entry) (kept' : History) (left : After)
    → StandsForRun run kept state → end_of_run run ≡ None → HasTurnIn run c → IsMore run kept state c e kept' left
    → StandsForRun (record { setup = record run.setup { scenario = kept'.scenario }; entries = kept'.entries }) kept' left.state
core_kept run kept state c e kept' left core goes_on turn m =
    let added = m.added ∙ ap (λ (k : History). with_last k run.setup.limit left.reboot left.state e) core.recorded in
    let scenario : kept'.scenario ≡ run.setup.scenario = ap (λ (k : History). k.scenario) added in
    let entries : kept'.entries ≡ run.entries ++ e ∷ [] = ap (λ (k : History). k.entries) added in
    let same : with_entry run e ≡ record { setup = record run.setup { scenario = kept'.scenario }; entries = kept'.entries } =
    ap (λ z. record { setup = record run.setup { scenario = z }; entries = run.entries ++ e ∷ [] }) (sym scenario)
    ∙ ap (λ z. record { setup = record run.setup { scenario = kept'.scenario }; entries = z }) (sym entries) in
    subst (λ r. StandsForRun r kept' left.state) same (core_more run kept state c e kept' left core goes_on turn m)

-- ---- the commands that are still to come

pub tick_of_core : (run : Run) (kept : History) (state : SchedulerState) → StandsForRun run kept state → state.shape.tick ≡ run.setup.scenario.shape.tick
tick_of_core run kept state core =
    ap (λ (t : SchedulerState). t.shape.tick) core.machine ∙ (counts_law run.setup.scenario run.setup.order run.entries core.keeps.setup.valid core.keeps.legal).sizes.tick
