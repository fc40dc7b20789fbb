-- A step with ten times the parts makes the same entry, and leaves ten times the parts.
use Rattle.std.proofs.Common.{◌≡◌, ℕ, ◌-◌, ◌/◌, ◌++◌, List, [], ◌∷◌, map, refl, ◌∙◌, ap, Bool, true, false, nat_eq, Option, Some, None}
use Rattle.std.specs.List.{fold}
use Rattle.std.specs.Option.{option_map}
use Rattle.aps_model.specs.declared.entry.Entry.{Entry}
use Rattle.aps_model.specs.declared.merit.Contender.{Contender}
use Rattle.aps_model.specs.declared.merit.PartFacts.{PartFacts}
use Rattle.aps_model.specs.declared.state.Pick.{Pick}
use Rattle.aps_model.specs.declared.state.State.TheVariants.{Running}
use Rattle.aps_model.specs.Bill.{Tested, bill_of}
use Rattle.aps_model.specs.Budget.{all_parts}
use Rattle.aps_model.specs.Due.{due, last_end}
use Rattle.aps_model.specs.Flag.{flag_for, with_flag}
use Rattle.aps_model.specs.Merit.{is_critical_pick}
use Rattle.aps_model.specs.Messages.{Effect}
use Rattle.aps_model.specs.Operation.{go_on}
use Rattle.aps_model.specs.Pick.{contenders, greatest, missing}
use Rattle.aps_model.specs.Scenario.{Scenario}
use Rattle.aps_model.specs.SchedulerState.{SchedulerState, cpu_at, with_cpu, with_state}
use Rattle.aps_model.specs.Shape.{horizon}
use Rattle.aps_model.specs.Step.{Step, begun, billed, chosen, complete, pick, settled, step, tested, unless_rebooted}
use Rattle.aps_model.specs.TickWork.{do_commands, has_tick_work, tick_work, wake_all, waking}
use Rattle.laws_upgrade.specs.TimesTen.{scenario_times_ten, state_times_ten}
use Rattle.laws_upgrade.proofs.Commands.{do_commands_ten}
use Rattle.laws_upgrade.proofs.Moves.{go_on_ten, settled_ten, spend_ten, tested_ten, tested_times_ten}
use Rattle.laws_upgrade.proofs.Picks.{flag_ten, greatest_ten, missing_ten, part_at_ten, part_times_ten, parts_ten}

abbrev pub step_times_ten : Step → Step
step_times_ten made = record made { state = state_times_ten made.state }

-- ---- begun

woken_ten : (scenario : Scenario) (now : ℕ) (sleepers : List (ℕ × ℕ)) (s : SchedulerState)
    → fold (λ state (sleeper : ℕ × ℕ). go_on (scenario_times_ten scenario) state sleeper.1 now) (state_times_ten s) sleepers
    ≡ state_times_ten (fold (λ state (sleeper : ℕ × ℕ). go_on scenario state sleeper.1 now) s sleepers)
woken_ten scenario now [] s = refl
woken_ten scenario now (sleeper ∷ sleepers) s =
    ap (λ t. fold (λ state (sleeper : ℕ × ℕ). go_on (scenario_times_ten scenario) state sleeper.1 now) t sleepers) (go_on_ten scenario s sleeper.1 now)
    ∙ woken_ten scenario now sleepers (go_on scenario s sleeper.1 now)

wake_ten : (scenario : Scenario) (now : ℕ) (s : SchedulerState)
    → wake_all (scenario_times_ten scenario) now (state_times_ten s) ≡ state_times_ten (wake_all scenario now s)
wake_ten scenario now s = woken_ten scenario now (waking s now) s

tick_work_ten : (scenario : Scenario) (s : SchedulerState) (h : List Entry) (now : ℕ)
    → tick_work (scenario_times_ten scenario) (state_times_ten s) h now ≡ state_times_ten (tick_work scenario s h now)
tick_work_ten scenario s h now = by_test (has_tick_work s h now)
  where
    by_test : (t : Bool)
        → elim t [
          | true ↦ wake_all (scenario_times_ten scenario) now (do_commands (scenario_times_ten scenario) h (now / s.shape.tick) (state_times_ten s))
          | false ↦ state_times_ten s
        ] ≡ state_times_ten (elim t [
          | true ↦ wake_all scenario now (do_commands scenario h (now / s.shape.tick) s)
          | false ↦ s
        ])
    by_test true =
        ap (wake_all (scenario_times_ten scenario) now) (do_commands_ten scenario h (now / s.shape.tick) s)
        ∙ wake_ten scenario now (do_commands scenario h (now / s.shape.tick) s)
    by_test false = refl

begun_ten : (scenario : Scenario) (s : SchedulerState) (h : List Entry) (c now : ℕ)
    → begun (scenario_times_ten scenario) (state_times_ten s) h c now ≡ state_times_ten (begun scenario s h c now)
begun_ten scenario s h c now = tick_work_ten scenario (with_cpu s c (record (cpu_at s c) { flag = None })) h now

-- ---- the pick

chosen_ten : (s : SchedulerState) (parts : List PartFacts) (c : ℕ) (best : Option Contender)
    → chosen (state_times_ten s) (map part_times_ten parts) c best ≡ state_times_ten (chosen s parts c best)
chosen_ten s parts c None = refl
chosen_ten s parts c (Some best) =
    ap (λ (part : PartFacts). with_cpu (with_state (state_times_ten s) best.thread (Running c)) c (record {
      running = Some (record { thread = best.thread; partition = best.facts.partition; critical = is_critical_pick best.facts part });
      flag = None;
    })) (part_at_ten parts best.facts.partition)

with_flag_ten : (s : SchedulerState) (now : ℕ) (other : Option ℕ) → with_flag (state_times_ten s) now other ≡ state_times_ten (with_flag s now other)
with_flag_ten s now None = refl
with_flag_ten s now (Some d) = refl

-- the pick's step, from what was picked, who lacks a candidate, the state with the pick, and the other processor
abbrev step_by : ℕ → Entry → Option Contender → Option ℕ → SchedulerState → Option ℕ → Step
step_by now e best lacking picked other = record {
  entry = record e { picked = option_map (λ (b : Contender). b.thread) best; starved = lacking; flagged = other };
  state = with_flag picked now other;
  reboot = None;
}

-- the same, from the parts and the greatest candidate
abbrev pick_by : SchedulerState → List Entry → ℕ → ℕ → Entry → List PartFacts → Option Contender → Option ℕ → Step
pick_by s h c now e parts best lacking =
    step_by now e best lacking (chosen s parts c best)
    (flag_for (chosen s parts c best) h parts c now (greatest s.shape.free parts (contenders (chosen s parts c best))))

pick_by_ten : (s : SchedulerState) (h : List Entry) (c now : ℕ) (e : Entry) (parts : List PartFacts) (best : Option Contender) (lacking : Option ℕ)
    → pick_by (state_times_ten s) h c now e (map part_times_ten parts) best lacking ≡ step_times_ten (pick_by s h c now e parts best lacking)
pick_by_ten s h c now e parts best lacking =
    ap (λ t. step_by now e best lacking t (flag_for t h parts10 c now (greatest s.shape.free parts10 (contenders t)))) (chosen_ten s parts c best)
    ∙ ap (λ left. step_by now e best lacking (state_times_ten picked) (flag_for (state_times_ten picked) h parts10 c now left)) (greatest_ten s.shape.free parts (contenders picked))
    ∙ ap (step_by now e best lacking (state_times_ten picked)) (flag_ten picked h parts c now left)
    ∙ ap (λ t. record (step_by now e best lacking picked other) { state = t }) (with_flag_ten picked now other)
  where
    parts10 : List PartFacts
    parts10 = map part_times_ten parts

    picked : SchedulerState
    picked = chosen s parts c best

    left : Option Contender
    left = greatest s.shape.free parts (contenders picked)

    other : Option ℕ
    other = flag_for picked h parts c now left

pick_ten : (s : SchedulerState) (h : List Entry) (c now : ℕ) (e : Entry)
    → pick (state_times_ten s) h c now e ≡ step_times_ten (pick s h c now e)
pick_ten s h c now e =
    ap (λ ps. pick_by (state_times_ten s) h c now e ps (greatest s.shape.free ps (contenders s)) (missing ps (contenders s)))
    (parts_ten s.shape s.rows (h ++ e ∷ []) (now / s.shape.tick))
    ∙ ap (λ best. pick_by (state_times_ten s) h c now e (map part_times_ten parts) best (missing (map part_times_ten parts) (contenders s)))
    (greatest_ten s.shape.free parts (contenders s))
    ∙ ap (pick_by (state_times_ten s) h c now e (map part_times_ten parts) (greatest s.shape.free parts (contenders s))) (missing_ten parts (contenders s))
    ∙ pick_by_ten s h c now e parts (greatest s.shape.free parts (contenders s)) (missing parts (contenders s))
  where
    parts : List PartFacts
    parts = all_parts s.shape s.rows (h ++ e ∷ []) (now / s.shape.tick)

-- ---- the step

complete_ten : (scenario : Scenario) (s : SchedulerState) (h : List Entry) (c now : ℕ) (e : Entry) (running : Option Pick)
    → complete (scenario_times_ten scenario) (state_times_ten s) h c now e running ≡ step_times_ten (complete scenario s h c now e running)
complete_ten scenario s h c now e running = by_test (nat_eq now (horizon s.shape))
  where
    by_test : (t : Bool)
        → elim t [
          | true ↦ record { entry = e; state = state_times_ten s; reboot = None }
          | false ↦
              let did = settled (scenario_times_ten scenario) (state_times_ten s) now running in
              pick did.state h c now (record e { done = did.done })
        ] ≡ step_times_ten (elim t [
          | true ↦ record { entry = e; state = s; reboot = None }
          | false ↦
              let did = settled scenario s now running in
              pick did.state h c now (record e { done = did.done })
        ])
    by_test true = refl
    by_test false =
        ap (λ (did : Effect). pick did.state h c now (record e { done = did.done })) (settled_ten scenario s now running)
        ∙ pick_ten (settled scenario s now running).state h c now (record e { done = (settled scenario s now running).done })

unless_ten : (scenario : Scenario) (test : Tested) (h : List Entry) (c now : ℕ) (e : Entry) (running : Option Pick) (reboot : Option ℕ)
    → unless_rebooted (scenario_times_ten scenario) (tested_times_ten test) h c now e running reboot
    ≡ step_times_ten (unless_rebooted scenario test h c now e running reboot)
unless_ten scenario test h c now e running (Some p) = refl
unless_ten scenario test h c now e running None = complete_ten scenario test.state h c now e running

pub step_ten : (scenario : Scenario) (s : SchedulerState) (h : List Entry) (c : ℕ)
    → step (scenario_times_ten scenario) (state_times_ten s) h c ≡ step_times_ten (step scenario s h c)
step_ten scenario s h c =
    ap (λ t. after_test (tested (billed t e running) h e)) (begun_ten scenario s h c now)
    ∙ ap (λ t. after_test (tested t h e)) (spend_ten (begun scenario s h c now) (e.to - e.from) running)
    ∙ ap after_test (tested_ten (billed (begun scenario s h c now) e running) h e)
    ∙ unless_ten scenario test h c now e running test.reboot
  where
    now : ℕ
    now = due s h c

    running : Option Pick
    running = (cpu_at s c).running

    e : Entry
    e = bill_of c (last_end h c) now running

    after_test : Tested → Step
    after_test t = unless_rebooted (scenario_times_ten scenario) t h c now e running t.reboot

    test : Tested
    test = tested (billed (begun scenario s h c now) e running) h e
