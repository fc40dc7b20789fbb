-- How the usages in the window go on with the entries, and what is read of them.
use Rattle.std.proofs.Common.{◌≡◌, ℕ, ◌+◌, ◌-◌, ◌/◌, ◌≤◌, List, [], refl, sym, subst, ◌∙◌, arith}
use Rattle.aps_model.specs.declared.entry.Entry.{Entry}
use Rattle.aps_model.specs.declared.shape.Shape.{Shape}
use Rattle.aps_model.specs.Legal.{IsLegal}
use Rattle.aps_model.specs.Limits.{longest_window}
use Rattle.aps_model.specs.Scenario.{Scenario}
use Rattle.aps_model.specs.Usage.{critical_used, used, window_critical, window_used}
use Rattle.aps_model.specs.Valid.{IsScenario}
use Rattle.laws_runs.specs.Moments.{moment}
use Rattle.laws_runs.proofs.Sound.{sound}
use Rattle.aps_window.specs.Bills.{Bill, bills_critical, bills_used}
use Rattle.aps_window.specs.Entries.{bills_of}
use Rattle.aps_window.specs.StandsFor.{StandsFor}
use Rattle.aps_window.specs.Window.{opened, resized}
use Rattle.aps_window.proofs.Entries.{critical_same, used_same}
use Rattle.aps_core.specs.Counts.{Counts}
use Rattle.aps_core.specs.Run.{Run, state_of_run}
use Rattle.aps_core.proofs.Counting.{counts_none, counts_resized}
use Rattle.view_replay.specs.Shape.{shape_with}
use Rattle.view_shares.specs.declared.usages.Usages.{Usages}
use Rattle.view_shares.specs.Usages.{AreUsagesCounted, AreUsagesUpTo}

no_ticks : (t : ℕ) → 0 / t ≡ 0
no_ticks t = search (arith)

-- at the start
pub counted_none : (scenario : Scenario) (window : ℕ) → window ≤ longest_window → AreUsagesCounted scenario [] (record { window = opened window; span = window })
counted_none scenario window short =
    subst (λ j. Counts (shape_with scenario window) [] j (opened window)) (sym (no_ticks scenario.shape.tick)) (counts_none (shape_with scenario window) short)

-- where as many ticks count as the shape says
pub fitted : (run : Run) (usages after : Usages) (window : ℕ) → IsScenario run.setup.scenario → IsLegal run.setup.scenario run.setup.order run.entries → AreUsagesCounted run.setup.scenario run.entries usages
    → window ≡ (state_of_run run).shape.window → window ≤ longest_window → after ≡ record { window = resized window usages.window; span = window } → AreUsagesUpTo run after
fitted run usages after window valid legal counted wide short is =
    let scenario = run.setup.scenario in
    let sizes = (sound scenario run.setup.order valid run.entries legal).grounded.sizes in
    subst (AreUsagesUpTo run) (sym is)
    (record {
      counted = counts_resized (shape_with scenario usages.span) (shape_with scenario window) run.entries (moment run.entries / scenario.shape.tick) usages.window counted refl short;
      span = wide;
      tick = sizes.tick;
    })

-- ---- what is read

same_used : (s t : Shape) (h : List Entry) (p : ℕ) → s.tick ≡ t.tick → s.window ≡ t.window → window_used s h (moment h / s.tick) p ≡ window_used t h (moment h / t.tick) p
same_used s t h p tick window = λ i. used (tick i) h p (moment h / tick i + 1 - window i) (moment h / tick i + 1)

same_critical : (s t : Shape) (h : List Entry) (p : ℕ) → s.tick ≡ t.tick → s.window ≡ t.window → window_critical s h (moment h / s.tick) p ≡ window_critical t h (moment h / t.tick) p
same_critical s t h p tick window = λ i. critical_used (tick i) h p (moment h / tick i + 1 - window i) (moment h / tick i + 1)

pub read_used : (run : Run) (usages : Usages) (p u : ℕ) → AreUsagesUpTo run usages
    → ((bills : List Bill) → StandsFor usages.window bills → u ≡ bills_used bills p (usages.window.tick + 1 - usages.window.span) (usages.window.tick + 1))
    → u ≡ window_used (state_of_run run).shape run.entries (moment run.entries / (state_of_run run).shape.tick) p
read_used run usages p u up stands =
    let shape = shape_with run.setup.scenario usages.span in
    let c : Counts shape run.entries (moment run.entries / run.setup.scenario.shape.tick) usages.window = up.counted in
    let j = moment run.entries / run.setup.scenario.shape.tick in
    let bills = bills_of shape.tick run.entries in
    stands bills c.stands
    ∙ (λ i. bills_used bills p (c.tick i + 1 - c.span i) (c.tick i + 1))
    ∙ used_same shape.tick run.entries p (j + 1 - shape.window) (j + 1) c.each
    ∙ sym (same_used (state_of_run run).shape shape run.entries p up.tick (sym up.span))

pub read_critical : (run : Run) (usages : Usages) (p u : ℕ) → AreUsagesUpTo run usages
    → ((bills : List Bill) → StandsFor usages.window bills → u ≡ bills_critical bills p (usages.window.tick + 1 - usages.window.span) (usages.window.tick + 1))
    → u ≡ window_critical (state_of_run run).shape run.entries (moment run.entries / (state_of_run run).shape.tick) p
read_critical run usages p u up stands =
    let shape = shape_with run.setup.scenario usages.span in
    let c : Counts shape run.entries (moment run.entries / run.setup.scenario.shape.tick) usages.window = up.counted in
    let j = moment run.entries / run.setup.scenario.shape.tick in
    let bills = bills_of shape.tick run.entries in
    stands bills c.stands
    ∙ (λ i. bills_critical bills p (c.tick i + 1 - c.span i) (c.tick i + 1))
    ∙ critical_same shape.tick run.entries p (j + 1 - shape.window) (j + 1) c.each
    ∙ sym (same_critical (state_of_run run).shape shape run.entries p up.tick (sym up.span))
