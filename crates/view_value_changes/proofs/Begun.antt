-- A dump that has made no step.
use Rattle.std.proofs.Common.{◌≡◌, ℕ, ◌≤◌, List, [], refl, sym, ap, subst, ◌∙◌, arith}
use Rattle.aps_model.specs.declared.entry.Entry.{Entry}
use Rattle.aps_model.specs.After.{After}
use Rattle.aps_model.specs.Limits.{longest_window}
use Rattle.aps_model.specs.Valid.{IsScenario}
use Rattle.aps_model.proofs.AfterLaws.{after_none}
use Rattle.aps_window.specs.Window.{opened}
use Rattle.aps_core.specs.Run.{Run}
use Rattle.view_shares.specs.declared.usages.Usages.{Usages}
use Rattle.view_shares.proofs.Counted.{counted_none}
use Rattle.view_value_changes.specs.Retraced.{RetracedFollowsCore}

pub at_begin : (core start : Run) (usages : Usages) (window : ℕ) → core ≡ start → IsScenario start.setup.scenario → start.entries ≡ [] → usages ≡ record { window = opened window; span = window } → window ≡ start.setup.scenario.shape.window
    → RetracedFollowsCore (record { core = core; moment = 0; usages = usages })
at_begin core start usages window is valid begins new wide =
    let scenario = start.setup.scenario in
    let At : Run → Usages → Type 0 = λ r u. RetracedFollowsCore (record { core = r; moment = 0; usages = u }) in
    let none : Run = record { setup = start.setup; entries = [] } in
    let short : window ≤ longest_window = let s = valid.shape.window_short in omega (arith, s, wide) in
    let at_none : At none (record { window = opened window; span = window }) = record {
      valid = valid;
      moment = refl;
      up = record {
        counted = counted_none scenario window short;
        span = wide ∙ sym (ap (λ (a : After). a.state.shape.window) (after_none scenario));
        tick = ap (λ (a : After). a.state.shape.tick) (after_none scenario);
      };
    } in
    let whole : start ≡ none = ap (λ (es : List Entry). record start { entries = es }) begins in
    subst (At core) (sym new) (subst (λ r. At r (record { window = opened window; span = window })) (sym (is ∙ whole)) at_none)
