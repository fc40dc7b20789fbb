use Rattle.std.proofs.Common.{◌/◌, ◌∙◌, ap}
use Rattle.aps_core.specs.Run.{state_of_run}
use Rattle.view_explain.specs.Past.{past_of}
use Rattle.view_explain.proofs.Scenes.{parts_are}
use Rattle.view_explain.proofs.scene.Scene.of.Goals as goal

pub invariant_of-result : goal.invariant_of-result
invariant_of-result c =
    let at = c.tick_of-tick.ensures.same ∙ ap (λ m. m / (state_of_run c.args.core).shape.tick) c.requires.last in
    record {
      tied = c.requires.tied;
      tick = at;
      early = c.tick_of-tick.ensures.early;
      few = c.requires.few;
      usage = c.usage_at-usage.ensures.same;
      parts = parts_are (past_of c.args.core) _ _ _ c.in_ok-parts.ensures.same c.usage_at-usage.ensures.same c.in_ok-parts.ensures.few at;
      small = c.in_ok-parts.ensures.small;
      wakes = c.tick_of-tick.ensures.wakes;
      known = c.tick_of-tick.ensures.known;
    }
