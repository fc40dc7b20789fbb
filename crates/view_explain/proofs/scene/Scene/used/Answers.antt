use Rattle.std.proofs.Common.{◌∙◌, ap, arith, slice_index}
use Rattle.aps_model.specs.Usage.{window_used}
use Rattle.view_explain.specs.Past.{Past, past_of, state_of_past, tick_in}
use Rattle.view_explain.proofs.Scenes.{used_is}
use Rattle.view_explain.proofs.scene.Scene.used.Goals as goal

pub returns : goal.returns
returns c =
    ap (λ k. slice_index c.self.inside.usage.used k) c.index.ensures.same
    ∙ used_is (past_of c.self.inside.core) _ _ _ _ c.args.p c.self.invariant (omega (arith, c.index.ensures))
    ∙ ap (λ (past : Past). window_used (state_of_past past).shape past.entries (tick_in past) c.args.p) c.self.view_is
