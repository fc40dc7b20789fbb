use Rattle.std.proofs.Common.{◌≡◌, ◌∙◌, ap, sym, None}
use Rattle.view_explain.specs.Because.{chance_on, sooner}
use Rattle.view_explain.proofs.Ranges.{fold_range}
use Rattle.view_explain.proofs.scene.Scene.chance.Goals as goal

pub loop-c-preserved : goal.loop-c-preserved
loop-c-preserved c =
    let past = c.args.self.now in
    let x = c.args.x in
    let i = c.loop-c.c in
    let here : c.chance_on.result ≡ chance_on past x i = c.chance_on.ensures ∙ ap (chance_on past x) c.at.ensures in
    c.sooner-first.ensures ∙ ap (λ o. sooner c.loop-c.first o) here ∙ ap (λ o. sooner o (chance_on past x i)) c.loop-c.invariant
    ∙ sym (fold_range (λ first k. sooner first (chance_on past x k)) None i)
