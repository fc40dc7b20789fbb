use Rattle.std.proofs.Common.{◌≡◌, ◌++◌, ◌∷◌, [], ◌∙◌, List, Vec, Global, ap, sym}
use Rattle.view_explain.specs.declared.above.Above.{Above}
use Rattle.view_explain.specs.Because.{above_at}
use Rattle.view_explain.proofs.Ranges.{none_more, some_more}
use Rattle.view_explain.proofs.scene.Scene.above.Goals as goal
use Rattle.view_explain.proofs.scene.Scene.above.Goals.{in-Some+in_ok-push-in-Some, in-None}

pub loop-y-preserved : goal.loop-y-preserved
loop-y-preserved c =
    let past = c.args.self.now in
    let x = c.args.x in
    let here : c.above_at.result ≡ above_at past x c.loop-y.y = c.above_at.ensures ∙ ap (above_at past x) c.at.ensures in
    let items : Vec Above Global → List Above = λ v. v.items in
    elim c.match-above_at.branch [
      | in-Some+in_ok-push-in-Some w ↦
          ap items w.found-is ∙ w.in_ok-push-in-Some.ensures.items ∙ ap (λ (l : List Above). l ++ w.in-Some.above ∷ []) c.loop-y.invariant
          ∙ sym (some_more (above_at past x) c.loop-y.y w.in-Some.above (sym here ∙ w.in-Some.is))
      | in-None w ↦
          ap items w.found-is ∙ c.loop-y.invariant ∙ sym (none_more (above_at past x) c.loop-y.y (sym here ∙ w.in-None.is))
    ]
