use Rattle.std.proofs.Common.{List, ℕ, [], ◌∷◌, ◌∙◌, ap}
use lib.Chars.{codes}
use Rattle.std.specs.Fmt.{decimal}
use Rattle.view_explain.specs.Text.{name_of_partition}
use Rattle.view_explain.proofs.Wording.{written}
use Rattle.view_explain.proofs.lines.add_because_running.Goals as goal

pub returns : goal.returns
returns c =
    let words : ℕ → ℕ → List ℕ → List ℕ → List (List ℕ) = λ n p name critical.
    codes "because" ∷ codes "running" ∷ codes "cpu" ∷ decimal n ∷ codes "billed" ∷ decimal p ∷ name ∷ codes "critical" ∷ critical ∷ [] in
    let name = c.row_name-name.result.now in
    let critical = c.yes_or_no-critical.result.now in
    written c.write.result _ _ _ _ (10 ∷ [])
    (ap (λ n. words n c.index-p.result name critical) c.index-c.ensures.same ∙ ap (λ p. words c.args.c p name critical) c.index-p.ensures.same
    ∙ ap (λ w. words c.args.c c.args.p w critical) c.row_name-name.ensures
    ∙ ap (words c.args.c c.args.p (name_of_partition c.args.scene.now c.args.p)) c.yes_or_no-critical.ensures)
    c.write.ensures.bytes
