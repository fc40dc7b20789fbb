use Rattle.std.proofs.Common.{List, ℕ, [], ◌∷◌, ◌∙◌, ap}
use lib.Chars.{codes}
use Rattle.std.specs.Fmt.{decimal}
use Rattle.view_explain.proofs.Wording.{written}
use Rattle.view_explain.proofs.lines.add_server.Goals as goal

pub returns : goal.returns
returns c =
    let words : ℕ → List ℕ → List (List ℕ) = λ n name. codes "because" ∷ codes "waits_for_reply" ∷ codes "of" ∷ decimal n ∷ name ∷ [] in
    written c.write.result _ _ _ _ (10 ∷ []) (ap (λ n. words n c.thread_name-name.result.now) c.index-y.ensures.same ∙ ap (words c.args.y) c.thread_name-name.ensures)
    c.write.ensures.bytes
