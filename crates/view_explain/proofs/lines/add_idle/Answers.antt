use Rattle.std.proofs.Common.{List, ℕ, [], ◌∷◌, ap}
use lib.Chars.{codes}
use Rattle.std.specs.Fmt.{decimal}
use Rattle.view_explain.proofs.Wording.{written}
use Rattle.view_explain.proofs.lines.add_idle.Goals as goal

pub returns : goal.returns
returns c =
    let words : ℕ → List (List ℕ) = λ n. codes "cpu" ∷ decimal n ∷ codes "idle" ∷ codes "next" ∷ decimal c.args.next ∷ [] in
    written c.write.result _ _ _ _ (10 ∷ []) (ap words c.index-c.ensures.same) c.write.ensures.bytes
