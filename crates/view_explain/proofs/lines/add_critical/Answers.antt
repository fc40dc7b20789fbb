use Rattle.std.proofs.Common.{List, ℕ, [], ◌∷◌, refl}
use lib.Chars.{codes}
use Rattle.std.specs.Fmt.{decimal}
use Rattle.view_explain.proofs.Wording.{written}
use Rattle.view_explain.proofs.lines.add_critical.Goals as goal

pub returns : goal.returns
returns c =
    let words : List (List ℕ) = codes "critical_used" ∷ decimal c.args.used ∷ codes "critical_budget" ∷ decimal c.args.budget ∷ [] in
    written c.write.result _ _ words words (32 ∷ []) refl c.write.ensures.bytes
