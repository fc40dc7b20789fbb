use Rattle.std.proofs.Common.{List, ℕ, [], ◌∷◌, ap}
use lib.Chars.{codes}
use Rattle.std.specs.Fmt.{decimal}
use Rattle.view_explain.proofs.Wording.{written}
use Rattle.view_explain.proofs.lines.add_allowed.Goals as goal

pub returns : goal.returns
returns c =
    let words : List ℕ → List (List ℕ) = λ w. codes "allowance" ∷ decimal c.args.allowance ∷ codes "in_budget" ∷ w ∷ [] in
    written c.write.result _ _ _ _ (32 ∷ []) (ap words c.yes_or_no-in_budget.ensures) c.write.ensures.bytes
