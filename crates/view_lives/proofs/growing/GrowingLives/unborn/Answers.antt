use Rattle.std.proofs.Common.{◌∙◌, List, [], replicate, ap}
use Rattle.view_lives.specs.declared.growing.Aside.{Aside}
use Rattle.view_lives.specs.declared.life.Segment.{Segment}
use Rattle.view_lives.specs.Growing.{all_told}
use Rattle.view_lives.proofs.Asides.{none_told}
use Rattle.view_lives.proofs.growing.GrowingLives.unborn.Goals as goal

pub returns : goal.returns
returns c =
    let count = c.args.count in
    ap (λ (l : List (List Segment)). all_told 0 l c.in_ok-aside.aside.items) c.in_ok-lives.ensures
    ∙ ap (λ (a : List Aside). all_told 0 (replicate count []) a) c.in_ok-aside.ensures ∙ none_told count
