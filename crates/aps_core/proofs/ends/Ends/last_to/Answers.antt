use Rattle.std.proofs.Common.{◌≡◌, ◌≤◌, IfSome, None, arith, slice_index_or, subst, sym}
use Rattle.aps_model.specs.Due.{last_to}
use Rattle.aps_model.specs.Limits.{last_moment}
use Rattle.aps_core.proofs.LastEnds.{ends_early}
use Rattle.aps_core.proofs.ends.Ends.last_to.Goals as goal

pub returns-clause-within : goal.returns-clause-within
returns-clause-within c =
    let h = c.args.entries.now in
    let place = c.index.result in
    let there : slice_index_or c.self.inside.row place None ≡ last_to h place =
    subst (λ row. slice_index_or row place None ≡ last_to h place) (sym c.self.view_is) (c.requires.ends place (omega (arith, c.index.ensures.small))) in
    subst (λ o. IfSome o (λ to. to ≤ last_moment)) (sym there) (ends_early h place c.requires.entries)
