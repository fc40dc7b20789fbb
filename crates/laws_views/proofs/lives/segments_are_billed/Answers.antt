use Rattle.std.proofs.Common.{subst, ◌∙◌}
use Rattle.view_lives.specs.Whole.{SegmentsTell, doing_at}
use Rattle.view_lives.proofs.Told.{life_is_told}
use Rattle.laws_views.proofs.InOne.{told_in}
use Rattle.laws_views.proofs.KeptRuns.{is_billed}
use Rattle.laws_views.proofs.lives.segments_are_billed.Goals as goal

pub returns : goal.returns
returns c = λ scenario order h x m cpu p critical front back s valid legal same runs lies past.
    let told = subst (SegmentsTell (doing_at scenario h x)) same (life_is_told scenario order valid x h legal).told in
    is_billed scenario order h valid legal x m cpu p critical (told_in (doing_at scenario h x) front back s m told lies ∙ runs) past
