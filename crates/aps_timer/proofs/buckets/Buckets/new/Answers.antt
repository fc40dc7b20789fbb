use Rattle.aps_model.specs.Limits.{greatest_u64}
use Rattle.aps_timer.proofs.Kept.{kept_at_first}
use Rattle.aps_timer.proofs.buckets.Buckets.new.Goals as goal
use Rattle.aps_timer.specs.Buckets.{words_in_all}

pub returns : goal.returns
returns c threads =
    kept_at_first c.in_ok-lines.lines.items c.none.result threads words_in_all greatest_u64
    (c.in_ok-lines.ensures.items_if_clones_equal (λ y h. h)) c.none.ensures
