use Rattle.std.proofs.Common.{get_or}
use Rattle.aps_model.specs.Limits.{most_partitions}
use Rattle.view_samples.proofs.Fill.{IsFilled}
use Rattle.view_shares.specs.Share.{no_share, share_with}
use Rattle.view_shares.proofs.shares.each_with.Given as goal

abbrev pub invariant-loop-p : goal.invariant-loop-p
invariant-loop-p l = IsFilled (λ k. share_with l.turn k (get_or l.shares k no_share) l.sample) no_share most_partitions l.p l.all
