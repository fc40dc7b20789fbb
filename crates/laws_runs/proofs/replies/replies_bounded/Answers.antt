use Rattle.laws_runs.proofs.ReplyLaws.{few_answered}
use Rattle.laws_runs.proofs.replies.replies_bounded.Goals as goal

pub returns : goal.returns
returns c = few_answered
