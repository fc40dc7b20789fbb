use Rattle.laws_runs.proofs.ReplyLaws.{answered, answered_once}
use Rattle.laws_runs.proofs.replies.commands_once.Goals as goal

pub returns-clause-in_order : goal.returns-clause-in_order
returns-clause-in_order c = answered

pub returns-clause-once : goal.returns-clause-once
returns-clause-once c = answered_once
