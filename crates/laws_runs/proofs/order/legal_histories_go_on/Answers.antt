use Rattle.laws_runs.proofs.Prefixes.{one_more, legal_more}
use Rattle.laws_runs.proofs.order.legal_histories_go_on.Goals as goal

pub returns-clause-more : goal.returns-clause-more
returns-clause-more c = one_more

pub returns-clause-back : goal.returns-clause-back
returns-clause-back c = legal_more
