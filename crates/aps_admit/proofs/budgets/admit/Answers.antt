use Rattle.std.proofs.Common.{arith}
use Rattle.aps_admit.proofs.Granting.{budgets-meet, needs-exceed}
use Rattle.aps_admit.proofs.budgets.admit.Goals as goal

pub returns-then-sum-from-clause-certified : goal.returns-then-sum-from-clause-certified
returns-then-sum-from-clause-certified c =
    needs-exceed c.args.shape.now c.total_slack-slack.result _ c.args.demands.now c.sum_of_budgets-sum.result c.requires.shape
    c.total_slack-slack.ensures.same c.sum_of_budgets-sum.ensures (omega arith)

pub returns-clause-certified : goal.returns-clause-certified
returns-clause-certified c =
    budgets-meet c.args.shape.now c.total_slack-slack.result _ c.args.demands.now c.in_ok-grants.grants c.requires.shape
    c.total_slack-slack.ensures.same c.total_slack-slack.ensures.some c.in_ok-grants.ensures (omega arith)
