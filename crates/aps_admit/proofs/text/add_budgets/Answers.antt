use Rattle.std.proofs.Common.{string_bytes}
use Rattle.aps_admit.specs.Text.{budget_line}
use Rattle.aps_admit.proofs.Lines.{lines_more}
use Rattle.aps_admit.proofs.text.add_budgets.Goals as goal

pub loop-granted-preserved : goal.loop-granted-preserved
loop-granted-preserved c =
    lines_more budget_line (string_bytes c.args.out.now) (string_bytes c.loop-granted.out) (string_bytes c.add_budget.new.out) c.args.grants.now
    c.loop-granted.granted-index c.granted-item.result c.loop-granted-test.true c.granted-item.is c.loop-granted.invariant c.in_ok-add_budget.ensures
