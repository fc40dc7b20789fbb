use Rattle.aps_report.proofs.replies.add_refusal.Goals as goal

pub returns-in-OverBudget : goal.returns-in-OverBudget
returns-in-OverBudget c = rw (c.in-OverBudget.is, ← c.from.ensures) c.add_number.ensures
