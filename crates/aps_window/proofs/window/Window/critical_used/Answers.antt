use Rattle.std.proofs.Common.{◌≤◌, subst}
use Rattle.aps_window.specs.declared.slot.Slot.{Slot}
use Rattle.aps_window.proofs.Accounts.{account_at, critical_stands, total_at}
use Rattle.aps_window.proofs.Totals.{account_within}
use Rattle.aps_window.proofs.window.Window.critical_used.Goals as goal

pub returns-clause-stands : goal.returns-clause-stands
returns-clause-stands c = λ bills stands.
    critical_stands c.self.inside c.args.self.now c.args.p c.index.result c.index-2.result.now bills c.self.invariant
    c.self.view_is
    c.index.ensures.same c.index.ensures.small c.index-2.ensures stands

pub returns-clause-within : goal.returns-clause-within
returns-clause-within c =
    let account = c.index-2.result.now in
    let total = total_at c.self.inside c.args.self.now c.args.p c.index.result account c.self.invariant c.self.view_is
    c.index.ensures.same c.index.ensures.small c.index-2.ensures in
    subst (λ (s : Slot). account.total.critical ≤ s.billed) total
    (account_within c.self.inside.span account
    (account_at c.self.inside c.index.result account c.self.invariant c.index.ensures.small c.index-2.ensures))
