use Rattle.aps_window.proofs.Accounts.{account_at, used_stands}
use Rattle.aps_window.proofs.Totals.{account_small}
use Rattle.aps_window.proofs.window.Window.used.Goals as goal

pub returns-clause-stands : goal.returns-clause-stands
returns-clause-stands c = λ bills stands.
    used_stands c.self.inside c.args.self.now c.args.p c.index.result c.index-2.result.now bills c.self.invariant
    c.self.view_is
    c.index.ensures.same c.index.ensures.small c.index-2.ensures stands

pub returns-clause-small : goal.returns-clause-small
returns-clause-small c =
    account_small c.self.inside.span c.index-2.result.now
    (account_at c.self.inside c.index.result c.index-2.result.now c.self.invariant c.index.ensures.small
    c.index-2.ensures)
    c.self.invariant.most
