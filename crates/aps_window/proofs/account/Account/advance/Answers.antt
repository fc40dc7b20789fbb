use Rattle.std.proofs.Common.{subst, sym, ◌∙◌}
use Rattle.aps_window.specs.Account.{IsAccount}
use Rattle.aps_window.specs.Slots.{slots_moved}
use Rattle.aps_window.proofs.Totals.{is_account, length-moved, moved_are_slots}
use Rattle.aps_window.proofs.account.Account.advance.Goals as goal

pub rotate-requires-clause-account : goal.rotate-requires-clause-account
rotate-requires-clause-account c =
    let slots = c.args.self.now.ring.items in
    subst (IsAccount c.args.span) (sym c.loop-count.invariant)
    (is_account c.args.span (slots_moved c.loop-count.count slots)
    (length-moved c.loop-count.count slots ∙ c.requires.account.full)
    (moved_are_slots c.loop-count.count slots c.requires.account.small))
