use Rattle.std.proofs.Common.{◌≡◌, ◌<◌, length, refl, sym, ap, ◌∙◌, arith}
use Rattle.aps_window.specs.declared.account.Account.{Account}
use Rattle.aps_window.specs.Slots.{slot_billed, slots_billed, slots_total}
use Rattle.aps_window.proofs.Totals.{account_small, account_total, account_within, total_billed}
use Rattle.aps_window.proofs.account.Account.bill.Goals as goal

pub bill-requires-clause-billed : goal.bill-requires-clause-billed
bill-requires-clause-billed c =
    omega (arith, account_small c.args.span c.args.self.now c.requires.account c.requires.span, c.requires.fits)

pub bill-requires-clause-critical : goal.bill-requires-clause-critical
bill-requires-clause-critical c = account_within c.args.span c.args.self.now c.requires.account

pub returns-then-age-span : goal.returns-then-age-span
returns-then-age-span c =
    let slots = c.args.self.now.ring.items in
    let inside : c.args.age < length slots = omega (arith, c.requires.account.full, c.requires.kept) in
    let total : c.bill.new.self ≡ slots_total c.args.span (slots_billed slots c.args.age c.args.ns c.args.critical) =
    c.bill.ensures
    ∙ ap (λ total. slot_billed total c.args.ns c.args.critical)
    (account_total c.args.span c.args.self.now c.requires.account)
    ∙ sym (total_billed c.args.span c.args.age slots c.args.ns c.args.critical c.if-age-span.true inside) in
    let same = ap (λ (a : Account). a.ring.capacity) c.requires.account.same in
    rw (total, c.bill_slot.ensures, same) refl
