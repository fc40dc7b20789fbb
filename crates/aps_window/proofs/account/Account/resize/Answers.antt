use Rattle.std.proofs.Common.{◌<◌, ap, arith}
use Rattle.aps_model.specs.Limits.{longest_window}
use Rattle.aps_window.specs.declared.slot.Slot.{Slot}
use Rattle.aps_window.proofs.Totals.{next_billed, next_critical}
use Rattle.aps_window.proofs.account.Account.resize.Goals as goal

pub overflow_add-total : goal.overflow_add-total
overflow_add-total c =
    let inside : c.loop-age.age < longest_window = omega (arith, c.requires.span) in
    omega (
      arith,
      next_billed c.loop-age.age c.args.self.now.ring.items inside c.requires.full c.requires.small,
      ap (λ (s : Slot). s.billed) c.loop-age.invariant,
      ap (λ (s : Slot). s.billed) c.slot-slot.ensures,
    )

pub overflow_add-total-in-loop-age : goal.overflow_add-total-in-loop-age
overflow_add-total-in-loop-age c =
    let inside : c.loop-age.age < longest_window = omega (arith, c.requires.span) in
    omega (
      arith,
      next_critical c.loop-age.age c.args.self.now.ring.items inside c.requires.full c.requires.small,
      ap (λ (s : Slot). s.critical) c.loop-age.invariant,
      ap (λ (s : Slot). s.critical) c.slot-slot.ensures,
    )
