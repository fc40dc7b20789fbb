use Rattle.std.proofs.Common.{◌+◌, ◌-◌, ◌<◌, ◌/◌, length, ap, arith}
use Rattle.std.proofs.lemmas.List.{get_or-take, get_or_read, length-take}
use Rattle.aps_model.specs.declared.entry.Entry.{Entry}
use Rattle.aps_bound.proofs.cursor.place_after.Goals as goal

pub loop-low-preserved-then-has_ended : goal.loop-low-preserved-then-has_ended
loop-low-preserved-then-has_ended c =
    let h = c.args.entries.now in
    let middle = c.loop-low.low + (c.loop-low.high - c.loop-low.low) / 2 in
    let inside : middle < length h = omega (arith, c.loop-low-test.true, c.loop-low.invariant.within) in
    record {
      order = omega (arith, c.loop-low-test.true);
      within = c.loop-low.invariant.within;
      past = λ k d below.
          let here : k < middle + 1 = omega (arith, below, length-take (middle + 1) h) in
          let same = ap (λ (e : Entry). e.to) (get_or-take (middle + 1) h k d here) in
          let last = ap (λ (e : Entry). e.to) (get_or_read h middle c.index-entries-middle.result inside c.index-entries-middle.is d) in
          let rises = c.requires.rising k middle d (omega arith) inside in
          let ended = c.has_ended.ensures.yes c.if-has_ended.true in
          omega (arith, same, last, rises, ended);
      next = c.loop-low.invariant.next;
    }
