use Rattle.std.proofs.Common.{◌≡◌, ℕ, ◌+◌, ◌/◌, ◌∙◌, ap, sym, subst, List, arith}
use Rattle.aps_live.specs.BilledTo.{IsBilledTo}
use Rattle.aps_live.proofs.Billing.{billed_all, billed_more, fits_tick, tick_after}
use Rattle.aps_live.proofs.bills.bill_ticks.Goals as goal

pub bill_at-requires-clause-fits : goal.bill_at-requires-clause-fits
bill_at-requires-clause-fits c =
    let i = c.loop-k.invariant in
    let far = c.first_tick-first.ensures.kept in
    let begun = c.loop-k.auto.k in
    let last = c.loop-k-test.true in
    let number = c.index-number.ensures in
    let now = c.requires.now in
    let tick = i.tick in
    fits_tick c.args.tick c.loop-k.window c.args._before.now c.args.e.now c.args.p c.loop-k.k c.overlap-ns.result i.billed c.requires.billed (omega (arith, number.same, number.small)) (omega (arith, last, now, tick)) (omega (arith, begun, far, now, tick)) c.overlap-ns.ensures.same c.requires.fits

pub loop-k-preserved : goal.loop-k-preserved
loop-k-preserved c =
    let i = c.loop-k.invariant in record {
      billed = billed_more c.args.tick c.loop-k.window c.bill_at.new.self c.args._before.now c.args.e.now c.args.p c.loop-k.k c.overlap-ns.result i.billed (ap (λ w. w.tick) c.bill_at.ensures.same) c.overlap-ns.ensures.same c.bill_at.ensures.stands;
      tick = ap (λ w. w.tick) c.bill_at.ensures.same ∙ i.tick;
      span = ap (λ w. w.span) c.bill_at.ensures.same ∙ i.span;
    }

pub returns-clause-tied : goal.returns-clause-tied
returns-clause-tied c =
    let i = c.loop-k.invariant in
    let now : ℕ = c.args.e.now.to / c.args.tick in
    let ended : c.loop-k.k ≡ now + 1 = let low = c.loop-k-test.false in let high = c.loop-k.auto.k-end in let first = c.first_tick-first.ensures.inside in omega (arith, low, high, first) in
    billed_all c.args.tick c.loop-k.window c.args._before.now c.args.e.now c.args.p now
    (subst (IsBilledTo c.args.tick c.loop-k.window c.args._before.now c.args.e.now c.args.p) ended i.billed) c.requires.billed (tick_after c.args.tick c.args.e.now.to (omega (arith, c.requires.some)))
