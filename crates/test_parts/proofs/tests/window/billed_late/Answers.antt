use Rattle.std.proofs.Common.{◌≡◌, ◌+◌, [], ◌∷◌, false, true, ap, arith, lit≤}
use Rattle.aps_window.specs.Bills.{Bill}
use Rattle.aps_window.specs.Window.{Window}
use Rattle.aps_window.proofs.Stands.{fits_together}
use Rattle.test_parts.proofs.tests.window.billed_late.Goals as goal

pub bill_at-requires-clause-fits : goal.bill_at-requires-clause-fits
bill_at-requires-clause-fits g c =
    let tick : c.advance.new.self.tick
    ≡ c.opened-window.result.tick + 1 + 1 + 1 + 1 + 1 + 1 + 1 + 1 = ap (λ
    (w : Window). w.tick) c.advance.ensures.same in
    let start : c.opened-window.result.tick ≡ 0 = ap (λ (w : Window). w.tick) c.opened-window.ensures.same in
    fits_together c.advance.new.self [] c.at-system.result 0 600000
    (c.advance.ensures.stands [] c.opened-window.ensures.stands)
    (omega (arith, c.at-system.ensures)) (omega arith) (omega (arith, tick, start)) (lit≤ tt)

pub bill_at-requires-2-clause-fits : goal.bill_at-requires-2-clause-fits
bill_at-requires-2-clause-fits g c =
    let p = c.at-system.result in
    let first : Bill = record { partition = p; tick = 0; ns = 600000; critical = false } in
    let tick : c.bill_at.new.self.tick
    ≡ c.advance.new.self.tick = ap (λ (w : Window). w.tick) c.bill_at.ensures.same in
    let before : c.advance.new.self.tick
    ≡ c.opened-window.result.tick + 1 + 1 + 1 + 1 + 1 + 1 + 1 + 1 = ap (λ
    (w : Window). w.tick) c.advance.ensures.same in
    let start : c.opened-window.result.tick ≡ 0 = ap (λ (w : Window). w.tick) c.opened-window.ensures.same in
    let stands = c.bill_at.ensures.stands [] (c.advance.ensures.stands [] c.opened-window.ensures.stands) in
    fits_together c.bill_at.new.self (first ∷ []) p 0 400000 stands
    (omega (arith, c.at-system.ensures)) (omega arith) (omega (arith, tick, before, start)) (lit≤ tt)

pub bill_at-requires-3-clause-fits : goal.bill_at-requires-3-clause-fits
bill_at-requires-3-clause-fits g c =
    let p = c.at-system.result in
    let first : Bill = record { partition = p; tick = 0; ns = 600000; critical = false } in
    let second : Bill = record { partition = p; tick = 0; ns = 400000; critical = true } in
    let later : c.bill_at-2.new.self.tick
    ≡ c.bill_at.new.self.tick = ap (λ (w : Window). w.tick) c.bill_at-2.ensures.same in
    let tick : c.bill_at.new.self.tick
    ≡ c.advance.new.self.tick = ap (λ (w : Window). w.tick) c.bill_at.ensures.same in
    let before : c.advance.new.self.tick
    ≡ c.opened-window.result.tick + 1 + 1 + 1 + 1 + 1 + 1 + 1 + 1 = ap (λ
    (w : Window). w.tick) c.advance.ensures.same in
    let start : c.opened-window.result.tick ≡ 0 = ap (λ (w : Window). w.tick) c.opened-window.ensures.same in
    let once = c.bill_at.ensures.stands [] (c.advance.ensures.stands [] c.opened-window.ensures.stands) in
    let twice = c.bill_at-2.ensures.stands (first ∷ []) once in
    fits_together c.bill_at-2.new.self (second ∷ first ∷ []) p 1 7 twice
    (omega (arith, c.at-system.ensures)) (omega (arith, later, tick, before, start))
    (omega (arith, later, tick, before, start)) (lit≤ tt)
