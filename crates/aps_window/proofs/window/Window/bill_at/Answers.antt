use Rattle.std.proofs.Common.{◌≡◌, ◌-◌, ◌∷◌, refl, sym, ap, subst, arith}
use Rattle.std.specs.Vec.{with_item}
use Rattle.aps_window.specs.declared.window.Window.TheInside.{Inside}
use Rattle.aps_window.specs.StandsFor.{StandsFor}
use Rattle.aps_window.specs.Window.{Window}
use Rattle.aps_window.proofs.Accounts.{billed_keeps, billed_view, fits_at, whole_of}
use Rattle.aps_window.proofs.Stands.{billed_stands}
use Rattle.aps_window.proofs.window.Window.bill_at.Goals as goal

after : (c : goal.After-self-2-1) → Inside
after c = record {
  tick = c.self.inside.tick;
  span = c.self.inside.span;
  in_use = c.max-self-inside.result;
  accounts = with_item c.self.inside.accounts
      c.index-place.result c.bill.new.self;
}

pub invariant_of-self : goal.invariant_of-self
unfolding after
invariant_of-self c =
    let inside = c.self.inside in
    let account = c.index_mut-account.result.now in
    let tick : inside.tick ≡ c.args.self.now.tick = ap (λ (w : Window). w.tick) c.self.view_is in
    billed_keeps inside (after c) c.index-place.result
    (inside.tick - c.args.tick) c.args.ns c.args.critical account c.bill.new.self
    c.self.invariant c.index-place.ensures.small c.index_mut-account.ensures.value (omega (arith, tick, c.requires.kept))
    (fits_at inside c.args.self.now c.args.p c.index-place.result c.args.tick c.args.ns account c.self.invariant
    c.self.view_is
    c.index-place.ensures.same c.index-place.ensures.small c.index_mut-account.ensures.value c.requires.fits)
    c.bill.ensures refl refl c.max-self-inside.ensures refl

pub returns-clause-same : goal.returns-clause-same
unfolding after
returns-clause-same c =
    billed_view c.self.inside (after c) c.args.self.now c.args.p c.index-place.result c.args.tick c.args.ns c.args.critical
    c.index_mut-account.result.now c.bill.new.self
    c.self.invariant c.self.view_is c.index-place.ensures.same c.index-place.ensures.small c.index_mut-account.ensures.value
    c.bill.ensures refl refl refl

pub returns-clause-stands : goal.returns-clause-stands
returns-clause-stands c = λ bills stands.
    subst (λ (w : Window). StandsFor w
    (record { partition = c.args.p; tick = c.args.tick; ns = c.args.ns; critical = c.args.critical } ∷ bills))
    (sym (returns-clause-same c))
    (billed_stands c.args.self.now bills c.args.p c.args.tick c.args.ns c.args.critical
    (whole_of c.self.inside c.args.self.now c.self.invariant c.self.view_is)
    (omega (arith, c.index-place.ensures.same, c.index-place.ensures.small)) c.requires.past c.requires.kept stands)
