use Rattle.std.proofs.Common.{◌≡◌, ◌+◌, ◌-◌, ◌∙◌, ap, arith}
use Rattle.aps_window.specs.Window.{Window}
use Rattle.aps_live.proofs.Advances.{advanced_span, advanced_tick, advanced_tied}
use Rattle.aps_live.proofs.pick.advance_to.Goals as goal

pub returns-clause-tied : goal.returns-clause-tied
returns-clause-tied c =
    let tick = ap (λ (w : Window). w.tick) c.advance.ensures.same ∙ advanced_tick (c.args.now_tick - c.args.was_tick) c.args.window.now in
    advanced_tied c.args._tick c.args.window.now c.advance.new.self c.args._before.now c.requires.tied (omega (arith, tick)) c.advance.ensures.stands

pub returns-clause-tick : goal.returns-clause-tick
returns-clause-tick c =
    let tick = ap (λ (w : Window). w.tick) c.advance.ensures.same ∙ advanced_tick (c.args.now_tick - c.args.was_tick) c.args.window.now in
    let was = c.requires.was in
    let later = c.requires.later in
    omega (arith, tick, was, later)

pub returns-clause-span : goal.returns-clause-span
returns-clause-span c = ap (λ (w : Window). w.span) c.advance.ensures.same ∙ advanced_span (c.args.now_tick - c.args.was_tick) c.args.window.now
