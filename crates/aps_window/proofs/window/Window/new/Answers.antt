use Rattle.std.proofs.Common.{◌≡◌, [], refl, sym, subst, arith}
use Rattle.aps_window.specs.StandsFor.{StandsFor}
use Rattle.aps_window.specs.Window.{Window, opened}
use Rattle.aps_window.specs.WindowView.{window_of}
use Rattle.aps_window.proofs.Accounts.{opened_keeps, opened_view}
use Rattle.aps_window.proofs.Stands.{opened_stands}
use Rattle.aps_window.proofs.window.Window.new.Goals as goal

pub invariant_of-result : goal.invariant_of-result
invariant_of-result c =
    opened_keeps (record { tick = 0; span = c.args.window; in_use = 0; accounts = c.loop-count.accounts }) c.loop-count.count
    refl c.requires.least c.requires.most refl
    (omega (arith, c.loop-count.auto.count-end, c.loop-count-test.false)) c.loop-count.invariant

pub returns-clause-stands : goal.returns-clause-stands
returns-clause-stands c =
    let view : window_of (record { tick = 0; span = c.args.window; in_use = 0; accounts = c.loop-count.accounts })
    ≡ opened c.args.window =
    opened_view (record { tick = 0; span = c.args.window; in_use = 0; accounts = c.loop-count.accounts }) c.args.window
    c.loop-count.count refl refl
    (omega (arith, c.loop-count.auto.count-end, c.loop-count-test.false)) c.loop-count.invariant in
    subst (λ (w : Window). StandsFor w []) (sym view) (opened_stands c.args.window)
