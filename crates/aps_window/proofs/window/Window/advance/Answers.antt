use Rattle.std.proofs.Common.{◌≡◌, ◌+◌, ℕ, map, sym, ap, ◌∙◌, subst, arith, set}
use Rattle.std.proofs.lemmas.List.Edits.{map_over_more}
use Rattle.aps_window.specs.Account.{account_moved}
use Rattle.aps_window.specs.StandsFor.{StandsFor}
use Rattle.aps_window.specs.Window.{Window}
use Rattle.aps_window.proofs.Accounts.{moved_keeps, moved_view, whole_of}
use Rattle.aps_window.proofs.Stands.{advanced_stands}
use Rattle.aps_window.proofs.Unused.{all_done, no_account_moved}
use Rattle.aps_window.proofs.window.Window.advance.Goals as goal

pub loop-p-preserved : goal.loop-p-preserved
loop-p-preserved c =
    let inside = c.self.inside in
    let items = inside.accounts.items in
    let now = c.loop-p.self-inside.accounts.items in
    let account = c.index_mut-account.result.now in
    let next : c.advance.new.self ≡ account_moved c.min-moves.result inside.span account =
    c.advance.ensures ∙ ap (λ (n : ℕ). account_moved c.min-moves.result n account) c.loop-p.invariant.span in
    record {
      tick = c.loop-p.invariant.tick;
      span = c.loop-p.invariant.span;
      in_use = c.loop-p.invariant.in_use;
      accounts = ap (set now c.loop-p.p) next
          ∙ map_over_more (account_moved c.min-moves.result inside.span) items now c.loop-p.p account (omega (
            arith,
            c.self.invariant.count,
            c.self.invariant.few,
            c.loop-p-test.true,
          ))
          c.loop-p.invariant.accounts c.index_mut-account.ensures.value;
    }

all_moved : (c : goal.After-self-2-1) → c.loop-p.self-inside.accounts.items
    ≡ map (account_moved c.min-moves.result c.self.inside.span) c.self.inside.accounts.items
all_moved c =
    all_done (account_moved c.min-moves.result c.self.inside.span) c.self.inside.accounts.items
    c.loop-p.self-inside.accounts.items c.loop-p.p c.self.inside.in_use
    (omega (arith, c.loop-p.auto.p-end, c.loop-p-test.false))
    (no_account_moved c.min-moves.result c.self.inside.span c.self.invariant.most) c.self.invariant.rest
    c.loop-p.invariant.accounts

pub invariant_of-self : goal.invariant_of-self
invariant_of-self c =
    let tick : c.self.inside.tick ≡ c.args.self.now.tick = ap (λ (w : Window). w.tick) c.self.view_is in
    moved_keeps c.self.inside (record {
      tick = c.loop-p.self-inside.tick + c.args.ticks;
      span =
          c.loop-p.self-inside.span;
      in_use = c.loop-p.self-inside.in_use;
      accounts = c.loop-p.self-inside.accounts;
    })
    c.args.ticks c.min-moves.result c.self.invariant (omega (arith, tick, c.requires))
    (ap (λ (n : ℕ). n + c.args.ticks) c.loop-p.invariant.tick) c.loop-p.invariant.span
    c.loop-p.invariant.in_use (all_moved c)

pub returns-clause-same : goal.returns-clause-same
returns-clause-same c =
    moved_view c.self.inside (record {
      tick = c.loop-p.self-inside.tick + c.args.ticks;
      span =
          c.loop-p.self-inside.span;
      in_use = c.loop-p.self-inside.in_use;
      accounts = c.loop-p.self-inside.accounts;
    })
    c.args.self.now c.args.ticks c.min-moves.result c.self.invariant c.self.view_is c.min-moves.ensures
    (ap (λ (n : ℕ). n + c.args.ticks) c.loop-p.invariant.tick) c.loop-p.invariant.span (all_moved c)

pub returns-clause-stands : goal.returns-clause-stands
returns-clause-stands c = λ bills stands.
    subst (λ (w : Window). StandsFor w bills) (sym (returns-clause-same c))
    (advanced_stands c.args.ticks c.args.self.now bills
    (whole_of c.self.inside c.args.self.now c.self.invariant c.self.view_is) stands)
