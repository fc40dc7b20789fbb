use Rattle.std.proofs.Common.{◌≡◌, map, refl, sym, ap, ◌∙◌, subst, arith, set}
use Rattle.std.proofs.lemmas.List.Edits.{map_over_more}
use Rattle.aps_window.specs.Account.{account_resized}
use Rattle.aps_window.specs.StandsFor.{StandsFor}
use Rattle.aps_window.specs.Window.{Window}
use Rattle.aps_window.proofs.Accounts.{resized_keeps, resized_view}
use Rattle.aps_window.proofs.Stands.{resized_stands}
use Rattle.aps_window.proofs.Unused.{all_done, no_account_resized}
use Rattle.aps_window.proofs.window.Window.resize.Goals as goal

pub loop-p-preserved : goal.loop-p-preserved
loop-p-preserved c =
    let items = c.self.inside.accounts.items in
    let now = c.loop-p.self-inside.accounts.items in
    let account = c.index_mut-account.result.now in
    record {
      tick = c.loop-p.invariant.tick;
      span = c.loop-p.invariant.span;
      in_use = c.loop-p.invariant.in_use;
      accounts = ap (set now c.loop-p.p) c.resize.ensures
          ∙ map_over_more (account_resized c.args.window) items now c.loop-p.p account (omega (
            arith,
            c.self.invariant.count,
            c.self.invariant.few,
            c.loop-p-test.true,
          ))
          c.loop-p.invariant.accounts c.index_mut-account.ensures.value;
    }

all_resized : (c : goal.After-self-2-1) → c.loop-p.self-inside.accounts.items
    ≡ map (account_resized c.args.window) c.self.inside.accounts.items
all_resized c =
    all_done (account_resized c.args.window) c.self.inside.accounts.items
    c.loop-p.self-inside.accounts.items c.loop-p.p c.self.inside.in_use
    (omega (arith, c.loop-p.auto.p-end, c.loop-p-test.false))
    (no_account_resized c.args.window c.requires.most) c.self.invariant.rest c.loop-p.invariant.accounts

pub invariant_of-self : goal.invariant_of-self
invariant_of-self c =
    resized_keeps c.self.inside (record {
      tick = c.loop-p.self-inside.tick;
      span = c.args.window;
      in_use = c.loop-p.self-inside.in_use;
      accounts =
          c.loop-p.self-inside.accounts;
    })
    c.args.window c.self.invariant c.requires.least c.requires.most c.loop-p.invariant.tick refl
    c.loop-p.invariant.in_use (all_resized c)

pub returns-clause-same : goal.returns-clause-same
returns-clause-same c =
    resized_view c.self.inside (record {
      tick = c.loop-p.self-inside.tick;
      span = c.args.window;
      in_use = c.loop-p.self-inside.in_use;
      accounts =
          c.loop-p.self-inside.accounts;
    })
    c.args.self.now c.args.window c.self.view_is c.loop-p.invariant.tick refl (all_resized c)

pub returns-clause-stands : goal.returns-clause-stands
returns-clause-stands c = λ bills stands.
    subst (λ (w : Window). StandsFor w bills) (sym (returns-clause-same c))
    (resized_stands c.args.window c.args.self.now bills stands)
