use Rattle.std.proofs.Common.{◌≡◌, ◌++◌, map, take, drop}
use Rattle.aps_window.specs.Account.{account_resized}
use Rattle.aps_window.proofs.window.Window.resize.Given as goal

abbrev pub invariant-loop-p : goal.invariant-loop-p
invariant-loop-p l = record {
  tick : l.self-inside.tick ≡ l.initial.self-inside.tick;
  span : l.self-inside.span ≡ l.initial.self-inside.span;
  in_use : l.self-inside.in_use ≡ l.initial.self-inside.in_use;
  accounts : l.self-inside.accounts.items
      ≡ map (account_resized l.span)
      (take l.p l.initial.self-inside.accounts.items) ++ drop l.p l.initial.self-inside.accounts.items;
}
