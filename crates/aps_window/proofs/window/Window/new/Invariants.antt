use Rattle.std.proofs.Common.{◌≡◌, replicate}
use Rattle.aps_window.specs.Account.{no_account}
use Rattle.aps_window.proofs.window.Window.new.Given as goal

abbrev pub invariant-loop-count : goal.invariant-loop-count
invariant-loop-count l = l.accounts.items ≡ replicate l.count no_account
