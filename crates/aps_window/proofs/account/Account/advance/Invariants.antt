use Rattle.std.proofs.Common.{◌≡◌}
use Rattle.aps_window.specs.Account.{account_moved}
use Rattle.aps_window.proofs.account.Account.advance.Given as goal

abbrev pub invariant-loop-count : goal.invariant-loop-count
invariant-loop-count l = l.self ≡ account_moved l.count l.span l.initial.self
