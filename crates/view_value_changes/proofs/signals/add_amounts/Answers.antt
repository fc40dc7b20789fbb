use lib.Chars.{codes}
use Rattle.std.proofs.Common.{◌+◌}
use Rattle.view_texts.proofs.Pieces.{on_ok, three}
use Rattle.view_value_changes.specs.Signals.{amount_line}
use Rattle.view_value_changes.proofs.signals.add_amounts.Goals as goal

pub returns : goal.returns
returns c =
    let first = c.args.first in
    on_ok c.add_signal-3.result
    (λ last.
    three _ _ _ _ (amount_line first (codes "used")) (amount_line (first + 1) (codes "allowance")) (amount_line (first + 2) (codes "critical_used"))
    c.in_ok-add_signal.ensures c.in_ok-add_signal-2.ensures last)
    c.add_signal-3.ensures
