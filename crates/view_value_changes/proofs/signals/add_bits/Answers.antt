use lib.Chars.{codes}
use Rattle.std.proofs.Common.{◌+◌}
use Rattle.view_texts.proofs.Pieces.{four, on_ok}
use Rattle.view_value_changes.specs.Signals.{bit_signal}
use Rattle.view_value_changes.proofs.signals.add_bits.Goals as goal

pub returns : goal.returns
returns c =
    let first = c.args.first in
    on_ok c.add_signal-4.result
    (λ last.
    four _ _ _ _ _ (bit_signal first (codes "in_budget")) (bit_signal (first + 1) (codes "standing")) (bit_signal (first + 2) (codes "demand"))
    (bit_signal (first + 3) (codes "overspent")) c.in_ok-add_signal.ensures c.in_ok-add_signal-2.ensures c.in_ok-add_signal-3.ensures last)
    c.add_signal-4.ensures
