use lib.Chars.{codes}
use Rattle.std.proofs.Common.{◌+◌}
use Rattle.view_texts.proofs.Pieces.{on_ok, three}
use Rattle.view_value_changes.specs.Signals.{bit_signal, word_signal}
use Rattle.view_value_changes.proofs.signals.add_cpu_signals.Goals as goal

pub returns : goal.returns
returns c =
    let first = c.args.first in
    on_ok c.add_signal-3.result
    (λ last.
    three _ _ _ _ (word_signal first (codes "thread")) (word_signal (first + 1) (codes "billed")) (bit_signal (first + 2) (codes "critical"))
    c.in_ok-add_signal.ensures c.in_ok-add_signal-2.ensures last)
    c.add_signal-3.ensures
