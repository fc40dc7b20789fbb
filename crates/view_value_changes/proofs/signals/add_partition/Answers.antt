use Rattle.std.proofs.Common.{◌+◌}
use Rattle.view_texts.proofs.Pieces.{as_other, four, on_ok}
use Rattle.view_value_changes.specs.Signals.{amount_signals, bit_signals, scope_end_line, module_line}
use Rattle.view_value_changes.proofs.signals.add_partition.Goals as goal

pub returns : goal.returns
returns c =
    let first = c.args.first in
    on_ok c.add_end.result
    (λ last.
    four _ _ _ _ _ (module_line c.args.name.now) (amount_signals first) (bit_signals (first + 3)) scope_end_line
    (as_other module_line _ _ _ _ c.in_ok-add_module.ensures c.text_of.ensures) c.in_ok-add_amounts.ensures c.in_ok-add_bits.ensures last)
    c.add_end.ensures
