use lib.Chars.{codes}
use Rattle.std.proofs.Common.{◌*◌, ◌++◌}
use Rattle.std.specs.Fmt.{decimal}
use Rattle.view_texts.proofs.Pieces.{on_ok, three}
use Rattle.view_value_changes.specs.Signals.{cpu_signals, scope_end_line}
use Rattle.view_value_changes.proofs.signals.add_processor.Goals as goal

pub returns : goal.returns
returns c =
    let number = c.args.c in
    on_ok c.add_end.result
    (λ last.
    three _ _ _ _ (codes "$scope module cpu" ++ (decimal number ++ codes " $end\n")) (cpu_signals (3 * number)) scope_end_line
    c.in_ok-write.ensures.bytes c.in_ok-add_cpu_signals.ensures last)
    c.add_end.ensures
