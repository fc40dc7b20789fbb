use lib.Chars.{codes}
use Rattle.std.proofs.Common.{◌++◌}
use Rattle.std.specs.Fmt.{decimal}
use Rattle.view_texts.proofs.Pieces.{four, on_ok}
use Rattle.view_value_changes.proofs.save.add_processor.Goals as goal

pub returns : goal.returns
returns c =
    let number = decimal c.args.c in
    on_ok c.write-4.result
    (λ last.
    four _ _ _ _ _ (codes "@200\n-cpu " ++ (number ++ codes "\n")) (codes "@2000\napsim.cpus.cpu" ++ (number ++ codes ".thread\n"))
    (codes "@2000\napsim.cpus.cpu" ++ (number ++ codes ".billed\n")) (codes "@28\napsim.cpus.cpu" ++ (number ++ codes ".critical\n"))
    c.in_ok-write.ensures.bytes c.in_ok-write-2.ensures.bytes c.in_ok-write-3.ensures.bytes last)
    c.write-4.ensures.bytes
