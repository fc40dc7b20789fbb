use lib.Chars.{codes}
use Rattle.std.proofs.Common.{◌++◌}
use Rattle.view_texts.proofs.Pieces.{four, on_ok}
use Rattle.view_value_changes.specs.Save.{bit_entries}
use Rattle.view_value_changes.proofs.save.add_partition.Goals as goal

pub returns : goal.returns
returns c =
    let name = c.args.name.now in
    on_ok c.add_bits.result
    (λ last.
    four _ _ _ _ _ (codes "@200\n-partition " ++ (name ++ codes "\n")) (codes "@8424\napsim.partitions." ++ (name ++ codes ".used[39:0]\n"))
    (codes "@20000\n-\n@20000\n-\n") (bit_entries name) c.in_ok-write.ensures.bytes c.in_ok-write-2.ensures.bytes c.in_ok-push_str.ensures.bytes last)
    c.add_bits.ensures
