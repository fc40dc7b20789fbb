use Rattle.std.proofs.Common.{◌≡◌, ◌-◌, ◌*◌, ◌∷◌, map}
use lib.Chars.{codes}
use Rattle.std.specs.List.{range_with_len}
use Rattle.aps_model.specs.Limits.{percent}
use Rattle.aps_gen.specs.Names.{partition_name}
use Rattle.aps_gen.specs.Generated.{row, share}
use Rattle.aps_gen.proofs.partitions.partition_rows.Given as goal

abbrev pub invariant-loop-i : goal.invariant-loop-i
invariant-loop-i l =
    l.rows.items ≡ row (codes "System") (percent - (l.count - 1) * share l.count) ∷ map (λ i. row (partition_name i) (share l.count)) (range_with_len 1 (l.i - 1))
