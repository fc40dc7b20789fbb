-- The save file of a dump: the signals that a viewer shows, in order, each with its format.
use lib.Chars.{codes}
use Rattle.std.specs.Prelude.{ℕ, ◌-◌, ◌++◌, List}
use Rattle.std.specs.List.{flat_map, range_with_len}
use Rattle.std.specs.Fmt.{decimal}
use Rattle.std.specs.Int.Count.{count_leading_zeros}
use Rattle.aps_model.specs.declared.entry.Entry.{Entry}
use Rattle.aps_model.specs.declared.partition.PartitionRow.{PartitionRow}
use Rattle.aps_model.specs.After.{state_after}
use Rattle.aps_model.specs.Scenario.{Scenario}
use Rattle.laws_runs.specs.Moments.{moment}

-- how much is seen at once: all, by the binary digits of the end
abbrev pub zoom_of : ℕ → ℕ
zoom_of end = (64 - count_leading_zeros 64 end) - 2

-- a viewer has so many markers, and none is set
abbrev pub markers : ℕ
markers = 26

abbrev pub no_marker : ℕ → List ℕ
no_marker i = codes " -1"

abbrev pub zoom_text : ℕ → List ℕ
zoom_text end =
    (codes "*-" ++ (decimal (zoom_of end) ++ codes ".000000 0")) ++ (flat_map no_marker (range_with_len 0 markers) ++ codes "\n")

-- a processor under its heading
abbrev pub cpu_group : ℕ → List ℕ
cpu_group c =
    (codes "@200\n-cpu " ++ (decimal c ++ codes "\n"))
    ++ ((codes "@2000\napsim.cpus.cpu" ++ (decimal c ++ codes ".thread\n"))
    ++ ((codes "@2000\napsim.cpus.cpu" ++ (decimal c ++ codes ".billed\n"))
    ++ (codes "@28\napsim.cpus.cpu" ++ (decimal c ++ codes ".critical\n"))))

abbrev pub bit_entry : List ℕ → List ℕ → List ℕ
bit_entry name signal = codes "@28\napsim.partitions." ++ (name ++ (codes "." ++ (signal ++ codes "\n")))

abbrev pub bit_entries : List ℕ → List ℕ
bit_entries name =
    bit_entry name (codes "in_budget")
    ++ (bit_entry name (codes "standing") ++ (bit_entry name (codes "demand") ++ bit_entry name (codes "overspent")))

-- a partition under its heading, its usage as steps
abbrev pub partition_group : List ℕ → List ℕ
partition_group name =
    (codes "@200\n-partition " ++ (name ++ codes "\n"))
    ++ ((codes "@8424\napsim.partitions." ++ (name ++ codes ".used[39:0]\n")) ++ (codes "@20000\n-\n@20000\n-\n" ++ bit_entries name))

abbrev pub row_group : PartitionRow → List ℕ
row_group row = partition_group row.name

-- of the dump of a history
abbrev pub save_text : Scenario → List Entry → List ℕ
save_text scenario h =
    zoom_text (moment h) ++ (flat_map cpu_group (range_with_len 0 scenario.shape.cpus) ++ flat_map row_group (state_after scenario h).rows)
