-- The samples as lines of numbers with commas between them.
use lib.Chars.{codes}
use Rattle.std.specs.Prelude.{ℕ, ◌+◌, ◌-◌, ◌*◌, ◌++◌, min, List, length, slice_index, slice_index_or, Bool, false, unwrap_or, if◌then◌else◌}
use Rattle.std.specs.List.{flat_map, range_with_len}
use Rattle.std.specs.Fmt.{decimal}
use Rattle.aps_model.specs.declared.entry.Entry.{Entry}
use Rattle.aps_model.specs.declared.partition.PartitionRow.{PartitionRow}
use Rattle.aps_model.specs.After.{state_after}
use Rattle.aps_model.specs.Loaded.{finished_ticks}
use Rattle.aps_model.specs.Scenario.{Scenario}
use Rattle.view_samples.specs.declared.sample.Sample.{Sample}
use Rattle.view_samples.specs.declared.table.Ticks.{Ticks}
use Rattle.view_samples.specs.Sample.{sample_of}

-- the cells of a partition in the first line
abbrev pub row_titles : PartitionRow → List ℕ
row_titles row =
    codes "," ++ (row.name
    ++ (codes "_used," ++ (row.name ++ (codes "_critical," ++ (row.name ++ (codes "_allowance," ++ (row.name ++ codes "_demand")))))))

abbrev pub head_line : List PartitionRow → List ℕ
head_line rows = (codes "end_ns,window,full,steady" ++ flat_map row_titles rows) ++ codes "\n"

-- 1 where it is so, and else 0
abbrev pub bit : Bool → ℕ
bit b = if b then 1 else 0

-- the end of its tick in ns, its window in ticks, and whether it is full and steady
abbrev pub first_cells : ℕ → Sample → List ℕ
first_cells tick sample =
    decimal ((sample.tick + 1) * tick) ++ (codes "," ++ (decimal sample.window
    ++ (codes "," ++ (decimal (bit sample.full) ++ (codes "," ++ decimal (bit sample.steady))))))

-- what partition p used, what of that was critical, what it was allowed (ns), and whether it always had work
abbrev pub part_cells : Sample → ℕ → List ℕ
part_cells sample p =
    codes "," ++ (decimal (slice_index sample.usage.used p) ++ (codes "," ++ (decimal (slice_index sample.usage.critical p)
    ++ (codes "," ++ (decimal (slice_index sample.allowance p) ++ (codes "," ++ decimal (bit (slice_index_or sample.demand p false))))))))

abbrev pub sample_line : ℕ → ℕ → Sample → List ℕ
sample_line tick rows sample =
    (first_cells tick sample ++ flat_map (part_cells sample) (range_with_len 0 rows)) ++ codes "\n"

-- the line of tick j
abbrev pub line_of_tick : Scenario → List Entry → ℕ → List ℕ
line_of_tick scenario h j = sample_line scenario.shape.tick (length (state_after scenario h).rows) (sample_of scenario h j)

-- the tick before which the lines end, where so many are finished
abbrev pub tick_past_lines : Ticks → ℕ → ℕ
tick_past_lines ticks finished = min finished (unwrap_or ticks.to finished)

-- a line of titles, by the rows that stand last, and a line for each of these of the finished ticks
abbrev pub csv_text : Scenario → List Entry → Ticks → List ℕ
csv_text scenario h ticks =
    head_line (state_after scenario h).rows
    ++ flat_map (line_of_tick scenario h) (range_with_len ticks.from (tick_past_lines ticks (finished_ticks scenario.shape h) - ticks.from))
