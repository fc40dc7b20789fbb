-- The text of the cycles: values with commas between them, a line for each cycle.
use lib.Chars.{codes}
use Rattle.std.specs.Prelude.{ℕ, ◌++◌, List, [], ◌∷◌, slice_index_or}
use Rattle.std.specs.List.{flat_map, enumerate_from, join_with_byte}
use Rattle.std.specs.Fmt.{decimal}
use Rattle.aps_model.specs.declared.entry.Entry.{Entry}
use Rattle.aps_model.specs.declared.scenario.ThreadRow.{ThreadRow}
use Rattle.aps_model.specs.Scenario.{Scenario}
use Rattle.view_lives.specs.declared.cycle.Cycle.{Cycle}
use Rattle.view_lives.specs.declared.life.Segment.{Segment}
use Rattle.view_lives.specs.Cycle.{cycles_in}
use Rattle.view_lives.specs.Life.{life_of}

-- values with a comma between each two, and a newline
abbrev pub values_line : List (List ℕ) → List ℕ
values_line values = join_with_byte 44 values ++ 10 ∷ []

-- a cycle of the thread of this name, and where its time went
abbrev pub cycle_line : List ℕ → Cycle → List ℕ
cycle_line name cycle = values_line (
    name ∷ decimal cycle.begin ∷ decimal cycle.end ∷ decimal cycle.times.running ∷ decimal cycle.times.ready
    ∷ decimal cycle.times.calling ∷ decimal cycle.times.receiving ∷ [])

-- the lines of a thread of this name with this life
abbrev pub cycle_lines : List ℕ → List Segment → List ℕ
cycle_lines name life = flat_map (cycle_line name) (cycles_in life).ended

-- the lines of a thread, by the lives of all
abbrev pub thread_cycle_lines : List (List Segment) → ℕ × ThreadRow → List ℕ
thread_cycle_lines lives (x, row) = cycle_lines row.name (slice_index_or lives x [])

abbrev pub thread_cycles : Scenario → List Entry → ℕ × ThreadRow → List ℕ
thread_cycles scenario h (x, row) = cycle_lines row.name (life_of scenario h x)

-- the cycles of a history that have ended, by thread
abbrev pub cycles_text : Scenario → List Entry → List ℕ
cycles_text scenario h =
    codes "thread,begin_ns,end_ns,running_ns,ready_ns,calling_ns,receiving_ns\n"
    ++ flat_map (thread_cycles scenario h) (enumerate_from 0 scenario.threads)
