-- The lines of all threads, by their lives.
use Rattle.std.proofs.Common.{◌≡◌, ℕ, ◌+◌, ◌≤◌, List, [], ◌∷◌, length, refl, arith}
use Rattle.std.specs.List.{flat_map, enumerate_from}
use Rattle.aps_model.specs.declared.entry.Entry.{Entry}
use Rattle.aps_model.specs.declared.scenario.ThreadRow.{ThreadRow}
use Rattle.aps_model.specs.Scenario.{Scenario}
use Rattle.view_lives.specs.declared.life.Segment.{Segment}
use Rattle.view_lives.specs.Life.{AreLives}
use Rattle.view_lives.specs.Text.{thread_cycles, thread_cycle_lines}

pub lines_same : (scenario : Scenario) (h : List Entry) (lives : List (List Segment)) → AreLives scenario h lives → (n : ℕ) (rows : List ThreadRow) → n + length rows ≤ length scenario.threads
    → flat_map (thread_cycle_lines lives) (enumerate_from n rows) ≡ flat_map (thread_cycles scenario h) (enumerate_from n rows)
lines_same scenario h lives are n [] few = refl
lines_same scenario h lives are n (row ∷ rows) few =
    rw (are.each n (omega arith), lines_same scenario h lives are (n + 1) rows (omega arith)) refl
