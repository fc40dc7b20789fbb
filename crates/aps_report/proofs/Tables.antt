use Rattle.std.proofs.Common.{◌≡◌, ℕ, ◌+◌, ◌≤◌, List, [], ◌∷◌, ◌++◌, length, refl, ap, ◌∙◌, arith, append_assoc}
use lib.Chars.{codes}
use Rattle.std.specs.Fmt.{decimal}
use Rattle.std.specs.List.{flat_map, enumerate_from}
use Rattle.aps_model.specs.declared.entry.Entry.{Entry}
use Rattle.aps_model.specs.declared.partition.PartitionRow.{PartitionRow}
use Rattle.aps_model.specs.declared.scenario.ThreadRow.{ThreadRow}
use Rattle.aps_model.specs.Report.{partition_line, thread_line, end_line, shape_line, total_idle, usage_text}
use Rattle.aps_model.specs.History.{History}
use Rattle.aps_model.specs.Journal.{line_of}
use Rattle.aps_model.specs.Limits.{most_partitions, most_threads}
use Rattle.aps_report.specs.Totals.{Sums, AreSums}
use Rattle.aps_report.specs.Lines.{partition_with, thread_with, with_head, tables_with}

-- the lines with the sums of the entries are those that the summary has
pub partitions_same : (h : List Entry) (sums : Sums) → AreSums h sums → (n : ℕ) (rows : List PartitionRow) → n + length rows ≤ most_partitions
    → flat_map (partition_with sums) (enumerate_from n rows) ≡ flat_map (partition_line h) (enumerate_from n rows)
partitions_same h sums are n [] few = refl
partitions_same h sums are n (row ∷ rows) few =
    rw (are.billed n (omega arith), are.critical n (omega arith), partitions_same h sums are (n + 1) rows (omega arith)) refl

pub threads_same : (h : List Entry) (sums : Sums) → AreSums h sums → (n : ℕ) (threads : List ThreadRow) → n + length threads ≤ most_threads
    → flat_map (thread_with sums) (enumerate_from n threads) ≡ flat_map (thread_line h) (enumerate_from n threads)
threads_same h sums are n [] few = refl
threads_same h sums are n (row ∷ rows) few = rw (are.ran n (omega arith), threads_same h sums are (n + 1) rows (omega arith)) refl

tables_same : (h : History) (sums : Sums) → AreSums h.entries sums → length h.rows ≤ most_partitions → length h.scenario.threads ≤ most_threads
    → tables_with h sums ≡ flat_map (partition_line h.entries) (enumerate_from 0 h.rows)
    ++ line_of (codes "idle" ∷ decimal (total_idle h.entries) ∷ []) ++ flat_map (thread_line h.entries) (enumerate_from 0 h.scenario.threads)
tables_same h sums are rows threads =
    rw (partitions_same h.entries sums are 0 h.rows (omega arith), threads_same h.entries sums are 0 h.scenario.threads (omega arith), are.idle) refl

regroup : (a b c d e f g : List ℕ) → a ++ b ++ c ++ d ++ (e ++ f ++ g) ≡ a ++ b ++ c ++ d ++ e ++ f ++ g
regroup a b c d e f g = simp append_assoc

-- the head and the tables are the summary up to its audit
pub usage_by : (h : History) (sums : Sums) (text : List ℕ) → AreSums h.entries sums → length h.rows ≤ most_partitions → length h.scenario.threads ≤ most_threads
    → text ≡ with_head [] h ++ tables_with h sums → text ≡ usage_text h
usage_by h sums text are rows threads is =
    is ∙ ap (λ t. with_head [] h ++ t) (tables_same h sums are rows threads)
    ∙ regroup (codes "aps summary 1\n") (end_line h.end) (shape_line h.shape) (line_of (codes "entries" ∷ decimal (length h.entries) ∷ []))
    (flat_map (partition_line h.entries) (enumerate_from 0 h.rows)) (line_of (codes "idle" ∷ decimal (total_idle h.entries) ∷ []))
    (flat_map (thread_line h.entries) (enumerate_from 0 h.scenario.threads))
