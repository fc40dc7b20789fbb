use lib.Chars.{codes}
use Rattle.std.specs.Prelude.{ℕ, List, [], ◌∷◌, ◌++◌, length, slice_index}
use Rattle.std.specs.List.{flat_map, enumerate_from}
use Rattle.std.specs.Fmt.{decimal}
use Rattle.aps_model.specs.declared.partition.PartitionRow.{PartitionRow}
use Rattle.aps_model.specs.declared.scenario.ThreadRow.{ThreadRow}
use Rattle.aps_model.specs.declared.state.Facts.{Facts}
use Rattle.aps_model.specs.declared.state.State.{State}
use Rattle.aps_model.specs.History.{History}
use Rattle.aps_model.specs.Journal.{line_of}
use Rattle.aps_model.specs.Report.{end_line, shape_line}
use Rattle.aps_model.specs.Replies.{yes_text, state_text}
use Rattle.aps_report.specs.Totals.{Sums}

-- a partition's line, with the time billed to it and the critical time
abbrev pub partition_text : ℕ → PartitionRow → ℕ → ℕ → List ℕ
partition_text p row billed critical = line_of (
    codes "partition" ∷ decimal p ∷ row.name ∷ codes "budget" ∷ decimal row.budget
    ∷ codes "billed" ∷ decimal billed ∷ codes "critical" ∷ decimal critical ∷ [])

-- a thread's line, with the time that it ran
abbrev pub thread_text : ℕ → List ℕ → ℕ → List ℕ
thread_text x name ran = line_of (codes "thread" ∷ decimal x ∷ name ∷ codes "ran" ∷ decimal ran ∷ [])

-- the same with these sums
abbrev pub partition_with : Sums → ℕ × PartitionRow → List ℕ
partition_with sums (p, row) = partition_text p row (slice_index sums.billed p) (slice_index sums.critical p)

abbrev pub thread_with : Sums → ℕ × ThreadRow → List ℕ
thread_with sums (x, row) = thread_text x row.name (slice_index sums.ran x)

-- a text with the lines of the summary before its tables
abbrev pub with_head : List ℕ → History → List ℕ
with_head text h =
    text ++ codes "aps summary 1\n" ++ end_line h.end ++ shape_line h.shape
    ++ line_of (codes "entries" ∷ decimal (length h.entries) ∷ [])

-- the tables of the summary, with these sums
abbrev pub tables_with : History → Sums → List ℕ
tables_with h sums =
    flat_map (partition_with sums) (enumerate_from 0 h.rows)
    ++ line_of (codes "idle" ∷ decimal sums.idle ∷ [])
    ++ flat_map (thread_with sums) (enumerate_from 0 h.scenario.threads)

-- the line of the answer to a query of a partition: who it is, and what it may use and used
abbrev pub row_words : ℕ → ℕ → PartitionRow → List ℕ
row_words command p row =
    codes "reply " ++ (decimal command ++ (codes " partition " ++ (decimal p ++ (codes " parent " ++ (decimal row.parent
    ++ (codes " budget " ++ decimal row.budget))))))

abbrev pub partition_reply : ℕ → ℕ → PartitionRow → ℕ → ℕ → List ℕ
partition_reply command p row used critical_used =
    row_words command p row
    ++ (codes " critical " ++ (decimal row.critical ++ (codes " max " ++ (decimal row.max
    ++ (codes " used " ++ (decimal used ++ (codes " critical_used " ++ (decimal critical_used ++ codes "\n"))))))))

-- the line of the answer to a query of a thread: its own partition, what it inherits, and what it does
abbrev pub home_words : ℕ → ℕ → Facts → List ℕ
home_words command x own =
    codes "reply " ++ (decimal command ++ (codes " thread " ++ (decimal x ++ (codes " own " ++ decimal own.partition))))

abbrev pub facts_words : Facts → List ℕ
facts_words now =
    codes " partition " ++ (decimal now.partition ++ (codes " priority " ++ (decimal now.priority
    ++ (codes " critical " ++ yes_text now.critical))))

abbrev pub state_words : State → List ℕ
state_words state = codes " state " ++ (state_text state ++ codes "\n")

abbrev pub thread_reply : ℕ → ℕ → Facts → Facts → State → List ℕ
thread_reply command x own now state = home_words command x own ++ (facts_words now ++ state_words state)
