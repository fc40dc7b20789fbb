-- The words of an alteration.
use lib.Chars.{codes}
use Rattle.std.specs.Prelude.{ℕ, ◌++◌, List, [], slice_index_or, if◌then◌else◌}
use Rattle.aps_model.specs.declared.partition.PartitionRow.{PartitionRow}
use Rattle.aps_model.specs.declared.scenario.ThreadRow.{ThreadRow}
use Rattle.aps_model.specs.Partition.{row_or_none}
use Rattle.aps_model.specs.Scenario.{no_thread_row}
use Rattle.view_marks.specs.declared.alteration.Alteration.{Alteration}
use Rattle.view_marks.specs.declared.alteration.Altered.{Altered}
use Rattle.view_marks.specs.declared.alteration.Altered.TheVariants.{Create, Modify, SetParameters, MarkCritical, ClearCritical, Cancel}

abbrev pub thread_name : List ThreadRow → ℕ → List ℕ
thread_name threads x = (slice_index_or threads x no_thread_row).name

abbrev pub partition_row_name : List PartitionRow → ℕ → List ℕ
partition_row_name rows p = (row_or_none rows p).name

abbrev pub altered_text : List ThreadRow → List PartitionRow → Altered → List ℕ
altered_text threads rows (Create name) = codes "create " ++ name
altered_text threads rows (Modify name) = codes "modify " ++ name
altered_text threads rows SetParameters = codes "set_parameters"
altered_text threads rows (MarkCritical x) = codes "mark_critical " ++ thread_name threads x
altered_text threads rows (ClearCritical x) = codes "clear_critical " ++ thread_name threads x
altered_text threads rows (Cancel p) = codes "cancel " ++ partition_row_name rows p

-- what was altered, and whether that was refused
abbrev pub alteration_text : List ThreadRow → List PartitionRow → Alteration → List ℕ
alteration_text threads rows alteration =
    altered_text threads rows alteration.altered ++ (if alteration.refused then codes " refused" else [])
