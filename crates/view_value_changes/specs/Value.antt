-- The lines by which signals take values.
use lib.Chars.{codes}
use Rattle.std.specs.Prelude.{ℕ, ◌++◌, List, Bool, Option, Some, None, if◌then◌else◌, false}
use Rattle.std.specs.Fmt.{digits}
use Rattle.aps_model.specs.declared.partition.PartitionRow.{PartitionRow}
use Rattle.aps_model.specs.declared.scenario.ThreadRow.{ThreadRow}
use Rattle.view_marks.specs.Text.{partition_row_name, thread_name}
use Rattle.view_value_changes.specs.declared.value.Value.{Value}
use Rattle.view_value_changes.specs.declared.value.Value.TheVariants.{Thread, Partition, Kind, Number, Bit}
use Rattle.view_value_changes.specs.Code.{signal_code}
use Rattle.view_value_changes.specs.Kind.{state_kind_word}

abbrev pub thread_word : List ThreadRow → Option ℕ → List ℕ
thread_word threads None = codes "-"
thread_word threads (Some x) = thread_name threads x

abbrev pub partition_word : List PartitionRow → Option ℕ → List ℕ
partition_word rows None = codes "-"
partition_word rows (Some p) = partition_row_name rows p

abbrev pub word_line : ℕ → List ℕ → List ℕ
word_line signal text = codes "s" ++ (text ++ (codes " " ++ (signal_code signal ++ codes "\n")))

-- in binary digits
abbrev pub number_line : ℕ → ℕ → List ℕ
number_line signal number = (codes "b" ++ (digits 2 false number ++ codes " ")) ++ (signal_code signal ++ codes "\n")

abbrev pub bit_line : ℕ → Bool → List ℕ
bit_line signal is_set = (if is_set then codes "1" else codes "0") ++ (signal_code signal ++ codes "\n")

-- the line by which a signal takes a value
abbrev pub value_line : List ThreadRow → List PartitionRow → ℕ → Value → List ℕ
value_line threads rows signal (Thread x) = word_line signal (thread_word threads x)
value_line threads rows signal (Partition p) = word_line signal (partition_word rows p)
value_line threads rows signal (Kind kind) = word_line signal (state_kind_word kind)
value_line threads rows signal (Number number) = number_line signal number
value_line threads rows signal (Bit is_set) = bit_line signal is_set
