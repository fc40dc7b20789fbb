-- What a dump tells at a moment: all values at the first one, and later those that changed.
use lib.Chars.{codes}
use Rattle.std.specs.Prelude.{ℕ, suc, ◌++◌, List, [], ◌∷◌, length, min, Bool, false, not, ◌&&◌, ◌||◌, nat_eq, slice_index_or, Option, Some, None, if◌then◌else◌}
use Rattle.std.specs.List.{flat_map, enumerate_from, list_any, range_with_len}
use Rattle.std.specs.Fmt.{decimal}
use Rattle.aps_model.specs.declared.partition.PartitionRow.{PartitionRow}
use Rattle.aps_model.specs.declared.scenario.ThreadRow.{ThreadRow}
use Rattle.view_value_changes.specs.declared.kind.Kind.{Kind as State}
use Rattle.view_value_changes.specs.declared.kind.Kind.TheVariants.{Ready, Running, Sleeping, Sending, Receiving, Replying, Gone}
use Rattle.view_value_changes.specs.declared.value.Value.{Value}
use Rattle.view_value_changes.specs.declared.value.Value.TheVariants.{Thread, Partition, Kind, Number, Bit}
use Rattle.view_value_changes.specs.Value.{value_line}

-- ---- values are the same where they are of one sort, and have one number there

abbrev pub sort : Value → ℕ
sort (Thread x) = 0
sort (Partition p) = 1
sort (Kind kind) = 2
sort (Number n) = 3
sort (Bit is_set) = 4

abbrev pub id_number : Option ℕ → ℕ
id_number None = 0
id_number (Some n) = suc n

abbrev pub state_number : State → ℕ
state_number Ready = 0
state_number Running = 1
state_number Sleeping = 2
state_number Sending = 3
state_number Receiving = 4
state_number Replying = 5
state_number Gone = 6

abbrev pub number_of_value : Value → ℕ
number_of_value (Thread x) = id_number x
number_of_value (Partition p) = id_number p
number_of_value (Kind kind) = state_number kind
number_of_value (Number n) = n
number_of_value (Bit is_set) = if is_set then 1 else 0

abbrev pub is_same : Value → Value → Bool
is_same before now = nat_eq (sort before) (sort now) && nat_eq (number_of_value before) (number_of_value now)

-- ---- the first moment

abbrev pub signal_value : List ThreadRow → List PartitionRow → ℕ × Value → List ℕ
signal_value threads rows (signal, value) = value_line threads rows signal value

abbrev pub all_text : List ThreadRow → List PartitionRow → ℕ → List Value → List ℕ
all_text threads rows moment values =
    (codes "#" ++ (decimal moment ++ codes "\n$dumpvars\n"))
    ++ (flat_map (signal_value threads rows) (enumerate_from 0 values) ++ codes "$end\n")

-- ---- a later one

abbrev pub value_at : List Value → ℕ → Value
value_at values signal = slice_index_or values signal (Bit false)

abbrev pub changes : List Value → List Value → ℕ → Bool
changes before now signal = not (is_same (value_at before signal) (value_at now signal))

abbrev pub signals_in : List Value → List Value → List ℕ
signals_in before now = range_with_len 0 (min (length now) (length before))

-- some signal changes
abbrev pub is_other : List Value → List Value → Bool
is_other before now = list_any (changes before now) (signals_in before now)

abbrev pub change_line : List ThreadRow → List PartitionRow → ℕ → Value → Value → List ℕ
change_line threads rows signal before now = if is_same before now then [] else value_line threads rows signal now

abbrev pub change_at : List ThreadRow → List PartitionRow → List Value → List Value → ℕ → List ℕ
change_at threads rows before now signal = change_line threads rows signal (value_at before signal) (value_at now signal)

-- the signals that change
abbrev pub changes_text : List ThreadRow → List PartitionRow → List Value → List Value → List ℕ
changes_text threads rows before now = flat_map (change_at threads rows before now) (signals_in before now)

-- ---- either

-- a moment without a change is left out, but for the last
abbrev pub text_at : List ThreadRow → List PartitionRow → ℕ → Bool → List Value → List Value → List ℕ
text_at threads rows moment is_last [] now = all_text threads rows moment now
text_at threads rows moment is_last (b ∷ bs) now =
    if is_last || is_other (b ∷ bs) now then (codes "#" ++ (decimal moment ++ codes "\n")) ++ changes_text threads rows (b ∷ bs) now else []
