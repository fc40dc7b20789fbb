use Rattle.std.specs.Prelude.{List, Bool, true, false, Option, Some, None}
use Rattle.std.specs.Option.{option_map}
use Rattle.aps_model.specs.declared.command.Call.{Call}
use Rattle.aps_model.specs.declared.command.Call.TheVariants.{Modify}
use Rattle.aps_model.specs.declared.command.Answer.{Answer}
use Rattle.aps_model.specs.declared.command.Answer.TheVariants.{Created, Modified, Set, Marked, Cleared}
use Rattle.aps_model.specs.declared.command.ChangeKind.{ChangeKind}
use Rattle.aps_model.specs.declared.command.ChangeKind.TheVariants.{Created as RowCreated, Modified as RowModified, Parameters as ParametersSet}
use Rattle.aps_model.specs.declared.partition.PartitionRow.{PartitionRow}
use Rattle.aps_model.specs.Partition.{partition_named}

-- the mark that a command sets which answers so
abbrev pub mark_by : Answer → Option Bool
mark_by Marked = Some true
mark_by Cleared = Some false
mark_by answer = None

-- the change of the row that a modify names
abbrev pub row_change : Call → List PartitionRow → Option ChangeKind
row_change (Modify partition budget critical max) rows = option_map RowModified (partition_named rows partition)
row_change call rows = None

-- the change that a command makes which answers so and leaves these rows
abbrev pub change_by : Call → Answer → List PartitionRow → Option ChangeKind
change_by call (Created p) rows = Some (RowCreated p)
change_by call Modified rows = row_change call rows
change_by call Set rows = Some ParametersSet
change_by call answer rows = None
