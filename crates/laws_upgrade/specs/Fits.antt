-- Parts of which ten times as many are a number of 16 bits.
use Rattle.std.specs.Prelude.{ℕ, ◌≤◌, ⊤}
use Rattle.aps_model.specs.declared.command.Answer.{Answer}
use Rattle.aps_model.specs.declared.command.Answer.TheVariants.{Partition, Parameters, Refused}
use Rattle.aps_model.specs.declared.command.CtlRefusal.{CtlRefusal}
use Rattle.aps_model.specs.declared.command.CtlRefusal.TheVariants.{OverBudget, BadMax}
use Rattle.aps_model.specs.declared.partition.PartitionRow.{PartitionRow}

abbrev pub HasFewParts : ℕ → Type 0
HasFewParts parts = parts ≤ 6553

abbrev pub FitRow : PartitionRow → Type 0
FitRow row = HasFewParts row.budget × HasFewParts row.max

abbrev pub FitRefusal : CtlRefusal → Type 0
FitRefusal (OverBudget have) = HasFewParts have
FitRefusal (BadMax partition least) = HasFewParts least
FitRefusal why = ⊤

-- all parts of an answer
abbrev pub FitAnswer : Answer → Type 0
FitAnswer (Partition p row used critical) = FitRow row
FitAnswer (Parameters shape) = HasFewParts shape.parts
FitAnswer (Refused why) = FitRefusal why
FitAnswer answer = ⊤
