-- Standing, bankruptcy, and what each policy makes of it.
use Rattle.std.specs.Prelude.{ℕ, List, nat_lt, if◌then◌else◌}
use Rattle.aps_model.specs.declared.partition.PartitionRow.{PartitionRow}
use Rattle.aps_model.specs.declared.shape.Bankruptcy.{Bankruptcy}
use Rattle.aps_model.specs.declared.shape.Bankruptcy.TheVariants.{Basic, Cancel, Reboot}
use Rattle.aps_model.specs.Tree.{rows_cancelled}
use Rattle.aps_critical.specs.declared.Bill.{Bill}
use Rattle.aps_critical.specs.declared.Bill.TheVariants.{Fine, Bankrupt}
use Rattle.aps_critical.specs.declared.Effect.{Effect}
use Rattle.aps_critical.specs.declared.Effect.TheVariants.{Keep, Cancelled, Reboot as RebootEffect}

-- the verdict on critical usage against the critical budget: bankrupt exactly where it exceeds it
abbrev pub verdict : ℕ → ℕ → Bill
verdict used budget = if nat_lt budget used then Bankrupt used budget else Fine

-- what the policy answers to a bankruptcy
abbrev pub effect_of : Bankruptcy → Effect
effect_of Basic = Keep
effect_of Cancel = Cancelled
effect_of Reboot = RebootEffect

-- the rows after the bankruptcy of partition p: only `cancel` changes them
abbrev pub rows_after : Bankruptcy → List PartitionRow → ℕ → List PartitionRow
rows_after Basic rows p = rows
rows_after Cancel rows p = rows_cancelled rows p
rows_after Reboot rows p = rows
