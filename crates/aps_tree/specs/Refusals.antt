use Rattle.std.specs.Prelude.{ℕ, nat_lt, if◌then◌else◌, Option, Some, None, unwrap_or}
use Rattle.aps_model.specs.declared.partition.PartitionRow.{PartitionRow}
use Rattle.aps_model.specs.declared.partition.TreeRefusal.{TreeRefusal}
use Rattle.aps_model.specs.declared.partition.TreeRefusal.TheVariants.{BadMax}
use Rattle.aps_model.specs.Tree.{is_over_max}

-- why the maxima forbid it that row p and its parent's become these where this maximum was given, by the first cause
abbrev pub max_refusal : ℕ → ℕ → PartitionRow → ℕ → PartitionRow → Option ℕ → Option TreeRefusal
max_refusal parts p row parent parent_row max =
    if is_over_max row then Some (BadMax p row.budget)
    else if is_over_max parent_row then Some (BadMax parent parent_row.budget)
    else if nat_lt parts (unwrap_or max 0) then Some (BadMax p row.budget)
    else None
