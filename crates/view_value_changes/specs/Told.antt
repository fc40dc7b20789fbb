-- What the entries tell that end at one moment.
use Rattle.std.specs.Prelude.{ℕ, List, Bool, true, false, not, ◌&&◌, nat_lt, replicate, slice_set, Option, Some, None, if◌then◌else◌}
use Rattle.aps_model.specs.Limits.{most_partitions}
use Rattle.aps_model.specs.declared.entry.End.{End}
use Rattle.aps_model.specs.declared.entry.End.TheVariants.{Horizon, Limit, Reboot}
use Rattle.aps_model.specs.declared.entry.Entry.{Entry}
use Rattle.aps_model.specs.Shape.{horizon}
use Rattle.aps_core.specs.Run.{Run, end_of_run, state_of_run}
use Rattle.view_samples.specs.Picks.{had_candidate}
use Rattle.view_samples.specs.Sample.{of_each}
use Rattle.view_value_changes.specs.declared.told.Told.{Told}

abbrev pub is_reboot : Option End → Bool
is_reboot None = false
is_reboot (Some Horizon) = false
is_reboot (Some Limit) = false
is_reboot (Some (Reboot p)) = true

-- the step of the entry, which came last, went on to a pick
abbrev pub has_pick : Run → Entry → Bool
has_pick run e = nat_lt e.to (horizon (state_of_run run).shape) && not (is_reboot (end_of_run run))

-- of each partition whether it had a candidate at the last pick: that of the entry, which came last, if it made one, and else one before
abbrev pub demand_after : Run → Entry → List Bool → List Bool
demand_after run e before = if has_pick run e then of_each (had_candidate (state_of_run run) run.entries e.cpu) else before

-- nothing was told yet
abbrev pub nothing_told : Told
nothing_told = record { demand = replicate most_partitions false; overspent = replicate most_partitions false }

-- the pick of the entry, which came last, is noted
abbrev pub pick_noted : Run → Entry → Told → Told
pick_noted run e told = record { demand = demand_after run e told.demand; overspent = told.overspent }

-- an entry of this moment made partition p bankrupt
abbrev pub overspent_noted : ℕ → Told → Told
overspent_noted p told = record { demand = told.demand; overspent = slice_set told.overspent p true }

-- another moment: no entry of it made a partition bankrupt yet
abbrev pub moment_begun : Told → Told
moment_begun told = record { demand = told.demand; overspent = replicate most_partitions false }
