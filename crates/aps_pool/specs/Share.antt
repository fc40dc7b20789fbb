-- What entries say of time, partitions and threads.
use Rattle.std.specs.Prelude.{ℕ, ◌-◌, List, ◌&&◌, nat_lt, if◌then◌else◌}
use Rattle.std.specs.List.{sum_by}
use Rattle.aps_model.specs.declared.entry.Entry.{Entry}
use Rattle.aps_model.specs.Usage.{names}

-- how long the entry lasts
abbrev pub lasts : Entry → ℕ
lasts e = e.to - e.from

-- how long the entries last together
abbrev pub time_of_entries : List Entry → ℕ
time_of_entries entries = sum_by lasts entries

-- what the entry bills to the partition
abbrev pub billed_to : ℕ → Entry → ℕ
billed_to p e = if names e.billed p then lasts e else 0

-- what the entries bill to the partition
abbrev pub time_billed : ℕ → List Entry → ℕ
time_billed p entries = sum_by (billed_to p) entries

-- 1 where the thread ran in the entry, for longer than no time, else 0
abbrev pub step_with : ℕ → Entry → ℕ
step_with x e = if names e.ran x && nat_lt e.from e.to then 1 else 0

-- how many such entries there are
abbrev pub steps_with : ℕ → List Entry → ℕ
steps_with x entries = sum_by (step_with x) entries
