-- The dues that are kept beside the entries.
use Rattle.std.specs.Prelude.{◌≡◌, ◌≢◌, ℕ, ◌<◌, ◌≤◌, List, length, slice_index, slice_set, Option, Some, None}
use Rattle.aps_model.specs.declared.entry.Entry.{Entry}
use Rattle.aps_model.specs.Due.{due}
use Rattle.aps_model.specs.SchedulerState.{SchedulerState}

-- for each processor when it steps next
abbrev pub AreDues : SchedulerState → List Entry → List ℕ → Type 0
AreDues s h dues = (d : ℕ) → d < length s.cpus → slice_index dues d ≡ due s h d

-- the same, but for one processor
abbrev pub AreOthersDues : SchedulerState → List Entry → ℕ → List ℕ → Type 0
AreOthersDues s h c dues = (d : ℕ) → d < length s.cpus → d ≢ c → slice_index dues d ≡ due s h d

-- where no processor is 0 stands, so that who looks at more than there are finds none of those later than any moment
abbrev pub AreSpare : SchedulerState → List ℕ → Type 0
AreSpare s dues = (d : ℕ) → length s.cpus ≤ d → slice_index dues d ≡ 0

-- the dues where this processor, if there is one, is due at this moment
abbrev pub dues_flagged : List ℕ → ℕ → Option ℕ → List ℕ
dues_flagged dues now None = dues
dues_flagged dues now (Some d) = slice_set dues d now

-- the dues after an entry, whose processor is due then
abbrev pub dues_after : List ℕ → Entry → ℕ → List ℕ
dues_after dues e own = slice_set (dues_flagged dues e.to e.flagged) e.cpu own
