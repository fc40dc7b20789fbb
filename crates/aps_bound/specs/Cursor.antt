-- A tick's place among entries in order of ticks.
use Rattle.std.specs.Prelude.{◌≡◌, ℕ, ◌+◌, ◌*◌, ◌<◌, ◌≤◌, List, All, length, take, slice_index_or}
use Rattle.aps_model.specs.declared.entry.Entry.{Entry}
use Rattle.aps_model.specs.Usage.{critical_used, used}
use Rattle.aps_bound.specs.declared.cursor.Cursor.{Cursor}

-- the entries before the place ended by the beginning of the tick, which has so many ns, and the one there didn't
pub record IsCursor (ns : ℕ) (entries : List Entry) (cursor : Cursor) : Type 0 where
  pub within : cursor.place ≤ length entries
  pub past : All (λ (e : Entry). e.to ≤ cursor.tick * ns) (take cursor.place entries)
  pub next : (d : Entry) → cursor.place < length entries → cursor.tick * ns < (slice_index_or entries cursor.place d).to

-- the entry lies in that tick
pub record IsInTick (ns tick : ℕ) (e : Entry) : Type 0 where
  pub begins : tick * ns ≤ e.from
  pub ends : e.to ≤ (tick + 1) * ns

-- in that tick each partition used as much by some of the entries as by all
pub record HasAllOf (ns tick : ℕ) (entries some : List Entry) : Type 0 where
  pub used : (p : ℕ) → used ns some p tick (tick + 1) ≡ used ns entries p tick (tick + 1)
  pub critical : (p : ℕ) → critical_used ns some p tick (tick + 1) ≡ critical_used ns entries p tick (tick + 1)
