-- The slots of one partition: what each of the last ticks was billed, the current tick first.
use Rattle.std.specs.Prelude.{ℕ, ◌+◌, ◌≤◌, List, ◌∷◌, Bool, length, take, replicate, slice_index_or, slice_set, zero, suc, if◌then◌else◌}
use Rattle.std.specs.List.{sum_by}
use Rattle.aps_window.specs.declared.slot.Slot.{Slot}
use Rattle.aps_model.specs.Limits.{longest_window, most_time_of_tick}

-- a tick with no bill
abbrev pub no_slot : Slot
no_slot = record { billed = 0; critical = 0 }

-- the slots of a partition with no bills
unfoldable pub no_slots : List Slot
no_slots = replicate longest_window no_slot

-- what the tick so many ticks ago was billed
abbrev pub slot_at : List Slot → ℕ → Slot
slot_at slots age = slice_index_or slots age no_slot

-- a slot with so much more time, critical or not
abbrev pub slot_billed : Slot → ℕ → Bool → Slot
slot_billed slot ns critical = record {
  billed = slot.billed + ns;
  critical = slot.critical + (if critical then ns else 0);
}

-- the slots with a bill in the tick so many ticks ago
abbrev pub slots_billed : List Slot → ℕ → ℕ → Bool → List Slot
slots_billed slots age ns critical = slice_set slots age (slot_billed (slot_at slots age) ns critical)

-- the slots one tick later: the oldest is gone
abbrev pub slots_rotated : List Slot → List Slot
slots_rotated slots = take (length slots) (no_slot ∷ slots)

-- the slots so many ticks later
abbrev pub slots_moved : ℕ → List Slot → List Slot
slots_moved zero slots = slots
slots_moved (suc ticks) slots = slots_rotated (slots_moved ticks slots)

-- the sums of the newest slots, so many of them
abbrev pub slots_total : ℕ → List Slot → Slot
slots_total span slots = record {
  billed = sum_by (λ (s : Slot). s.billed) (take span slots);
  critical = sum_by (λ (s : Slot). s.critical) (take span slots);
}

-- a slot holds at most the time of 16 processors in the longest tick, and no more critical time than time
pub record IsSlot (slot : Slot) : Type 0 where
  pub small : slot.billed ≤ most_time_of_tick
  pub within : slot.critical ≤ slot.billed
