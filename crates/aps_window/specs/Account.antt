-- A partition's ring of slots with its total.
use Rattle.std.specs.Prelude.{◌≡◌, ℕ, List, length}
use Rattle.std.specs.List.{All}
use Rattle.circular_buffer.specs.Buffer.{buffer}
use Rattle.aps_window.specs.declared.slot.Slot.{Slot}
use Rattle.aps_window.specs.declared.account.Account.{Account}
use Rattle.aps_window.specs.Slots.{IsSlot, no_slot, no_slots, slots_moved, slots_total}
use Rattle.aps_model.specs.Limits.{longest_window}

-- the account with these slots, whose total is of the newest
abbrev pub account_of : ℕ → List Slot → Account
account_of span slots = record { ring = buffer slots longest_window; total = slots_total span slots }

-- the slots of an account
abbrev pub slots_in : Account → List Slot
slots_in account = account.ring.items

-- the account so many ticks later
abbrev pub account_moved : ℕ → ℕ → Account → Account
account_moved ticks span account = account_of span (slots_moved ticks account.ring.items)

-- the account where another number of slots counts
abbrev pub account_resized : ℕ → Account → Account
account_resized span account = account_of span account.ring.items

-- the account with no bill
abbrev pub no_account : Account
no_account = record { ring = buffer no_slots longest_window; total = no_slot }

abbrev pub IsUnused : Account → Type 0
IsUnused account = account ≡ no_account

-- an account has 400 slots, and its total is that of the newest
pub record IsAccount (span : ℕ) (account : Account) : Type 0 where
  pub same : account ≡ account_of span account.ring.items
  pub full : length account.ring.items ≡ longest_window
  pub small : All IsSlot account.ring.items
