-- The bills that entries are, where each lies within one tick.
use Rattle.std.specs.Prelude.{ℕ, ◌-◌, ◌/◌, ◌≤◌, List, [], ◌∷◌, nat_lt, if◌then◌else◌, Option, Some, None}
use Rattle.std.specs.List.{All, fold}
use Rattle.aps_model.specs.declared.entry.Entry.{Entry}
use Rattle.aps_model.specs.Due.{next_boundary}
use Rattle.aps_window.specs.Bills.{Bill}

-- the time of an entry as a bill of the partition, in the tick in which it begins
abbrev pub bill_to : ℕ → Entry → ℕ → Bill
bill_to tick e p = record { partition = p; tick = e.from / tick; ns = e.to - e.from; critical = e.critical }

-- the bills with that of an entry in front, where it bills this and takes any time
abbrev pub with_billed : ℕ → List Bill → Entry → Option ℕ → List Bill
with_billed tick bills e None = bills
with_billed tick bills e (Some p) = if nat_lt e.from e.to then bill_to tick e p ∷ bills else bills

abbrev pub bills_with_entry : ℕ → List Bill → Entry → List Bill
bills_with_entry tick bills e = with_billed tick bills e e.billed

-- the bills of these entries, the newest first
abbrev pub bills_of : ℕ → List Entry → List Bill
bills_of tick h = fold (bills_with_entry tick) [] h

-- the entry crosses no boundary
abbrev pub IsInOneTick : ℕ → Entry → Type 0
IsInOneTick tick e = e.to ≤ next_boundary tick e.from

-- and neither does any of these
abbrev pub AreInOneTick : ℕ → List Entry → Type 0
AreInOneTick tick h = All (IsInOneTick tick) h
