-- Bills, and their sums over ticks.
use Rattle.std.specs.Prelude.{ℕ, List, Bool, ◌&&◌, nat_eq, nat_le, nat_lt, if◌then◌else◌}
use Rattle.std.specs.List.{sum_by}

-- so much time of a partition in a tick, critical or not
pub record Bill : Type 0 where
  pub partition : ℕ
  pub tick : ℕ
  pub ns : ℕ
  pub critical : Bool

-- the time of a bill
abbrev pub all_time : Bill → ℕ
all_time bill = bill.ns

-- what of it is critical
abbrev pub critical_time : Bill → ℕ
critical_time bill = if bill.critical then bill.ns else 0

-- whether it is a bill of partition p in ticks a to b-1
abbrev pub lies_in : ℕ → ℕ → ℕ → Bill → Bool
lies_in p a b bill = nat_eq bill.partition p && (nat_le a bill.tick && nat_lt bill.tick b)

-- such time of a bill, if it is one of partition p in ticks a to b-1
abbrev pub time_in : (Bill → ℕ) → ℕ → ℕ → ℕ → Bill → ℕ
time_in time p a b bill = if lies_in p a b bill then time bill else 0

-- what the bills give partition p in ticks a to b-1
abbrev pub bills_used : List Bill → ℕ → ℕ → ℕ → ℕ
bills_used bills p a b = sum_by (time_in all_time p a b) bills

-- what critical time they give it there
abbrev pub bills_critical : List Bill → ℕ → ℕ → ℕ → ℕ
bills_critical bills p a b = sum_by (time_in critical_time p a b) bills
