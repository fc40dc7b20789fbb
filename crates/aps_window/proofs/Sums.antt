-- Sums of bills over ticks.
use Rattle.std.proofs.Common.{◌≡◌, ℕ, ◌+◌, ◌-◌, ◌<◌, ◌≤◌, zero, suc, List, [], ◌∷◌, length, take, refl, sym, add-one, arith, sum_by, nat_eq, nat_le, nat_lt, ◌&&◌, ◌⊎◌, ◌≢◌, if◌then◌else◌}
use Rattle.std.specs.List.{All}
use Rattle.std.proofs.lemmas.Bool.Decides.{nat_tests}
use Rattle.std.proofs.lemmas.List.Elements.{All-head, All-tail}
use Rattle.std.proofs.lemmas.List.Sums.{sum_by-cons, sum_by_more}
use Rattle.aps_window.specs.declared.slot.Slot.{Slot}
use Rattle.aps_window.specs.Bills.{Bill, time_in}
use Rattle.aps_window.specs.Slots.{no_slot, slot_at}

-- one bill lies in the first ticks or in the rest
time_joined : (n p q a b c k : ℕ) → a ≤ b → b ≤ c
    → (if nat_eq q p && (nat_le a k && nat_lt k c) then n else 0)
    ≡ (if nat_eq q p && (nat_le a k && nat_lt k b) then n else 0) + (if nat_eq q p &&
    (nat_le b k && nat_lt k c) then n else 0)
time_joined n p q a b c k ab bc = grind (arith, nat_tests)

pub sum_joined : (time : Bill → ℕ) (p a b c : ℕ) (bills : List Bill) → a ≤ b → b ≤ c
    → sum_by (time_in time p a c) bills ≡ sum_by (time_in time p a b) bills + sum_by (time_in time p b c) bills
sum_joined time p a b c [] ab bc = refl
sum_joined time p a b c (bill ∷ bills) ab bc =
    omega (
      arith,
      time_joined (time bill) p bill.partition a b c bill.tick ab bc,
      sum_joined time p a b c bills ab bc,
      sum_by-cons (time_in time p a c) bill bills,
      sum_by-cons (time_in time p a b) bill bills,
      sum_by-cons (time_in time p b c) bill bills,
    )

-- a bill of an earlier tick adds nothing
time_past : (n p q a b k : ℕ) → k < a → (if nat_eq q p && (nat_le a k && nat_lt k b) then n else 0) ≡ 0
time_past n p q a b k h = grind (arith, nat_tests)

pub sum_past : (time : Bill → ℕ) (p now a b : ℕ) (bills : List Bill) → All (λ bill. bill.tick ≤ now) bills → now < a
    → sum_by (time_in time p a b) bills ≡ 0
sum_past time p now a b [] past later = refl
sum_past time p now a b (bill ∷ bills) past later =
    let here : bill.tick ≤ now = All-head (λ bill. bill.tick ≤ now) bill bills past in
    omega (
      arith,
      time_past (time bill) p bill.partition a b bill.tick (omega arith),
      sum_past time p now a b bills (All-tail (λ bill. bill.tick ≤ now) bill bills past) later,
      sum_by-cons (time_in time p a b) bill bills,
    )

-- no ticks hold nothing
time_nowhere : (n p q a k : ℕ) → (if nat_eq q p && (nat_le a k && nat_lt k a) then n else 0) ≡ 0
time_nowhere n p q a k = grind (arith, nat_tests)

pub sum_nowhere : (time : Bill → ℕ) (p a : ℕ) (bills : List Bill) → sum_by (time_in time p a a) bills ≡ 0
sum_nowhere time p a [] = refl
sum_nowhere time p a (bill ∷ bills) =
    omega (
      arith,
      time_nowhere (time bill) p bill.partition a bill.tick,
      sum_nowhere time p a bills,
      sum_by-cons (time_in time p a a) bill bills,
    )

-- a bill in the tick that it is asked for, in another tick, and of another partition
pub time_here : (n p a b k : ℕ) → a ≤ k → k < b → (if nat_eq p p && (nat_le a k && nat_lt k b) then n else 0) ≡ n
time_here n p a b k ak kb = grind (arith, nat_tests)

pub time_elsewhere : (n p q a b k : ℕ) → (k < a) ⊎ (b ≤ k)
    → (if nat_eq q p && (nat_le a k && nat_lt k b) then n else 0) ≡ 0
time_elsewhere n p q a b k h = grind (arith, nat_tests)

pub time_of_others : (n p q a b k : ℕ) → q ≢ p → (if nat_eq q p && (nat_le a k && nat_lt k b) then n else 0) ≡ 0
time_of_others n p q a b k h = grind (arith, nat_tests)

-- where each slot is the sum of its tick, the sum of the newest slots is that of their ticks
pub sum_of_slots : (part : Slot → ℕ) (time : Bill → ℕ) (p now n : ℕ) (slots : List Slot) (bills : List Bill)
    → n ≤ length slots
    → ((age : ℕ) → age < length slots
    → part (slot_at slots age) ≡ sum_by (time_in time p (now - age) (now + 1 - age)) bills)
    → sum_by part (take n slots) ≡ sum_by (time_in time p (now + 1 - n) (now + 1)) bills
sum_of_slots part time p now zero slots bills short each =
    let none : now + 1 - 0 ≡ now + 1 = omega arith in
    rw none (sym (sum_nowhere time p (now + 1) bills))
sum_of_slots part time p now (suc n) slots bills short each =
    let inside : n < length slots = omega arith in
    let first : now + 1 - suc n ≡ now - n = omega arith in
    let so_far = sum_of_slots part time p now n slots bills (omega arith) each in
    let more = sum_by_more part slots n no_slot inside in
    let joined = sum_joined time p (now - n) (now + 1 - n) (now + 1) bills (omega arith) (omega arith) in
    rw (first, ← add-one n) (omega (arith, so_far, more, joined, each n inside))
