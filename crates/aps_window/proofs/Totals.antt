-- What a bill and a rotation make of slots and their totals.
use Rattle.std.proofs.Common.{lit≤, ◌≡◌, ℕ, ◌+◌, ◌<◌, ◌≤◌, zero, suc, List, [], ◌∷◌, Bool, true, false, length, take, set, get_or, refl, ap, arith, sum_by, if◌then◌else◌}
use Rattle.std.specs.List.{All}
use Rattle.std.proofs.Math.Seq.{take-set-lt}
use Rattle.std.proofs.lemmas.List.{get_or-take, length-take, take-set-le}
use Rattle.std.proofs.lemmas.List.Elements.{All-cons, All-get_or, All-head, All-set, All-tail, All-take, All-weaker}
use Rattle.std.proofs.lemmas.List.Sums.{sum_by-cons, sum_by-le, sum_by-set, sum_by_more}
use Rattle.aps_model.specs.Limits.{longest_window, most_critical, most_time_of_tick}
use Rattle.aps_window.specs.declared.slot.Slot.{Slot}
use Rattle.aps_window.specs.declared.account.Account.{Account}
use Rattle.aps_window.specs.Account.{IsAccount, account_of}
use Rattle.aps_window.specs.Slots.{IsSlot, no_slot, slot_at, slot_billed, slots_billed, slots_moved, slots_total}

-- each list of such slots holds no more critical time than time
pub critical_within : (slots : List Slot) → All IsSlot slots
    → sum_by (λ (s : Slot). s.critical) slots ≤ sum_by (λ (s : Slot). s.billed) slots
critical_within [] small = omega arith
critical_within (slot ∷ slots) small =
    let here : IsSlot slot = All-head IsSlot slot slots small in
    omega (
      arith,
      here.within,
      critical_within slots (All-tail IsSlot slot slots small),
      sum_by-cons (λ (s : Slot). s.critical) slot slots,
      sum_by-cons (λ (s : Slot). s.billed) slot slots,
    )

pub total_within : (span : ℕ) (slots : List Slot) → All IsSlot slots
    → (slots_total span slots).critical ≤ (slots_total span slots).billed
total_within span slots small = critical_within (take span slots) (All-take IsSlot span slots small)

pub total_small : (span : ℕ) (slots : List Slot) → span ≤ longest_window → All IsSlot slots
    → (slots_total span slots).billed ≤ most_critical
total_small span slots few small =
    let each : All (λ (s : Slot). s.billed ≤ most_time_of_tick) slots = All-weaker IsSlot (λ
    (s : Slot). s.billed ≤ most_time_of_tick) (λ s h. h.small) slots small in
    let sum = sum_by-le (λ (s : Slot). s.billed) most_time_of_tick (take span slots) (All-take (λ
    (s : Slot). s.billed ≤ most_time_of_tick) span slots each) in
    omega (arith, sum, length-take span slots)

-- a bill in a tick that counts adds to the total
time_added : (time : Slot → ℕ) (span age : ℕ) (slots : List Slot) (slot : Slot) → age < span → age < length slots
    → sum_by time (take span (set slots age slot)) + time (slot_at slots age)
    ≡ sum_by time (take span slots) + time slot
time_added time span age slots slot counts inside =
    let short : age < length (take span slots) = omega (arith, length-take span slots) in
    let there : get_or (take span slots) age no_slot
    ≡ get_or slots age no_slot = get_or-take span slots age no_slot counts in
    rw (take-set-lt span slots age slot counts, ← there) (sum_by-set time (take span slots) age slot no_slot short)

pub total_billed : (span age : ℕ) (slots : List Slot) (ns : ℕ) (critical : Bool) → age < span → age < length slots
    → slots_total span (slots_billed slots age ns critical) ≡ slot_billed (slots_total span slots) ns critical
total_billed span age slots ns critical counts inside =
    let slot = slot_billed (slot_at slots age) ns critical in
    let all : sum_by (λ (s : Slot). s.billed) (take span (set slots age slot))
    ≡ sum_by (λ (s : Slot). s.billed) (take span slots) + ns =
    omega (arith, time_added (λ (s : Slot). s.billed) span age slots slot counts inside) in
    let part : sum_by (λ (s : Slot). s.critical) (take span (set slots age slot))
    ≡ sum_by (λ (s : Slot). s.critical) (take span slots) + (if critical then ns else 0) =
    omega (arith, time_added (λ (s : Slot). s.critical) span age slots slot counts inside) in
    rw (all, part) refl

-- a bill in an older tick doesn't
pub total_kept : (span age : ℕ) (slots : List Slot) (ns : ℕ) (critical : Bool) → span ≤ age
    → slots_total span (slots_billed slots age ns critical) ≡ slots_total span slots
total_kept span age slots ns critical old =
    ap (λ (newest : List Slot). record {
      billed = sum_by (λ (s : Slot). s.billed) newest;
      critical = sum_by (λ
          (s : Slot). s.critical) newest;
    })
    (take-set-le span slots age (slot_billed (slot_at slots age) ns critical) old)

-- slots stay slots
billed_is_slot : (slot : Slot) (ns : ℕ) (critical : Bool) → IsSlot slot → slot.billed + ns ≤ most_time_of_tick
    → IsSlot (slot_billed slot ns critical)
billed_is_slot slot ns true is fits = record { small = fits; within = omega (arith, is.within) }
billed_is_slot slot ns false is fits = record { small = fits; within = omega (arith, is.within) }

pub billed_are_slots : (slots : List Slot) (age ns : ℕ) (critical : Bool) → All IsSlot slots → age < length slots
    → (slot_at slots age).billed + ns ≤ most_time_of_tick
    → All IsSlot (slots_billed slots age ns critical)
billed_are_slots slots age ns critical small inside fits =
    All-set IsSlot slots age (slot_billed (slot_at slots age) ns critical)
    (billed_is_slot (slot_at slots age) ns critical (All-get_or IsSlot slots age no_slot inside small) fits) small

pub moved_are_slots : (ticks : ℕ) (slots : List Slot) → All IsSlot slots → All IsSlot (slots_moved ticks slots)
moved_are_slots zero slots small = small
moved_are_slots (suc ticks) slots small =
    let before = slots_moved ticks slots in
    All-take IsSlot (length before) (no_slot ∷ before)
    (All-cons IsSlot no_slot before (record { small = lit≤ tt; within = lit≤ tt })
    (moved_are_slots ticks slots small))

pub length-moved : (ticks : ℕ) (slots : List Slot) → length (slots_moved ticks slots) ≡ length slots
length-moved zero slots = refl
length-moved (suc ticks) slots =
    let before = slots_moved ticks slots in
    omega (arith, length-take (length before) (no_slot ∷ before), length-moved ticks slots)

-- an account stays one
pub is_account : (span : ℕ) (slots : List Slot) → length slots ≡ longest_window → All IsSlot slots
    → IsAccount span (account_of span slots)
is_account span slots full small = record { same = refl; full = full; small = small }

-- the total of an account
pub account_total : (span : ℕ) (account : Account) → IsAccount span account
    → account.total ≡ slots_total span account.ring.items
account_total span account is = ap (λ (a : Account). a.total) is.same

pub account_small : (span : ℕ) (account : Account) → IsAccount span account → span ≤ longest_window
    → account.total.billed ≤ most_critical
account_small span account is few = rw (account_total span account is)
    (total_small span account.ring.items few is.small)

pub account_within : (span : ℕ) (account : Account) → IsAccount span account
    → account.total.critical ≤ account.total.billed
account_within span account is = rw (account_total span account is) (total_within span account.ring.items is.small)

-- so many slots and one more
pub next_billed : (age : ℕ) (slots : List Slot) → age < longest_window → length slots ≡ longest_window → All IsSlot slots
    → (slots_total age slots).billed + (slot_at slots age).billed ≤ most_critical
next_billed age slots inside full small =
    let few : age + 1 ≤ longest_window = omega arith in
    let more = sum_by_more (λ (s : Slot). s.billed) slots age no_slot (omega arith) in
    omega (arith, more, total_small (age + 1) slots few small)

pub next_critical : (age : ℕ) (slots : List Slot) → age < longest_window → length slots ≡ longest_window → All IsSlot slots
    → (slots_total age slots).critical + (slot_at slots age).critical ≤ most_critical
next_critical age slots inside full small =
    let few : age + 1 ≤ longest_window = omega arith in
    let more = sum_by_more (λ (s : Slot). s.critical) slots age no_slot (omega arith) in
    omega (arith, more, total_small (age + 1) slots few small, total_within (age + 1) slots small)
