-- Each call keeps what a window stands for.
use Rattle.std.proofs.Common.{◌≡◌, ℕ, ◌+◌, ◌-◌, ◌<◌, ◌≤◌, ◌≢◌, ◌⊎◌, inl, inr, zero, suc, List, [], ◌∷◌, Bool, true, false, length, length-set, refl, sym, ap, ◌∙◌, arith, sum_by, subst, if◌then◌else◌}
use Rattle.std.specs.List.{All}
use Rattle.std.proofs.lemmas.Bool.{cases_lt, cases_order}
use Rattle.std.proofs.lemmas.Grind.{get_or-set_at}
use Rattle.std.proofs.lemmas.List.{get_or-map, get_or-replicate, get_or-set_other, get_or-take, length-map, length-replicate, length-take, set_past}
use Rattle.std.proofs.lemmas.List.Elements.{All-cons, All-get_or, All-map, All-nil, All-replicate, All-set, All-weaker}
use Rattle.std.proofs.lemmas.List.Sums.{sum_by-cons, sum_by-le-sum_by}
use Rattle.aps_model.specs.Limits.{longest_window, most_partitions, most_time_of_tick}
use Rattle.aps_window.specs.declared.slot.Slot.{Slot}
use Rattle.aps_window.specs.Bills.{Bill, all_time, critical_time, lies_in, time_in}
use Rattle.aps_window.specs.Slots.{no_slot, no_slots, slot_at, slot_billed, slots_billed, slots_rotated}
use Rattle.aps_window.specs.StandsFor.{StandsFor}
use Rattle.aps_window.specs.Whole.{IsWholeWindow}
use Rattle.aps_window.specs.Window.{Window, advanced, window_billed, billed_on, opened, resized, rotated, slots_of, total_of}
use Rattle.aps_window.proofs.Sums.{sum_of_slots, sum_past, time_elsewhere, time_here, time_of_others}

-- two numbers are equal or not
nat_cases : (a b : ℕ) → (a ≡ b) ⊎ (a ≢ b)
nat_cases a b = elim (cases_order a b) [
  | inl same ↦ inl same
  | inr other ↦ elim other [ inl less ↦ inr (λ e. omega arith) | inr more ↦ inr (λ e. omega arith) ]
]

-- a tick of another age lies before or after
away_from : (now tick age : ℕ) → tick ≤ now → age ≢ now - tick → (tick < now - age) ⊎ (now + 1 - age ≤ tick)
away_from now tick age past other = elim (cases_order tick (now - age)) [
  | inl same ↦ inr (omega arith)
  | inr differ ↦ elim differ [ inl less ↦ inl less | inr more ↦ inr (omega arith) ]
]

pub full_of : (window : Window) (p : ℕ) → IsWholeWindow window → p < most_partitions → length (slots_of window p) ≡ longest_window
full_of window p whole inside =
    All-get_or (λ (slots : List Slot). length slots ≡ longest_window) window.slots p [] (omega (arith, whole.count)) whole.full

-- at the start
opened_slot : (span p age : ℕ) → p < most_partitions → age < longest_window → slot_at (slots_of (opened span) p) age ≡ no_slot
unfolding no_slots
opened_slot span p age inside kept =
    ap (λ (slots : List Slot). slot_at slots age) (get_or-replicate most_partitions p no_slots [] inside)
    ∙ get_or-replicate longest_window age no_slot no_slot kept

pub opened_stands : (span : ℕ) → StandsFor (opened span) []
opened_stands span = record {
  past = All-nil (λ (bill : Bill). bill.tick ≤ 0);
  used = λ p age inside kept. ap (λ (slot : Slot). slot.billed) (opened_slot span p age inside kept);
  critical = λ p age inside kept. ap (λ (slot : Slot). slot.critical) (opened_slot span p age inside kept);
}

-- after a rotation
rotated_slot : (window : Window) (p age : ℕ) → IsWholeWindow window → p < most_partitions → suc age < longest_window
    → slot_at (slots_of (rotated window) p) (suc age) ≡ slot_at (slots_of window p) age
rotated_slot window p age whole inside kept =
    let slots = slots_of window p in
    let short : suc age < length slots = omega (arith, full_of window p whole inside) in
    ap (λ (slots : List Slot). slot_at slots (suc age)) (get_or-map slots_rotated window.slots p [] [] (omega (
      arith,
      whole.count,
    )))
    ∙ get_or-take (length slots) (no_slot ∷ slots) (suc age) no_slot short

rotated_first : (window : Window) (p : ℕ) → IsWholeWindow window → p < most_partitions
    → slot_at (slots_of (rotated window) p) 0 ≡ no_slot
rotated_first window p whole inside =
    let slots = slots_of window p in
    let some : 0 < length slots = omega (arith, full_of window p whole inside) in
    ap (λ (slots : List Slot). slot_at slots 0) (get_or-map slots_rotated window.slots p [] [] (omega (
      arith,
      whole.count,
    )))
    ∙ get_or-take (length slots) (no_slot ∷ slots) 0 no_slot some

rotated_part : (part : Slot → ℕ) (time : Bill → ℕ) (window : Window) (bills : List Bill) → IsWholeWindow window
    → part no_slot ≡ 0
    → All (λ (bill : Bill). bill.tick ≤ window.tick) bills
    → ((p age : ℕ) → p < most_partitions → age < longest_window
    → part (slot_at (slots_of window p) age)
    ≡ sum_by (time_in time p (window.tick - age) (window.tick + 1 - age)) bills)
    → (p age : ℕ) → p < most_partitions → age < longest_window
    → part (slot_at (slots_of (rotated window) p) age)
    ≡ sum_by (time_in time p (window.tick + 1 - age) (window.tick + 1 + 1 - age)) bills
rotated_part part time window bills whole none past each p zero inside kept =
    let now : window.tick + 1 - 0 ≡ window.tick + 1 = omega arith in
    ap part (rotated_first window p whole inside) ∙ none
    ∙ sym (sum_past time p window.tick (window.tick + 1 - 0) (window.tick + 1 + 1 - 0) bills past (omega arith))
rotated_part part time window bills whole none past each p (suc age) inside kept =
    let from : window.tick + 1 - suc age ≡ window.tick - age = omega arith in
    let to : window.tick + 1 + 1 - suc age ≡ window.tick + 1 - age = omega arith in
    ap part (rotated_slot window p age whole inside kept)
    ∙ each p age inside (omega arith)
    ∙ (λ i. sum_by (time_in time p (sym from i) (sym to i)) bills)

pub rotated_stands : (window : Window) (bills : List Bill) → IsWholeWindow window → StandsFor window bills
    → StandsFor (rotated window) bills
rotated_stands window bills whole stands = record {
  past = All-weaker (λ (bill : Bill). bill.tick ≤ window.tick) (λ (bill : Bill). bill.tick ≤ window.tick + 1)
      (λ bill h. omega arith) bills stands.past;
  used = rotated_part (λ (slot : Slot). slot.billed) all_time window bills whole refl stands.past stands.used;
  critical = rotated_part (λ (slot : Slot). slot.critical) critical_time window bills whole refl stands.past
      stands.critical;
}

pub rotated_whole : (window : Window) → IsWholeWindow window → IsWholeWindow (rotated window)
rotated_whole window whole = record {
  count = length-map window.slots slots_rotated ∙ whole.count;
  full = All-map (λ (slots : List Slot). length slots ≡ longest_window) slots_rotated window.slots
      (All-weaker (λ (slots : List Slot). length slots ≡ longest_window) (λ (slots : List Slot). length (slots_rotated slots)
      ≡ longest_window)
      (λ slots h. omega (arith, h, length-take (length slots) (no_slot ∷ slots))) window.slots whole.full);
}

pub advanced_whole : (ticks : ℕ) (window : Window) → IsWholeWindow window → IsWholeWindow (advanced ticks window)
advanced_whole zero window whole = whole
advanced_whole (suc ticks) window whole = rotated_whole (advanced ticks window) (advanced_whole ticks window whole)

pub advanced_stands : (ticks : ℕ) (window : Window) (bills : List Bill) → IsWholeWindow window → StandsFor window bills
    → StandsFor (advanced ticks window) bills
advanced_stands zero window bills whole stands = stands
advanced_stands (suc ticks) window bills whole stands =
    rotated_stands (advanced ticks window) bills (advanced_whole ticks window whole)
    (advanced_stands ticks window bills whole stands)

pub opened_whole : (span : ℕ) → IsWholeWindow (opened span)
unfolding no_slots
opened_whole span = record {
  count = length-replicate most_partitions no_slots;
  full = All-replicate (λ (slots : List Slot). length slots ≡ longest_window) most_partitions no_slots (length-replicate longest_window no_slot);
}

-- also where there is no such partition
pub billed_whole : (window : Window) (p tick ns : ℕ) (critical : Bool) → IsWholeWindow window
    → IsWholeWindow (window_billed window p tick ns critical)
billed_whole window p tick ns critical whole =
    let slots = slots_of window p in
    let next = slots_billed slots (window.tick - tick) ns critical in
    record {
      count = length-set window.slots p next ∙ whole.count;
      full = elim (cases_lt p (length window.slots)) [
        | inl inside ↦ All-set (λ (slots : List Slot). length slots ≡ longest_window) window.slots p next
            (length-set slots (window.tick - tick) (slot_billed (slot_at slots (window.tick - tick)) ns critical)
            ∙ full_of window p whole (omega (arith, whole.count, inside))) whole.full
        | inr past ↦ subst (All (λ (slots : List Slot). length slots ≡ longest_window)) (sym (set_past window.slots p next past))
            whole.full
      ];
    }

-- the span doesn't show in what a window stands for
pub resized_stands : (span : ℕ) (window : Window) (bills : List Bill) → StandsFor window bills
    → StandsFor (resized span window) bills
resized_stands span window bills stands = record {
  past = stands.past;
  used = stands.used;
  critical = stands.critical;
}

-- after a bill
billed_there : (window : Window) (p tick ns : ℕ) (critical : Bool) → IsWholeWindow window → p < most_partitions
    → slots_of (window_billed window p tick ns critical) p
    ≡ slots_billed (slots_of window p) (window.tick - tick) ns critical
billed_there window p tick ns critical whole inside =
    get_or-set_at window.slots p p (slots_billed (slots_of window p) (window.tick - tick) ns critical) [] refl
    (omega (arith, whole.count))

billed_slot : (window : Window) (p tick ns : ℕ) (critical : Bool) → IsWholeWindow window → p < most_partitions → window.tick - tick < longest_window
    → (age : ℕ) → age ≡ window.tick - tick
    → slot_at (slots_of (window_billed window p tick ns critical) p) age
    ≡ slot_billed (slot_at (slots_of window p) age) ns critical
billed_slot window p tick ns critical whole inside kept age here =
    let slots = slots_of window p in
    let short : window.tick - tick < length slots = omega (arith, full_of window p whole inside) in
    ap (λ (slots : List Slot). slot_at slots age) (billed_there window p tick ns critical whole inside)
    ∙ get_or-set_at slots (window.tick - tick) age (slot_billed (slot_at slots
    (window.tick - tick)) ns critical) no_slot here short
    ∙ ap (λ (age : ℕ). slot_billed (slot_at slots age) ns critical) (sym here)

other_slot : (window : Window) (p tick ns : ℕ) (critical : Bool) → IsWholeWindow window → p < most_partitions
    → (age : ℕ) → age ≢ window.tick - tick
    → slot_at (slots_of (window_billed window p tick ns critical) p) age ≡ slot_at (slots_of window p) age
other_slot window p tick ns critical whole inside age other =
    let slots = slots_of window p in
    ap (λ (slots : List Slot). slot_at slots age) (billed_there window p tick ns critical whole inside)
    ∙ get_or-set_other slots (window.tick - tick) age (slot_billed (slot_at slots
    (window.tick - tick)) ns critical) no_slot other

other_slots : (window : Window) (q tick ns : ℕ) (critical : Bool) (p : ℕ) → p ≢ q
    → slots_of (window_billed window q tick ns critical) p ≡ slots_of window p
other_slots window q tick ns critical p other =
    get_or-set_other window.slots q p (slots_billed (slots_of window q) (window.tick - tick) ns critical) [] other

billed_part : (part : Slot → ℕ) (time : Bill
    → ℕ) (window : Window) (bills : List Bill) (q tick ns : ℕ) (critical : Bool)
    → IsWholeWindow window → q < most_partitions → tick ≤ window.tick → window.tick < tick + longest_window
    → ((slot : Slot) → part (slot_billed slot ns critical)
    ≡ time (record { partition = q; tick = tick; ns = ns; critical = critical }) + part slot)
    → ((p age : ℕ) → p < most_partitions → age < longest_window
    → part (slot_at (slots_of window p) age)
    ≡ sum_by (time_in time p (window.tick - age) (window.tick + 1 - age)) bills)
    → (p age : ℕ) → p < most_partitions → age < longest_window
    → part (slot_at (slots_of (window_billed window q tick ns critical) p) age)
    ≡ sum_by (time_in time p (window.tick - age) (window.tick + 1 - age))
    (record { partition = q; tick = tick; ns = ns; critical = critical } ∷ bills)
billed_part part time window bills q tick ns critical whole inside past kept adds each p age inside-p kept-age =
    let bill : Bill = record { partition = q; tick = tick; ns = ns; critical = critical } in
    let from = window.tick - age in
    let to = window.tick + 1 - age in
    let sum = sum_by-cons (time_in time p from to) bill bills in
    let before = each p age inside-p kept-age in
    elim (nat_cases p q) [
      | inl same ↦ elim (nat_cases age (window.tick - tick)) [
        | inl here ↦
            let mine : slot_at (slots_of (window_billed window q tick ns critical) p) age
            ≡ slot_billed (slot_at (slots_of window p) age) ns critical =
            subst (λ (r : ℕ). slot_at (slots_of (window_billed window q tick ns critical) r) age
            ≡ slot_billed (slot_at (slots_of window r) age) ns critical) (sym same)
            (billed_slot window q tick ns critical whole inside (omega arith) age here) in
            let counted : time_in time p from to bill ≡ time bill =
            subst (λ (r : ℕ). time_in time r from to bill
            ≡ time bill) (sym same) (time_here (time bill) q from to tick (omega arith) (omega arith)) in
            omega (arith, ap part mine, adds (slot_at (slots_of window p) age), counted, sum, before)
        | inr other ↦
            let mine : slot_at (slots_of (window_billed window q tick ns critical) p) age ≡ slot_at (slots_of window p) age =
            subst (λ (r : ℕ). slot_at (slots_of (window_billed window q tick ns critical) r) age
            ≡ slot_at (slots_of window r) age) (sym same)
            (other_slot window q tick ns critical whole inside age other) in
            let away : (tick < from) ⊎ (to ≤ tick) = away_from window.tick tick age past other in
            let counted : time_in time p from to bill ≡ 0 = time_elsewhere (time bill) p q from to tick away in
            omega (arith, ap part mine, counted, sum, before)
      ]
      | inr other ↦
          let mine = other_slots window q tick ns critical p other in
          let counted : time_in time p from to bill
          ≡ 0 = time_of_others (time bill) p q from to tick (λ e. other (sym e)) in
          omega (arith, ap (λ (slots : List Slot). part (slot_at slots age)) mine, counted, sum, before)
    ]

pub billed_stands : (window : Window) (bills : List Bill) (p tick ns : ℕ) (critical : Bool)
    → IsWholeWindow window → p < most_partitions → tick ≤ window.tick → window.tick < tick + longest_window
    → StandsFor window bills
    → StandsFor (window_billed window p tick ns critical)
    (record { partition = p; tick = tick; ns = ns; critical = critical } ∷ bills)
billed_stands window bills p tick ns critical whole inside past kept stands =
    let bill : Bill = record { partition = p; tick = tick; ns = ns; critical = critical } in
    record {
      past = All-cons (λ (bill : Bill). bill.tick ≤ window.tick) bill bills past stands.past;
      used = billed_part (λ (slot : Slot). slot.billed) all_time window bills p tick ns critical whole inside past
          kept
          (λ slot. omega arith) stands.used;
      critical = billed_part (λ (slot : Slot). slot.critical) critical_time window bills p tick ns critical whole
          inside past kept
          (λ slot. omega arith) stands.critical;
    }

-- the totals
pub total_stands : (window : Window) (bills : List Bill) (p : ℕ) → IsWholeWindow window → p < most_partitions → window.span ≤ longest_window
    → StandsFor window bills
    → ((total_of window p).billed ≡ sum_by (time_in all_time p (window.tick + 1 - window.span)
    (window.tick + 1)) bills)
    × ((total_of window p).critical
    ≡ sum_by (time_in critical_time p (window.tick + 1 - window.span) (window.tick + 1)) bills)
total_stands window bills p whole inside few stands =
    let slots = slots_of window p in
    let full = full_of window p whole inside in (
      sum_of_slots (λ (slot : Slot). slot.billed) all_time p window.tick window.span slots bills (omega arith)
          (λ age h. stands.used p age inside (omega arith)),
      sum_of_slots (λ (slot : Slot). slot.critical) critical_time p window.tick window.span slots bills (omega arith)
          (λ age h. stands.critical p age inside (omega arith)),
    )

-- what a window was billed in one of the last 400 ticks
pub billed_on_is : (window : Window) (bills : List Bill) (p tick : ℕ) → StandsFor window bills → p < most_partitions
    → tick ≤ window.tick → window.tick < tick + longest_window
    → billed_on window p tick ≡ sum_by (time_in all_time p tick (tick + 1)) bills
billed_on_is window bills p tick stands inside past kept =
    let from : window.tick - (window.tick - tick) ≡ tick = omega arith in
    let to : window.tick + 1 - (window.tick - tick) ≡ tick + 1 = omega arith in
    stands.used p (window.tick - tick) inside (omega arith) ∙ (λ i. sum_by (time_in all_time p (from i) (to i)) bills)

-- bills fit in a tick where all together do
time_at_most : (n : ℕ) (b : Bool) → (if b then n else 0) ≤ n
time_at_most n true = omega arith
time_at_most n false = omega arith

pub fits_together : (window : Window) (bills : List Bill) (p tick ns : ℕ) → StandsFor window bills → p < most_partitions
    → tick ≤ window.tick → window.tick < tick + longest_window
    → sum_by all_time bills + ns ≤ most_time_of_tick → billed_on window p tick + ns ≤ most_time_of_tick
fits_together window bills p tick ns stands inside past kept all =
    let most = sum_by-le-sum_by (time_in all_time p tick (tick + 1)) all_time bills (λ bill. time_at_most bill.ns
    (lies_in p tick (tick + 1) bill)) in
    omega (arith, billed_on_is window bills p tick stands inside past kept, most, all)
