-- Slots and windows after many ticks.
use Rattle.std.proofs.Common.{◌≡◌, ℕ, ◌+◌, ◌≤◌, ◌++◌, inl, inr, zero, suc, List, [], ◌∷◌, length, map, min, replicate, take, refl, sym, ap, ◌∙◌, arith}
use Rattle.std.specs.List.{All}
use Rattle.std.proofs.Math.Seq.{take-length}
use Rattle.std.proofs.lemmas.Bool.{cases_order}
use Rattle.std.proofs.lemmas.List.{length-replicate, take-append-le, take-replicate, take-take}
use Rattle.std.proofs.lemmas.List.Elements.{All-head, All-tail}
use Rattle.std.proofs.lemmas.Simd.{map-map}
use Rattle.aps_model.specs.Limits.{longest_window}
use Rattle.aps_window.specs.declared.slot.Slot.{Slot}
use Rattle.aps_window.specs.Slots.{no_slot, slots_moved, slots_rotated}
use Rattle.aps_window.specs.Window.{Window, advanced}
use Rattle.aps_window.proofs.Totals.{length-moved}

take_again : (n : ℕ) (slots : List Slot) → take n (no_slot ∷ take n slots) ≡ take n (no_slot ∷ slots)
take_again zero slots = refl
take_again (suc n) slots = ap (λ (rest : List Slot). no_slot ∷ rest) (take-take n (suc n) slots (omega arith))

-- so many ticks put so many slots with no bill in front
moved_is : (ticks : ℕ) (slots : List Slot)
    → slots_moved ticks slots ≡ take (length slots) (replicate ticks no_slot ++ slots)
moved_is zero slots = sym (take-length slots)
moved_is (suc ticks) slots =
    let before = slots_moved ticks slots in
    let far = replicate ticks no_slot ++ slots in
    ap (λ (n : ℕ). take n (no_slot ∷ before)) (length-moved ticks slots)
    ∙ ap (λ (slots' : List Slot). take (length slots) (no_slot ∷ slots')) (moved_is ticks slots)
    ∙ take_again (length slots) far

-- after as many ticks as there are slots each of them is one with no bill
moved_past : (ticks : ℕ) (slots : List Slot) → length slots ≤ ticks
    → slots_moved ticks slots ≡ replicate (length slots) no_slot
moved_past ticks slots far =
    let short : length slots ≤ length (replicate ticks no_slot) = omega (arith, length-replicate ticks no_slot) in
    moved_is ticks slots
    ∙ take-append-le (length slots) (replicate ticks no_slot) slots short
    ∙ take-replicate (length slots) ticks no_slot far

pub moved_min : (ticks : ℕ) (slots : List Slot) → length slots ≡ longest_window
    → slots_moved (min ticks longest_window) slots ≡ slots_moved ticks slots
moved_min ticks slots full = elim (cases_order ticks longest_window) [
  | inl same ↦ let least : min ticks longest_window ≡ ticks = omega arith in ap (λ (n : ℕ). slots_moved n slots) least
  | inr other ↦ elim other [
    | inl less ↦ let least : min ticks longest_window ≡ ticks = omega arith in ap (λ (n : ℕ). slots_moved n slots) least
    | inr more ↦
        let least : min ticks longest_window ≡ longest_window = omega arith in
        ap (λ (n : ℕ). slots_moved n slots) least
        ∙ moved_past longest_window slots (omega arith)
        ∙ sym (moved_past ticks slots (omega arith))
  ]
]

pub map_moved_min : (ticks : ℕ) (all : List (List Slot)) → All (λ (slots : List Slot). length slots ≡ longest_window) all
    → map (slots_moved (min ticks longest_window)) all ≡ map (slots_moved ticks) all
map_moved_min ticks [] full = refl
map_moved_min ticks (slots ∷ all) full =
    let here = moved_min ticks slots (All-head (λ (slots : List Slot). length slots ≡ longest_window) slots all full) in
    let rest = map_moved_min ticks all (All-tail (λ (slots : List Slot). length slots ≡ longest_window) slots all full) in
    λ i. here i ∷ rest i

map_same : (all : List (List Slot)) → map (slots_moved 0) all ≡ all
map_same [] = refl
map_same (slots ∷ all) = ap (λ (rest : List (List Slot)). slots ∷ rest) (map_same all)

-- the window so many ticks later, at once
pub advanced_is : (ticks : ℕ) (window : Window)
    → advanced ticks window ≡ record {
      tick = window.tick + ticks;
      span = window.span;
      slots = map
          (slots_moved ticks) window.slots;
    }
advanced_is zero window =
    let same : window.tick ≡ window.tick + 0 = omega arith in
    λ i. record { tick = same i; span = window.span; slots = sym (map_same window.slots) i }
advanced_is (suc ticks) window =
    let before = advanced_is ticks window in
    let tick : window.tick + ticks + 1 ≡ window.tick + suc ticks = omega arith in
    let slots : map slots_rotated (map (slots_moved ticks) window.slots)
    ≡ map (slots_moved (suc ticks)) window.slots =
    map-map slots_rotated (slots_moved ticks) window.slots in
    (λ i. record { tick = (before i).tick + 1; span = (before i).span; slots = map slots_rotated (before i).slots })
    ∙ (λ i. record { tick = tick i; span = window.span; slots = slots i })
