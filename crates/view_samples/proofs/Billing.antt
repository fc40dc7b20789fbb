-- The windows of a pass, as entries and ticks go by.
use Rattle.std.proofs.Common.{◌≡◌, ℕ, ◌/◌, ◌+◌, ◌-◌, ◌<◌, ◌≤◌, List, [], ◌∷◌, ◌++◌, Bool, true, cond, length, nat_eq, nat_le, nat_lt, ◌&&◌, Some, refl, sym, ap, subst, ◌∙◌, inl, inr, arith}
use Rattle.std.proofs.lemmas.Bool.{cases_lt}
use Rattle.std.proofs.lemmas.Bool.Decides.{nat_tests}
use Rattle.std.proofs.lemmas.List.{get_or_past}
use Rattle.std.proofs.lemmas.List.Sums.{sum_by-append, sum_by-cons}
use Rattle.aps_model.specs.declared.entry.Entry.{Entry}
use Rattle.aps_model.specs.declared.entry.Order.{Order}
use Rattle.aps_model.specs.declared.shape.Shape.{Shape}
use Rattle.aps_model.specs.Legal.{IsLegal}
use Rattle.aps_model.specs.Limits.{longest_window, most_partitions, most_time_of_tick}
use Rattle.aps_model.specs.Scenario.{Scenario}
use Rattle.aps_model.specs.Usage.{billed_by, critical_used, names, overlap, used, window_critical, window_used}
use Rattle.aps_model.specs.Valid.{IsScenario}
use Rattle.laws_runs.proofs.SmallNumbers.{usage_small}
use Rattle.aps_window.specs.Entries.{IsInOneTick, bills_of}
use Rattle.aps_window.specs.declared.slot.Slot.{Slot}
use Rattle.aps_window.specs.Slots.{no_slot, slot_at}
use Rattle.aps_window.specs.Window.{Window, advanced, billed_on, opened, resized}
use Rattle.aps_window.proofs.Entries.{overlap_whole, used_same}
use Rattle.aps_window.proofs.Stands.{billed_on_is}
use Rattle.aps_core.specs.Counts.{Counts}
use Rattle.aps_core.proofs.Counting.{counts_later, counts_none, counts_resized, critical_are, used_are}
use Rattle.laws_bounds.specs.FreeTime.{free_used}
use Rattle.laws_bounds.specs.Kinds.{is_free, last_kind}
use Rattle.view_replay.specs.Shape.{shape_with}
use Rattle.view_samples.specs.declared.sums.Sums.{Sums}
use Rattle.view_samples.specs.Sample.{critical_at_tick, first_at, free_at, used_at, window_at}
use Rattle.view_samples.specs.Sums.{AreWindowSums, GoesOnByMarked, HasRoomInTick, freed, entry_marked}
use Rattle.view_samples.specs.Window.{AreOfWindow}
use Rattle.view_samples.proofs.Fill.{map_range}
use Rattle.view_samples.proofs.Freed.{BeginLater, critical_longer, free_longer, freed_free, freed_more, freed_none, freed_used, used_longer}

-- ---- at the start

pub sums_none : (scenario : Scenario) (window : ℕ) → window ≤ longest_window → AreWindowSums scenario [] 0 window (record { all = opened window; free = opened window; span = window })
sums_none scenario window short =
    let none = counts_none (shape_with scenario window) short in
    record { all = none; free = subst (λ h. Counts (shape_with scenario window) h 0 (opened window)) (sym (freed_none scenario)) none; span = refl }

-- ---- one entry more

none_on : (w : Window) (p tick : ℕ) → length w.slots ≡ most_partitions → most_partitions ≤ p → billed_on w p tick ≡ 0
none_on w p tick count past =
    ap (λ (slots : List Slot). (slot_at slots (w.tick - tick)).billed) (get_or_past w.slots p [] (omega (arith, count, past)))
    ∙ ap (λ (slot : Slot). slot.billed) (get_or_past [] (w.tick - tick) no_slot (omega arith))

own_time : (tick p k : ℕ) (e : Entry) → e.billed ≡ Some p → e.from / tick ≡ k → IsInOneTick tick e → billed_by tick p k (k + 1) e ≡ e.to - e.from
own_time tick p k e is at whole =
    ap (λ o. cond (names o p) (overlap tick k (k + 1) e.from e.to) 0) is
    ∙ ap (λ t. cond t (overlap tick k (k + 1) e.from e.to) 0) (itself p)
    ∙ sym (overlap_whole tick k (k + 1) e.from e.to whole)
    ∙ within k (e.from / tick) (e.to - e.from) at
  where
    itself : (p : ℕ) → nat_eq p p ≡ true
    itself p = grind (arith, nat_tests)

    within : (k n time : ℕ) → n ≡ k → cond (nat_le k n && nat_lt n (k + 1)) time 0 ≡ time
    within k n time at = grind (arith, nat_tests)

-- no tick gets too much of a partition
room : (shape : Shape) (h : List Entry) (j : ℕ) (w : Window) (e : Entry) → Counts shape h j w → IsInOneTick shape.tick e → (e.from < e.to → e.from / shape.tick ≡ j) → e.to - e.from ≤ most_time_of_tick
    → ((p : ℕ) → used shape.tick h p j (j + 1) + billed_by shape.tick p j (j + 1) e ≤ most_time_of_tick) → HasRoomInTick w j e
room shape h j w e counts whole at short few = record {
  now = counts.tick;
  fits = λ p is some. elim (cases_lt p most_partitions) [
    | inl inside ↦
        let before : billed_on w p j ≡ used shape.tick h p j (j + 1) =
        billed_on_is w (bills_of shape.tick h) p j counts.stands inside (omega (arith, counts.tick)) (omega (arith, counts.tick)) ∙ used_same shape.tick h p j (j + 1) counts.each in
        let own = own_time shape.tick p j e is (at some) whole in
        let most = few p in
        omega (arith, before, own, most)
    | inr past ↦ omega (arith, none_on w p j counts.whole.count past, short)
  ];
}

few_used : (scenario : Scenario) (order : Order) (h : List Entry) (e : Entry) (p j : ℕ) → IsScenario scenario → IsLegal scenario order (h ++ e ∷ [])
    → used scenario.shape.tick h p j (j + 1) + billed_by scenario.shape.tick p j (j + 1) e ≤ most_time_of_tick
few_used scenario order h e p j valid legal =
    let small = usage_small scenario order (h ++ e ∷ []) j (j + 1) valid legal in
    let each = small.each p in
    let all = small.one_tick (omega arith) in
    let both = sum_by-append (billed_by scenario.shape.tick p j (j + 1)) h (e ∷ []) in
    let one = sum_by-cons (billed_by scenario.shape.tick p j (j + 1)) e [] in
    omega (arith, each, all, both, one)

pub room_all : (scenario : Scenario) (order : Order) (h : List Entry) (j window : ℕ) (sums : Sums) (e : Entry) → IsScenario scenario → IsLegal scenario order (h ++ e ∷ []) → AreWindowSums scenario h j window sums
    → IsInOneTick scenario.shape.tick e → (e.from < e.to → e.from / scenario.shape.tick ≡ j) → e.to - e.from ≤ most_time_of_tick → HasRoomInTick sums.all j e
room_all scenario order h j window sums e valid legal are whole at short =
    room (shape_with scenario window) h j sums.all e are.all whole at short (λ p. few_used scenario order h e p j valid legal)

pub room_free : (scenario : Scenario) (order : Order) (h : List Entry) (j window : ℕ) (sums : Sums) (e : Entry) → IsScenario scenario → IsLegal scenario order (h ++ e ∷ []) → AreWindowSums scenario h j window sums
    → IsInOneTick scenario.shape.tick e → (e.from < e.to → e.from / scenario.shape.tick ≡ j) → e.to - e.from ≤ most_time_of_tick → HasRoomInTick sums.free j e
room_free scenario order h j window sums e valid legal are whole at short =
    room (shape_with scenario window) (freed scenario h) j sums.free e are.free whole at short
    (λ p. let few = few_used scenario order h e p j valid legal in let same = freed_used scenario scenario.shape.tick p j (j + 1) h in omega (arith, few, same))

pub sums_more : (scenario : Scenario) (h : List Entry) (j window : ℕ) (before after : Sums) (e : Entry) (mark : Bool) → AreWindowSums scenario h j window before
    → IsInOneTick scenario.shape.tick e → (e.from < e.to → e.from / scenario.shape.tick ≡ j) → mark ≡ is_free (last_kind scenario h e.cpu)
    → GoesOnByMarked before.all j e e.critical after.all → GoesOnByMarked before.free j e mark after.free → after.span ≡ before.span → AreWindowSums scenario (h ++ e ∷ []) j window after
sums_more scenario h j window before after e mark are whole at is all free span = record {
  all = all (shape_with scenario window) h are.all whole at;
  free = subst (λ l. Counts (shape_with scenario window) l j after.free) (ap (λ m. freed scenario h ++ entry_marked e m ∷ []) is ∙ sym (freed_more scenario h e)) (free (shape_with scenario window) (freed scenario h) are.free whole at);
  span = span ∙ are.span;
}

-- ---- another window, and a tick more

pub sums_resized : (scenario : Scenario) (h : List Entry) (j window other : ℕ) (sums : Sums) → AreWindowSums scenario h j window sums → other ≤ longest_window
    → AreWindowSums scenario h j other (record { all = resized other sums.all; free = resized other sums.free; span = other })
sums_resized scenario h j window other sums are short = record {
  all = counts_resized (shape_with scenario window) (shape_with scenario other) h j sums.all are.all refl short;
  free = counts_resized (shape_with scenario window) (shape_with scenario other) (freed scenario h) j sums.free are.free refl short;
  span = refl;
}

one_later : (shape : Shape) (h : List Entry) (j : ℕ) (w : Window) → Counts shape h j w → Counts shape h (j + 1) (advanced 1 w)
one_later shape h j w counts =
    let one : j + 1 - w.tick ≡ 1 = omega (arith, counts.tick) in
    subst (λ n. Counts shape h (j + 1) (advanced n w)) one (counts_later shape h j (j + 1) w counts (omega arith))

pub sums_later : (scenario : Scenario) (h : List Entry) (j window : ℕ) (sums : Sums) → AreWindowSums scenario h j window sums
    → AreWindowSums scenario h (j + 1) window (record { all = advanced 1 sums.all; free = advanced 1 sums.free; span = sums.span })
sums_later scenario h j window sums are = record {
  all = one_later (shape_with scenario window) h j sums.all are.all;
  free = one_later (shape_with scenario window) (freed scenario h) j sums.free are.free;
  span = are.span;
}

-- ---- what is read

pub sums_of_window : (scenario : Scenario) (h later : List Entry) (j window : ℕ) (sums : Sums) → AreWindowSums scenario h j window sums → BeginLater scenario.shape.tick (j + 1) later
    → window ≡ window_at scenario (h ++ later) j → AreOfWindow scenario (h ++ later) j sums
sums_of_window scenario h later j window sums are after wide =
    let tick = scenario.shape.tick in
    let shape = shape_with scenario window in
    let first : j + 1 - window ≡ first_at scenario (h ++ later) j = ap (λ w. j + 1 - w) wide in
    record {
      used = used_are shape h j sums.all are.all
          ∙ map_range (window_used shape h j) (used_at scenario (h ++ later) j) most_partitions
          (λ p less. sym (used_longer tick p (j + 1 - window) (j + 1) h later after) ∙ ap (λ a. used tick (h ++ later) p a (j + 1)) first);
      critical = critical_are shape h j sums.all are.all
          ∙ map_range (window_critical shape h j) (critical_at_tick scenario (h ++ later) j) most_partitions
          (λ p less. sym (critical_longer tick p (j + 1 - window) (j + 1) h later after) ∙ ap (λ a. critical_used tick (h ++ later) p a (j + 1)) first);
      free = critical_are shape (freed scenario h) j sums.free are.free
          ∙ map_range (window_critical shape (freed scenario h) j) (free_at scenario (h ++ later) j) most_partitions
          (λ p less. freed_free scenario tick p (j + 1 - window) (j + 1) h ∙ sym (free_longer scenario tick p (j + 1 - window) (j + 1) h later after)
          ∙ ap (λ a. free_used scenario tick (h ++ later) p a (j + 1)) first);
    }
