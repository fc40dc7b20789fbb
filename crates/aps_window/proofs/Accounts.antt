-- From the accounts to the window that they stand for.
use Rattle.std.proofs.Common.{◌≡◌, ℕ, ◌+◌, ◌-◌, ◌<◌, ◌≤◌, List, [], ◌∷◌, Bool, length, map, max, min, drop, replicate, get_or, set, refl, sym, ap, ◌∙◌, subst, arith, length-set, zero, suc}
use Rattle.std.specs.List.{All}
use Rattle.std.proofs.lemmas.List.{get_or-map, length-map, length-replicate, map-set}
use Rattle.std.proofs.lemmas.List.Elements.{All-drop, All-get_or, All-map, All-replicate, All-set, All-weaker}
use Rattle.std.proofs.lemmas.Simd.{map-map}
use Rattle.aps_model.specs.Limits.{last_partition, last_tick, longest_window, most_partitions, most_time_of_tick, shortest_window}
use Rattle.aps_window.specs.declared.slot.Slot.{Slot}
use Rattle.aps_window.specs.declared.account.Account.{Account}
use Rattle.aps_window.specs.declared.window.Window.TheInside.{Inside}
use Rattle.aps_window.specs.Account.{IsAccount, IsUnused, account_moved, account_of, account_resized, no_account, slots_in}
use Rattle.aps_window.specs.Bills.{Bill, bills_critical, bills_used}
use Rattle.aps_window.specs.Slots.{no_slots, slot_at, slots_billed, slots_moved, slots_total}
use Rattle.aps_window.specs.StandsFor.{StandsFor}
use Rattle.aps_window.specs.Whole.{IsWholeWindow}
use Rattle.aps_window.specs.Window.{Window, advanced, window_billed, billed_on, opened, resized, slots_of, total_of}
use Rattle.aps_window.specs.WindowView.{Keeps, window_of}
use Rattle.aps_window.proofs.Moves.{advanced_is, map_moved_min}
use Rattle.aps_window.proofs.Stands.{total_stands}
use Rattle.aps_window.proofs.Totals.{account_total, billed_are_slots, is_account, length-moved, moved_are_slots}
use Rattle.aps_window.proofs.Unused.{no_account_is, no_account_moved, no_account_resized, unused_kept, unused_rest}

pub whole_of : (inside : Inside) (window : Window) → Keeps inside → window_of inside ≡ window → IsWholeWindow window
whole_of inside window keeps view =
    let accounts = inside.accounts.items in
    let whole : IsWholeWindow (window_of inside) = record {
      count = length-map accounts slots_in ∙ keeps.count;
      full = All-map (λ (slots : List Slot). length slots ≡ longest_window) slots_in accounts
          (All-weaker (IsAccount inside.span) (λ (a : Account). length (slots_in a)
          ≡ longest_window) (λ a h. h.full) accounts keeps.accounts);
    } in
    subst IsWholeWindow view whole

pub span_of : (inside : Inside) (window : Window) → Keeps inside → window_of inside ≡ window → window.span ≤ longest_window
span_of inside window keeps view = subst (λ (w : Window). w.span ≤ longest_window) view keeps.most

-- the account of partition q
pub account_at : (inside : Inside) (q : ℕ) (account : Account) → Keeps inside → q ≤ last_partition
    → account ≡ get_or inside.accounts.items q account → IsAccount inside.span account
account_at inside q account keeps few e =
    subst (IsAccount inside.span) (sym e)
    (All-get_or (IsAccount inside.span) inside.accounts.items q account (omega (arith, keeps.count)) keeps.accounts)

slots_at : (inside : Inside) (q : ℕ) (account : Account) → Keeps inside → q ≤ last_partition
    → account ≡ get_or inside.accounts.items q account → slots_of (window_of inside) q ≡ account.ring.items
slots_at inside q account keeps few e =
    get_or-map slots_in inside.accounts.items q account [] (omega (arith, keeps.count)) ∙ ap slots_in (sym e)

-- what the account of a partition answers
pub total_at : (inside : Inside) (window : Window) (p q : ℕ) (account : Account) → Keeps inside
    → window_of inside ≡ window → q ≡ p → q ≤ last_partition
    → account ≡ get_or inside.accounts.items q account → account.total ≡ total_of window p
total_at inside window p q account keeps view same few e =
    account_total inside.span account (account_at inside q account keeps few e)
    ∙ ap (slots_total inside.span) (sym (slots_at inside q account keeps few e))
    ∙ (λ i. total_of (view i) (same i))

pub used_stands : (inside : Inside) (window : Window) (p q : ℕ) (account : Account) (bills : List Bill)
    → Keeps inside → window_of inside ≡ window → q ≡ p → q ≤ last_partition → account ≡ get_or inside.accounts.items q account
    → StandsFor window bills
    → account.total.billed ≡ bills_used bills p (window.tick + 1 - window.span) (window.tick + 1)
used_stands inside window p q account bills keeps view same few e stands =
    ap (λ (s : Slot). s.billed) (total_at inside window p q account keeps view same few e)
    ∙ (total_stands window bills p (whole_of inside window keeps view) (omega arith)
    (span_of inside window keeps view) stands).0

pub critical_stands : (inside : Inside) (window : Window) (p q : ℕ) (account : Account) (bills : List Bill)
    → Keeps inside → window_of inside ≡ window → q ≡ p → q ≤ last_partition → account ≡ get_or inside.accounts.items q account
    → StandsFor window bills
    → account.total.critical ≡ bills_critical bills p (window.tick + 1 - window.span) (window.tick + 1)
critical_stands inside window p q account bills keeps view same few e stands =
    ap (λ (s : Slot). s.critical) (total_at inside window p q account keeps view same few e)
    ∙ (total_stands window bills p (whole_of inside window keeps view) (omega arith)
    (span_of inside window keeps view) stands).1

-- a bill
pub fits_at : (inside : Inside) (window : Window) (p q tick ns : ℕ) (account : Account) → Keeps inside
    → window_of inside ≡ window → q ≡ p → q ≤ last_partition
    → account ≡ get_or inside.accounts.items q account → billed_on window p tick + ns ≤ most_time_of_tick
    → (slot_at account.ring.items (inside.tick - tick)).billed + ns ≤ most_time_of_tick
fits_at inside window p q tick ns account keeps view same few e fits =
    let there : billed_on window p tick ≡ (slot_at account.ring.items (inside.tick - tick)).billed =
    (λ i. billed_on (sym view i) (sym same i) tick)
    ∙ ap (λ (slots : List Slot). (slot_at slots (inside.tick - tick)).billed)
    (slots_at inside q account keeps few e) in
    omega (arith, there, fits)

pub billed_keeps : (inside after : Inside) (q age ns : ℕ) (critical : Bool) (account next : Account) → Keeps inside
    → q ≤ last_partition
    → account ≡ get_or inside.accounts.items q account → age < longest_window
    → (slot_at account.ring.items age).billed + ns ≤ most_time_of_tick
    → next ≡ account_of inside.span (slots_billed account.ring.items age ns critical)
    → after.tick ≡ inside.tick → after.span ≡ inside.span → after.in_use ≡ max inside.in_use (q + 1)
    → after.accounts.items ≡ set inside.accounts.items q next → Keeps after
billed_keeps inside after q age ns critical account next keeps few e kept fits is tick span used accounts =
    let was = account_at inside q account keeps few e in
    let slots = slots_billed account.ring.items age ns critical in
    let full : length slots ≡ longest_window = length-set account.ring.items age _ ∙ was.full in
    let stays : IsAccount inside.span next = subst (IsAccount inside.span) (sym is)
    (is_account inside.span slots full (billed_are_slots account.ring.items age ns critical was.small (omega (
      arith,
      was.full,
    )) fits)) in
    record {
      count = ap (λ (l : List Account). length l) accounts ∙ length-set inside.accounts.items q next ∙ keeps.count;
      least = omega (arith, span, keeps.least);
      most = omega (arith, span, keeps.most);
      tick = omega (arith, tick, keeps.tick);
      accounts = subst (λ (n : ℕ). All (IsAccount n) after.accounts.items) (sym span)
          (subst (All (IsAccount inside.span)) (sym accounts)
          (All-set (IsAccount inside.span) inside.accounts.items q next stays keeps.accounts));
      few = omega (arith, used, keeps.few);
      rest = subst (λ (l : List Account). All IsUnused (drop after.in_use l)) (sym accounts)
          (unused_rest inside.accounts.items inside.in_use after.in_use q next (omega (arith, used)) (omega (arith, used)) keeps.rest);
    }

pub billed_view : (inside after : Inside) (window : Window) (p q tick ns : ℕ) (critical : Bool)
    (account next : Account) → Keeps inside
    → window_of inside ≡ window → q ≡ p → q ≤ last_partition → account ≡ get_or inside.accounts.items q account
    → next ≡ account_of inside.span (slots_billed account.ring.items (inside.tick - tick) ns critical)
    → after.tick ≡ inside.tick → after.span ≡ inside.span → after.accounts.items ≡ set inside.accounts.items q next
    → window_of after ≡ window_billed window p tick ns critical
billed_view inside after window p q tick ns critical account next keeps view same few e is at span accounts =
    let items = inside.accounts.items in
    let mine : slots_in next ≡ slots_billed (slots_of (window_of inside) q) (inside.tick - tick) ns critical =
    ap slots_in is ∙ ap (λ (slots : List Slot). slots_billed slots (inside.tick - tick) ns critical) (sym
    (slots_at inside q account keeps few e)) in
    let slots : map slots_in after.accounts.items
    ≡ set (map slots_in items) q (slots_billed (slots_of (window_of inside) q) (inside.tick - tick) ns critical) =
    ap (map slots_in) accounts ∙ map-set slots_in items q next ∙ ap (set (map slots_in items) q) mine in
    (λ i. record { tick = at i; span = span i; slots = slots i }) ∙ (λ i. window_billed (view i) (same i) tick ns critical)

-- all accounts move or count anew
same_keeps : (inside after : Inside) → Keeps inside → after.tick ≤ last_tick → shortest_window ≤ after.span → after.span ≤ longest_window
    → after.in_use ≡ inside.in_use → (f : Account → Account) → f no_account ≡ no_account
    → after.accounts.items ≡ map f inside.accounts.items
    → ((a : Account) → IsAccount inside.span a → IsAccount after.span (f a)) → Keeps after
same_keeps inside after keeps tick least most used f empty accounts stays = record {
  count = ap (λ (l : List Account). length l) accounts ∙ length-map inside.accounts.items f ∙ keeps.count;
  least = least;
  most = most;
  tick = tick;
  accounts = subst (All (IsAccount after.span)) (sym accounts)
      (All-map (IsAccount after.span) f inside.accounts.items
      (All-weaker (IsAccount inside.span) (λ (a : Account). IsAccount after.span
      (f a)) stays inside.accounts.items keeps.accounts));
  few = omega (arith, used, keeps.few);
  rest = subst (λ (n : ℕ). All IsUnused (drop n after.accounts.items)) (sym used)
      (unused_kept f inside.accounts.items after.accounts.items inside.in_use empty accounts keeps.rest);
}

pub moved_keeps : (inside after : Inside) (ticks moves : ℕ) → Keeps inside → inside.tick + ticks ≤ last_tick
    → after.tick ≡ inside.tick + ticks → after.span ≡ inside.span → after.in_use ≡ inside.in_use
    → after.accounts.items ≡ map (account_moved moves inside.span) inside.accounts.items → Keeps after
moved_keeps inside after ticks moves keeps early tick span used accounts =
    same_keeps inside after keeps (omega (arith, tick, early)) (omega (arith, span, keeps.least)) (omega (
      arith,
      span,
      keeps.most,
    ))
    used (account_moved moves inside.span) (no_account_moved moves inside.span keeps.most) accounts
    (λ a is. subst (λ (n : ℕ). IsAccount n (account_moved moves inside.span a)) (sym span)
    (is_account inside.span (slots_moved moves a.ring.items) (length-moved moves a.ring.items
    ∙ is.full) (moved_are_slots moves a.ring.items is.small)))

pub moved_view : (inside after : Inside) (window : Window) (ticks moves : ℕ) → Keeps inside
    → window_of inside ≡ window → moves ≡ min ticks longest_window
    → after.tick ≡ inside.tick + ticks → after.span ≡ inside.span
    → after.accounts.items ≡ map (account_moved moves inside.span) inside.accounts.items
    → window_of after ≡ advanced ticks window
moved_view inside after window ticks moves keeps view least tick span accounts =
    let items = inside.accounts.items in
    let slots : map slots_in after.accounts.items ≡ map (slots_moved ticks) (map slots_in items) =
    ap (map slots_in) accounts
    ∙ map-map slots_in (account_moved moves inside.span) items
    ∙ sym (map-map (slots_moved moves) slots_in items)
    ∙ ap (λ (n : ℕ). map (slots_moved n) (map slots_in items)) least
    ∙ map_moved_min ticks (map slots_in items) (whole_of inside (window_of inside) keeps refl).full in
    (λ i. record { tick = tick i; span = span i; slots = slots i })
    ∙ sym (advanced_is ticks (window_of inside))
    ∙ ap (advanced ticks) view

pub resized_keeps : (inside after : Inside) (span : ℕ) → Keeps inside → shortest_window ≤ span → span ≤ longest_window
    → after.tick ≡ inside.tick → after.span ≡ span → after.in_use ≡ inside.in_use
    → after.accounts.items ≡ map (account_resized span) inside.accounts.items → Keeps after
resized_keeps inside after span keeps least most tick same used accounts =
    same_keeps inside after keeps (omega (arith, tick, keeps.tick)) (omega (arith, same, least)) (omega (
      arith,
      same,
      most,
    ))
    used (account_resized span) (no_account_resized span most) accounts
    (λ a is. subst (λ (n : ℕ). IsAccount n (account_resized span a)) (sym same)
    (is_account span a.ring.items is.full is.small))

pub resized_view : (inside after : Inside) (window : Window) (span : ℕ) → window_of inside ≡ window
    → after.tick ≡ inside.tick → after.span ≡ span
    → after.accounts.items ≡ map (account_resized span) inside.accounts.items → window_of after ≡ resized span window
resized_view inside after window span view tick same accounts =
    let slots : map slots_in after.accounts.items ≡ map slots_in inside.accounts.items =
    ap (map slots_in) accounts ∙ map-map slots_in (account_resized span) inside.accounts.items in
    (λ i. record { tick = tick i; span = same i; slots = slots i }) ∙ ap (resized span) view

-- at the start
pub opened_keeps : (after : Inside) (n : ℕ) → after.tick ≡ 0 → shortest_window ≤ after.span → after.span ≤ longest_window → after.in_use ≡ 0
    → n ≡ most_partitions → after.accounts.items ≡ replicate n no_account → Keeps after
opened_keeps after n tick least most used count accounts = record {
  count = ap (λ (l : List Account). length l) accounts ∙ length-replicate n no_account ∙ count;
  least = least;
  most = most;
  tick = omega (arith, tick);
  accounts = subst (All (IsAccount after.span)) (sym accounts)
      (All-replicate (IsAccount after.span) n no_account (no_account_is after.span most));
  few = omega (arith, used);
  rest = subst (λ (l : List Account). All IsUnused (drop after.in_use l)) (sym accounts)
      (All-drop IsUnused after.in_use (replicate n no_account) (All-replicate IsUnused n no_account refl));
}

map_first : (n : ℕ) → map slots_in (replicate n no_account) ≡ replicate n no_slots
map_first zero = refl
map_first (suc n) = ap (λ (rest : List (List Slot)). no_slots ∷ rest) (map_first n)

pub opened_view : (after : Inside) (span n : ℕ) → after.tick ≡ 0 → after.span ≡ span → n ≡ most_partitions
    → after.accounts.items ≡ replicate n no_account → window_of after ≡ opened span
opened_view after span n tick same count accounts =
    let slots : map slots_in after.accounts.items ≡ replicate most_partitions no_slots =
    ap (map slots_in) accounts ∙ map_first n ∙ ap (λ (m : ℕ). replicate m no_slots) count in
    λ i. record { tick = tick i; span = same i; slots = slots i }
