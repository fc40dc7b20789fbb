-- How a window goes on counting the entries, and what is read of it.
use Rattle.std.proofs.Common.{◌≡◌, ℕ, ◌+◌, ◌-◌, ◌*◌, ◌/◌, ◌<◌, ◌≤◌, ◌++◌, List, [], ◌∷◌, Bool, true, false, nat_eq, nat_le, nat_lt, ◌&&◌, cond, length, map, Option, Some, None, refl, sym, ap, ◌∙◌, subst, arith, inl, inr, All, div-mul-le_self}
use Rattle.std.proofs.Math.Nat.{div-le_of_le-mul}
use Rattle.std.specs.List.{range_with_len}
use Rattle.std.proofs.lemmas.Bool.{cases_lt}
use Rattle.std.proofs.lemmas.Bool.Decides.{nat_tests}
use Rattle.std.proofs.lemmas.List.{get_or_append_left, get_or_past, length-append}
use Rattle.std.proofs.Math.Seq.{get_or-append_seam}
use Rattle.std.proofs.lemmas.List.Elements.{All-nil, All-push}
use Rattle.std.proofs.lemmas.List.FromFn.{fill_by_all, get_or-map-range_with_len, length-map-range_with_len}
use Rattle.std.proofs.lemmas.List.Sums.{fold-append, sum_by-append, sum_by-cons}
use Rattle.std.proofs.lemmas.Nat.{le-div}
use Rattle.aps_model.specs.declared.entry.Entry.{Entry}
use Rattle.aps_model.specs.declared.partition.PartitionRow.{PartitionRow}
use Rattle.aps_model.specs.declared.shape.Shape.{Shape}
use Rattle.aps_model.specs.Bill.{bankrupt, exceeding}
use Rattle.aps_model.specs.Budget.{all_parts, no_part, part_facts}
use Rattle.aps_model.specs.Due.{next_boundary}
use Rattle.aps_model.specs.History.{IsEntry}
use Rattle.aps_model.specs.Limits.{longest_window, most_partitions, most_ticks, most_time_of_tick}
use Rattle.aps_model.specs.Opening.{opening}
use Rattle.aps_model.specs.Partition.{row_or_none}
use Rattle.aps_model.specs.Scenario.{Scenario}
use Rattle.aps_model.specs.SchedulerState.{SchedulerState, row_at}
use Rattle.aps_model.specs.Shape.{IsShape}
use Rattle.aps_model.specs.Usage.{billed_by, names, overlap, used, window_critical, window_used}
use Rattle.laws_runs.specs.Moments.{moment}
use Rattle.aps_window.specs.Bills.{Bill, bills_critical, bills_used}
use Rattle.aps_window.specs.Entries.{AreInOneTick, IsInOneTick, bill_to, bills_of, with_billed, bills_with_entry}
use Rattle.aps_window.specs.declared.slot.Slot.{Slot}
use Rattle.aps_window.specs.Slots.{no_slot, slot_at}
use Rattle.aps_window.specs.StandsFor.{StandsFor}
use Rattle.aps_window.specs.Whole.{IsWholeWindow}
use Rattle.aps_window.specs.Window.{Window, advanced, window_billed, billed_on, opened, resized, total_of}
use Rattle.aps_window.proofs.Entries.{critical_same, overlap_whole, used_same}
use Rattle.aps_window.proofs.Moves.{advanced_is}
use Rattle.aps_window.proofs.Stands.{advanced_stands, advanced_whole, billed_on_is, billed_whole, opened_stands, opened_whole, resized_stands, total_stands}
use Rattle.aps_critical.specs.Critical.{verdict}
use Rattle.aps_critical.specs.declared.Bill.{Bill as Verdict}
use Rattle.aps_critical.specs.declared.Bill.TheVariants.{Fine, Bankrupt}
use Rattle.aps_core.specs.Counts.{CanBill, Counts, critical_in, part_in, parts_in, used_in}
use Rattle.aps_core.specs.Part.{part_of}

-- ---- at the start, later, and with another shape

pub counts_none : (shape : Shape) → shape.window ≤ longest_window → Counts shape [] 0 (opened shape.window)
counts_none shape short = record {
  tick = refl;
  span = refl;
  short = short;
  stands = opened_stands shape.window;
  whole = opened_whole shape.window;
  each = All-nil (IsInOneTick shape.tick);
}

-- the same window, of the same shape, at the same tick
pub counts_like : (shape other : Shape) (h : List Entry) (i j : ℕ) (w : Window) → Counts shape h i w → other ≡ shape → j ≡ i → Counts other h j w
counts_like shape other h i j w c same at = subst (λ (x : Shape). Counts x h j w) (sym same) (subst (λ k. Counts shape h k w) (sym at) c)

no_ticks : (t : ℕ) → 0 / t ≡ 0
no_ticks t = search (arith)

-- at the moment at which a run begins
pub counts_begin : (scenario : Scenario) (state : SchedulerState) (window : ℕ) (w : Window) → IsShape scenario.shape → state ≡ opening scenario → window ≡ scenario.shape.window → w ≡ opened window
    → Counts state.shape [] (moment [] / state.shape.tick) w
counts_begin scenario state window w sized starts at is =
    let none : Counts scenario.shape [] 0 w = subst (Counts scenario.shape [] 0) (sym (is ∙ ap opened at)) (counts_none scenario.shape sized.window_short) in
    counts_like scenario.shape state.shape [] 0 (moment [] / state.shape.tick) w none (ap (λ (s : SchedulerState). s.shape) starts) (no_ticks state.shape.tick)

pub counts_later : (shape : Shape) (h : List Entry) (i j : ℕ) (w : Window) → Counts shape h i w → i ≤ j → Counts shape h j (advanced (j - w.tick) w)
counts_later shape h i j w c forward =
    let n = j - w.tick in
    let is = advanced_is n w in
    let at : w.tick + n ≡ j = omega (arith, c.tick, forward) in
    record {
      tick = ap (λ (v : Window). v.tick) is ∙ at;
      span = ap (λ (v : Window). v.span) is ∙ c.span;
      short = c.short;
      stands = advanced_stands n w (bills_of shape.tick h) c.whole c.stands;
      whole = advanced_whole n w c.whole;
      each = c.each;
    }

pub counts_resized : (shape other : Shape) (h : List Entry) (j : ℕ) (w : Window) → Counts shape h j w → other.tick ≡ shape.tick → other.window ≤ longest_window → Counts other h j (resized other.window w)
counts_resized shape other h j w c same short = record {
  tick = c.tick;
  span = refl;
  short = short;
  stands = subst (λ t. StandsFor (resized other.window w) (bills_of t h)) (sym same) (resized_stands other.window w (bills_of shape.tick h) c.stands);
  whole = record { count = c.whole.count; full = c.whole.full };
  each = subst (λ t. AreInOneTick t h) (sym same) c.each;
}

-- ---- one entry more

bills_more : (tick : ℕ) (h : List Entry) (e : Entry) → bills_of tick (h ++ e ∷ []) ≡ bills_with_entry tick (bills_of tick h) e
bills_more tick h e = fold-append (bills_with_entry tick) [] h (e ∷ [])

-- an entry that bills no time
unbilled : (tick : ℕ) (bills : List Bill) (e : Entry) (o : Option ℕ) → ((p : ℕ) → o ≡ Some p → e.to ≤ e.from) → with_billed tick bills e o ≡ bills
unbilled tick bills e None none = refl
unbilled tick bills e (Some p) none =
    let late = none p refl in
    let test : nat_lt e.from e.to ≡ false = grind (arith, nat_tests) in
    ap (λ t. cond t (bill_to tick e p ∷ bills) bills) test

pub counts_unbilled : (shape : Shape) (h : List Entry) (j : ℕ) (w : Window) (e : Entry) → Counts shape h j w → IsInOneTick shape.tick e → ((p : ℕ) → e.billed ≡ Some p → e.to ≤ e.from)
    → Counts shape (h ++ e ∷ []) j w
counts_unbilled shape h j w e c whole none = record {
  tick = c.tick;
  span = c.span;
  short = c.short;
  stands = subst (StandsFor w) (sym (bills_more shape.tick h e ∙ unbilled shape.tick (bills_of shape.tick h) e e.billed none)) c.stands;
  whole = c.whole;
  each = All-push (IsInOneTick shape.tick) h e c.each whole;
}

-- one that does
with_time : (tick : ℕ) (bills : List Bill) (e : Entry) (p : ℕ) → e.from < e.to → e.billed ≡ Some p → bills_with_entry tick bills e ≡ bill_to tick e p ∷ bills
with_time tick bills e p some is =
    let test : nat_lt e.from e.to ≡ true = grind (arith, nat_tests) in
    ap (with_billed tick bills e) is ∙ ap (λ t. cond t (bill_to tick e p ∷ bills) bills) test

pub counts_billed : (shape : Shape) (h : List Entry) (j : ℕ) (w new : Window) (e : Entry) (p : ℕ) → Counts shape h j w → IsInOneTick shape.tick e → e.from < e.to → e.billed ≡ Some p
    → new ≡ window_billed w p (e.from / shape.tick) (e.to - e.from) e.critical
    → ((bills : List Bill) → StandsFor w bills → StandsFor new (bill_to shape.tick e p ∷ bills))
    → Counts shape (h ++ e ∷ []) j new
counts_billed shape h j w new e p c whole some is new_is stands = record {
  tick = ap (λ (v : Window). v.tick) new_is ∙ c.tick;
  span = ap (λ (v : Window). v.span) new_is ∙ c.span;
  short = c.short;
  stands = subst (StandsFor new) (sym (bills_more shape.tick h e ∙ with_time shape.tick (bills_of shape.tick h) e p some is)) (stands (bills_of shape.tick h) c.stands);
  whole = subst IsWholeWindow (sym new_is) (billed_whole w p (e.from / shape.tick) (e.to - e.from) e.critical c.whole);
  each = All-push (IsInOneTick shape.tick) h e c.each whole;
}

-- ---- another entry with the same times, and a shape that is the same

-- the same time, billed to the same partition
pub record IsSameBill (e other : Entry) : Type 0 where
  pub billed : other.billed ≡ e.billed
  pub from : other.from ≡ e.from
  pub to : other.to ≡ e.to
  pub critical : other.critical ≡ e.critical

same_billed : (tick : ℕ) (bills : List Bill) (e other : Entry) (o : Option ℕ) → IsSameBill e other → with_billed tick bills other o ≡ with_billed tick bills e o
same_billed tick bills e other None s = refl
same_billed tick bills e other (Some p) s =
    λ i. cond (nat_lt (s.from i) (s.to i)) ((record { partition = p; tick = s.from i / tick; ns = s.to i - s.from i; critical = s.critical i }) ∷ bills) bills

all_front : (P : Entry → Type 0) (h : List Entry) (e : Entry) → All P (h ++ e ∷ []) → All P h
all_front P h e all = λ k d lt. subst P (get_or_append_left h (e ∷ []) d k lt) (all k d (omega (arith, lt, length-append h (e ∷ []))))

all_last : (P : Entry → Type 0) (h : List Entry) (e : Entry) → All P (h ++ e ∷ []) → P e
all_last P h e all = subst P (get_or-append_seam h e [] e) (all (length h) e (omega (arith, length-append h (e ∷ []))))

pub counts_same : (shape other : Shape) (h : List Entry) (e e' : Entry) (i j : ℕ) (w : Window) → Counts shape (h ++ e ∷ []) i w → other ≡ shape → IsSameBill e e' → j ≡ i → Counts other (h ++ e' ∷ []) j w
counts_same shape other h e e' i j w c same s at =
    subst (λ (x : Shape). Counts x (h ++ e' ∷ []) j w) (sym same)
    (record {
      tick = c.tick ∙ sym at;
      span = c.span;
      short = c.short;
      stands =
          let one = bills_more shape.tick h e in
          let two = bills_more shape.tick h e' in
          let bills = bills_of shape.tick h in
          subst (StandsFor w) (one ∙ sym (same_billed shape.tick bills e e' e.billed s) ∙ ap (with_billed shape.tick bills e') (sym s.billed) ∙ sym two) c.stands;
      whole = c.whole;
      each =
          let last = all_last (IsInOneTick shape.tick) h e c.each in
          All-push (IsInOneTick shape.tick) h e' (all_front (IsInOneTick shape.tick) h e c.each)
          (subst (λ z. e'.to ≤ next_boundary shape.tick z) (sym s.from) (omega (arith, last, s.to)));
    })

-- ---- room for a bill

div_rises : (t a b : ℕ) → 0 < t → a ≤ b → a / t ≤ b / t
div_rises t a b pos le = le-div (a / t) b t pos (let l = div-mul-le_self a t in omega (arith, l, le))

ends_soon : (t from to : ℕ) → to ≤ next_boundary t from → to / t ≤ from / t + 1
ends_soon t from to whole = div-le_of_le-mul t (let l : to ≤ (from / t + 1) * t = whole in omega (arith, l))

-- where nothing stands there is nothing
none_on : (w : Window) (p tick : ℕ) → length w.slots ≡ most_partitions → most_partitions ≤ p → billed_on w p tick ≡ 0
none_on w p tick count past =
    ap (λ (slots : List Slot). (slot_at slots (w.tick - tick)).billed) (get_or_past w.slots p [] (omega (arith, count, past)))
    ∙ ap (λ (slot : Slot). slot.billed) (get_or_past [] (w.tick - tick) no_slot (omega arith))

own_time : (tick p k : ℕ) (e : Entry) → e.billed ≡ Some p → k ≡ e.from / tick → IsInOneTick tick e → billed_by tick p k (k + 1) e ≡ e.to - e.from
own_time tick p k e is at whole =
    ap (λ o. cond (names o p) (overlap tick k (k + 1) e.from e.to) 0) is
    ∙ ap (λ t. cond t (overlap tick k (k + 1) e.from e.to) 0) (itself p)
    ∙ sym (overlap_whole tick k (k + 1) e.from e.to whole)
    ∙ within k (e.from / tick) (e.to - e.from) at
  where
    itself : (p : ℕ) → nat_eq p p ≡ true
    itself p = grind (arith, nat_tests)

    within : (k n time : ℕ) → k ≡ n → cond (nat_le k n && nat_lt n (k + 1)) time 0 ≡ time
    within k n time at = grind (arith, nat_tests)

pub can_bill : (shape : Shape) (h : List Entry) (j : ℕ) (w : Window) (e : Entry) → Counts shape h j w → IsShape shape → IsEntry e → IsInOneTick shape.tick e → j ≡ e.to / shape.tick → j ≤ most_ticks
    → ((p k : ℕ) → used shape.tick (h ++ e ∷ []) p k (k + 1) ≤ most_time_of_tick) → CanBill shape.tick w e
can_bill shape h j w e c sized fits whole at early few =
    let t = shape.tick in
    let k = e.from / t in
    let long = sized.tick_long in
    let pos : 0 < t = omega (arith, long) in
    let past : k ≤ w.tick = let l = div_rises t e.from e.to pos fits.forward in omega (arith, l, c.tick, at) in
    let recent : w.tick ≤ k + 1 = let l = ends_soon t e.from e.to whole in omega (arith, l, c.tick, at) in
    let short = fits.short in
    record {
      whole = whole;
      past = past;
      recent = recent;
      early = omega (arith, c.tick, early);
      fits = λ p is. elim (cases_lt p most_partitions) [
        | inl inside ↦
            let before : billed_on w p k ≡ used t h p k (k + 1) =
            billed_on_is w (bills_of t h) p k c.stands inside past (omega (arith, recent)) ∙ used_same t h p k (k + 1) c.each in
            let sum = sum_by-append (billed_by t p k (k + 1)) h (e ∷ []) in
            let one = sum_by-cons (billed_by t p k (k + 1)) e [] in
            let own = own_time t p k e is refl whole in
            let most = few p k in
            omega (arith, before, sum, one, own, most)
        | inr past ↦ omega (arith, none_on w p k c.whole.count past, short)
      ];
    }

-- ---- what is read

pub total_used : (shape : Shape) (h : List Entry) (j : ℕ) (w : Window) (p : ℕ) → Counts shape h j w → p < most_partitions → (total_of w p).billed ≡ window_used shape h j p
total_used shape h j w p c inside =
    let bills = bills_of shape.tick h in
    (total_stands w bills p c.whole inside (omega (arith, c.span, c.short)) c.stands).0
    ∙ (λ i. bills_used bills p (c.tick i + 1 - c.span i) (c.tick i + 1))
    ∙ used_same shape.tick h p (j + 1 - shape.window) (j + 1) c.each

pub total_critical : (shape : Shape) (h : List Entry) (j : ℕ) (w : Window) (p : ℕ) → Counts shape h j w → p < most_partitions → (total_of w p).critical ≡ window_critical shape h j p
total_critical shape h j w p c inside =
    let bills = bills_of shape.tick h in
    (total_stands w bills p c.whole inside (omega (arith, c.span, c.short)) c.stands).1
    ∙ (λ i. bills_critical bills p (c.tick i + 1 - c.span i) (c.tick i + 1))
    ∙ critical_same shape.tick h p (j + 1 - shape.window) (j + 1) c.each

-- the verdict on the critical usage that the window has is that on the critical usage of the entries
pub read_verdict : (shape : Shape) (h : List Entry) (j : ℕ) (w : Window) (p budget : ℕ) (v : Verdict) → Counts shape h j w
    → ((bills : List Bill) → StandsFor w bills → v ≡ verdict (bills_critical bills p (w.tick + 1 - w.span) (w.tick + 1)) budget)
    → v ≡ verdict (window_critical shape h j p) budget
read_verdict shape h j w p budget v c stands =
    let bills = bills_of shape.tick h in
    stands bills c.stands
    ∙ (λ i. verdict (bills_critical bills p (c.tick i + 1 - c.span i) (c.tick i + 1)) budget)
    ∙ ap (λ u. verdict u budget) (critical_same shape.tick h p (j + 1 - shape.window) (j + 1) c.each)

-- the test that a verdict tells of
fine_by : (used budget : ℕ) (t : Bool) → Fine ≡ cond t (Bankrupt used budget) Fine → t ≡ false
fine_by used budget true e = cc
fine_by used budget false e = refl

pub fine_is : (used budget : ℕ) → Fine ≡ verdict used budget → nat_lt budget used ≡ false
fine_is used budget e = fine_by used budget (nat_lt budget used) e

bankrupt_is_by : (used budget a b : ℕ) (t : Bool) → Bankrupt a b ≡ cond t (Bankrupt used budget) Fine → t ≡ true
bankrupt_is_by used budget a b true e = refl
bankrupt_is_by used budget a b false e = cc

pub bankrupt_is : (used budget a b : ℕ) → Bankrupt a b ≡ verdict used budget → nat_lt budget used ≡ true
bankrupt_is used budget a b e = bankrupt_is_by used budget a b (nat_lt budget used) e

-- the test of bankruptcy by that
pub bankrupt_by : (s : SchedulerState) (h : List Entry) (e : Entry) (p budget : ℕ) (t : Bool) → e.critical ≡ true → e.from < e.to → e.billed ≡ Some p
    → budget ≡ (row_at s p).critical → nat_lt budget (window_critical s.shape h (e.to / s.shape.tick) p) ≡ t → cond t (Some p) None ≡ bankrupt s h e
bankrupt_by s h e p budget t marked some is budget_is test =
    let j = e.to / s.shape.tick in
    let long : nat_lt e.from e.to ≡ true = grind (arith, nat_tests) in
    sym ((λ i. cond (marked i && long i) (exceeding s h j e.billed) None)
    ∙ ap (exceeding s h j) is
    ∙ (λ i. cond (nat_lt (sym budget_is i) (window_critical s.shape h j p)) (Some p) None)
    ∙ ap (λ b. cond b (Some p) None) test)

-- lists of what is equal at each place
same_below : {X : Type 0} (f g : ℕ → X) (n : ℕ) (d : X) → ((k : ℕ) → k < n → f k ≡ g k) → map f (range_with_len 0 n) ≡ map g (range_with_len 0 n)
same_below f g n d each =
    fill_by_all g (map f (range_with_len 0 n)) n d (length-map-range_with_len f 0 n) (λ k lt. get_or-map-range_with_len f 0 n k k d lt (omega arith) ∙ each k lt)

pub parts_are : (shape : Shape) (rows : List PartitionRow) (h : List Entry) (j : ℕ) (w : Window) → Counts shape h j w → length rows ≤ most_partitions
    → parts_in shape rows w ≡ all_parts shape rows h j
parts_are shape rows h j w c short =
    same_below (part_in shape rows w) (part_facts shape rows h j) (length rows) no_part
    (λ p inside.
    let spent = total_used shape h j w p c (omega (arith, inside, short)) in
    let critical = total_critical shape h j w p c (omega (arith, inside, short)) in
    λ i. part_of shape (row_or_none rows p) (spent i) (critical i))

pub used_are : (shape : Shape) (h : List Entry) (j : ℕ) (w : Window) → Counts shape h j w → used_in w ≡ map (window_used shape h j) (range_with_len 0 most_partitions)
used_are shape h j w c = same_below (λ p. (total_of w p).billed) (window_used shape h j) most_partitions 0 (λ p inside. total_used shape h j w p c inside)

pub critical_are : (shape : Shape) (h : List Entry) (j : ℕ) (w : Window) → Counts shape h j w → critical_in w ≡ map (window_critical shape h j) (range_with_len 0 most_partitions)
critical_are shape h j w c = same_below (λ p. (total_of w p).critical) (window_critical shape h j) most_partitions 0 (λ p inside. total_critical shape h j w p c inside)
