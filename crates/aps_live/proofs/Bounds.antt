-- By how much a partition of a live history exceeds its budget.
use Rattle.std.proofs.Common.{◌≡◌, ◌≢◌, ℕ, zero, suc, ◌+◌, ◌-◌, ◌*◌, ◌/◌, ◌<◌, ◌≤◌, min, max, List, [], ◌∷◌, ◌++◌, length, map, slice_index_or, slice_set, refl, sym, ◌∙◌, ap, subst, Bool, true, false, cond, not, ◌&&◌, nat_eq, nat_le, nat_lt, Option, Some, None, arith, inl, inr, length-set, mul-le-mul_right, replicate, append_assoc}
use Rattle.std.specs.Prelude.{All}
use Rattle.std.specs.List.{fold, range_with_len, sum, sum_by}
use Rattle.std.proofs.Math.Nat.{add-mul, mul-le-mul_left, mul-lt-mul_of_pos_left, mul-pos, mul_assoc, mul_comm, mul-add}
use Rattle.std.proofs.lemmas.Bool.{cases_eq, cases_lt}
use Rattle.std.proofs.lemmas.Bool.Decides.{nat_tests}
use Rattle.std.proofs.lemmas.List.{append-nil, get_or-set_other, get_or-set_same}
use Rattle.std.proofs.lemmas.List.FromFn.{get_or-map-range_with_len, length-map-range_with_len}
use Rattle.std.proofs.lemmas.List.Sums.{sum_by-append, sum_by-cons}
use Rattle.aps_model.specs.declared.entry.Entry.{Entry}
use Rattle.aps_model.specs.declared.merit.Contender.{Contender}
use Rattle.aps_model.specs.declared.merit.PartFacts.{PartFacts}
use Rattle.aps_model.specs.declared.partition.PartitionRow.{PartitionRow}
use Rattle.aps_model.specs.declared.shape.Shape.{Shape}
use Rattle.aps_model.specs.declared.state.Facts.{Facts}
use Rattle.aps_model.specs.declared.state.Pick.{Pick}
use Rattle.aps_model.specs.Bill.{bill_of}
use Rattle.aps_model.specs.Budget.{all_parts, no_part, part_at, part_facts}
use Rattle.aps_model.specs.Due.{last_end}
use Rattle.aps_model.specs.Merit.{class_of, is_critical_pick}
use Rattle.aps_model.specs.Partition.{row_or_none}
use Rattle.aps_model.specs.Pick.{greatest, missing}
use Rattle.aps_model.specs.Scenario.{Scenario}
use Rattle.aps_model.specs.Shape.{whole}
use Rattle.aps_model.specs.Usage.{billed_by, critical_by, critical_used, names, overlap, used, window_used}
use Rattle.aps_model.specs.Valid.{IsScenario}
use Rattle.laws_runs.specs.Numbers.{time_within}
use Rattle.laws_runs.proofs.SmallNumbers.{sum_bounded, sum_less, sum_same}
use Rattle.laws_runs.proofs.WaitFacts.{test_eq}
use Rattle.laws_bounds.specs.Lanes.{in_window}
use Rattle.laws_bounds.specs.Sums.{sum_below}
use Rattle.laws_bounds.proofs.Budget as budgets
use Rattle.laws_bounds.proofs.Funded.{budgets_sum}
use Rattle.laws_bounds.proofs.Inside.{before_later, used_inside, used_tested}
use Rattle.laws_bounds.proofs.Prefixes.{AllBefore}
use Rattle.laws_bounds.proofs.Steady.{ordinary_funded, steady_best}
use Rattle.laws_bounds.proofs.Sums.{single_one, sum_below_add, sum_below_zero}
use Rattle.laws_bounds.proofs.Wides.{ordinary_below, ordinary_by}
use Rattle.aps_live.specs.declared.event.LiveEvent.{LiveEvent}
use Rattle.aps_live.specs.LiveBound.{IsCalmIn, KeepsLiveBound, gap, gaps}
use Rattle.aps_live.specs.LiveHistory.{AreLiveFrom, IsLive, IsLiveStep, Taken, entries_of, latest}
use Rattle.aps_live.specs.LiveState.{LiveState, live_cpu_at, live_opening}
use Rattle.aps_live.specs.declared.thread.Doing.{Doing}
use Rattle.aps_live.specs.LiveStep.{doing_after, live_bill, live_chosen, live_contenders, live_parts, live_settled, live_step, released, woken}
use Rattle.aps_live.proofs.Billing.{tick_after}
use Rattle.aps_live.proofs.Lives.{IsSound, bill_has, entry_joins, sound_start, sound_step}
use Rattle.aps_live.proofs.Sizes.{settled_sized, woken_cpus}
use Rattle.aps_live.proofs.Tiles.{AreTiled, end_other, end_own, last_late, latest_more, passed, tiled_more}

-- ---- sums with one term changed

sum_swap : (f g : ℕ → ℕ) (c n a : ℕ) → a ≤ c → c < a + n → ((d : ℕ) → d ≢ c → g d ≡ f d) → sum_by g (range_with_len a n) + f c ≡ sum_by f (range_with_len a n) + g c
sum_swap f g c zero a low high others = absurd (omega arith)
sum_swap f g c (suc n) a low high others = elim (cases_eq a c) [
  | inl e ↦
      let rest = sum_same f g n (a + 1) (λ d l. others d (λ k. absurd (omega (arith, l, e, k)))) in
      omega (arith, sum_by-cons g a (range_with_len (a + 1) n), sum_by-cons f a (range_with_len (a + 1) n), rest, ap f e, ap g e)
  | inr ne ↦
      omega (arith, sum_by-cons g a (range_with_len (a + 1) n), sum_by-cons f a (range_with_len (a + 1) n), others a ne, sum_swap f g c n (a + 1) (omega (arith, ne, low)) (omega (arith, high)) others)
]

-- ---- gaps

abbrev longest : ℕ → ℕ → List Entry → ℕ
longest c best h = fold (λ found (e : Entry). cond (nat_eq e.cpu c) (max found (e.to - e.from)) found) best h

-- each interval is at most the gap of its processor
abbrev pub AreCovered : (ℕ → ℕ) → List Entry → Type 0
AreCovered cap [] = Unit {0}
AreCovered cap (e ∷ h) = (e.to - e.from ≤ cap e.cpu) × AreCovered cap h

longest_grows : (c best : ℕ) (h : List Entry) → best ≤ longest c best h
longest_grows c best [] = omega arith
longest_grows c best (e ∷ h) =
    let l = longest_grows c (cond (nat_eq e.cpu c) (max best (e.to - e.from)) best) h in
    let m = by_test (nat_eq e.cpu c) in
    omega (arith, l, m)
  where
    by_test : (t : Bool) → best ≤ cond t (max best (e.to - e.from)) best
    by_test true = omega arith
    by_test false = omega arith

covered : (cap bests : ℕ → ℕ) (h : List Entry) → ((c : ℕ) → longest c (bests c) h ≤ cap c) → AreCovered cap h
covered cap bests [] l = tt
covered cap bests (e ∷ h) l =
    let here = ap (λ t. cond t (max (bests e.cpu) (e.to - e.from)) (bests e.cpu)) (test_eq e.cpu e.cpu refl) in
    let grows = longest_grows e.cpu (cond (nat_eq e.cpu e.cpu) (max (bests e.cpu) (e.to - e.from)) (bests e.cpu)) h in
    let most = l e.cpu in
    (omega (arith, here, grows, most), covered cap (λ c. cond (nat_eq e.cpu c) (max (bests c) (e.to - e.from)) (bests c)) h l)

pub gaps_cover : (h : List Entry) → AreCovered (gap h) h
gaps_cover h = covered (gap h) (λ c. 0) h (λ c. omega arith)

-- ---- all entries end by the latest moment

before_from : (best k : ℕ) (h : List Entry) → fold (λ n (e : Entry). max n e.to) best h ≤ k → AllBefore k h
before_from best k [] l = tt
before_from best k (e ∷ h) l = (let g = grows (max best e.to) h in omega (arith, g, l), before_from (max best e.to) k h l)
  where
    grows : (n : ℕ) (g : List Entry) → n ≤ fold (λ m (x : Entry). max m x.to) n g
    grows n [] = omega arith
    grows n (x ∷ g) = let r = grows (max n x.to) g in omega (arith, r)

-- ---- less than the whole of a window is billed

billed_once : (tick a b n : ℕ) (e : Entry) → sum_below n (λ p. billed_by tick p a b e) ≤ overlap tick a b e.from e.to
billed_once tick a b n e = by_billed e.billed
  where
    by_billed : (o : Option ℕ) → sum_below n (λ p. cond (names o p) (overlap tick a b e.from e.to) 0) ≤ overlap tick a b e.from e.to
    by_billed None = omega (arith, sum_below_zero n (λ p. 0) (λ p. refl))
    by_billed (Some q) = single_one n (overlap tick a b e.from e.to) q

used_once : (tick a b n : ℕ) (h : List Entry) → sum_below n (λ p. used tick h p a b) ≤ time_within tick h a b
used_once tick a b n [] = omega (arith, sum_below_zero n (λ p. 0) (λ p. refl))
used_once tick a b n (e ∷ h) =
    let split = sum_below_add n (λ p. billed_by tick p a b e) (λ p. used tick h p a b) (λ p. used tick (e ∷ h) p a b) (λ p. sum_by-cons (billed_by tick p a b) e h) in
    omega (arith, split, billed_once tick a b n e, used_once tick a b n h, sum_by-cons (λ (x : Entry). overlap tick a b x.from x.to) e h)

-- a processor's part of a window that isn't over is less than the window
past_less : (tick w j last : ℕ) → last < (j + 1) * tick → 0 < w → 0 < tick → overlap tick (j + 1 - w) (j + 1) 0 last < w * tick
past_less tick w j last inside some pos = elim (cases_lt (j + 1) w) [
  | inl lt ↦
      let more : (j + 1) * tick ≤ w * tick = mul-le-mul_right tick (omega (arith, lt)) in
      omega (arith, inside, more)
  | inr ge ↦
      let sum : (j + 1 - w) + w ≡ j + 1 = omega (arith, ge) in
      let split : (j + 1) * tick ≡ (j + 1 - w) * tick + w * tick = ap (λ n. n * tick) (sym sum) ∙ add-mul (j + 1 - w) w tick in
      let big : 0 < w * tick = mul-pos some pos in
      omega (arith, inside, split, big)
]

whole_is : (m w t : ℕ) → m * (w * t) ≡ m * w * t
whole_is m w t = sym (mul_assoc m w t)

billed_less_than_whole : (scenario : Scenario) (h : List Entry) (e : Entry) (n : ℕ) → IsScenario scenario → AreTiled scenario.shape.tick scenario.shape.cpus h → ((c : ℕ) → last_end h c ≤ e.to)
    → sum_below n (λ p. window_used scenario.shape h (e.to / scenario.shape.tick) p) < whole scenario.shape
billed_less_than_whole scenario h e n r tiled late =
    let shape = scenario.shape in
    let t : ℕ = shape.tick in
    let w : ℕ = shape.window in
    let j : ℕ = e.to / t in
    let pos : 0 < t = let l = r.shape.tick_long in omega (arith, l) in
    let some : 0 < w = let l = r.shape.window_long in omega (arith, l) in
    let cpu : 0 < shape.cpus = let l = r.shape.some_cpu in omega (arith, l) in
    let big : 0 < w * t = mul-pos some pos in
    let each : (c : ℕ) → passed t (j + 1 - w) (j + 1) h c ≤ w * t - 1 = λ c.
    let l = late c in
    let less = past_less t w j (last_end h c) (let a = tick_after t e.to pos in omega (arith, l, a)) some pos in
    omega (arith, less) in
    let all = sum_bounded (passed t (j + 1 - w) (j + 1) h) (w * t - 1) shape.cpus 0 each in
    let less : shape.cpus * (w * t - 1) < shape.cpus * (w * t) = mul-lt-mul_of_pos_left (omega (arith, big)) cpu in
    omega (arith, used_once t (j + 1 - w) (j + 1) n h, tiled (j + 1 - w) (j + 1), all, less, whole_is shape.cpus w t)

-- ---- an ordinary pick where nobody is starved is in budget

part_is : (shape : Shape) (rows : List PartitionRow) (h : List Entry) (j p : ℕ) → p < length rows → part_at (all_parts shape rows h j) p ≡ part_facts shape rows h j p
part_is shape rows h j p inside = get_or-map-range_with_len (part_facts shape rows h j) 0 (length rows) p p no_part inside (omega arith)

count_is : (shape : Shape) (rows : List PartitionRow) (h : List Entry) (j : ℕ) → length (all_parts shape rows h j) ≡ length rows
count_is shape rows h j = length-map-range_with_len (part_facts shape rows h j) 0 (length rows)

funded_less : (shape : Shape) (rows : List PartitionRow) (h : List Entry) (j p : ℕ) → p < length rows → (part_at (all_parts shape rows h j) p).funded ≡ true
    → shape.parts * window_used shape h j p < (row_or_none rows p).budget * whole shape
funded_less shape rows h j p inside funded =
    let test : nat_lt (shape.parts * window_used shape h j p) ((row_or_none rows p).budget * whole shape) ≡ true = sym (ap (λ (f : PartFacts). f.funded) (part_is shape rows h j p inside)) ∙ funded in
    grind (arith, nat_tests)

less_funded : (shape : Shape) (rows : List PartitionRow) (h : List Entry) (j p : ℕ) → p < length rows → shape.parts * window_used shape h j p < (row_or_none rows p).budget * whole shape
    → (part_at (all_parts shape rows h j) p).funded ≡ true
less_funded shape rows h j p inside less =
    let test : nat_lt (shape.parts * window_used shape h j p) ((row_or_none rows p).budget * whole shape) ≡ true = grind (arith, nat_tests) in
    ap (λ (f : PartFacts). f.funded) (part_is shape rows h j p inside) ∙ test

some_factor : (n k b : ℕ) → n < b * k → 0 < b
some_factor n k zero less = absurd (omega (arith, less))
some_factor n k (suc b) less = omega arith

ordinary_less : (scenario : Scenario) (h : List Entry) (e : Entry) (ready : List Contender) (b : Contender) (p : ℕ) → IsScenario scenario → AreTiled scenario.shape.tick scenario.shape.cpus h → ((c : ℕ) → last_end h c ≤ e.to)
    → p < length scenario.partitions
    → missing (all_parts scenario.shape scenario.partitions h (e.to / scenario.shape.tick)) ready ≡ None
    → greatest scenario.shape.free (all_parts scenario.shape scenario.partitions h (e.to / scenario.shape.tick)) ready ≡ Some b
    → b.facts.partition ≡ p → is_critical_pick b.facts (part_at (all_parts scenario.shape scenario.partitions h (e.to / scenario.shape.tick)) b.facts.partition) ≡ false
    → scenario.shape.parts * window_used scenario.shape h (e.to / scenario.shape.tick) p < (row_or_none scenario.partitions p).budget * whole scenario.shape
ordinary_less scenario h e ready b p r tiled late there calm is of plain =
    let shape = scenario.shape in
    let rows = scenario.partitions in
    let j : ℕ = e.to / shape.tick in
    let ps = all_parts shape rows h j in
    let parts : 0 < shape.parts = elim r.shape.parts [
      | inl k ↦ omega (arith, k)
      | inr k ↦ omega (arith, k)
    ] in
    let found = budgets.in_budget (length rows) shape.parts (whole shape) (window_used shape h j) (λ q. (row_or_none rows q).budget) parts (budgets_sum rows shape.parts r.tree.funded.budgets)
    (billed_less_than_whole scenario h e (length rows) r tiled late) in
    let q : ℕ = found.0 in
    let less : shape.parts * window_used shape h j q < (row_or_none rows q).budget * whole shape = subst (λ k. shape.parts * window_used shape h j q < k) (mul_comm (whole shape) (row_or_none rows q).budget) found.2 in
    let some : 0 < (part_at ps q).budget = subst (λ (f : PartFacts). 0 < f.budget) (sym (part_is shape rows h j q found.1)) (some_factor (shape.parts * window_used shape h j q) (whole shape) (row_or_none rows q).budget less) in
    let steady = steady_best shape.free ps ready q calm (subst (λ n. q < n) (sym (count_is shape rows h j)) found.1) some (less_funded shape rows h j q found.1 less) in
    let same : steady.best ≡ b = some_same steady.best b (sym steady.is ∙ is) in
    let class : class_of b.facts (part_at ps b.facts.partition) ≡ 1 = subst (λ (x : Contender). class_of x.facts (part_at ps x.facts.partition) ≡ 1) same steady.class in
    let funded : (part_at ps b.facts.partition).funded ≡ true = ordinary_funded b.facts (part_at ps b.facts.partition) class plain in
    funded_less shape rows h j p there (ap (λ k. (part_at ps k).funded) (sym of) ∙ funded)
  where
    some_same : (x y : Contender) → Some x ≡ Some y → x ≡ y
    some_same x y e = cc

-- ---- what a step changes of the processors

chosen_other : (s : LiveState) (parts : List PartFacts) (c d : ℕ) (best : Option Contender) → d ≢ c → live_cpu_at (live_chosen s parts c best) d ≡ live_cpu_at s d
chosen_other s parts c d None ne = get_or-set_other s.cpus c d None None ne
chosen_other s parts c d (Some b) ne = get_or-set_other s.cpus c d _ None ne

released_other : (s : LiveState) (c d : ℕ) (doing : Doing) (o : Option Pick) → d ≢ c → live_cpu_at (released s c doing o) d ≡ live_cpu_at s d
released_other s c d doing None ne = refl
released_other s c d doing (Some pick) ne = get_or-set_other s.cpus c d None None ne

-- what the processor keeps of its pick
abbrev kept : List PartFacts → Option Contender → Option Pick
kept parts None = None
kept parts (Some b) = Some (record { thread = b.thread; partition = b.facts.partition; critical = is_critical_pick b.facts (part_at parts b.facts.partition) })

chosen_own : (s : LiveState) (parts : List PartFacts) (c : ℕ) (best : Option Contender) → c < length s.cpus → live_cpu_at (live_chosen s parts c best) c ≡ kept parts best
chosen_own s parts c None there = get_or-set_same s.cpus c None None there
chosen_own s parts c (Some b) there = get_or-set_same s.cpus c _ None there

step_other : (scenario : Scenario) (s : LiveState) (h : List Entry) (c now d : ℕ) (event : LiveEvent) → d ≢ c → live_cpu_at (live_step scenario s h c now event).state d ≡ live_cpu_at s d
step_other scenario s h c now d event ne =
    let r = released s c (doing_after event) (live_cpu_at s c) in
    chosen_other (live_settled s c event) _ c d _ ne
    ∙ ap (λ (cpus : List (Option Pick)). slice_index_or cpus d None) (woken_cpus r event)
    ∙ released_other s c d (doing_after event) (live_cpu_at s c) ne

-- ---- what the processors may still add

module _ (scenario : Scenario) (r : IsScenario scenario) (a p : ℕ) (there : p < length scenario.partitions) (cap : ℕ → ℕ) where
  abbrev t : ℕ
  t = scenario.shape.tick

  abbrev b : ℕ
  b = a + scenario.shape.window

  abbrev m : ℕ
  m = scenario.shape.cpus

  abbrev most : ℕ
  most = (row_or_none scenario.partitions p).budget * whole scenario.shape

  abbrev all_caps : ℕ
  all_caps = sum_by cap (range_with_len 0 m)

  -- an ordinary run of the partition that was begun before the window's end
  abbrev owes : Option Pick → ℕ → ℕ → ℕ
  owes None last k = 0
  owes (Some pick) last k = cond (nat_eq pick.partition p && not pick.critical) (cond (nat_lt last (b * t)) k 0) 0

  abbrev owed : LiveState → List Entry → ℕ → ℕ
  owed s h c = owes (live_cpu_at s c) (last_end h c) (cap c)

  abbrev debts : LiveState → List Entry → ℕ
  debts s h = sum_by (owed s h) (range_with_len 0 m)

  abbrev ordinary : List Entry → ℕ
  ordinary h = sum_by (ordinary_by t p a b) h

  abbrev Keeps : LiveState → List Entry → Type 0
  Keeps s h = scenario.shape.parts * (ordinary h + debts s h) ≤ most + scenario.shape.parts * all_caps

  owes_less : (o : Option Pick) (last k : ℕ) → owes o last k ≤ k
  owes_less None last k = omega arith
  owes_less (Some pick) last k = by_tests (nat_eq pick.partition p && not pick.critical) (nat_lt last (b * t))
    where
      by_tests : (x y : Bool) → cond x (cond y k 0) 0 ≤ k
      by_tests true true = omega arith
      by_tests true false = omega arith
      by_tests false y = omega arith

  debts_less : (s : LiveState) (h : List Entry) → debts s h ≤ all_caps
  debts_less s h = sum_less (owed s h) cap (range_with_len 0 m) (λ c. owes_less (live_cpu_at s c) (last_end h c) (cap c))

  -- what a bill adds is owed
  pays : (c from now k : ℕ) (o : Option Pick) → now - from ≤ k → ordinary_by t p a b (bill_of c from now o) ≤ owes o from k
  pays c from now k None l = omega arith
  pays c from now k (Some pick) l = by_tests (nat_eq pick.partition p) pick.critical (nat_lt from (b * t)) refl
    where
      by_tests : (x y z : Bool) → nat_lt from (b * t) ≡ z → cond (x && not y) (overlap t a b from now) 0 ≤ cond (x && not y) (cond z k 0) 0
      by_tests true false true is = omega (arith, l)
      by_tests true false false is = let ge : b * t ≤ from = grind (arith, nat_tests, is) in omega (arith, ge)
      by_tests true true z is = omega arith
      by_tests false y z is = omega arith

  added : (f : Entry → ℕ) (h : List Entry) (e : Entry) → sum_by f (h ++ e ∷ []) ≡ sum_by f h + f e
  added f h e =
      let one = sum_by-cons f e [] in
      let more = sum_by-append f h (e ∷ []) in
      omega (arith, one, more)

  nothing_used : (h : List Entry) → used t h p a a ≤ 0
  nothing_used [] = omega arith
  nothing_used (e ∷ h) = omega (arith, sum_by-cons (billed_by t p a a) e h, nothing_used h, by_test (names e.billed p))
    where
      by_test : (x : Bool) → cond x (overlap t a a e.from e.to) 0 ≤ 0
      by_test true = omega arith
      by_test false = omega arith

  pos : 0 < t
  pos = let l = r.shape.tick_long in omega (arith, l)

  -- ---- one step

  module _ (s : LiveState) (h : List Entry) (u : Taken) (sound : IsSound scenario s h) (step : IsLiveStep scenario s h u) (short : u.entry.to - u.entry.from ≤ cap u.entry.cpu)
      (calm : a * t ≤ u.entry.to → u.entry.to < b * t → u.entry.starved ≡ None) (keeps : Keeps s h) where
    abbrev e : Entry
    e = u.entry

    abbrev c : ℕ
    c = u.entry.cpu

    abbrev next : LiveState
    next = (live_step scenario s h u.entry.cpu u.entry.to u.event).state

    abbrev more : List Entry
    more = h ++ u.entry ∷ []

    abbrev bill : Entry
    bill = live_bill s h u.entry.cpu u.entry.to

    abbrev billed : List Entry
    billed = h ++ live_bill s h u.entry.cpu u.entry.to ∷ []

    abbrev settled : LiveState
    settled = live_settled s u.entry.cpu u.event

    abbrev parts : List PartFacts
    parts = live_parts scenario h u.entry.to (live_bill s h u.entry.cpu u.entry.to)

    abbrev best : Option Contender
    best = greatest scenario.shape.free (live_parts scenario h u.entry.to (live_bill s h u.entry.cpu u.entry.to)) (live_contenders (live_settled s u.entry.cpu u.event))

    has : (bill.cpu ≡ c) × (bill.from ≡ last_end h c) × (bill.to ≡ e.to)
    has = bill_has c (last_end h c) e.to (live_cpu_at s c)

    swap : debts next more + owed s h c ≡ debts s h + owed next more c
    swap = sum_swap (owed s h) (owed next more) c m 0 (omega arith) (let l = step.exists in omega (arith, l))
        (λ d ne. ap (λ (o : Option Pick). owes o (last_end more d) (cap d)) (step_other scenario s h c e.to d u.event ne) ∙ ap (λ k. owes (live_cpu_at s d) k (cap d)) (end_other h e d ne))

    pay : ordinary_by t p a b e ≤ owed s h c
    pay =
        let joins = entry_joins scenario s h u step in
        subst (λ (x : Entry). ordinary_by t p a b x ≤ owed s h c) (sym step.stepped) (pays c (last_end h c) e.to (cap c) (live_cpu_at s c) (omega (arith, short, joins)))

    own : owed next more c ≡ owes (kept parts best) e.to (cap c)
    own =
        ap (λ (o : Option Pick). owes o (last_end more c) (cap c)) (chosen_own settled parts c best (let l = step.exists in omega (arith, l, sound.cpus, (settled_sized s c u.event).cpus)))
        ∙ ap (λ k. owes (kept parts best) k (cap c)) (end_own h e)

    done : owed next more c ≡ 0 → Keeps next more
    done none =
        let less : ordinary more + debts next more ≤ ordinary h + debts s h = omega (arith, added (ordinary_by t p a b) h e, pay, swap, none) in
        let all = mul-le-mul_left scenario.shape.parts less in
        omega (arith, all, keeps)

    same_ordinary : ordinary more ≡ ordinary billed
    same_ordinary = added (ordinary_by t p a b) h e ∙ ap (λ (x : Entry). ordinary h + ordinary_by t p a b x) step.stepped ∙ sym (added (ordinary_by t p a b) h bill)

    within : scenario.shape.parts * ordinary more ≤ most → Keeps next more
    within less =
        let all = mul-le-mul_left scenario.shape.parts (debts_less next more) in
        omega (arith, less, all, mul-add scenario.shape.parts (ordinary more) (debts next more))

    late : latest h ≤ bill.to
    late = let l = step.later in omega (arith, l, has.2)

    before : AllBefore e.to billed
    before = before_from 0 e.to billed (let l = latest_more h bill late in omega (arith, l, has.2))

    early : e.to < a * t → Keeps next more
    early lt =
        let low : used t billed p a b ≤ used t billed p a a = used_inside t p a b a a billed (omega arith) (before_later e.to (a * t) billed (omega (arith, lt)) before) in
        let none : ordinary more ≡ 0 = omega (arith, same_ordinary, ordinary_below t p a b billed, low, nothing_used billed) in
        let zero : scenario.shape.parts * ordinary more ≡ scenario.shape.parts * 0 = ap (λ n. scenario.shape.parts * n) none in
        within (omega (arith, zero))

    inside : (x : Contender) → best ≡ Some x → x.facts.partition ≡ p → is_critical_pick x.facts (part_at parts x.facts.partition) ≡ false → a * t ≤ e.to → e.to < b * t → Keeps next more
    inside x is of plain low high =
        let joins = entry_joins scenario s h u step in
        let old = last_late h c in
        let tiled : AreTiled t m billed = tiled_more t m h bill (let l = step.exists in omega (arith, l, has.0)) (has.1 ∙ ap (last_end h) (sym has.0)) (omega (arith, has.1, old, late)) sound.tiled in
        let ends : (d : ℕ) → last_end billed d ≤ e.to = λ d. let l = last_late billed d in let k = latest_more h bill late in omega (arith, l, k, has.2) in
        let fed : missing parts (live_contenders settled) ≡ None = sym (ap (λ (y : Entry). y.starved) step.stepped) ∙ calm low high in
        let less = ordinary_less scenario billed e (live_contenders settled) x p r tiled ends there fed is of plain in
        let window : in_window t a (a + scenario.shape.window) e.to ≡ true = grind (arith, nat_tests, low, high) in
        let part = used_tested t p a scenario.shape.window e.to billed pos window before in
        let ord : ordinary more ≤ window_used scenario.shape billed (e.to / t) p = omega (arith, same_ordinary, ordinary_below t p a b billed, part) in
        let all = mul-le-mul_left scenario.shape.parts ord in
        within (omega (arith, all, less))

    by_best : (o : Option Contender) → best ≡ o → Keeps next more
    by_best None is = done (own ∙ ap (λ (o : Option Contender). owes (kept parts o) e.to (cap c)) is ∙ none_owes)
      where
        none_owes : owes (kept parts None) e.to (cap c) ≡ 0
        none_owes = refl
    by_best (Some x) is = by_tests (nat_eq x.facts.partition p) (is_critical_pick x.facts (part_at parts x.facts.partition)) (nat_lt e.to (b * t)) refl refl refl
      where
        some_owes : owes (kept parts (Some x)) e.to (cap c) ≡ cond (nat_eq x.facts.partition p && not (is_critical_pick x.facts (part_at parts x.facts.partition))) (cond (nat_lt e.to (b * t)) (cap c) 0) 0
        some_owes = refl

        owes_is : owed next more c ≡ cond (nat_eq x.facts.partition p && not (is_critical_pick x.facts (part_at parts x.facts.partition))) (cond (nat_lt e.to (b * t)) (cap c) 0) 0
        owes_is = own ∙ ap (λ (o : Option Contender). owes (kept parts o) e.to (cap c)) is ∙ some_owes

        by_tests : (i j k : Bool) → nat_eq x.facts.partition p ≡ i → is_critical_pick x.facts (part_at parts x.facts.partition) ≡ j → nat_lt e.to (b * t) ≡ k → Keeps next more
        by_tests true false true one two three =
            let of : x.facts.partition ≡ p = grind (arith, nat_tests, one) in
            let high : e.to < b * t = grind (arith, nat_tests, three) in
            elim (cases_lt e.to (a * t)) [
              | inl lt ↦ early lt
              | inr ge ↦ inside x is of two ge high
            ]
        by_tests true false false one two three = done (owes_is ∙ (λ i. cond (one i && not (two i)) (cond (three i) (cap c) 0) 0))
        by_tests true true k one two three = done (owes_is ∙ (λ i. cond (one i && not (two i)) (cond (three i) (cap c) 0) 0))
        by_tests false j k one two three = done (owes_is ∙ (λ i. cond (one i && not (two i)) (cond (three i) (cap c) 0) 0))

    pub step_keeps : Keeps next more
    step_keeps = by_best best refl

  -- ---- all steps

  from_steps : (s : LiveState) (h : List Entry) (steps : List Taken) → IsSound scenario s h → Keeps s h → AreLiveFrom scenario s h steps → AreCovered cap (entries_of steps) → IsCalmIn t (entries_of steps) a b
      → scenario.shape.parts * ordinary (h ++ entries_of steps) ≤ most + scenario.shape.parts * all_caps
  from_steps s h [] sound keeps live covers calm =
      let less = mul-le-mul_left scenario.shape.parts (let l : ordinary h ≤ ordinary h + debts s h = omega arith in l) in
      let same : scenario.shape.parts * ordinary (h ++ []) ≡ scenario.shape.parts * ordinary h = ap (λ (g : List Entry). scenario.shape.parts * ordinary g) (append-nil h) in
      omega (arith, less, keeps, same)
  from_steps s h (u ∷ steps) sound keeps live covers calm =
      let next = (live_step scenario s h u.entry.cpu u.entry.to u.event).state in
      let here = calm 0 u.entry (omega arith) in
      subst (λ (g : List Entry). scenario.shape.parts * ordinary g ≤ most + scenario.shape.parts * all_caps) (append_assoc h (u.entry ∷ []) (entries_of steps))
      (from_steps next (h ++ u.entry ∷ []) steps (sound_step scenario s h u sound live.0) (step_keeps s h u sound live.0 covers.0 here keeps) live.1 covers.1
      (λ k d inside. calm (suc k) d (omega (arith, inside))))

-- what a partition used is its ordinary time and its critical time
apart : (tick p a b : ℕ) (h : List Entry) → used tick h p a b ≡ sum_by (ordinary_by tick p a b) h + critical_used tick h p a b
apart tick p a b [] = refl
apart tick p a b (e ∷ h) =
    omega (arith, sum_by-cons (billed_by tick p a b) e h, sum_by-cons (ordinary_by tick p a b) e h, sum_by-cons (critical_by tick p a b) e h, two (names e.billed p) e.critical (overlap tick a b e.from e.to), apart tick p a b h)
  where
    two : (x y : Bool) (k : ℕ) → cond x k 0 ≡ cond (x && not y) k 0 + cond (x && y) k 0
    two true true k = omega arith
    two true false k = omega arith
    two false y k = omega arith

abbrev idle : Option Pick
idle = None

idle_owe : (scenario : Scenario) (r : IsScenario scenario) (a p : ℕ) (there : p < length scenario.partitions) (cap : ℕ → ℕ) → debts scenario r a p there cap (live_opening scenario) [] ≡ 0
idle_owe scenario r a p there cap =
    let l = sum_bounded (owed scenario r a p there cap (live_opening scenario) []) 0 scenario.shape.cpus 0 (λ c. nobody c (slice_index_or (replicate scenario.shape.cpus idle) c None) refl) in
    omega (arith, l)
  where
    still : (n c : ℕ) → slice_index_or (replicate n idle) c None ≡ None
    still zero c = refl
    still (suc n) zero = refl
    still (suc n) (suc c) = still n c

    nobody : (c : ℕ) (o : Option Pick) → slice_index_or (replicate scenario.shape.cpus idle) c None ≡ o → owed scenario r a p there cap (live_opening scenario) [] c ≤ 0
    nobody c o is = let z = ap (λ (x : Option Pick). owes scenario r a p there cap x 0 (cap c)) (still scenario.shape.cpus c) in omega (arith, z)

pub bound : (scenario : Scenario) (steps : List Taken) → IsScenario scenario → IsLive scenario steps → KeepsLiveBound scenario (entries_of steps)
unfolding IsLive
bound scenario steps r live a p calm there =
    let h = entries_of steps in
    let shape = scenario.shape in
    let b = a + shape.window in
    let cap = gap h in
    let start : shape.parts * (0 + debts scenario r a p there cap (live_opening scenario) []) ≡ shape.parts * 0 = ap (λ n. shape.parts * (0 + n)) (idle_owe scenario r a p there cap) in
    let all = from_steps scenario r a p there cap (live_opening scenario) [] steps (sound_start scenario) (omega (arith, start)) live (gaps_cover h) calm in
    let o : ℕ = sum_by (ordinary_by shape.tick p a b) h in
    let k : ℕ = critical_used shape.tick h p a b in
    let split : shape.parts * used shape.tick h p a b ≡ shape.parts * o + shape.parts * k = ap (λ n. shape.parts * n) (apart shape.tick p a b h) ∙ mul-add shape.parts o k in
    let caps : shape.parts * (gaps h shape.cpus + k) ≡ shape.parts * gaps h shape.cpus + shape.parts * k = mul-add shape.parts (gaps h shape.cpus) k in
    omega (arith, all, split, caps)
