-- What one partition uses of a window that begins inside a tick.
use Rattle.std.proofs.Common.{◌≡◌, ℕ, zero, suc, ◌+◌, ◌-◌, ◌*◌, ◌/◌, ◌≤◌, ◌<◌, Bool, true, false, if◌then◌else◌, nat_eq, List, [], ◌∷◌, ◌++◌, length, refl, sym, ◌∙◌, ap, subst, append_assoc, slice_set, arith, inl, inr}
use Rattle.std.specs.List.{All, sum_by}
use Rattle.std.proofs.Math.Nat.{add-mul, mul-add, mul-le-mul_left, mul-le-mul_right, mul_comm}
use Rattle.std.proofs.lemmas.Bool.{cases_lt}
use Rattle.std.proofs.lemmas.Bool.Decides.{nat_tests}
use Rattle.std.proofs.lemmas.List.Elements.{All-replicate}
use Rattle.std.proofs.lemmas.List.Sums.{sum_by-cons, sum_by_push}
use Rattle.aps_model.specs.declared.entry.Entry.{Entry}
use Rattle.aps_model.specs.declared.entry.Order.{Order}
use Rattle.aps_model.specs.Due.{next_boundary}
use Rattle.aps_model.specs.Legal.{IsLegal}
use Rattle.aps_model.specs.Partition.{row_or_none}
use Rattle.aps_model.specs.Scenario.{Scenario}
use Rattle.aps_model.specs.SchedulerState.{SchedulerState}
use Rattle.aps_model.specs.Shape.{whole}
use Rattle.aps_model.specs.Usage.{billed_by, critical_used, names, overlap, used}
use Rattle.aps_model.specs.Valid.{IsScenario}
use Rattle.laws_runs.specs.Moments.{moment}
use Rattle.laws_runs.specs.Window.{Kept, Lane, Tiles, Walks, Wide, lane_after, lanes_at_start, still}
use Rattle.laws_runs.proofs.MomentLaws.{moment-append}
use Rattle.laws_runs.proofs.Sound.{next_law}
use Rattle.laws_runs.proofs.Words.{up_to}
use Rattle.laws_bounds.specs.Lanes.{is_critical, is_ordinary, paid}
use Rattle.laws_bounds.proofs.Budget.{length_lanes}
use Rattle.laws_bounds.proofs.Inside.{before_later, in_ticks, inside_window}
use Rattle.laws_bounds.proofs.Late.{sum_at_start}
use Rattle.laws_bounds.proofs.Prefixes.{AllBefore, latest}
use Rattle.laws_bounds.proofs.Upper.{apart}
use Rattle.laws_load.specs.AnyMoment.{leeway_between}
use Rattle.laws_bounds.specs.FreeTime.{free_used}
use Rattle.laws_bounds.specs.Kinds.{is_funded, last_kind}
use Rattle.laws_bounds.proofs.Above.{count, walks_here}
use Rattle.laws_bounds.proofs.Marked.{marked, marked_from, marked_of}
use Rattle.laws_bounds.proofs.MarkedSums.{is_unfunded, ordinary_billed, unfunded_marked, unmarked_funded, used_marked}
use Rattle.laws_load.proofs.Moved.{ResetsMoved, Rises, moved}
use Rattle.laws_load.proofs.OwnShares.{used_longer, used_wider}
use Rattle.laws_load.proofs.Reach.{ResetsBefore, boundary_before, reach, reach_past, reach_uncounted, step_reach, walk_reach}
use Rattle.laws_bounds.proofs.Spans.{IsSpan, funded_less, funded_there, pos}
use Rattle.laws_bounds.specs.Picks.{wide_at}

-- ---- sums between moments

counted : (one : Bool) (k n : ℕ) → k ≤ n → (if one then k else 0) ≤ (if one then n else 0)
counted true k n le = le
counted false k n le = omega arith

counted_two : (one : Bool) (k n m : ℕ) → k ≤ n + m → (if one then k else 0) ≤ (if one then n else 0) + (if one then m else 0)
counted_two true k n m le = le
counted_two false k n m le = omega arith

overlap_mixed : (tick c d lo hi from to : ℕ) → c * tick ≤ lo → to ≤ d * tick → overlap 1 lo hi from to ≤ overlap tick c d from to
overlap_mixed tick c d lo hi from to low late = omega (arith, low, late)

-- what lies between two moments lies in ticks around them
used_mixed : (tick p c d lo hi : ℕ) (h : List Entry) → c * tick ≤ lo → AllBefore (d * tick) h → used 1 h p lo hi ≤ used tick h p c d
used_mixed tick p c d lo hi [] low before = omega arith
used_mixed tick p c d lo hi (e ∷ es) low before =
    omega (
      arith,
      sum_by-cons (billed_by 1 p lo hi) e es,
      sum_by-cons (billed_by tick p c d) e es,
      used_mixed tick p c d lo hi es low before.1,
      counted (names e.billed p) (overlap 1 lo hi e.from e.to) (overlap tick c d e.from e.to) (overlap_mixed tick c d lo hi e.from e.to low before.0),
    )

overlap_first : (tick c d lo hi from to : ℕ) → to ≤ d * tick → overlap 1 lo hi from to ≤ overlap 1 lo (c * tick) from to + overlap tick c d from to
overlap_first tick c d lo hi from to late = grind (arith, late)

-- apart from the part of the first tick
used_first : (tick p c d lo hi : ℕ) (h : List Entry) → AllBefore (d * tick) h → used 1 h p lo hi ≤ used 1 h p lo (c * tick) + used tick h p c d
used_first tick p c d lo hi [] before = omega arith
used_first tick p c d lo hi (e ∷ es) before =
    omega (
      arith,
      sum_by-cons (billed_by 1 p lo hi) e es,
      sum_by-cons (billed_by 1 p lo (c * tick)) e es,
      sum_by-cons (billed_by tick p c d) e es,
      used_first tick p c d lo hi es before.1,
      counted_two (names e.billed p) (overlap 1 lo hi e.from e.to) (overlap 1 lo (c * tick) e.from e.to) (overlap tick c d e.from e.to) (overlap_first tick c d lo hi e.from e.to before.0),
    )

-- nothing lies after the last moment
used_none : (p lo hi now : ℕ) (h : List Entry) → now ≤ lo → AllBefore now h → used 1 h p lo hi ≤ 0
used_none p lo hi now [] le before = omega arith
used_none p lo hi now (e ∷ es) le before =
    omega (
      arith,
      sum_by-cons (billed_by 1 p lo hi) e es,
      used_none p lo hi now es le before.1,
      counted (names e.billed p) (overlap 1 lo hi e.from e.to) 0 (nothing lo hi e.from e.to (omega (arith, before.0, le))),
      zero_of (names e.billed p),
    )
  where
    nothing : (lo hi from to : ℕ) → to ≤ lo → overlap 1 lo hi from to ≤ 0
    nothing lo hi from to le = omega (arith, le)

    zero_of : (t : Bool) → ◌≡◌ {A = ℕ} (if t then 0 else 0) 0
    zero_of true = refl
    zero_of false = refl

overlap_split : (lo cut hi from to : ℕ) → lo ≤ cut → cut ≤ hi → overlap 1 lo hi from to ≡ overlap 1 lo cut from to + overlap 1 cut hi from to
overlap_split lo cut hi from to one two = grind (arith, one, two)

-- two parts of the time
paid_split : (counts : Kept → Bool) (lo cut hi : ℕ) (entries : List Wide) → lo ≤ cut → cut ≤ hi
    → sum_by (paid counts 1 lo hi) entries ≡ sum_by (paid counts 1 lo cut) entries + sum_by (paid counts 1 cut hi) entries
paid_split counts lo cut hi [] one two = refl
paid_split counts lo cut hi (e ∷ es) one two =
    omega (
      arith,
      sum_by-cons (paid counts 1 lo hi) e es,
      sum_by-cons (paid counts 1 lo cut) e es,
      sum_by-cons (paid counts 1 cut hi) e es,
      paid_split counts lo cut hi es one two,
      by_test (counts e.bills) (overlap_split lo cut hi e.from e.to one two),
    )
  where
    by_test : (t : Bool) → overlap 1 lo hi e.from e.to ≡ overlap 1 lo cut e.from e.to + overlap 1 cut hi e.from e.to
        → (if t then overlap 1 lo hi e.from e.to else 0) ≡ (if t then overlap 1 lo cut e.from e.to else 0) + (if t then overlap 1 cut hi e.from e.to else 0)
    by_test true same = same
    by_test false same = refl

-- ---- where nothing that counts reaches into the time

abbrev NoneReach : (Kept → Bool) → ℕ → ℕ → ℕ → List Wide → Type 0
NoneReach counts tick lo hi [] = Unit {0}
NoneReach counts tick lo hi (e ∷ es) = (counts e.keeps ≡ true → reach counts tick lo hi (lane_after e) ≡ 0) × NoneReach counts tick lo hi es

walk_none : (counts : Kept → Bool) (tick lo hi : ℕ) (lanes : List Lane) (entries : List Wide) → Walks tick lanes entries → NoneReach counts tick lo hi entries
    → sum_by (paid counts 1 lo hi) entries ≤ sum_by (reach counts tick lo hi) lanes
walk_none counts tick lo hi lanes [] walk none = omega arith
walk_none counts tick lo hi lanes (e ∷ es) (lane, found, from, bills, near, later) (here, nones) =
    let step = step_reach lanes e lane found counts tick lo hi from bills near in
    let new : reach counts tick lo hi (lane_after e) ≡ 0 = by_count (counts e.keeps) refl in
    omega (arith, sum_by-cons (paid counts 1 lo hi) e es, step, new, walk_none counts tick lo hi (slice_set lanes e.cpu (lane_after e)) es later nones)
  where
    by_count : (t : Bool) → counts e.keeps ≡ t → reach counts tick lo hi (lane_after e) ≡ 0
    by_count true is = here is
    by_count false is = reach_uncounted counts tick lo hi (lane_after e) is

-- ---- the two lines, over variables

line_last : (parts limit before tail unfunded uses extra most moved : ℕ) → uses ≡ before + tail + unfunded → parts * before ≤ limit + parts * most → tail ≤ moved → most + unfunded ≤ extra
    → parts * uses ≤ limit + parts * (extra + moved)
line_last parts limit before tail unfunded uses extra most moved is within few le =
    let less : uses ≤ before + (moved + unfunded) = omega (arith, is, few) in
    let more : most + (moved + unfunded) ≤ extra + moved = omega (arith, le) in
    omega (arith, mul-le-mul_left parts less, mul-add parts before (moved + unfunded), within, mul-add parts most (moved + unfunded), mul-le-mul_left parts more)

line_first : (parts limit all unfunded uses extra most rest firsts : ℕ) → uses ≡ all + unfunded → parts * all + rest ≤ limit + parts * (most + firsts) → most + unfunded ≤ extra
    → parts * uses + rest ≤ limit + parts * (extra + firsts)
line_first parts limit all unfunded uses extra most rest firsts is within le =
    let more : (most + firsts) + unfunded ≤ extra + firsts = omega (arith, le) in
    let same : parts * uses ≡ parts * all + parts * unfunded = ap (λ n. parts * n) is ∙ mul-add parts all unfunded in
    omega (arith, same, within, mul-add parts (most + firsts) unfunded, mul-le-mul_left parts more)

-- ---- a window that begins so late in tick a

-- what the partition uses of it, by how many processors stood in its last tick at its last pick in budget
pub record IsShifted (parts limit uses extra firsts n tick late budget : ℕ) : Type 0 where
  pub in_last : ℕ
  pub few : in_last ≤ n
  pub none : budget ≡ 0 → in_last ≡ 0
  pub last : parts * uses ≤ limit + parts * (extra + late * in_last)
  pub first : parts * uses + parts * ((tick - late) * in_last) ≤ limit + parts * (extra + firsts)

module _ (scenario : Scenario) (order : Order) (h : List Entry) (r : IsScenario scenario) (legal : IsLegal scenario order h) (a late : ℕ) (s : SchedulerState)
    (w : IsSpan scenario h a (a + s.shape.window + 1) s) (short : late < s.shape.tick) where
  abbrev tick : ℕ
  tick = s.shape.tick

  abbrev x : ℕ
  x = a * s.shape.tick + late

  abbrev cut : ℕ
  cut = (a + s.shape.window) * s.shape.tick

  abbrev y : ℕ
  y = (a + s.shape.window) * s.shape.tick + late

  abbrev second : ℕ
  second = (a + 1) * s.shape.tick

  abbrev ws : List Wide
  ws = marked is_unfunded scenario h

  x_before : x ≤ cut
  x_before =
      let some = w.some in
      let le : second ≤ cut = mul-le-mul_right s.shape.tick (omega (arith, some)) in
      omega (arith, le, add-mul a 1 s.shape.tick, short)

  y_end : y ≤ (a + s.shape.window + 1) * s.shape.tick
  y_end = omega (arith, add-mul (a + s.shape.window) 1 s.shape.tick, short)

  -- ---- picks in budget

  module _ (p : ℕ) where
    abbrev limit : ℕ
    limit = (row_or_none s.rows p).budget * whole s.shape

    abbrev firsts : ℕ
    firsts = used 1 h p x second

    -- the test of a pick in budget that stands in the span
    tested : (before later : List Entry) (e : Entry) → h ≡ before ++ e ∷ later → is_funded scenario (before ++ e ∷ []) p ≡ true → a * tick ≤ e.to → e.to < (a + s.shape.window + 1) * tick
        → s.shape.parts * used tick (before ++ e ∷ []) p (e.to / tick + 1 - s.shape.window) (e.to / tick + 1) < limit
    tested before later e same in_it low high =
        funded_less s.shape s.rows (before ++ e ∷ []) (e.to / tick) p
        (sym (funded_there scenario before e p s (w.holds before later e same (inside_window tick a (a + s.shape.window + 1) e.to low high))) ∙ in_it)

    earlier : (n j : ℕ) → j < a + n → j + 1 - n ≤ a
    earlier n j below = omega (arith, below)

    all_before : (before later : List Entry) (e : Entry) → h ≡ before ++ e ∷ later → AllBefore e.to (before ++ e ∷ [])
    all_before before later e same = latest scenario order r before e (up_to scenario order h before later e same legal)

    -- before the last tick
    early : (before later : List Entry) (e : Entry) → h ≡ before ++ e ∷ later → is_funded scenario (before ++ e ∷ []) p ≡ true → e.to < cut
        → s.shape.parts * used 1 (before ++ e ∷ []) p x y ≤ limit
    early before later e same in_it less = elim (cases_lt e.to (a * tick)) [
      | inl before_all ↦
          let none = used_none p x y e.to (before ++ e ∷ []) (omega (arith, before_all)) (all_before before later e same) in
          omega (arith, mul-le-mul_left s.shape.parts none)
      | inr low ↦
          let g = before ++ e ∷ [] in
          let j : ℕ = e.to / tick in
          let i = in_ticks tick a (a + s.shape.window) e.to (pos scenario order h r legal a (a + s.shape.window + 1) s w) (inside_window tick a (a + s.shape.window) e.to low less) in
          let from : j + 1 - s.shape.window ≤ a = earlier s.shape.window j i.below in
          let low' : (j + 1 - s.shape.window) * tick ≤ x = omega (arith, mul-le-mul_right tick from) in
          let part = used_mixed tick p (j + 1 - s.shape.window) (j + 1) x y g low' (before_later e.to ((j + 1) * tick) g i.inside (all_before before later e same)) in
          let within = tested before later e same in_it low (omega (arith, less, add-mul (a + s.shape.window) 1 tick)) in
          omega (arith, within, mul-le-mul_left s.shape.parts part)
    ]

    same_tick : (j n : ℕ) → n ≤ j → j < n + 1 → j ≡ n
    same_tick j n low high = omega (arith, low, high)

    -- in the last tick
    in_time : (before later : List Entry) (e : Entry) → h ≡ before ++ e ∷ later → is_funded scenario (before ++ e ∷ []) p ≡ true → cut ≤ e.to → e.to < y
        → s.shape.parts * used 1 (before ++ e ∷ []) p x y ≤ limit + s.shape.parts * firsts
    in_time before later e same in_it low high =
        let g = before ++ e ∷ [] in
        let n : ℕ = a + s.shape.window in
        let end : e.to < (n + 1) * tick = omega (arith, high, y_end) in
        let i = in_ticks tick n (n + 1) e.to (pos scenario order h r legal a (a + s.shape.window + 1) s w) (inside_window tick n (n + 1) e.to low end) in
        let j : e.to / tick ≡ n = same_tick (e.to / tick) n i.from i.below in
        let from : a * tick ≤ e.to = omega (arith, low, x_before) in
        let within = tested before later e same in_it from end in
        let within' : s.shape.parts * used tick g p (a + 1) (n + 1) < limit =
        subst (λ k. s.shape.parts * used tick g p k (n + 1) < limit) (omega arith) (subst (λ k. s.shape.parts * used tick g p (k + 1 - s.shape.window) (k + 1) < limit) j within) in
        let inside = subst (λ k. e.to ≤ (k + 1) * tick) j i.inside in
        let part = used_first tick p (a + 1) (n + 1) x y g (before_later e.to ((n + 1) * tick) g inside (all_before before later e same)) in
        let more : used 1 g p x second ≤ firsts =
        subst (λ (l : List Entry). used 1 g p x second ≤ used 1 l p x second) (append_assoc before (e ∷ []) later ∙ sym same) (used_longer 1 p x second g later) in
        let sum : used 1 g p x y ≤ firsts + used tick g p (a + 1) (n + 1) = omega (arith, part, more) in
        omega (arith, within', mul-le-mul_left s.shape.parts sum, mul-add s.shape.parts firsts (used tick g p (a + 1) (n + 1)))

    -- ---- the marked entries

    paid_more : (g : List Entry) (e : Entry) (lo hi so_far : ℕ) → so_far ≤ used 1 g p lo hi → so_far + paid (is_ordinary p) 1 lo hi (marked_of is_unfunded scenario g e) ≤ used 1 (g ++ e ∷ []) p lo hi
    paid_more g e lo hi so_far less =
        omega (arith, less, sum_by_push (billed_by 1 p lo hi) g e, ordinary_billed (overlap 1 lo hi e.from e.to) p (is_unfunded (last_kind scenario g e.cpu)) e.critical e.billed)

    in_budget : (g : List Entry) (e : Entry) → is_ordinary p (marked_of is_unfunded scenario g e).keeps ≡ true → is_funded scenario (g ++ e ∷ []) p ≡ true
    in_budget g e is = unmarked_funded (is_funded scenario (g ++ e ∷ [])) p (wide_at scenario g e).keeps is

    resets_moved : (g es : List Entry) (so_far : ℕ) → h ≡ g ++ es → so_far ≤ used 1 g p x y
        → ResetsMoved (is_ordinary p) tick (a + s.shape.window) x late s.shape.parts limit firsts (omega (arith, short)) so_far (marked_from is_unfunded scenario g es)
    resets_moved g [] so_far same less = tt
    resets_moved g (e ∷ es) so_far same less =
        let more = paid_more g e x y so_far less in (
          λ is before_cut. omega (arith, mul-le-mul_left s.shape.parts more, early g es e same (in_budget g e is) before_cut),
          λ is low high. omega (arith, mul-le-mul_left s.shape.parts more, in_time g es e same (in_budget g e is) low high),
          resets_moved (g ++ e ∷ []) es (so_far + paid (is_ordinary p) 1 x y (marked_of is_unfunded scenario g e)) (same ∙ sym (append_assoc g (e ∷ []) es)) more,
        )

    resets_before : (g es : List Entry) (so_far : ℕ) → h ≡ g ++ es → so_far ≤ used 1 g p x cut
        → ResetsBefore (is_ordinary p) x cut s.shape.parts limit so_far (marked_from is_unfunded scenario g es)
    resets_before g [] so_far same less = tt
    resets_before g (e ∷ es) so_far same less =
        let more = paid_more g e x cut so_far less in
        let wider : used 1 (g ++ e ∷ []) p x cut ≤ used 1 (g ++ e ∷ []) p x y = used_wider 1 p x cut x y (g ++ e ∷ []) (omega arith) (omega arith) in
        let all : so_far + paid (is_ordinary p) 1 x cut (marked_of is_unfunded scenario g e) ≤ used 1 (g ++ e ∷ []) p x y = omega (arith, more, wider) in (
          λ is before_cut. omega (arith, mul-le-mul_left s.shape.parts all, early g es e same (in_budget g e is) before_cut),
          resets_before (g ++ e ∷ []) es (so_far + paid (is_ordinary p) 1 x cut (marked_of is_unfunded scenario g e)) (same ∙ sym (append_assoc g (e ∷ []) es)) more,
        )

    none_reach : (row_or_none s.rows p).budget ≡ 0 → (g es : List Entry) → h ≡ g ++ es → NoneReach (is_ordinary p) tick x y (marked_from is_unfunded scenario g es)
    none_reach zero' g [] same = tt
    none_reach zero' g (e ∷ es) same = (
      λ is. elim (cases_lt e.to (a * tick)) [
        | inl less ↦
            let near = boundary_before tick a e.to less in
            none_left (is_ordinary p (marked_of is_unfunded scenario g e).keeps) e.to (next_boundary tick e.to) (omega (arith, near))
        | inr low ↦ elim (cases_lt e.to y) [
          | inl high ↦ absurd (less_than_none _ (row_or_none s.rows p).budget (whole s.shape) zero' (tested g es e same (in_budget g e is) low (omega (arith, high, y_end))))
          | inr over ↦ reach_past (is_ordinary p) tick x y (lane_after (marked_of is_unfunded scenario g e)) over
        ]
      ],
      none_reach zero' (g ++ e ∷ []) es (same ∙ sym (append_assoc g (e ∷ []) es)),
    )
      where
        less_than_none : (n k m : ℕ) → k ≡ 0 → n < k * m → ⊥
        less_than_none n k m is less = omega (arith, subst (λ z. n < z * m) is less)

        none_left : (t : Bool) (from to : ℕ) → to ≤ x → (if t then overlap 1 x y from to else 0) ≡ 0
        none_left true from to le = omega (arith, le)
        none_left false from to le = refl

  -- ---- moments

  rises_from : (g es : List Entry) → h ≡ g ++ es → Rises (moment g) (marked_from is_unfunded scenario g es)
  rises_from g [] same = tt
  rises_from g (e ∷ es) same =
      let next = next_law scenario order g e r (up_to scenario order h g es e same legal) in
      let rest = rises_from (g ++ e ∷ []) es (same ∙ sym (append_assoc g (e ∷ []) es)) in
      (next.rises, subst (λ n. Rises n (marked_from is_unfunded scenario (g ++ e ∷ []) es)) (moment-append g e) rest)

  tiles_from : (g es : List Entry) (lanes : List Lane) → h ≡ g ++ es → Walks tick lanes (marked_from is_unfunded scenario g es) → Tiles lanes (marked_from is_unfunded scenario g es)
  tiles_from g [] lanes same walk = tt
  tiles_from g (e ∷ es) lanes same walk =
      let next = next_law scenario order g e r (up_to scenario order h g es e same legal) in
      (walk.0, walk.1, walk.2, next.forward, tiles_from (g ++ e ∷ []) es (slice_set lanes e.cpu (lane_after (marked_of is_unfunded scenario g e))) (same ∙ sym (append_assoc g (e ∷ []) es)) walk.5)

  start_early : All (λ (l : Lane). l.last ≤ 0) (lanes_at_start scenario)
  start_early = All-replicate (λ (l : Lane). l.last ≤ 0) scenario.shape.cpus still (omega arith)

  module _ (p : ℕ) where
    abbrev extra : ℕ
    extra = leeway_between scenario s.shape s.rows h x y p

    abbrev unfunded : ℕ
    unfunded = sum_by (paid (is_critical p) 1 x y) ws

    lanes_walk : Walks tick (lanes_at_start scenario) ws
    lanes_walk = (walks_here scenario order h r legal a (a + s.shape.window + 1) s w).0

    uses_are : used 1 h p x y ≡ sum_by (paid (is_ordinary p) 1 x y) ws + unfunded
    uses_are = sym (used_marked is_unfunded scenario 1 x y p [] h) ∙ apart 1 x y p ws

    rest_is : unfunded ≤ critical_used 1 h p x y + free_used scenario 1 h p x y
    rest_is = unfunded_marked scenario 1 x y p [] h (walks_here scenario order h r legal a (a + s.shape.window + 1) s w).1

    none_start : (lo hi : ℕ) → sum_by (reach (is_ordinary p) tick lo hi) (lanes_at_start scenario) ≡ 0
    none_start lo hi = sum_at_start scenario (reach (is_ordinary p) tick lo hi) refl

    seats : length (lanes_at_start scenario) ≡ s.shape.cpus
    seats = count scenario order h r legal a (a + s.shape.window + 1) s w

    by_none : (row_or_none s.rows p).budget ≡ 0 → used 1 h p x y ≤ extra
    by_none is =
        let none = walk_none (is_ordinary p) tick x y (lanes_at_start scenario) ws lanes_walk (none_reach p is [] h refl) in
        omega (arith, uses_are, none, none_start x y, rest_is)

    not_none : (k n : ℕ) → k ≡ suc n → nat_eq k 0 ≡ false
    not_none k n is = grind (arith, nat_tests)

    by_some : (n : ℕ) → (row_or_none s.rows p).budget ≡ suc n → IsShifted s.shape.parts (limit p) (used 1 h p x y) extra (firsts p) s.shape.cpus tick late (row_or_none s.rows p).budget
    by_some n is =
        let counts : Kept → Bool = is_ordinary p in
        let m = moved counts tick (a + s.shape.window) x late s.shape.parts (limit p) (firsts p) (omega (arith, short)) 0 (lanes_at_start scenario) ws (none_start cut y) (none_start x y)
        lanes_walk (tiles_from [] h (lanes_at_start scenario) refl lanes_walk) (rises_from [] h refl) start_early (resets_moved p [] h 0 refl (omega arith)) (length_lanes (lanes_at_start scenario) ws) in
        let d : ℕ = m.in_last in
        let before = walk_reach counts tick x cut s.shape.parts (limit p) 0 (lanes_at_start scenario) ws
        (start s.shape.parts (limit p) (length (lanes_at_start scenario) * tick) (sum_by (reach counts tick x cut) (lanes_at_start scenario)) (none_start x cut))
        lanes_walk (resets_before p [] h 0 refl (omega arith)) in
        let most : length (lanes_at_start scenario) * tick ≡ s.shape.cpus * tick = ap (λ k. k * tick) seats in
        let extra_is : extra ≡ critical_used 1 h p x y + s.shape.cpus * tick + free_used scenario 1 h p x y =
        ap (λ t. critical_used 1 h p x y + (if t then 0 else s.shape.cpus * tick) + free_used scenario 1 h p x y) (not_none (row_or_none s.rows p).budget n is) in
        let room : length (lanes_at_start scenario) * tick + unfunded ≤ extra = omega (arith, most, rest_is, extra_is) in
        let split = paid_split counts x cut y ws x_before (omega arith) in
        let uses : used 1 h p x y ≡ sum_by (paid counts 1 x cut) ws + sum_by (paid counts 1 cut y) ws + unfunded = omega (arith, uses_are, split) in
        let few = m.few in
        let tail : sum_by (paid counts 1 cut y) ws ≤ late * d = subst (λ k. sum_by (paid counts 1 cut y) ws ≤ k) (mul_comm d late) m.last in
        let whole' : s.shape.parts * sum_by (paid counts 1 x y) ws + s.shape.parts * ((tick - late) * d) ≤ limit p + s.shape.parts * (length (lanes_at_start scenario) * tick + firsts p) =
        subst (λ k. s.shape.parts * sum_by (paid counts 1 x y) ws + s.shape.parts * k ≤ limit p + s.shape.parts * (length (lanes_at_start scenario) * tick + firsts p)) (mul_comm d (tick - late)) m.whole in
        let before' : s.shape.parts * sum_by (paid counts 1 x cut) ws ≤ limit p + s.shape.parts * (length (lanes_at_start scenario) * tick) =
        subst (λ k. s.shape.parts * k ≤ limit p + s.shape.parts * (length (lanes_at_start scenario) * tick)) (omega arith) before in
        record {
          in_last = d;
          few = omega (arith, few, seats);
          none = λ zero'. absurd (never (row_or_none s.rows p).budget n zero' is);
          last = line_last s.shape.parts (limit p) (sum_by (paid counts 1 x cut) ws) (sum_by (paid counts 1 cut y) ws) unfunded (used 1 h p x y) extra (length (lanes_at_start scenario) * tick) (late * d) uses before' tail room;
          first = line_first s.shape.parts (limit p) (sum_by (paid counts 1 x y) ws) unfunded (used 1 h p x y) extra (length (lanes_at_start scenario) * tick) (s.shape.parts * ((tick - late) * d)) (firsts p) uses_are whole' room;
        }
      where
        never : (k n : ℕ) → k ≡ 0 → k ≡ suc n → ⊥
        never k n zero' is = omega (arith, zero', is)

        start : (scale limit most sum : ℕ) → sum ≡ 0 → scale * (0 + sum) ≤ limit + scale * most
        start scale limit most sum none = rw none (omega arith)

    pub shifted : IsShifted s.shape.parts (limit p) (used 1 h p x y) extra (firsts p) s.shape.cpus tick late (row_or_none s.rows p).budget
    shifted = by_budget (row_or_none s.rows p).budget refl
      where
        by_budget : (n : ℕ) → (row_or_none s.rows p).budget ≡ n → IsShifted s.shape.parts (limit p) (used 1 h p x y) extra (firsts p) s.shape.cpus tick late (row_or_none s.rows p).budget
        by_budget zero is =
            let less = by_none is in
            record {
              in_last = 0;
              few = omega arith;
              none = λ zero'. refl;
              last = none_last s.shape.parts (limit p) (used 1 h p x y) extra late less;
              first = none_first s.shape.parts (limit p) (used 1 h p x y) extra (firsts p) (tick - late) less;
            }
          where
            none_last : (parts limit uses extra late : ℕ) → uses ≤ extra → parts * uses ≤ limit + parts * (extra + late * 0)
            none_last parts limit uses extra late le = let more : uses ≤ extra + late * 0 = omega (arith, le) in omega (arith, mul-le-mul_left parts more)

            none_first : (parts limit uses extra firsts k : ℕ) → uses ≤ extra → parts * uses + parts * (k * 0) ≤ limit + parts * (extra + firsts)
            none_first parts limit uses extra firsts k le =
                let more : uses + k * 0 ≤ extra + firsts = omega (arith, le) in
                omega (arith, mul-le-mul_left parts more, mul-add parts uses (k * 0))
        by_budget (suc n) is = by_some n is
