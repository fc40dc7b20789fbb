-- The critical bound, of windows in which the rows hold.
use Rattle.std.proofs.Common.{◌≡◌, ℕ, ◌+◌, ◌*◌, ◌/◌, ◌<◌, ◌≤◌, List, [], ◌∷◌, ◌++◌, length, refl, sym, ◌∙◌, ap, subst, Bool, true, false, ◌&&◌, nat_eq, Some, None, arith}
use Rattle.std.specs.List.{sum_by}
use Rattle.std.proofs.lemmas.Bool.{eqb-true}
use Rattle.aps_model.specs.declared.entry.Entry.{Entry}
use Rattle.aps_model.specs.declared.entry.Order.{Order}
use Rattle.aps_model.specs.declared.partition.PartitionRow.{PartitionRow}
use Rattle.aps_model.specs.declared.shape.Shape.{Shape}
use Rattle.aps_model.specs.After.{state_after}
use Rattle.aps_model.specs.Legal.{IsLegal}
use Rattle.aps_model.specs.Partition.{row_or_none}
use Rattle.aps_model.specs.Scenario.{Scenario}
use Rattle.aps_model.specs.SchedulerState.{SchedulerState}
use Rattle.aps_model.specs.Usage.{critical_by, critical_used, window_critical}
use Rattle.aps_model.specs.Valid.{IsScenario}
use Rattle.laws_runs.specs.Window.{Kept, lanes_at_start, wides}
use Rattle.laws_runs.proofs.Words.{up_to}
use Rattle.laws_bounds.specs.Debts.{debt}
use Rattle.laws_bounds.specs.Lanes.{in_window, is_critical}
use Rattle.laws_bounds.specs.Picks.{wide_at}
use Rattle.laws_bounds.proofs.Above.{count, walks_plain}
use Rattle.laws_bounds.proofs.Debts.{walk, walk_none}
use Rattle.laws_bounds.proofs.Funded.{critical_pick}
use Rattle.laws_bounds.proofs.Inside.{critical_tested}
use Rattle.laws_bounds.proofs.Late.{sum_at_start}
use Rattle.laws_bounds.proofs.Prefixes.{latest}
use Rattle.laws_bounds.proofs.Spans.{IsSpan, pos}
use Rattle.laws_bounds.proofs.Wides.{critical_is, critical_used_is, never_of, resets_of}

kept_critical : (p : ℕ) (k : Kept) → is_critical p k ≡ true → k ≡ Some (p, true)
kept_critical p None is = absurd cc
kept_critical p (Some k) is = by_tests (nat_eq k.0 p) k.1 refl refl is
  where
    by_tests : (one two : Bool) → nat_eq k.0 p ≡ one → k.1 ≡ two → (one && two) ≡ true → ◌≡◌ {A = Kept} (Some k) (Some (p, true))
    by_tests true true x y e =
        let f : ℕ → Kept = λ q. Some (q, k.1) in
        let g : Bool → Kept = λ m. Some (p, m) in
        ap f (eqb-true k.0 p x) ∙ ap g y
    by_tests true false x y e = absurd cc
    by_tests false two x y e = absurd cc

module _ (scenario : Scenario) (order : Order) (h : List Entry) (r : IsScenario scenario) (legal : IsLegal scenario order h) (a : ℕ) (s : SchedulerState) (w : IsSpan scenario h a (a + s.shape.window) s) (p : ℕ) where
  abbrev tick : ℕ
  tick = s.shape.tick

  abbrev b : ℕ
  b = a + s.shape.window

  abbrev limit : ℕ
  limit = (row_or_none s.rows p).critical

  -- at a critical pick in the window
  critical_within : (before later : List Entry) (e : Entry) → h ≡ before ++ e ∷ later → is_critical p (wide_at scenario before e).keeps ≡ true
      → in_window tick a b e.to ≡ true → critical_used tick (before ++ e ∷ []) p a b < limit
  critical_within before later e same counted inside =
      let t = state_after scenario (before ++ e ∷ []) in
      let front = up_to scenario order h before later e same legal in
      let held = w.holds before later e same inside in
      let less = tested_of t.shape s.shape t.rows s.rows (before ++ e ∷ []) e.to held.1 held.0
      (critical_pick scenario order before e p r front (kept_critical p (wide_at scenario before e).keeps counted)) in
      let part = critical_tested tick p a s.shape.window e.to (before ++ e ∷ []) (pos scenario order h r legal a b s w) inside (latest scenario order r before e front) in
      omega (arith, less, part)
    where
      tested_of : (x y : Shape) (rx ry : List PartitionRow) (g : List Entry) (to : ℕ) → x ≡ y → rx ≡ ry
          → window_critical x g (to / x.tick) p < (row_or_none rx p).critical
          → window_critical y g (to / y.tick) p < (row_or_none ry p).critical
      tested_of x y rx ry g to ex er less =
          subst (λ (z : Shape). window_critical z g (to / z.tick) p < (row_or_none ry p).critical) ex
          (subst (λ (rs : List PartitionRow). window_critical x g (to / x.tick) p < (row_or_none rs p).critical) er less)

  still_debts : sum_by (debt (is_critical p) tick a b) (lanes_at_start scenario) ≡ 0
  still_debts = sum_at_start scenario (debt (is_critical p) tick a b) refl

  pub critical_above : critical_used tick h p a b ≤ limit + s.shape.cpus * tick
  critical_above =
      let resets = resets_of scenario (is_critical p) (critical_by tick p a b) tick a b 1 limit h (critical_is tick a b p)
      (λ before later e same counted inside. let less = critical_within before later e same counted inside in omega (arith, less)) in
      let start : 1 * (0 + sum_by (debt (is_critical p) tick a b) (lanes_at_start scenario)) ≤ limit + 1 * (length (lanes_at_start scenario) * tick) = omega (arith, still_debts) in
      let all = walk (is_critical p) tick a b 1 limit 0 (lanes_at_start scenario) (wides scenario h) (pos scenario order h r legal a b s w) start
      (walks_plain scenario order h r legal a b s w) resets in
      let lanes : length (lanes_at_start scenario) * tick ≡ s.shape.cpus * tick = ap (λ k. k * tick) (count scenario order h r legal a b s w) in
      omega (arith, all, lanes, critical_used_is scenario tick a b p h)

  pub critical_none : limit ≡ 0 → critical_used tick h p a b ≡ 0
  critical_none is =
      let all = walk_none (is_critical p) tick a b (lanes_at_start scenario) (wides scenario h) (pos scenario order h r legal a b s w) still_debts
      (walks_plain scenario order h r legal a b s w) (never_of scenario (is_critical p) tick a b h no_pick) in
      sym (critical_used_is scenario tick a b p h) ∙ all
    where
      no_pick : (before later : List Entry) (e : Entry) → h ≡ before ++ e ∷ later → is_critical p (wide_at scenario before e).keeps ≡ true
          → in_window tick a b e.to ≡ false
      no_pick before later e same counted = by_test (in_window tick a b e.to) refl
        where
          by_test : (two : Bool) → in_window tick a b e.to ≡ two → in_window tick a b e.to ≡ false
          by_test false inside = inside
          by_test true inside = let less = critical_within before later e same counted inside in absurd (omega (arith, less, is))
