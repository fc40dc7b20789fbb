-- Ticks in which the rows hold, and what a pick in them says of budgets.
use Rattle.std.proofs.Common.{◌≡◌, ℕ, ◌+◌, ◌-◌, ◌*◌, ◌/◌, ◌<◌, ◌≤◌, List, [], ◌∷◌, ◌++◌, sym, ◌∙◌, ap, subst, true, false, nat_lt, arith}
use Rattle.std.proofs.Math.Nat.{mul-le-mul_left}
use Rattle.std.proofs.lemmas.Bool.Decides.{nat_tests}
use Rattle.aps_model.specs.declared.entry.Entry.{Entry}
use Rattle.aps_model.specs.declared.entry.Order.{Order}
use Rattle.aps_model.specs.declared.partition.PartitionRow.{PartitionRow}
use Rattle.aps_model.specs.declared.shape.Shape.{Shape}
use Rattle.aps_model.specs.After.{state_after}
use Rattle.aps_model.specs.Budget.{part_facts}
use Rattle.aps_model.specs.Legal.{IsLegal}
use Rattle.aps_model.specs.Loaded.{has_change, state_of_tick}
use Rattle.aps_model.specs.Partition.{row_or_none}
use Rattle.aps_model.specs.Scenario.{Scenario}
use Rattle.aps_model.specs.SchedulerState.{SchedulerState}
use Rattle.aps_model.specs.Shape.{whole}
use Rattle.aps_model.specs.Usage.{used}
use Rattle.aps_model.specs.Valid.{IsScenario}
use Rattle.laws_runs.specs.Sizes.{IsSameSizes}
use Rattle.laws_runs.proofs.HeldRows.{rows_held, tick_in_order}
use Rattle.laws_runs.proofs.MomentLaws.{moment-append}
use Rattle.laws_runs.proofs.Sound.{tick_pos}
use Rattle.laws_runs.proofs.Words.{up_to}
use Rattle.laws_bounds.specs.Lanes.{in_window}
use Rattle.laws_bounds.proofs.Funded.{AreFunded}
use Rattle.laws_bounds.proofs.Inside.{before_later, in_ticks, used_inside, window_ends}
use Rattle.laws_bounds.proofs.Prefixes.{latest}
use Rattle.laws_bounds.specs.Kinds.{is_funded}

-- each entry that ends in ticks a to b-1 leaves the rows and the shape of this state
abbrev pub RowsHold : Scenario → List Entry → ℕ → ℕ → SchedulerState → Type 0
RowsHold scenario h a b s =
    (before later : List Entry) (e : Entry) → h ≡ before ++ e ∷ later → in_window s.shape.tick a b e.to ≡ true
    → ((state_after scenario (before ++ e ∷ [])).rows ≡ s.rows) × ((state_after scenario (before ++ e ∷ [])).shape ≡ s.shape)

-- ticks a to b-1, with rows and shape that hold in them
pub record IsSpan (scenario : Scenario) (h : List Entry) (a b : ℕ) (s : SchedulerState) : Type 0 where
  pub sizes : IsSameSizes scenario.shape s.shape
  pub funded : AreFunded s
  pub some : 0 < s.shape.window
  pub holds : RowsHold scenario h a b s

-- where no change stands, the rows are those of the first tick
pub span_of : (scenario : Scenario) (order : Order) (h : List Entry) (a b : ℕ) → IsScenario scenario → IsLegal scenario order h
    → has_change (state_after scenario h).changes a b ≡ false → IsSpan scenario h a b (state_of_tick scenario h a)
span_of scenario order h a b r legal none =
    let s = state_of_tick scenario h a in
    let holds = rows_held scenario order h a b r legal none in
    let o = tick_in_order scenario order h a r legal in
    let long = o.shape.window_long in
    record {
      sizes = o.sizes;
      funded = o.funded.budgets ∙ sym o.sizes.parts;
      some = omega (arith, long);
      holds = λ before later e same inside.
          let ends = window_ends s.shape.tick a b e.to inside in
          holds before later e same
          (subst (λ n. a * n ≤ e.to) o.sizes.tick ends.0)
          (subst (λ n. e.to < b * n) o.sizes.tick ends.1);
    }

-- a partition in budget has used less than its budget's part of the whole in the window at that tick
pub funded_less : (shape : Shape) (rows : List PartitionRow) (h : List Entry) (j p : ℕ) → (part_facts shape rows h j p).funded ≡ true
    → shape.parts * used shape.tick h p (j + 1 - shape.window) (j + 1) < (row_or_none rows p).budget * whole shape
funded_less shape rows h j p funded =
    let n : ℕ = shape.parts * used shape.tick h p (j + 1 - shape.window) (j + 1) in
    let test : nat_lt n ((row_or_none rows p).budget * whole shape) ≡ true = funded in
    grind (arith, nat_tests)

-- the test of a partition at a pick in the span, by the rows that hold in it
pub funded_there : (scenario : Scenario) (g : List Entry) (e : Entry) (p : ℕ) (s : SchedulerState)
    → ((state_after scenario (g ++ e ∷ [])).rows ≡ s.rows) × ((state_after scenario (g ++ e ∷ [])).shape ≡ s.shape)
    → is_funded scenario (g ++ e ∷ []) p ≡ (part_facts s.shape s.rows (g ++ e ∷ []) (e.to / s.shape.tick) p).funded
funded_there scenario g e p s held =
    let t = state_after scenario (g ++ e ∷ []) in
    ap (λ n. (part_facts t.shape t.rows (g ++ e ∷ []) (n / t.shape.tick) p).funded) (moment-append g e)
    ∙ ap (λ rows. (part_facts t.shape rows (g ++ e ∷ []) (e.to / t.shape.tick) p).funded) held.0
    ∙ ap (λ (z : Shape). (part_facts z s.rows (g ++ e ∷ []) (e.to / z.tick) p).funded) held.1

module _ (scenario : Scenario) (order : Order) (h : List Entry) (r : IsScenario scenario) (legal : IsLegal scenario order h) (a b : ℕ) (s : SchedulerState) (w : IsSpan scenario h a b s) where
  pub pos : 0 < s.shape.tick
  pos = tick_pos scenario s r w.sizes

  -- at a pick of the span that finds the partition in budget, what it used in the span is below its budget, where the
  -- span has at most as many ticks as a window
  pub funded_within : b ≤ a + s.shape.window → (p : ℕ) (before later : List Entry) (e : Entry) → h ≡ before ++ e ∷ later → is_funded scenario (before ++ e ∷ []) p ≡ true
      → in_window s.shape.tick a b e.to ≡ true
      → s.shape.parts * used s.shape.tick (before ++ e ∷ []) p a b < (row_or_none s.rows p).budget * whole s.shape
  funded_within short p before later e same funded inside =
      let g = before ++ e ∷ [] in
      let front = up_to scenario order h before later e same legal in
      let j : ℕ = e.to / s.shape.tick in
      let i = in_ticks s.shape.tick a b e.to pos inside in
      let less = funded_less s.shape s.rows g j p (sym (funded_there scenario before e p s (w.holds before later e same inside)) ∙ funded) in
      let early : j + 1 - s.shape.window ≤ a = earlier s.shape.window j i.below short in
      let part = used_inside s.shape.tick p a b (j + 1 - s.shape.window) (j + 1) g early (before_later e.to ((j + 1) * s.shape.tick) g i.inside (latest scenario order r before e front)) in
      omega (arith, less, mul-le-mul_left s.shape.parts part)
    where
      earlier : (n j : ℕ) → j < b → b ≤ a + n → j + 1 - n ≤ a
      earlier n j below short = omega arith
