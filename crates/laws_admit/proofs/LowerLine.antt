-- What admitted demands get.
use Rattle.std.proofs.Common.{◌≡◌, ℕ, zero, suc, ◌+◌, ◌*◌, ◌<◌, ◌≤◌, List, [], ◌∷◌, length, map, Bool, true, false, cond, nat_le, nat_eq, Some, refl, sym, ap, subst, ◌∙◌, arith, inl, inr}
use Rattle.std.specs.Prelude.{slice_get}
use Rattle.std.specs.List.{AllZip, sum_by}
use Rattle.std.proofs.Math.Nat.{le_of_mul-le-mul_left, mul-le-mul_left, suc-mul}
use Rattle.std.proofs.lemmas.Bool.{cases_eq}
use Rattle.std.proofs.lemmas.Bool.Decides.{nat_tests}
use Rattle.aps_model.specs.declared.demand.Demand.{Demand}
use Rattle.aps_model.specs.declared.entry.Entry.{Entry}
use Rattle.aps_model.specs.declared.entry.Order.{Order}
use Rattle.aps_model.specs.declared.partition.PartitionRow.{PartitionRow}
use Rattle.aps_model.specs.declared.shape.Shape.{Shape}
use Rattle.aps_model.specs.After.{state_after}
use Rattle.aps_model.specs.Bound.{slack, others_slack}
use Rattle.aps_model.specs.Legal.{IsLegal}
use Rattle.aps_model.specs.Loaded.{finished_ticks, IsSteady, state_of_tick}
use Rattle.aps_model.specs.Partition.{row_or_none}
use Rattle.aps_model.specs.Scenario.{Scenario}
use Rattle.aps_model.specs.Shape.{IsShape, whole}
use Rattle.aps_model.specs.Usage.{critical_used, used}
use Rattle.aps_model.specs.Valid.{IsScenario}
use Rattle.laws_runs.proofs.HeldRows.{tick_in_order}
use Rattle.laws_bounds.specs.Sums.{sum_below}
use Rattle.laws_bounds.proofs.BoundLaws.{window_bound}
use Rattle.laws_bounds.proofs.Sums.{sum_range}
use Rattle.aps_admit.specs.declared.admission.Granted.{Granted}
use Rattle.aps_admit.specs.declared.admission.Admission.TheVariants.{Budgets, Needs}
use Rattle.aps_admit.specs.Admission.{admission, budget_for, granted}
use Rattle.aps_admit.specs.Least.{total_slack}
use Rattle.aps_admit.proofs.LeastBudgets.{allowance-times, least_budget-least, parts-some}
use Rattle.laws_admit.specs.Admitted.{AreGranted, AreGrantedRows, IsAdmitted, IsAdmittedWindow, IsCalmWindow, IsGrantedRow, IsGrantedTo, IsSameFrame, MeetsNeeds}

-- ---- sums

sum-le : (n most : ℕ) (f : ℕ → ℕ) → ((q : ℕ) → q < n → f q ≤ most) → sum_below n f ≤ n * most
sum-le zero most f each = omega arith
sum-le (suc n) most f each =
    let before : sum_below n f ≤ n * most = sum-le n most f (λ q below. each q (omega arith)) in
    let here : f n ≤ most = each n (omega arith) in
    omega (arith, before, here, suc-mul n most)

-- a sum in which one term is nothing
sum_but-le : (n p most : ℕ) (f : ℕ → ℕ) → p < n → f p ≡ 0 → ((q : ℕ) → q < n → f q ≤ most) → sum_below n f + most ≤ n * most
sum_but-le zero p most f inside none each = absurd (omega arith)
sum_but-le (suc n) p most f inside none each =
    elim (cases_eq p n) [
      | inl last ↦
          let before : sum_below n f ≤ n * most = sum-le n most f (λ q below. each q (omega arith)) in
          let here : f n ≡ 0 = subst (λ k. f k ≡ 0) last none in
          omega (arith, before, here, suc-mul n most)
      | inr earlier ↦
          let before : sum_below n f + most ≤ n * most = sum_but-le n p most f (omega arith) none (λ q below. each q (omega arith)) in
          let here : f n ≤ most = each n (omega arith) in
          omega (arith, before, here, suc-mul n most)
    ]

-- ---- the slack of the others

slack-le : (shape : Shape) (rows : List PartitionRow) (h : List Entry) (a q : ℕ)
    → critical_used shape.tick h q a (a + shape.window) ≡ 0 → slack shape rows h a q ≤ shape.cpus * shape.tick
slack-le shape rows h a q none = by_budget (nat_eq (row_or_none rows q).budget 0) (critical_used shape.tick h q a (a + shape.window)) none
  where
    by_budget : (b : Bool) (critical : ℕ) → critical ≡ 0 → critical + cond b 0 (shape.cpus * shape.tick) ≤ shape.cpus * shape.tick
    by_budget true critical none = omega arith
    by_budget false critical none = omega arith

others_slack-le : (shape : Shape) (rows : List PartitionRow) (h : List Entry) (a p : ℕ) → p < length rows
    → ((q : ℕ) → q < length rows → critical_used shape.tick h q a (a + shape.window) ≡ 0)
    → others_slack shape rows h a p + shape.cpus * shape.tick ≤ length rows * (shape.cpus * shape.tick)
others_slack-le shape rows h a p inside none =
    let f : ℕ → ℕ = λ q. cond (nat_eq q p) 0 (slack shape rows h a q) in
    let same : others_slack shape rows h a p ≡ sum_below (length rows) f = sum_range (length rows) f in
    let sums : sum_below (length rows) f + shape.cpus * shape.tick ≤ length rows * (shape.cpus * shape.tick) =
    sum_but-le (length rows) p (shape.cpus * shape.tick) f inside (own p) (λ q below. term (nat_eq q p) (slack shape rows h a q) (slack-le shape rows h a q (none q below))) in
    omega (arith, same, sums)
  where
    own : (p : ℕ) → cond (nat_eq p p) 0 (slack shape rows h a p) ≡ 0
    own p = by_test (nat_eq p p) refl
      where
        by_test : (b : Bool) → nat_eq p p ≡ b → cond b 0 (slack shape rows h a p) ≡ 0
        by_test true is = refl
        by_test false is = absurd (grind (arith, nat_tests))

    term : (b : Bool) (n : ℕ) → n ≤ shape.cpus * shape.tick → cond b 0 n ≤ shape.cpus * shape.tick
    term true n small = omega arith
    term false n small = small

-- ---- what was granted

granted-all : (shape : Shape) (demands : List Demand) (grants : List Granted) → admission shape demands ≡ Budgets grants
    → grants ≡ map (granted shape (total_slack shape (length demands))) demands
granted-all shape demands grants is =
    by_test (nat_le (sum_by (budget_for shape (total_slack shape (length demands))) demands) shape.parts) _ _ is
  where
    by_test : (b : Bool) (all : List Granted) (n : ℕ) → cond b (Budgets all) (Needs n) ≡ Budgets grants → grants ≡ all
    by_test true all n is = cc
    by_test false all n is = absurd (cc)

rows-many : (grants : List Granted) (rows : List PartitionRow) → AllZip IsGrantedRow grants rows → length rows ≡ length grants
rows-many [] [] each = refl
rows-many [] (row ∷ rows) each = absurd each
rows-many (grant ∷ grants) [] each = absurd each
rows-many (grant ∷ grants) (row ∷ rows) each = ap (λ n. suc n) (rows-many grants rows each.1)

map-many : (shape : Shape) (slack : ℕ) (demands : List Demand) → length (map (granted shape slack) demands) ≡ length demands
map-many shape slack [] = refl
map-many shape slack (demand ∷ demands) = ap (λ n. suc n) (map-many shape slack demands)

-- the grant of a demand is found at its place
grant_of : (shape : Shape) (slack : ℕ) (demands : List Demand) (i : ℕ) (demand : Demand) → slice_get demands i ≡ Some demand
    → slice_get (map (granted shape slack) demands) i ≡ Some (granted shape slack demand)
grant_of shape slack [] i demand is = absurd (cc)
grant_of shape slack (other ∷ demands) zero demand is =
    let same : other ≡ demand = cc in ap (λ d. Some (granted shape slack d)) same
grant_of shape slack (other ∷ demands) (suc i) demand is = grant_of shape slack demands i demand is

-- the rows behind the root, in order
row_at : (grants : List Granted) (rows : List PartitionRow) (i : ℕ) (grant : Granted) → AllZip IsGrantedRow grants rows
    → slice_get grants i ≡ Some grant → IsGrantedTo rows i grant
row_at [] rows i grant each is = absurd (cc)
row_at (other ∷ grants) [] i grant each is = absurd each
row_at (other ∷ grants) (row ∷ rows) zero grant each is =
    let same : other ≡ grant = cc in
    record { inside = omega arith; budget = each.0.budget ∙ ap (λ (g : Granted). g.budget) same }
row_at (other ∷ grants) (row ∷ rows) (suc i) grant each is =
    let rest = row_at grants rows i grant each.1 is in
    let inside : i < length rows = rest.inside in
    record { inside = omega arith; budget = rest.budget }

pub in_order : (grants : List Granted) (rows : List PartitionRow) → AreGrantedRows grants rows → AreGranted grants (λ i. i + 1) rows
in_order grants [] each = absurd each
in_order grants (root ∷ rows) each = record {
  each = λ i grant is.
      let at = row_at grants rows i grant each is in
      let inside : i < length rows = at.inside in
      let behind : IsGrantedTo (root ∷ rows) (suc i) grant = record { inside = omega arith; budget = at.budget } in
      subst (λ p. IsGrantedTo (root ∷ rows) p grant) (next i) behind;
  few = let same : length rows ≡ length grants = rows-many grants rows each in omega (arith, same);
}
  where
    next : (i : ℕ) → suc i ≡ i + 1
    next i = omega arith

-- ---- the need, from the lower line of the bound

need-met : (parts whole need slack budget used others : ℕ) → 0 < parts → (need + slack) * parts ≤ budget * whole
    → budget * whole ≤ parts * used + parts * others → others ≤ slack → need ≤ used
need-met parts whole need slack budget used others some given line less =
    let most : parts * others ≤ parts * slack = mul-le-mul_left parts less in
    let spread : (need + slack) * parts ≡ parts * need + parts * slack = omega arith in
    let times : parts * need ≤ parts * used = omega (arith, given, line, most, spread) in
    le_of_mul-le-mul_left times some

-- the slack of one demand less than there are rows
few-slack : (shape : Shape) (n d others : ℕ) → n ≤ d + 1 → others + shape.cpus * shape.tick ≤ n * (shape.cpus * shape.tick)
    → others ≤ d * shape.cpus * shape.tick
few-slack shape n d others few less =
    let tick = shape.cpus * shape.tick in
    let most : tick * n ≤ tick * (d + 1) = mul-le-mul_left tick few in
    let spread : tick * (d + 1) ≡ d * shape.cpus * shape.tick + tick = omega arith in
    let turned : tick * n ≡ n * tick = omega arith in
    omega (arith, less, most, spread, turned)

-- the rows of a state, with what a window of it has
needs-in_rows : (shape : Shape) (demands : List Demand) (place : ℕ → ℕ) (rows : List PartitionRow) (h : List Entry) (a i : ℕ) (demand : Demand)
    → IsShape shape → AreGranted (map (granted shape (total_slack shape (length demands))) demands) place rows
    → ((q : ℕ) → q < length rows → critical_used shape.tick h q a (a + shape.window) ≡ 0)
    → ((p : ℕ) → p < length rows → (row_or_none rows p).budget * whole shape
    ≤ shape.parts * used shape.tick h p a (a + shape.window) + shape.parts * others_slack shape rows h a p)
    → slice_get demands i ≡ Some demand → demand.need ≤ used shape.tick h (place i) a (a + shape.window)
needs-in_rows shape demands place rows h a i demand is grants none line at =
    let all = total_slack shape (length demands) in
    let here = grants.each i (granted shape all demand) (grant_of shape all demands i demand at) in
    let few : length rows ≤ length demands + 1 = subst (λ n. length rows ≤ n + 1) (map-many shape all demands) grants.few in
    let least = least_budget-least shape (demand.need + all) is in
    let given : (demand.need + all) * shape.parts ≤ budget_for shape all demand * whole shape =
    allowance-times shape (demand.need + all) (budget_for shape all demand) least.enough in
    let others = others_slack-le shape rows h a (place i) here.inside none in
    let less : others_slack shape rows h a (place i) ≤ all = few-slack shape (length rows) (length demands) _ few others in
    let lower = subst (λ n. n * whole shape ≤ shape.parts * used shape.tick h (place i) a (a + shape.window) + shape.parts * others_slack shape rows h a (place i))
    here.budget (line (place i) here.inside) in
    need-met shape.parts (whole shape) demand.need all (budget_for shape all demand) (used shape.tick h (place i) a (a + shape.window))
    (others_slack shape rows h a (place i)) (parts-some shape is) given lower less

-- ---- the laws

-- budgets and windows are the same in a shape with the same frame
same-granted : (shape other : Shape) (demands : List Demand) → IsSameFrame shape other
    → map (granted shape (total_slack shape (length demands))) demands ≡ map (granted other (total_slack other (length demands))) demands
same-granted shape other demands frame = rw (frame.parts, frame.cpus, frame.tick, frame.window) refl

pub met_by_rows : (shape : Shape) (demands : List Demand) (grants : List Granted) (place : ℕ → ℕ) (scenario : Scenario) (order : Order)
    (h : List Entry) (a : ℕ) → admission shape demands ≡ Budgets grants → IsScenario scenario → IsLegal scenario order h
    → IsAdmittedWindow shape grants place scenario h a → MeetsNeeds shape demands place h a
met_by_rows shape demands grants place scenario order h a is valid legal w =
    let s = state_of_tick scenario h a in
    let order_of = tick_in_order scenario order h a valid legal in
    let rows = subst (λ g. AreGranted g place s.rows) (granted-all shape demands grants is ∙ same-granted shape s.shape demands w.frame) w.rows in
    let long : a + s.shape.window ≤ finished_ticks scenario.shape h = subst (λ n. a + n ≤ finished_ticks scenario.shape h) (sym w.frame.window) w.finished in
    let steady : IsSteady scenario.shape.tick h (state_after scenario h).changes a (a + s.shape.window) =
    subst (λ n. IsSteady scenario.shape.tick h (state_after scenario h).changes a (a + n)) (sym w.frame.window) w.steady in
    let bound = λ (p : ℕ) (inside : p < length s.rows). (window_bound scenario order h valid legal a p long steady inside).below in
    record {
      each = λ i demand at.
          let met : demand.need ≤ used s.shape.tick h (place i) a (a + s.shape.window) =
          needs-in_rows s.shape demands place s.rows h a i demand order_of.shape rows w.uncritical bound at in
          let window : demand.need ≤ used s.shape.tick h (place i) a (a + shape.window) =
          subst (λ n. demand.need ≤ used s.shape.tick h (place i) a (a + n)) w.frame.window met in
          subst (λ n. demand.need ≤ used n h (place i) a (a + shape.window)) w.frame.tick window;
    }

pub met : (shape : Shape) (demands : List Demand) (grants : List Granted) (place : ℕ → ℕ) (scenario : Scenario) (order : Order)
    (h : List Entry) (a : ℕ) → admission shape demands ≡ Budgets grants → IsScenario scenario → IsAdmitted shape grants place scenario
    → IsLegal scenario order h → IsCalmWindow scenario h a → MeetsNeeds shape demands place h a
met shape demands grants place scenario order h a is valid admitted legal w =
    let s = state_of_tick scenario h a in
    let sizes = (tick_in_order scenario order h a valid legal).sizes in
    met_by_rows shape demands grants place scenario order h a is valid legal (record {
      finished = subst (λ n. a + n ≤ finished_ticks scenario.shape h) admitted.frame.window w.finished;
      steady = subst (λ n. IsSteady scenario.shape.tick h (state_after scenario h).changes a (a + n)) admitted.frame.window w.steady;
      frame = record {
        parts = sizes.parts ∙ admitted.frame.parts;
        cpus = sizes.cpus ∙ admitted.frame.cpus;
        tick = sizes.tick ∙ admitted.frame.tick;
        window = w.window ∙ admitted.frame.window;
      };
      rows = subst (AreGranted grants place) (sym w.rows) admitted.rows;
      uncritical = w.uncritical;
    })
