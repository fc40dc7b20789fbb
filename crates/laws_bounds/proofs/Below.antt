-- The lower line of the excess, and the law.
use Rattle.std.proofs.Common.{◌≡◌, ℕ, ◌+◌, ◌-◌, ◌*◌, ◌<◌, ◌≤◌, List, length, sym, ◌∙◌, ap, subst, Bool, true, false, if◌then◌else◌, nat_eq, arith}
use Rattle.std.proofs.Math.Nat.{add-mul, mul-add, mul_comm}
use Rattle.aps_model.specs.declared.entry.Entry.{Entry}
use Rattle.aps_model.specs.declared.entry.Order.{Order}
use Rattle.aps_model.specs.Legal.{IsLegal}
use Rattle.aps_model.specs.Loaded.{finished_ticks, state_of_tick}
use Rattle.aps_model.specs.Partition.{row_or_none}
use Rattle.aps_model.specs.Scenario.{Scenario}
use Rattle.aps_model.specs.SchedulerState.{SchedulerState}
use Rattle.aps_model.specs.Shape.{whole}
use Rattle.aps_model.specs.Usage.{used}
use Rattle.aps_model.specs.Valid.{IsScenario}
use Rattle.laws_bounds.specs.Sums.{sum_below}
use Rattle.laws_bounds.proofs.Funded.{budgets_sum}
use Rattle.laws_bounds.proofs.Sums.{each_below, one_of_sum, sum_below_scale, sum_but, sum_range}
use Rattle.laws_bounds.specs.Excess.{KeepsExcess, leeway, others_leeway}
use Rattle.laws_bounds.specs.FreeTime.{idle_time}
use Rattle.laws_bounds.proofs.Above.{above, strictly}
use Rattle.laws_bounds.proofs.Spans.{IsSpan, span_of}
use Rattle.laws_bounds.proofs.Totals.{all_used}

-- all but the one
abbrev but : ℕ → (ℕ → ℕ) → ℕ → ℕ
but i f q = if nat_eq q i then 0 else f q

but_each : (i q x y z : ℕ) → x ≤ y + z → (if nat_eq q i then 0 else x) ≤ (if nat_eq q i then 0 else y) + (if nat_eq q i then 0 else z)
but_each i q x y z le = by_test (nat_eq q i)
  where
    by_test : (t : Bool) → (if t then 0 else x) ≤ (if t then 0 else y) + (if t then 0 else z)
    by_test true = omega arith
    by_test false = le

-- where each is at most its budget and its leeway, the one has what is left of the time
left_over : (n parts whole total idle i : ℕ) (uses budgets extra : ℕ → ℕ) → i < n → sum_below n budgets ≡ parts → sum_below n uses + idle ≡ total
    → ((q : ℕ) → parts * uses q ≤ whole * budgets q + parts * extra q)
    → parts * total ≤ parts * uses i + (parts - budgets i) * whole + parts * (sum_below n (but i extra) + idle)
left_over n parts whole total idle i uses budgets extra in' all full each =
    let scaled : (k : ℕ) (f : ℕ → ℕ) → sum_below n (but i (λ q. k * f q)) + k * f i ≡ k * sum_below n f = λ k f. sum_but n i (λ q. k * f q) in' ∙ sum_below_scale n k f in
    let less = each_below n (but i (λ q. parts * uses q)) (but i (λ q. whole * budgets q)) (but i (λ q. parts * extra q)) (λ q l. but_each i q (parts * uses q) (whole * budgets q) (parts * extra q) (each q)) in
    let others : parts * sum_below n (but i extra) + parts * extra i ≡ parts * sum_below n extra = sym (mul-add parts (sum_below n (but i extra)) (extra i)) ∙ ap (λ m. parts * m) (sum_but n i extra in') in
    let time : parts * sum_below n uses + parts * idle ≡ parts * total = sym (mul-add parts (sum_below n uses) idle) ∙ ap (λ m. parts * m) full in
    let rest : parts * (sum_below n (but i extra) + idle) ≡ parts * sum_below n (but i extra) + parts * idle = mul-add parts (sum_below n (but i extra)) idle in
    let own : budgets i ≤ parts = subst (λ m. budgets i ≤ m) all (one_of_sum n i budgets in') in
    let cut : (parts - budgets i) * whole + whole * budgets i ≡ whole * parts =
    ap (λ m. (parts - budgets i) * whole + m) (mul_comm whole (budgets i)) ∙ sym (add-mul (parts - budgets i) (budgets i) whole) ∙ ap (λ m. m * whole) (omega (arith, own)) ∙ mul_comm parts whole in
    let budget : sum_below n (but i (λ q. whole * budgets q)) + whole * budgets i ≡ whole * parts = scaled whole budgets ∙ ap (λ m. whole * m) all in
    omega (arith, less, scaled parts uses, budget, scaled parts extra, others, time, rest, cut)

module _ (scenario : Scenario) (order : Order) (h : List Entry) (r : IsScenario scenario) (legal : IsLegal scenario order h) (a b : ℕ) (s : SchedulerState) (w : IsSpan scenario h a b s) (short : b ≤ a + s.shape.window) (up : a ≤ b) (finished : b ≤ finished_ticks scenario.shape h) where
  pub below : (p : ℕ) → p < length s.rows
      → s.shape.parts * (s.shape.cpus * ((b - a) * s.shape.tick))
      ≤ s.shape.parts * used s.shape.tick h p a b + (s.shape.parts - (row_or_none s.rows p).budget) * whole s.shape
      + s.shape.parts * (others_leeway scenario s.shape s.rows h a b p + idle_time s.shape.tick h a b)
  below p inside =
      let n : ℕ = length s.rows in
      let parts : ℕ = s.shape.parts in
      let uses : ℕ → ℕ = λ q. used s.shape.tick h q a b in
      let budgets : ℕ → ℕ = λ q. (row_or_none s.rows q).budget in
      let extra : ℕ → ℕ = leeway scenario s.shape s.rows h a b in
      let idle : ℕ = idle_time s.shape.tick h a b in
      let line = left_over n parts (whole s.shape) (s.shape.cpus * ((b - a) * s.shape.tick)) idle p uses budgets extra inside (budgets_sum s.rows parts w.funded)
      (all_used scenario order h r legal a b s w up finished)
      (λ q. subst (λ k. parts * uses q ≤ k + parts * extra q) (mul_comm (budgets q) (whole s.shape)) (above scenario order h r legal a b s w short q)) in
      subst (λ k. parts * (s.shape.cpus * ((b - a) * s.shape.tick)) ≤ parts * uses p + (parts - budgets p) * whole s.shape + parts * (k + idle))
      (sym (sum_range n (but p extra))) line

-- the excess, of every legal history
pub excess : (scenario : Scenario) (order : Order) (h : List Entry) → IsScenario scenario → IsLegal scenario order h → KeepsExcess scenario h
excess scenario order h r legal a b p up short finished none inside =
    let s = state_of_tick scenario h a in
    let w = span_of scenario order h a b r legal none in
    record {
      above = above scenario order h r legal a b s w short p;
      strictly = strictly scenario order h r legal a b s w short p;
      below = below scenario order h r legal a b s w short up finished p inside;
    }
