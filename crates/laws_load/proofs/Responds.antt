-- A thread of class 1 runs, or each processor runs one as good.
use Rattle.std.proofs.Common.{◌≡◌, ℕ, zero, suc, ◌+◌, ◌/◌, ◌<◌, ◌≤◌, List, [], ◌∷◌, ◌++◌, length, refl, sym, ◌∙◌, ap, subst, Bool, true, false, not, ◌&&◌, if◌then◌else◌, nat_eq, nat_le, nat_lt, Option, Some, None, arith, ◌⊎◌, inl, inr}
use Rattle.std.specs.Prelude.{IsTrue}
use Rattle.std.proofs.lemmas.Bool.{eqb-true}
use Rattle.std.proofs.lemmas.Bool.Decides.{nat_tests}
use Rattle.aps_model.specs.declared.entry.Entry.{Entry}
use Rattle.aps_model.specs.declared.entry.Order.{Order}
use Rattle.aps_model.specs.declared.merit.Contender.{Contender}
use Rattle.aps_model.specs.declared.merit.Merit.{Merit}
use Rattle.aps_model.specs.declared.merit.PartFacts.{PartFacts}
use Rattle.aps_model.specs.declared.shape.Free.{Free}
use Rattle.aps_model.specs.declared.shape.Free.TheVariants.{Priority, Ratio}
use Rattle.aps_model.specs.declared.state.State.{State}
use Rattle.aps_model.specs.declared.state.State.TheVariants.{Gone, Ready, Receiving, Replying, Running, Sending, Sleeping}
use Rattle.aps_model.specs.After.{state_after}
use Rattle.aps_model.specs.Budget.{part_at}
use Rattle.aps_model.specs.Flag.{merit_now}
use Rattle.aps_model.specs.Inherit.{facts_of}
use Rattle.aps_model.specs.Legal.{IsLegal}
use Rattle.aps_model.specs.Merit.{is_below, is_greater}
use Rattle.aps_model.specs.Pick.{contender_of, merit_among}
use Rattle.aps_model.specs.Scenario.{Scenario}
use Rattle.aps_model.specs.SchedulerState.{SchedulerState}
use Rattle.aps_model.specs.Valid.{IsScenario}
use Rattle.laws_runs.specs.Ids.{NamesKnown}
use Rattle.laws_runs.specs.Moments.{moment}
use Rattle.laws_runs.specs.Starving.{is_active}
use Rattle.laws_runs.specs.Waits.{one_if, state_at}
use Rattle.laws_runs.proofs.IdsLaw.{in_range}
use Rattle.laws_runs.proofs.RowLaws.{in_order}
use Rattle.laws_runs.proofs.Sound.{sound}
use Rattle.laws_runs.proofs.ThreadFacts.{within}
use Rattle.laws_bounds.specs.Sums.{sum_below}
use Rattle.laws_bounds.proofs.Sums.{each_below, single_full, sum_below_add, sum_below_zero, sum_range}
use Rattle.laws_load.specs.Passing.{PassesTime, greatest_ready, parts_now}
use Rattle.laws_load.specs.Response.{ClassOneMayRun, IsResponsive, IsRunning, RunsAsGood, class_now, outranks, rivals}
use Rattle.laws_load.proofs.Classes.{class_cases, class_first, class_runs, funded_open}
use Rattle.laws_load.proofs.Greatest.{ready_unbeaten}
use Rattle.laws_load.proofs.Passed.{passed}
use Rattle.laws_load.proofs.ServedPicks.{some_greatest}

-- ---- candidates

pub class_one_may_run : (scenario : Scenario) (order : Order) (h : List Entry) → IsScenario scenario → IsLegal scenario order h → ClassOneMayRun (state_after scenario h) h
class_one_may_run scenario order h r legal x class =
    let s = state_after scenario h in
    let facts = facts_of s x in
    class_runs facts (part_at (parts_now s h) facts.partition)
    (funded_open s.shape s.rows h (moment h / s.shape.tick) facts.partition scenario.shape.parts (in_order scenario order h r legal).funded) class

-- ---- merits

unbeaten_priority : (free : Free) (a b : Merit) → is_greater free a b ≡ false → a.class ≡ 1 → b.class ≡ 1 → a.priority ≤ b.priority
unbeaten_priority Priority a b unbeaten one two = grind (arith, nat_tests)
unbeaten_priority Ratio a b unbeaten one two = grind (arith, nat_tests)

above_class : (free : Free) (a b : Merit) → is_below free a b ≡ false → b.class ≡ 1 → (a.class ≡ 0) ⊎ (a.class ≡ 1) → a.class ≡ 1
above_class free a b above one (inr is) = is
above_class free a b above one (inl none) = absurd (grind (arith, nat_tests))

above_priority : (free : Free) (a b : Merit) → is_below free a b ≡ false → a.class ≡ 1 → b.class ≡ 1 → b.priority ≤ a.priority
above_priority Priority a b above one two = grind (arith, nat_tests)
above_priority Ratio a b above one two = grind (arith, nat_tests)

-- ---- all run one as good

module _ (scenario : Scenario) (order : Order) (h : List Entry) (e : Entry) (r : IsScenario scenario) (legal : IsLegal scenario order (h ++ e ∷ [])) (time : PassesTime scenario h e) (x : ℕ) where
  abbrev g : List Entry
  g = h ++ e ∷ []

  abbrev t : SchedulerState
  t = state_after scenario g

  abbrev ps : List PartFacts
  ps = parts_now t g

  by_left : state_at t x ≡ Ready → class_now t g x ≡ 1 → (o : Option Contender) → greatest_ready t g ≡ o → (c : ℕ) → c < t.shape.cpus → RunsAsGood t g x c
  by_left ready one None is c exists = absurd (some_greatest t ps x is ready (class_one_may_run scenario order g r legal x one))
  by_left ready one (Some left) is c exists =
      let mine = merit_among ps (contender_of t x) in
      let best = merit_among ps left in
      let unbeaten = ready_unbeaten t t.shape.free ps left x is ready (class_one_may_run scenario order g r legal x one) in
      let left_one = class_first t.shape.free mine best unbeaten one (class_cases left.facts (part_at ps left.facts.partition)) in
      let first = unbeaten_priority t.shape.free mine best unbeaten one left_one in
      let found = passed scenario order h e r legal time left is c exists in
      let runs = merit_now t ps found.pick.thread in
      let facts = facts_of t found.pick.thread in
      let class = above_class t.shape.free runs best found.no_less left_one (class_cases facts (part_at ps facts.partition)) in
      let second = above_priority t.shape.free runs best found.no_less class left_one in
      record { pick = found.pick; runs = found.runs; class = class; priority = omega (arith, first, second) }

  pub all_as_good : state_at t x ≡ Ready → class_now t g x ≡ 1 → (c : ℕ) → c < t.shape.cpus → RunsAsGood t g x c
  all_as_good ready one c exists = by_left ready one (greatest_ready t g) refl c exists

-- ---- few outrank it

-- the thread runs on one of the first n processors
abbrev runs_below : ℕ → State → Bool
runs_below n Ready = false
runs_below n (Running c) = nat_lt c n
runs_below n (Sleeping until) = false
runs_below n (Sending d) = false
runs_below n (Receiving d) = false
runs_below n (Replying y) = false
runs_below n Gone = false

-- one more
count_more : (n k : ℕ) (f g : ℕ → ℕ) → k < n → ((y : ℕ) → f y + (if nat_eq k y then 1 else 0) ≤ g y) → sum_below n f + 1 ≤ sum_below n g
count_more n k f g inside each =
    let one : ℕ → ℕ = λ y. if nat_eq k y then 1 else 0 in
    let both = sum_below_add n f one (λ y. f y + one y) (λ y. refl) in
    let less = each_below n (λ y. f y + one y) g (λ y. 0) (λ y l. let le = each y in omega (arith, le)) in
    omega (arith, both, less, single_full n 1 k inside, sum_below_zero n (λ y. 0) (λ y. refl))

module _ (s : SchedulerState) (h : List Entry) (x : ℕ) where
  abbrev on : ℕ → ℕ → ℕ
  on n y = one_if (outranks s h x y && runs_below n (state_at s y))

  on_more : (n k y : ℕ) → state_at s k ≡ Running n → outranks s h x k ≡ true → on n y + (if nat_eq k y then 1 else 0) ≤ on (suc n) y
  on_more n k y runs above = by_place (nat_eq k y) refl
    where
      grown : (one : Bool) (st : State) → one_if (one && runs_below n st) + 0 ≤ one_if (one && runs_below (suc n) st)
      grown false st = omega arith
      grown true Ready = omega arith
      grown true (Running c) = by_tests (nat_lt c n) (nat_lt c (suc n)) refl refl
        where
          by_tests : (one two : Bool) → nat_lt c n ≡ one → nat_lt c (suc n) ≡ two → one_if (true && one) + 0 ≤ one_if (true && two)
          by_tests true true a b = omega arith
          by_tests true false a b = absurd (grind (arith, nat_tests))
          by_tests false two a b = omega arith
      grown true (Sleeping until) = omega arith
      grown true (Sending d) = omega arith
      grown true (Receiving d) = omega arith
      grown true (Replying z) = omega arith
      grown true Gone = omega arith

      -- thread k itself
      own_before : one_if (outranks s h x k && runs_below n (state_at s k)) ≡ 0
      own_before = ap (λ t. one_if (t && runs_below n (state_at s k))) above ∙ ap (λ st. one_if (runs_below n st)) runs ∙ ap one_if (never n)
        where
          never : (n : ℕ) → nat_lt n n ≡ false
          never n = grind (arith, nat_tests)

      own_after : one_if (outranks s h x k && runs_below (suc n) (state_at s k)) ≡ 1
      own_after = ap (λ t. one_if (t && runs_below (suc n) (state_at s k))) above ∙ ap (λ st. one_if (runs_below (suc n) st)) runs ∙ ap one_if (below n)
        where
          below : (n : ℕ) → nat_lt n (suc n) ≡ true
          below n = grind (arith, nat_tests)

      by_place : (t : Bool) → nat_eq k y ≡ t → on n y + (if t then 1 else 0) ≤ on (suc n) y
      by_place true same = subst (λ z. on n z + 1 ≤ on (suc n) z) (eqb-true k y same) (omega (arith, own_before, own_after))
      by_place false same = grown (outranks s h x y) (state_at s y)

  -- where each of the first n processors runs one that outranks it, there are at least so many
  count_on : (n : ℕ) → ((c : ℕ) → c < n → (k : ℕ) × (state_at s k ≡ Running c) × (outranks s h x k ≡ true)) → n ≤ sum_below (length s.threads) (on n)
  count_on zero each = omega arith
  count_on (suc n) each =
      let found = each n (omega arith) in
      let inside : found.0 < length s.threads = within s.threads found.0 (λ gone. clash n (sym gone ∙ found.1)) in
      let rest = count_on n (λ c less. each c (omega (arith, less))) in
      omega (arith, rest, count_more (length s.threads) found.0 (on n) (on (suc n)) inside (λ y. on_more n found.0 y found.1 found.2))
    where
      clash : (n : ℕ) → Gone ≡ Running n → ⊥
      clash n e = cc

  on_less : (n y : ℕ) → on n y ≤ one_if (outranks s h x y)
  on_less n y = by_tests (outranks s h x y) (runs_below n (state_at s y))
    where
      by_tests : (one two : Bool) → one_if (one && two) ≤ one_if one
      by_tests true true = omega arith
      by_tests true false = omega arith
      by_tests false two = omega arith

  pub many_rivals : (n : ℕ) → ((c : ℕ) → c < n → (k : ℕ) × (state_at s k ≡ Running c) × (outranks s h x k ≡ true)) → n ≤ rivals s h x
  many_rivals n each =
      let less = each_below (length s.threads) (on n) (λ y. one_if (outranks s h x y)) (λ y. 0) (λ y l. let le = on_less n y in omega (arith, le)) in
      omega (arith, count_on n each, less, sum_below_zero (length s.threads) (λ y. 0) (λ y. refl), sum_range (length s.threads) (λ y. one_if (outranks s h x y)))

-- ---- so it runs

clash_test : false ≡ true → ⊥
clash_test e = cc

module _ (scenario : Scenario) (order : Order) (h : List Entry) (e : Entry) (r : IsScenario scenario) (legal : IsLegal scenario order (h ++ e ∷ [])) (time : PassesTime scenario h e) (x : ℕ) where
  abbrev all : List Entry
  all = h ++ e ∷ []

  abbrev here : SchedulerState
  here = state_after scenario all

  rival : state_at here x ≡ Ready → class_now here all x ≡ 1 → (c : ℕ) → c < here.shape.cpus → (k : ℕ) × (state_at here k ≡ Running c) × (outranks here all x k ≡ true)
  rival ready one c exists =
      let good = all_as_good scenario order h e r legal time x ready one c exists in
      let k : ℕ = good.pick.thread in
      let runs : state_at here k ≡ Running c = (sound scenario order r all legal).grounded.kept.runs c good.pick good.runs in
      let active : is_active (state_at here k) ≡ true = ap is_active runs in
      let other : not (nat_eq k x) ≡ true = apart (nat_eq k x) refl (λ same. clash c (sym ready ∙ ap (state_at here) (sym same) ∙ runs)) in
      let class : nat_eq (class_now here all k) 1 ≡ true = ap (λ n. nat_eq n 1) good.class in (
        k,
        runs,
        all_four (is_active (state_at here k)) (not (nat_eq k x)) (nat_eq (class_now here all k) 1) (nat_le (facts_of here x).priority (facts_of here k).priority) active other class
            (le_test (facts_of here x).priority (facts_of here k).priority good.priority),
      )
    where
      clash : (c : ℕ) → Ready ≡ Running c → ⊥
      clash c e = cc

      apart : {k : ℕ} (t : Bool) → nat_eq k x ≡ t → (k ≡ x → ⊥) → not t ≡ true
      apart true is ne = absurd (ne (eqb-true _ x is))
      apart false is ne = refl

      le_test : (a b : ℕ) → a ≤ b → nat_le a b ≡ true
      le_test a b le = grind (arith, nat_tests)

      all_four : (a b c d : Bool) → a ≡ true → b ≡ true → c ≡ true → d ≡ true → (a && b && c && d) ≡ true
      all_four true true true true p q r s = refl
      all_four true true true false p q r s = absurd cc
      all_four true true false d p q r s = absurd cc
      all_four true false c d p q r s = absurd cc
      all_four false b c d p q r s = absurd cc

  by_state : class_now here all x ≡ 1 → rivals here all x < here.shape.cpus → (st : State) → state_at here x ≡ st → IsTrue (is_active st) → IsRunning here x
  by_state one few (Running c) is active =
      let names = subst (NamesKnown scenario) is ((in_range scenario order all r legal).states x) in
      let sizes = (sound scenario order r all legal).grounded.sizes in
      record { cpu = c; exists = omega (arith, names, sizes.cpus); runs = is }
  by_state one few Ready is active =
      let many = many_rivals here all x here.shape.cpus (rival is one) in
      absurd (never (rivals here all x) here.shape.cpus many few)
    where
      never : (a b : ℕ) → b ≤ a → a < b → ⊥
      never a b le less = omega (arith, le, less)
  by_state one few (Sleeping until) is active = absurd (clash_test active)
  by_state one few (Sending d) is active = absurd (clash_test active)
  by_state one few (Receiving d) is active = absurd (clash_test active)
  by_state one few (Replying y) is active = absurd (clash_test active)
  by_state one few Gone is active = absurd (clash_test active)

pub class_one_responds : (scenario : Scenario) (order : Order) (h : List Entry) (e : Entry) (x : ℕ) → IsScenario scenario → IsLegal scenario order (h ++ e ∷ []) → PassesTime scenario h e
    → class_now (state_after scenario (h ++ e ∷ [])) (h ++ e ∷ []) x ≡ 1 → IsResponsive (state_after scenario (h ++ e ∷ [])) (h ++ e ∷ []) x
class_one_responds scenario order h e x r legal time one = record {
  ready = λ is c exists. all_as_good scenario order h e r legal time x is one c exists;
  runs = λ active few. by_state scenario order h e r legal time x one few (state_at (state_after scenario (h ++ e ∷ [])) x) refl active;
}
