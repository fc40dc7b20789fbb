-- Who has the turn in fixed order.
use Rattle.std.proofs.Common.{◌≡◌, ℕ, zero, suc, ◌<◌, ◌≤◌, List, [], ◌∷◌, ◌++◌, refl, sym, subst, cond, nat_lt, arith, inl, inr}
use Rattle.std.proofs.lemmas.Bool.{cases_order, cond_both, ltb-true, ltb-false}
use Rattle.aps_model.specs.declared.entry.Entry.{Entry}
use Rattle.aps_model.specs.declared.entry.Order.{Order}
use Rattle.aps_model.specs.declared.entry.Order.TheVariants.{Fixed}
use Rattle.laws_runs.specs.Runs.{IsTurnOfOne}
use Rattle.aps_model.specs.After.{After, at_start, left_by}
use Rattle.aps_model.specs.Due.{HasTurn, due, first_due}
use Rattle.aps_model.specs.Legal.{IsLegal, LegalFrom}
use Rattle.aps_model.specs.Scenario.{Scenario}
use Rattle.aps_model.specs.SchedulerState.{SchedulerState}
use Rattle.aps_model.specs.Step.{step}

-- the lowest of those below n that are due least
record IsLowest (s : SchedulerState) (h : List Entry) (n f : ℕ) : Type 0 where
  below : f < n
  least : (d : ℕ) → d < n → due s h f ≤ due s h d
  lowest : (d : ℕ) → d < f → due s h f < due s h d

lowest_more : (s : SchedulerState) (h : List Entry) (n f : ℕ) → IsLowest s h n f → IsLowest s h (suc n) (cond (nat_lt (due s h n) (due s h f)) n f)
lowest_more s h n f m =
    cond_both (nat_lt (due s h n) (due s h f)) n f (IsLowest s h (suc n))
    (λ t.
    let l : due s h n < due s h f = ltb-true (due s h n) (due s h f) t in
    record {
      below = omega arith;
      least = λ d below. by_order d (λ less. let k = m.least d less in omega arith) (λ same. subst (λ k. due s h n ≤ due s h k) (sym same) (omega arith)) below;
      lowest = λ d below. let k = m.least d below in omega arith;
    })
    (λ t.
    let l : due s h f ≤ due s h n = ltb-false (due s h n) (due s h f) t in
    record {
      below = let b = m.below in omega arith;
      least = λ d below. by_order d (λ less. m.least d less) (λ same. subst (λ k. due s h f ≤ due s h k) (sym same) l) below;
      lowest = m.lowest;
    })
  where
    by_order : {P : Type 0} (d : ℕ) → (d < n → P) → (d ≡ n → P) → d < suc n → P
    by_order d less same below = elim (cases_order d n) [
      | inl e ↦ same e
      | inr other ↦ elim other [
        | inl l ↦ less l
        | inr l ↦ absurd (omega (arith, l, below))
      ]
    ]

lowest_is : (s : SchedulerState) (h : List Entry) (n : ℕ) → IsLowest s h (suc n) (first_due s h (suc n))
lowest_is s h zero = cond_both (nat_lt (due s h 0) (due s h 0)) 0 0 (IsLowest s h 1) (λ t. alone) (λ t. alone)
  where
    alone : IsLowest s h 1 0
    alone = record {
      below = omega arith;
      least = λ d below. let same : d ≡ 0 = omega arith in subst (λ k. due s h 0 ≤ due s h k) (sym same) (omega arith);
      lowest = λ d below. absurd (omega (arith, below));
    }
lowest_is s h (suc n) = lowest_more s h (suc n) (first_due s h (suc n)) (lowest_is s h n)

first_is_lowest : (s : SchedulerState) (h : List Entry) (n : ℕ) → 1 ≤ n → IsLowest s h n (first_due s h n)
first_is_lowest s h zero some = absurd (omega (arith, some))
first_is_lowest s h (suc n) some = lowest_is s h n

pub one_turn : (s : SchedulerState) (h : List Entry) → 1 ≤ s.shape.cpus → IsTurnOfOne s h
one_turn s h some =
    let f = first_due s h s.shape.cpus in
    let m = first_is_lowest s h s.shape.cpus some in
    record {
      has = record { exists = m.below; least = m.least; lowest = λ fixed. m.lowest };
      only = λ c turn. elim (cases_order c f) [
        | inl same ↦ same
        | inr other ↦ elim other [
          | inl less ↦ absurd (omega (arith, turn.least f m.below, m.lowest c less))
          | inr more ↦ absurd (omega (arith, turn.lowest refl f more, m.least c turn.exists))
        ]
      ];
    }

pub any_turn : (order : Order) (s : SchedulerState) (h : List Entry) (c : ℕ) → HasTurn Fixed s h c → HasTurn order s h c
any_turn order s h c turn = record { exists = turn.exists; least = turn.least; lowest = λ fixed. turn.lowest refl }

any_from : (scenario : Scenario) (order : Order) (a : After) (h es : List Entry) → LegalFrom scenario Fixed a h es → LegalFrom scenario order a h es
any_from scenario order a h [] legal = tt
any_from scenario order a h (e ∷ es) legal =
    (legal.0, any_turn order a.state h e.cpu legal.1, legal.2, any_from scenario order (left_by (step scenario a.state h e.cpu)) (h ++ e ∷ []) es legal.3)

pub any_order : (scenario : Scenario) (order : Order) (h : List Entry) → IsLegal scenario Fixed h → IsLegal scenario order h
unfolding IsLegal
any_order scenario order h legal = any_from scenario order (at_start scenario) [] h legal
