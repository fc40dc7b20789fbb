-- Overspending is told of exactly the entries whose step finds a partition bankrupt.
use Rattle.std.proofs.Common.{◌≡◌, ℕ, ◌+◌, ◌-◌, ◌/◌, List, [], ◌∷◌, ◌++◌, refl, sym, ◌∙◌, ap, Bool, true, false, ◌&&◌, cond, nat_lt, Option, Some, None}
use Rattle.std.specs.Prelude.{option_and_then}
use Rattle.std.proofs.lemmas.List.{append-nil}
use Rattle.std.proofs.lemmas.List.Sums.{sum_by_push}
use Rattle.aps_model.specs.declared.entry.Entry.{Entry}
use Rattle.aps_model.specs.declared.entry.Order.{Order}
use Rattle.aps_model.specs.declared.state.Pick.{Pick}
use Rattle.aps_model.specs.After.{state_after}
use Rattle.aps_model.specs.Bill.{bankrupt, bill_of, exceeding}
use Rattle.aps_model.specs.Due.{due, last_end}
use Rattle.aps_model.specs.Legal.{IsLegal}
use Rattle.aps_model.specs.Scenario.{Scenario}
use Rattle.aps_model.specs.SchedulerState.{SchedulerState, cpu_at, row_at}
use Rattle.aps_model.specs.Step.{billed}
use Rattle.aps_model.specs.Usage.{critical_by, critical_used, names, overlap, window_critical}
use Rattle.aps_model.specs.Valid.{IsScenario}
use Rattle.laws_runs.specs.Between.{bill_in}
use Rattle.laws_runs.specs.Untouched.{mark_kept, partition_kept}
use Rattle.laws_runs.proofs.Sound.{step_law}
use Rattle.laws_runs.proofs.WaitFacts.{test_eq}
use Rattle.view_shares.specs.Spent.{excess_of, overspent_listed, overspent_as, overspent_by, overspent_of, state_tested}
use Rattle.view_shares.proofs.Overspent.{overspent_more}
use Rattle.laws_views.specs.Bankrupt.{bankrupt_in, overspent_at}

-- ---- one test in two words

-- the same is billed, with the same mark, over the same time
record BillsAlike (d e : Entry) : Type 0 where
  from : d.from ≡ e.from
  to : d.to ≡ e.to
  billed : d.billed ≡ e.billed
  critical : d.critical ≡ e.critical

critical_alike : (d e : Entry) → BillsAlike d e → (tick p a b : ℕ) → critical_by tick p a b d ≡ critical_by tick p a b e
critical_alike d e same tick p a b =
    ap (λ o. cond (names o p && d.critical) (overlap tick a b d.from d.to) 0) same.billed
    ∙ ap (λ c. cond (names e.billed p && c) (overlap tick a b d.from d.to) 0) same.critical
    ∙ ap (λ n. cond (names e.billed p && e.critical) (overlap tick a b n d.to) 0) same.from
    ∙ ap (λ n. cond (names e.billed p && e.critical) (overlap tick a b e.from n) 0) same.to

used_alike : (h : List Entry) (d e : Entry) → BillsAlike d e → (tick p a b : ℕ) → critical_used tick (h ++ d ∷ []) p a b ≡ critical_used tick (h ++ e ∷ []) p a b
used_alike h d e same tick p a b =
    sum_by_push (critical_by tick p a b) h d ∙ ap (λ n. critical_used tick h p a b + n) (critical_alike d e same tick p a b) ∙ sym (sum_by_push (critical_by tick p a b) h e)

exceeding_alike : (s : SchedulerState) (h : List Entry) (d e : Entry) → BillsAlike d e → (j : ℕ) (o : Option ℕ) → exceeding s (h ++ d ∷ []) j o ≡ exceeding s (h ++ e ∷ []) j o
exceeding_alike s h d e same j None = refl
exceeding_alike s h d e same j (Some p) =
    ap (λ n. cond {A = Option ℕ} (nat_lt (row_at s p).critical n) (Some p) None) (used_alike h d e same s.shape.tick p (j + 1 - s.shape.window) (j + 1))

bankrupt_alike : (s : SchedulerState) (h : List Entry) (d e : Entry) → BillsAlike d e → bankrupt s (h ++ d ∷ []) d ≡ bankrupt s (h ++ e ∷ []) e
bankrupt_alike s h d e same =
    let found : Bool → ℕ → ℕ → ℕ → Option ℕ → Option ℕ = λ critical from to end o. cond {A = Option ℕ} (critical && nat_lt from to) (exceeding s (h ++ d ∷ []) (end / s.shape.tick) o) None in
    ap (λ c. found c d.from d.to d.to d.billed) same.critical
    ∙ ap (λ n. found e.critical n d.to d.to d.billed) same.from
    ∙ ap (λ n. found e.critical e.from n n d.billed) same.to
    ∙ ap (λ o. found e.critical e.from e.to e.to o) same.billed
    ∙ ap (λ o. cond {A = Option ℕ} (e.critical && nat_lt e.from e.to) o None) (exceeding_alike s h d e same (e.to / s.shape.tick) e.billed)

-- a bill leaves the rows and the shape
bankrupt_billed : (s : SchedulerState) (d : Entry) (running : Option Pick) (h : List Entry) (e : Entry) → bankrupt (billed s d running) h e ≡ bankrupt s h e
bankrupt_billed s d None h e = refl
bankrupt_billed s d (Some p) h e = refl

pub same_test : (scenario : Scenario) (order : Order) (h : List Entry) (e : Entry) → IsScenario scenario → IsLegal scenario order (h ++ e ∷ [])
    → bankrupt (state_tested scenario h e) (h ++ e ∷ []) e ≡ bankrupt_in scenario h e.cpu
same_test scenario order h e valid legal =
    let s = state_after scenario h in
    let d = bill_in s h e.cpu in
    let step = step_law scenario order h e valid legal in
    let running = (cpu_at s e.cpu).running in
    let alike : BillsAlike e d = of_bill e running step.from step.to step.billed step.critical in
    bankrupt_alike (state_tested scenario h e) h e d alike
    ∙ sym (bankrupt_billed (state_tested scenario h e) d running (h ++ d ∷ []) d)
  where
    of_bill : (e : Entry) (o : Option Pick) → e.from ≡ last_end h e.cpu → e.to ≡ due (state_after scenario h) h e.cpu → e.billed ≡ partition_kept o → e.critical ≡ mark_kept o
        → BillsAlike e (bill_of e.cpu (last_end h e.cpu) (due (state_after scenario h) h e.cpu) o)
    of_bill e None from to billed critical = record { from = from; to = to; billed = billed; critical = critical }
    of_bill e (Some p) from to billed critical = record { from = from; to = to; billed = billed; critical = critical }

-- ---- what is told

-- only the partition that is billed can be found
only_billed : (s : SchedulerState) (h : List Entry) (e : Entry) (p : ℕ) → bankrupt s h e ≡ Some p → e.billed ≡ Some p
only_billed s h e p is = by_test (e.critical && nat_lt e.from e.to) is
  where
    by_use : (t : Bool) (q : ℕ) → cond {A = Option ℕ} t (Some q) None ≡ Some p → Some q ≡ Some p
    by_use true q k = k
    by_use false q k = absurd cc

    by_billed : (o : Option ℕ) → exceeding s h (e.to / s.shape.tick) o ≡ Some p → o ≡ Some p
    by_billed None k = absurd cc
    by_billed (Some q) k = by_use (nat_lt (row_at s q).critical (window_critical s.shape h (e.to / s.shape.tick) q)) q k

    by_test : (t : Bool) → cond {A = Option ℕ} t (exceeding s h (e.to / s.shape.tick) e.billed) None ≡ Some p → e.billed ≡ Some p
    by_test true k = by_billed e.billed k
    by_test false k = absurd cc

module _ (scenario : Scenario) (h : List Entry) (e : Entry) where
  abbrev tested : Option ℕ
  tested = bankrupt (state_tested scenario h e) (h ++ e ∷ []) e

  told_some : (p : ℕ) → tested ≡ Some p → overspent_by scenario h e ≡ Some (overspent_at scenario h e p)
  told_some p is =
      let billed = only_billed (state_tested scenario h e) (h ++ e ∷ []) e p is in
      let named : names tested p ≡ true = ap (λ o. names o p) is ∙ test_eq p p refl in
      ap (option_and_then (λ q. overspent_as e.to q (excess_of scenario q h e))) billed
      ∙ ap (λ t. overspent_as e.to p (cond {A = Option ℕ} t (Some (overspent_at scenario h e p).excess) None)) named

  told_none : tested ≡ None → overspent_by scenario h e ≡ None
  told_none is = by_billed e.billed
    where
      by_billed : (o : Option ℕ) → option_and_then (λ q. overspent_as e.to q (excess_of scenario q h e)) o ≡ None
      by_billed None = refl
      by_billed (Some q) = ap (λ o. overspent_as e.to q (cond {A = Option ℕ} (names o q) (Some (overspent_at scenario h e q).excess) None)) is

  pub listed_some : (p : ℕ) → tested ≡ Some p → overspent_of scenario (h ++ e ∷ []) ≡ overspent_of scenario h ++ overspent_at scenario h e p ∷ []
  listed_some p is = overspent_more scenario h e ∙ ap (λ o. overspent_of scenario h ++ overspent_listed o) (told_some p is)

  pub listed_none : tested ≡ None → overspent_of scenario (h ++ e ∷ []) ≡ overspent_of scenario h
  listed_none is = overspent_more scenario h e ∙ ap (λ o. overspent_of scenario h ++ overspent_listed o) (told_none is) ∙ append-nil (overspent_of scenario h)
