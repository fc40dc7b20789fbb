-- What a server ran is what it ran for its clients, and its own.
use Rattle.std.proofs.Common.{◌≡◌, ℕ, zero, suc, ◌+◌, ◌<◌, List, [], ◌∷◌, ◌++◌, length, Bool, true, false, ◌&&◌, if◌then◌else◌, nat_eq, Option, Some, None, inl, inr, refl, sym, ap, subst, ◌∙◌, append_assoc, arith}
use Rattle.std.specs.Prelude.{is_none}
use Rattle.std.specs.List.{range_with_len, sum_by}
use Rattle.std.proofs.lemmas.Bool.{cases_eq, eqb-true}
use Rattle.std.proofs.lemmas.List.Sums.{sum_by-cons}
use Rattle.aps_model.specs.declared.entry.Entry.{Entry}
use Rattle.aps_model.specs.declared.entry.Order.{Order}
use Rattle.aps_model.specs.declared.state.State.{State}
use Rattle.aps_model.specs.declared.state.State.TheVariants.{Gone, Replying}
use Rattle.aps_model.specs.After.{state_after}
use Rattle.aps_model.specs.Inherit.{client_of}
use Rattle.aps_model.specs.Legal.{IsLegal}
use Rattle.aps_model.specs.Report.{length_of}
use Rattle.aps_model.specs.Scenario.{Scenario}
use Rattle.aps_model.specs.SchedulerState.{SchedulerState}
use Rattle.aps_model.specs.Usage.{names}
use Rattle.aps_model.specs.Valid.{IsScenario}
use Rattle.laws_runs.proofs.Counts.{counts_law}
use Rattle.laws_runs.proofs.ThreadFacts.{within}
use Rattle.laws_runs.proofs.WaitFacts.{test_eq, test_ne}
use Rattle.laws_runs.proofs.Words.{prefix_legal}
use Rattle.laws_bounds.specs.Sums.{sum_below}
use Rattle.laws_bounds.proofs.Sums.{single_full, sum_below_add, sum_below_same, sum_below_zero, sum_range}
use Rattle.laws_bounds.specs.FreeTime.{sum_along}
use Rattle.view_latency.specs.Held.{IsCountedOnce}
use Rattle.view_latency.specs.News.{news_of, time_of}
use Rattle.view_latency.proofs.Holding.{counted_once, held_by_state}
use Rattle.laws_views.specs.Served.{own_by, own_time, ran_by, run_time, served_by, served_time}

clash : (x : ℕ) → None ≡ Some x → ⊥
clash x same = cc

pub some_same : (a b : ℕ) → Some a ≡ Some b → a ≡ b
some_same a b same = cc

clash_gone : (y : ℕ) → ◌≡◌ {A = State} (Replying y) Gone → ⊥
clash_gone y same = cc

pub none_from : (n : ℕ) → (0 < n → ⊥) → n ≡ 0
none_from zero never = refl
none_from (suc n) never = absurd (never (omega arith))

pub names_is : (ran : Option ℕ) (x : ℕ) → names ran x ≡ true → ran ≡ Some x
names_is None x is = absurd cc
names_is (Some y) x is = ap (λ (z : ℕ). Some z) (eqb-true y x is)

module _ (scenario : Scenario) (order : Order) (r : IsScenario scenario) (server : ℕ) where
  abbrev n : ℕ
  n = length scenario.threads

  -- ---- one entry

  module _ (before : List Entry) (e : Entry) (legal : IsLegal scenario order before) where
    abbrev s : SchedulerState
    s = state_after scenario before

    abbrev time : ℕ → ℕ
    time x = time_of (news_of scenario s x e)

    counted : IsCountedOnce scenario s e
    counted = counted_once scenario order before e r legal

    -- whoever isn't held isn't served
    unserved : (x : ℕ) → e.ran ≡ Some server → (client_of s.triples server ≡ Some x → ⊥) → time x ≡ 0
    unserved x ran free = none_from (time x) served
      where
        served : 0 < time x → ⊥
        served some =
            let of = counted.nobody_else x some in
            free (subst (λ y. client_of s.triples y ≡ Some x) (some_same of.0 server (sym of.1 ∙ ran)) of.2)

    exists : (y : ℕ) → client_of s.triples server ≡ Some y → y < n
    exists y held =
        let waits = (held_by_state scenario order before r legal).waits server y held in
        let below = within s.threads y (λ gone. clash_gone server (sym waits ∙ gone)) in
        let count = (counts_law scenario order before r legal).threads in
        omega (arith, below, count)

    time_is : (y x : ℕ) → e.ran ≡ Some server → client_of s.triples server ≡ Some y → time x ≡ (if nat_eq y x then length_of e else 0)
    time_is y x ran held = elim (cases_eq y x) [
      | inl same ↦ rw (test_eq y x same) (counted.client server x ran (held ∙ ap (λ (z : ℕ). Some z) same))
      | inr ne ↦ rw (test_ne y x ne) (unserved x ran (λ other. ne (some_same y x (sym held ∙ other))))
    ]

    by_held : (o : Option ℕ) → client_of s.triples server ≡ o → e.ran ≡ Some server → sum_below n time + (if is_none o then length_of e else 0) ≡ length_of e
    by_held None held ran = let none = sum_below_zero n time (λ x. unserved x ran (λ some. clash x (sym held ∙ some))) in omega (arith, none)
    by_held (Some y) held ran =
        let one = single_full n (length_of e) y (exists y held) in
        let same = sum_below_same n time (λ x. if nat_eq y x then length_of e else 0) (λ x. time_is y x ran held) in
        omega (arith, one, same)

    by_ran : (t : Bool) → names e.ran server ≡ t → sum_below n (λ x. if t then time x else 0) + (if t && is_none (client_of s.triples server) then length_of e else 0) ≡ (if t then length_of e else 0)
    by_ran true is = by_held (client_of s.triples server) refl (names_is e.ran server is)
    by_ran false is = let none = sum_below_zero n (λ x. 0) (λ x. refl) in omega (arith, none)

    pub one_entry : sum_below n (λ x. served_by scenario server x before e) + own_by scenario server before e ≡ ran_by server e
    one_entry = by_ran (names e.ran server) refl

  -- ---- all entries

  all_entries : (before es : List Entry) → IsLegal scenario order (before ++ es)
      → sum_below n (λ x. sum_along (served_by scenario server x) before es) + sum_along (own_by scenario server) before es ≡ sum_by (ran_by server) es
  all_entries before [] legal = let none = sum_below_zero n (λ x. 0) (λ x. refl) in omega (arith, none)
  all_entries before (e ∷ es) legal =
      let here = one_entry before e (prefix_legal scenario order before (e ∷ es) legal) in
      let rest = all_entries (before ++ e ∷ []) es (subst (IsLegal scenario order) (sym (append_assoc before (e ∷ []) es)) legal) in
      let split = sum_below_add n (λ x. served_by scenario server x before e) (λ x. sum_along (served_by scenario server x) (before ++ e ∷ []) es) (λ x. sum_along (served_by scenario server x) before (e ∷ es)) (λ x. refl) in
      let cons = sum_by-cons (ran_by server) e es in
      added (sum_below n (λ x. served_by scenario server x before e)) (own_by scenario server before e) (ran_by server e)
      (sum_below n (λ x. sum_along (served_by scenario server x) (before ++ e ∷ []) es)) (sum_along (own_by scenario server) (before ++ e ∷ []) es) (sum_by (ran_by server) es)
      (sum_below n (λ x. sum_along (served_by scenario server x) before (e ∷ es))) (sum_by (ran_by server) (e ∷ es)) here rest split cons
    where
      added : (a b c a' b' c' s all : ℕ) → a + b ≡ c → a' + b' ≡ c' → s ≡ a + a' → all ≡ c + c' → s + (b + b') ≡ all
      added a b c a' b' c' s all one two three four = omega (arith, one, two, three, four)

  pub served_and_own : (h : List Entry) → IsLegal scenario order h → sum_by (served_time scenario h server) (range_with_len 0 n) + own_time scenario h server ≡ run_time h server
  served_and_own h legal =
      let all = all_entries [] h legal in
      let sums = sum_range n (served_time scenario h server) in
      omega (arith, all, sums)
