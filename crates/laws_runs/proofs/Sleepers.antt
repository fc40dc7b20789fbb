-- Who sleeps sleeps beyond the begin of the tick.
use Rattle.std.proofs.Common.{◌≡◌, ℕ, zero, suc, ◌+◌, ◌<◌, ◌≤◌, List, [], ◌∷◌, length, sym, ◌∙◌, ap, subst, Bool, true, false, cond, nat_le, Option, Some, None, arith, inl, inr, ◌⊎◌}
use Rattle.std.specs.List.{cons_option, filter_map, fold, range_with_len}
use Rattle.std.proofs.lemmas.Bool.{cases_eq, cases_lt}
use Rattle.std.proofs.lemmas.Bool.Decides.{nat_tests}
use Rattle.aps_model.specs.declared.program.Op.TheVariants.{Sleep}
use Rattle.aps_model.specs.declared.state.State.TheVariants.{Ready, Sleeping}
use Rattle.aps_model.specs.declared.state.ThreadNow.{ThreadNow}
use Rattle.laws_runs.specs.Waits.{state_at}
use Rattle.laws_runs.proofs.EachThread.{go_on_count, go_on_exact}
use Rattle.laws_runs.proofs.ThreadFacts.{set_same}
use Rattle.laws_runs.proofs.Walk.{go_on_other}
use Rattle.laws_runs.proofs.Programs.{op_fits}
use Rattle.aps_model.specs.Operation.{go_on}
use Rattle.aps_model.specs.Program.{IsOp}
use Rattle.aps_model.specs.Scenario.{Scenario}
use Rattle.aps_model.specs.SchedulerState.{SchedulerState, thread_at}
use Rattle.aps_model.specs.TickWork.{insert_sleeper, is_earlier, wake_all, wakes_at, waking}
use Rattle.aps_model.specs.Valid.{IsScenario, joinable}

-- the thread stands among these sleepers
abbrev HasSleeper : ℕ → List (ℕ × ℕ) → Type 0
HasSleeper y [] = ⊥
HasSleeper y (p ∷ rest) = (p.1 ≡ y) ⊎ HasSleeper y rest

insert_keeps : (y : ℕ) (p : ℕ × ℕ) (xs : List (ℕ × ℕ)) → HasSleeper y xs → HasSleeper y (insert_sleeper p xs)
insert_keeps y p [] has = absurd has
insert_keeps y p (q ∷ rest) has = by_test (is_earlier p q) has (insert_keeps y p rest)
  where
    by_test : (t : Bool) → (q.1 ≡ y) ⊎ HasSleeper y rest → (HasSleeper y rest → HasSleeper y (insert_sleeper p rest)) → HasSleeper y (cond t (p ∷ q ∷ rest) (q ∷ insert_sleeper p rest))
    by_test true h f = inr h
    by_test false (inl e) f = inl e
    by_test false (inr h) f = inr (f h)

insert_has : (y : ℕ) (p : ℕ × ℕ) (xs : List (ℕ × ℕ)) → p.1 ≡ y → HasSleeper y (insert_sleeper p xs)
insert_has y p [] e = inl e
insert_has y p (q ∷ rest) e = by_test (is_earlier p q) (insert_has y p rest e)
  where
    by_test : (t : Bool) → HasSleeper y (insert_sleeper p rest) → HasSleeper y (cond t (p ∷ q ∷ rest) (q ∷ insert_sleeper p rest))
    by_test true h = inl e
    by_test false h = inr h

sorted_keeps : (y : ℕ) (xs acc : List (ℕ × ℕ)) → HasSleeper y acc → HasSleeper y (fold (λ sleepers sleeper. insert_sleeper sleeper sleepers) acc xs)
sorted_keeps y [] acc has = has
sorted_keeps y (x ∷ xs) acc has = sorted_keeps y xs (insert_sleeper x acc) (insert_keeps y x acc has)

-- who has slept long enough wakes
waking_has : (s : SchedulerState) (now y u n a : ℕ) (acc : List (ℕ × ℕ)) → state_at s y ≡ Sleeping u → u ≤ now → a ≤ y → y < a + n
    → HasSleeper y (fold (λ sleepers sleeper. insert_sleeper sleeper sleepers) acc (filter_map (λ x. wakes_at now x (thread_at s x).state) (range_with_len a n)))
waking_has s now y u zero a acc st late low high = absurd (omega arith)
waking_has s now y u (suc n) a acc st late low high = elim (cases_eq a y) [
  | inl e ↦
      subst (λ o. HasSleeper y (fold (λ sleepers sleeper. insert_sleeper sleeper sleepers) acc (cons_option o (filter_map (λ x. wakes_at now x (thread_at s x).state) (range_with_len (a + 1) n)))))
      (sym (ap (λ z. wakes_at now a z) (ap (state_at s) e ∙ st) ∙ wakes))
      (sorted_keeps y (filter_map (λ x. wakes_at now x (thread_at s x).state) (range_with_len (a + 1) n)) (insert_sleeper (u, a) acc) (insert_has y (u, a) acc e))
  | inr ne ↦ by_wake (wakes_at now a (state_at s a)) (λ more. waking_has s now y u n (a + 1) more st late (omega (arith, ne)) (omega arith))
]
  where
    le_test : nat_le u now ≡ true
    le_test = grind (arith, nat_tests)

    wakes : wakes_at now a (Sleeping u) ≡ Some (u, a)
    wakes = ap (λ (t : Bool). cond t (Some (u, a)) None) le_test

    by_wake : (o : Option (ℕ × ℕ)) → ((more : List (ℕ × ℕ)) → HasSleeper y (fold (λ sleepers sleeper. insert_sleeper sleeper sleepers) more (filter_map (λ x. wakes_at now x (thread_at s x).state) (range_with_len (a + 1) n))))
        → HasSleeper y (fold (λ sleepers sleeper. insert_sleeper sleeper sleepers) acc (cons_option o (filter_map (λ x. wakes_at now x (thread_at s x).state) (range_with_len (a + 1) n))))
    by_wake None f = f acc
    by_wake (Some p) f = f (insert_sleeper p acc)

-- each sleeper sleeps beyond now, or is still to be woken
abbrev Awaits : ℕ → List (ℕ × ℕ) → SchedulerState → Type 0
Awaits now xs s = (y u : ℕ) → y < length s.threads → state_at s y ≡ Sleeping u → (now < u) ⊎ HasSleeper y xs

woken : (scenario : Scenario) → IsScenario scenario → (now : ℕ) (p : ℕ × ℕ) (rest : List (ℕ × ℕ)) (s : SchedulerState) → Awaits now (p ∷ rest) s → Awaits now rest (go_on scenario s p.1 now)
woken scenario r now p rest s m y u below st = elim (cases_eq y p.1) [
  | inl e ↦ inl (itself (subst (λ n. n < length s.threads) e inside) (ap (state_at (go_on scenario s p.1 now)) (sym e) ∙ st))
  | inr ne ↦ elim (m y u inside (sym (ap (λ (z : ThreadNow). z.state) (go_on_other scenario s p.1 now y ne)) ∙ st)) [
    | inl later ↦ inl later
    | inr has ↦ elim has [
      | inl e ↦ absurd (ne (sym e))
      | inr more ↦ inr more
    ]
  ]
]
  where
    inside : y < length s.threads
    inside = subst (λ n. y < n) (go_on_count scenario s p.1 now) below

    moment_same : (a b : ℕ) → Sleeping a ≡ Sleeping b → a ≡ b
    moment_same a b k = cc

    never : Ready ≡ Sleeping u → ⊥
    never e = cc

    itself : p.1 < length s.threads → state_at (go_on scenario s p.1 now) p.1 ≡ Sleeping u → now < u
    itself at =
        go_on_exact scenario s p.1 now (λ t. state_at t p.1 ≡ Sleeping u → now < u)
        (λ awake e. absurd (never (sym (ap (λ (z : ThreadNow). z.state) (set_same s.threads p.1 _ at)) ∙ e)))
        (λ ns is e.
        let same = moment_same (now + ns) u (sym (ap (λ (z : ThreadNow). z.state) (set_same s.threads p.1 _ at)) ∙ e) in
        let range : IsOp (length scenario.channels) (joinable scenario) (Sleep ns) = subst (IsOp (length scenario.channels) (joinable scenario)) is (op_fits scenario r p.1 ((thread_at s p.1).place + 1)) in
        omega (arith, same, range.some))

woken_all : (scenario : Scenario) → IsScenario scenario → (now : ℕ) (xs : List (ℕ × ℕ)) (s : SchedulerState) → Awaits now xs s → Awaits now [] (fold (λ state (sleeper : ℕ × ℕ). go_on scenario state sleeper.1 now) s xs)
woken_all scenario r now [] s m = m
woken_all scenario r now (p ∷ rest) s m = woken_all scenario r now rest (go_on scenario s p.1 now) (woken scenario r now p rest s m)

-- after the wakes each sleeper sleeps beyond now
pub sleeps_beyond : (scenario : Scenario) → IsScenario scenario → (now : ℕ) (s : SchedulerState) (y u : ℕ) → y < length (wake_all scenario now s).threads → state_at (wake_all scenario now s) y ≡ Sleeping u → now < u
sleeps_beyond scenario r now s y u below st =
    by_end (woken_all scenario r now (waking s now) s first y u below st)
  where
    first : Awaits now (waking s now) s
    first z v inside is = elim (cases_lt now v) [
      | inl later ↦ inl later
      | inr late ↦ inr (waking_has s now z v (length s.threads) 0 [] is late (omega arith) (omega arith))
    ]

    by_end : (now < u) ⊎ HasSleeper y [] → now < u
    by_end (inl later) = later
    by_end (inr none) = absurd none
