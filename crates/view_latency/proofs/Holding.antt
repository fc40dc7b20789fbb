-- Whom a server holds, and whose call its time counts for.
use Rattle.std.proofs.Common.{◌≡◌, ◌≢◌, ℕ, ◌<◌, ◌≤◌, List, [], ◌∷◌, Bool, true, false, ◌&&◌, cond, nat_eq, Option, Some, None, inl, inr, refl, sym, ap, subst, ◌∙◌, arith}
use Rattle.std.proofs.lemmas.Bool.{cases_Bool, cases_eq, eqb-true}
use Rattle.aps_model.specs.declared.entry.Entry.{Entry}
use Rattle.aps_model.specs.declared.entry.Order.{Order}
use Rattle.aps_model.specs.declared.state.State.{State}
use Rattle.aps_model.specs.declared.state.State.TheVariants.{Running, Sending, Replying}
use Rattle.aps_model.specs.After.{state_after}
use Rattle.aps_model.specs.Inherit.{IsFree, IsMade, client_of}
use Rattle.aps_model.specs.Legal.{IsLegal}
use Rattle.aps_model.specs.Report.{length_of}
use Rattle.aps_model.specs.Scenario.{Scenario, op_at}
use Rattle.aps_model.specs.SchedulerState.{Triple, thread_at}
use Rattle.aps_model.specs.Usage.{names}
use Rattle.aps_model.specs.Valid.{IsScenario}
use Rattle.laws_runs.specs.Waits.{is_replying, one_if, times_paired}
use Rattle.laws_runs.proofs.Sound.{sound}
use Rattle.laws_runs.proofs.WaitFacts.{client_replies, test_eq, test_ne}
use Rattle.view_latency.specs.Held.{IsCountedOnce, IsHeldByState}
use Rattle.view_latency.specs.News.{is_send, news_in, time_of}
use Rattle.view_latency.proofs.CallsSmall.{sent_none, served_time, taking_none}

-- ---- whom a server holds

free_unpaired : (pairs : List Triple) (x y : ℕ) → IsFree pairs x → times_paired x y pairs ≡ 0
free_unpaired [] x y free = refl
free_unpaired (pair ∷ older) x y free =
    let ne : pair.server ≢ x = λ e. free.0 (sym e) in
    let here : one_if (nat_eq pair.server x && nat_eq pair.client y) ≡ 0 = ap (λ b. one_if (b && nat_eq pair.client y)) (test_ne pair.server x ne) in
    let none = free_unpaired older x y free.2 in
    omega (arith, here, none)

pub paired_client : (pairs : List Triple) (x y : ℕ) → IsMade pairs → 1 ≤ times_paired x y pairs → client_of pairs x ≡ Some y
paired_client [] x y made paired = absurd (omega (arith, paired))
paired_client (pair ∷ older) x y made paired =
    elim (cases_eq pair.server x) [
      | inl same ↦
          let test = test_eq pair.server x same in
          let none = free_unpaired older x y (subst (IsFree older) same made.0) in
          let here : one_if (nat_eq pair.server x && nat_eq pair.client y) ≡ one_if (nat_eq pair.client y) = ap (λ b. one_if (b && nat_eq pair.client y)) test in
          let count : 1 ≤ one_if (nat_eq pair.client y) = omega (arith, here, none, paired) in
          ap (λ b. cond b (Some pair.client) (client_of older x)) test ∙ ap (λ (z : ℕ). Some z) (from_one pair.client count)
      | inr ne ↦
          let test = test_ne pair.server x ne in
          let here : one_if (nat_eq pair.server x && nat_eq pair.client y) ≡ 0 = ap (λ b. one_if (b && nat_eq pair.client y)) test in
          ap (λ b. cond b (Some pair.client) (client_of older x)) test ∙ paired_client older x y made.2 (omega (arith, here, paired))
    ]
  where
    from_one : (client : ℕ) → 1 ≤ one_if (nat_eq client y) → client ≡ y
    from_one client count = elim (cases_eq client y) [
      | inl same ↦ same
      | inr ne ↦ absurd (none_one (nat_eq client y) (test_ne client y ne) count)
    ]
      where
        none_one : (t : Bool) → t ≡ false → 1 ≤ one_if t → ⊥
        none_one true e k = cc
        none_one false e k = omega arith

pub held_by_state : (scenario : Scenario) (order : Order) (h : List Entry) → IsScenario scenario → IsLegal scenario order h → IsHeldByState (state_after scenario h)
held_by_state scenario order h valid legal =
    let s = state_after scenario h in
    let waiting = (sound scenario order valid h legal).grounded.plain.waiting in
    record {
      waits = λ server client is. client_replies waiting server client is;
      held = λ server client replies.
          let count : times_paired server client s.triples ≡ 1 =
          (waiting.at client).waits server ∙ ap (λ st. is_replying server st) replies ∙ ap one_if (test_eq server server refl) in
          paired_client s.triples server client waiting.made (omega (arith, count));
    }

-- ---- whose call an entry's time counts for

names_is : (ran : Option ℕ) (x : ℕ) → names ran x ≡ true → ran ≡ Some x
names_is None x is = absurd cc
names_is (Some y) x is = ap (λ (z : ℕ). Some z) (eqb-true y x is)

counts_for : (scenario : Scenario) (x place : ℕ) (state : State) (e : Entry) → 0 < time_of (news_in scenario x place state e) → (server : ℕ) × (e.ran ≡ Some server) × (state ≡ Replying server)
counts_for scenario x place (Running c) e some =
    absurd (elim (cases_Bool (names e.ran x && is_send e.done)) [
      | inl own ↦ let none = sent_none (op_at scenario x place) 0 in let at = rw own at some in omega (arith, at, none)
      | inr other ↦ let at = rw other at some in omega (arith, at)
    ])
counts_for scenario x place (Sending c) e some = let none = taking_none x e.done 0 in absurd (omega (arith, some, none))
counts_for scenario x place (Replying server) e some =
    elim (cases_Bool (names e.ran server)) [
      | inl ran ↦ (server, names_is e.ran server ran, refl)
      | inr other ↦ let at = rw other at some in absurd (omega (arith, at))
    ]
counts_for scenario x place state e some = absurd (omega (arith, some))

pub counted_once : (scenario : Scenario) (order : Order) (h : List Entry) (e : Entry) → IsScenario scenario → IsLegal scenario order h → IsCountedOnce scenario (state_after scenario h) e
counted_once scenario order h e valid legal =
    let s = state_after scenario h in
    let holds = held_by_state scenario order h valid legal in
    record {
      client = λ server client ran is.
          let names_it : names e.ran server ≡ true = ap (λ (o : Option ℕ). names o server) ran ∙ test_eq server server refl in
          ap (λ st. time_of (news_in scenario client (thread_at s client).place st e)) (holds.waits server client is)
          ∙ rw names_it (served_time e.done (length_of e));
      nobody_else = λ x some.
          let of = counts_for scenario x (thread_at s x).place (thread_at s x).state e some in
          (of.0, of.1, holds.held of.0 x of.2);
    }
