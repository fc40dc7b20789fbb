-- A triple changes the inherited values of its server alone.
use Rattle.std.proofs.Common.{◌≡◌, ◌≢◌, ℕ, ◌+◌, List, [], ◌∷◌, max, refl, sym, ◌∙◌, ap, Bool, true, false, cond, nat_eq, ◌&&◌, arith, inl, inr}
use Rattle.std.proofs.lemmas.Bool.{cases_eq}
use Rattle.aps_model.specs.declared.state.State.TheVariants.{Running}
use Rattle.laws_runs.specs.Servers.{ChangesOnlyServer, IsNobodysClient}
use Rattle.laws_runs.specs.Waits.{IsWaiting, is_replying, one_if, state_at, times_paired}
use Rattle.laws_runs.proofs.WaitFacts.{test_eq, test_ne}
use Rattle.aps_model.specs.Inherit.{Inheritance, follow, inheritance_of, top_at, without_server}
use Rattle.aps_model.specs.SchedulerState.{SchedulerState, Triple, channel_at}

-- a chain from another thread does not lead to one that is nobody's client
follow_without : (i : Inheritance) (ts : List Triple) (x y priority : ℕ) → IsNobodysClient ts x → y ≢ x → follow i (without_server ts x) y priority ≡ follow i ts y priority
follow_without i [] x y priority free ne = refl
follow_without i (t ∷ older) x y priority free ne = elim (cases_eq t.server x) [
  | inl is ↦
      let off : nat_eq t.server y ≡ false = test_ne t.server y (λ e. ne (sym e ∙ is)) in
      ap (λ b. follow i (cond b older (t ∷ without_server older x)) y priority) (test_eq t.server x is)
      ∙ sym (ap (λ b. follow i older (cond b t.client y) (cond b (max priority (top_at i.tops t.channel)) priority)) off)
  | inr other ↦
      ap (λ b. follow i (cond b older (t ∷ without_server older x)) y priority) (test_ne t.server x other)
      ∙ follow_without i older x (cond (nat_eq t.server y) t.client y) (cond (nat_eq t.server y) (max priority (top_at i.tops t.channel)) priority) free.1 (beside (nat_eq t.server y))
]
  where
    beside : (b : Bool) → cond b t.client y ≢ x
    beside true e = free.0 (sym e)
    beside false e = ne e

pub changes_only : (s : SchedulerState) (x : ℕ) → IsNobodysClient s.triples x → ChangesOnlyServer s x
changes_only s x free = record {
  serves = λ client channel y ne.
      let i = inheritance_of s in
      ap (λ b. follow i s.triples (cond b client y) (cond b (max 0 (top_at i.tops channel)) 0)) (test_ne x y (λ e. ne (sym e)));
  leaves = λ y ne. follow_without (inheritance_of s) s.triples x y 0 free ne;
}

-- who runs is nobody's client
pub runs_free : (s : SchedulerState) (x c : ℕ) → IsWaiting (state_at s) (channel_at s) s.triples → state_at s x ≡ Running c → IsNobodysClient s.triples x
runs_free s x c w run = free s.triples (λ z. (w.at x).waits z ∙ none z)
  where
    none : (z : ℕ) → is_replying z (state_at s x) ≡ 0
    none z = ap (is_replying z) run

    both : (a b : Bool) → a ≡ true → b ≡ true → (k : ℕ) → one_if (a && b) + k ≡ 0 → ⊥
    both true true p q k e = omega arith
    both true false p q k e = cc
    both false b p q k e = cc

    counted : (s c x k : ℕ) → c ≡ x → one_if (nat_eq s s && nat_eq c x) + k ≡ 0 → ⊥
    counted s c x k e n = both (nat_eq s s) (nat_eq c x) (test_eq s s refl) (test_eq c x e) k n

    free : (ts : List Triple) → ((z : ℕ) → times_paired z x ts ≡ 0) → IsNobodysClient ts x
    free [] f = tt
    free (t ∷ ts) f = (λ e. counted t.server t.client x (times_paired t.server x ts) (sym e) (f t.server), free ts (λ z. let l = f z in omega (arith, l)))
