-- The work of a tick is done where an entry ended in it: the first step of a tick is at its beginning.
use Rattle.std.proofs.Common.{◌≡◌, ◌≢◌, ℕ, ◌*◌, ◌/◌, ◌%◌, ◌≤◌, List, [], ◌∷◌, Bool, true, false, ◌&&◌, ◌||◌, not, nat_eq, nat_lt, refl, sym, ap, ◌∙◌, inl, inr, arith}
use Rattle.std.specs.List.{fold, list_any}
use Rattle.std.proofs.lemmas.Bool.{cases_eq}
use Rattle.std.proofs.lemmas.Bool.Decides.{nat_tests}
use Rattle.std.proofs.lemmas.Nat.{div-add-mod'}
use Rattle.aps_model.specs.declared.entry.Entry.{Entry}
use Rattle.aps_model.specs.Shape.{horizon}
use Rattle.aps_model.specs.SchedulerState.{SchedulerState}
use Rattle.aps_model.specs.TickWork.{has_tick_work}
use Rattle.laws_runs.specs.Moments.{moment}

either : (a : Bool) → (a || true) ≡ true
either true = refl
either false = refl

same_number : (n : ℕ) → nat_eq n n ≡ true
same_number n = grind (arith, nat_tests)

last_met : (e : Entry) (h : List Entry) → list_any (λ (x : Entry). nat_eq x.to (fold (λ _ (x : Entry). x.to) e.to h)) (e ∷ h) ≡ true
last_met e [] = ap (λ b. b || false) (same_number e.to)
last_met e (x ∷ h) = ap (λ b. nat_eq e.to (fold (λ _ (y : Entry). y.to) x.to h) || b) (last_met x h) ∙ either (nat_eq e.to (fold (λ _ (y : Entry). y.to) x.to h))

-- an entry ended at the moment of the last one
moment_met : (h : List Entry) → h ≢ [] → list_any (λ (x : Entry). nat_eq x.to (moment h)) h ≡ true
moment_met [] some = absurd (some refl)
moment_met (e ∷ h) some = last_met e h

nothing : (a b : Bool) → (a && b && not true) ≡ false
nothing true true = refl
nothing true false = refl
nothing false true = refl
nothing false false = refl

pub work_done : (s : SchedulerState) (h : List Entry) (now : ℕ) → h ≢ [] → moment h ≤ now → now / s.shape.tick ≡ moment h / s.shape.tick → has_tick_work s h now ≡ false
work_done s h now some rises at = elim (cases_eq (now % s.shape.tick) 0) [
  | inr between ↦ ap (λ t. t && nat_lt now (horizon s.shape) && not (list_any (λ (x : Entry). nat_eq x.to now) h)) (fails between)
  | inl on ↦
      let whole = div-add-mod' now s.shape.tick in
      let part = div-add-mod' (moment h) s.shape.tick in
      let row : now / s.shape.tick * s.shape.tick ≡ moment h / s.shape.tick * s.shape.tick = ap (λ q. q * s.shape.tick) at in
      let here : moment h ≡ now = omega (arith, whole, part, row, on, rises) in
      ap (λ t. nat_eq (now % s.shape.tick) 0 && nat_lt now (horizon s.shape) && not t) (ap (λ n. list_any (λ (x : Entry). nat_eq x.to n) h) (sym here) ∙ moment_met h some)
      ∙ nothing (nat_eq (now % s.shape.tick) 0) (nat_lt now (horizon s.shape))
]
  where
    fails : (now % s.shape.tick ≡ 0 → ⊥) → nat_eq (now % s.shape.tick) 0 ≡ false
    fails ne = grind (arith, nat_tests)
