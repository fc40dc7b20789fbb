-- The commands that are still to come, from entry to entry.
use Rattle.std.proofs.Common.{◌≡◌, ◌≢◌, ℕ, ◌*◌, ◌/◌, ◌%◌, List, [], ◌∷◌, ◌++◌, sym, ◌∙◌, ap, subst, refl, Bool, true, false, ◌&&◌, ◌||◌, not, nat_eq, nat_lt, arith}
use Rattle.std.specs.List.{fold}
use Rattle.std.proofs.Math.Nat.{div-mul-le_self, mod-eq-sub-div-mul}
use Rattle.std.proofs.lemmas.Bool.{and_parts, eqb-true, not-true}
use Rattle.std.proofs.lemmas.List.Folds.{list_any-append}
use Rattle.aps_model.specs.declared.command.CommandRow.{CommandRow}
use Rattle.aps_model.specs.declared.entry.Entry.{Entry}
use Rattle.aps_model.specs.Scenario.{Scenario}
use Rattle.aps_model.specs.SchedulerState.{SchedulerState}
use Rattle.aps_model.specs.Shape.{horizon}
use Rattle.aps_model.specs.TickWork.{do_command, do_commands, has_tick_work}
use Rattle.aps_model.specs.Valid.{IsScenario}
use Rattle.aps_ctl.specs.Pending.{all_at}
use Rattle.laws_runs.specs.Boundaries.{is_met}
use Rattle.laws_runs.proofs.WaitFacts.{test_eq}
use Rattle.aps_core.specs.Calls.{AreInRange, all_done}
use Rattle.aps_core.specs.Pending.{IsPending}
use Rattle.aps_core.proofs.Commands.{in_range}

-- where a tick begins, the moment is its boundary, and no entry has met it
record IsBegun (s : SchedulerState) (h : List Entry) (now tick : ℕ) : Type 0 where
  at : now ≡ tick * s.shape.tick
  unmet : is_met h (tick * s.shape.tick) ≡ false

tick_begun : (s : SchedulerState) (h : List Entry) (now tick : ℕ) → has_tick_work s h now ≡ true → tick ≡ now / s.shape.tick → IsBegun s h now tick
tick_begun s h now tick works is =
    let t = s.shape.tick in
    let a = and_parts (nat_eq (now % t) 0 && nat_lt now (horizon s.shape)) (not (is_met h now)) works in
    let b = and_parts (nat_eq (now % t) 0) (nat_lt now (horizon s.shape)) a.0 in
    let none : now % t ≡ 0 = eqb-true (now % t) 0 b.0 in
    let whole : now ≡ now / t * t = omega (arith, none, mod-eq-sub-div-mul now t, div-mul-le_self now t) in
    let at : now ≡ tick * t = whole ∙ ap (λ k. k * t) (sym is) in
    record { at = at; unmet = subst (λ m. is_met h m ≡ false) at (not-true (is_met h now) a.1) }

-- all its commands are still to come
pub record IsStarted (scenario : Scenario) (s : SchedulerState) (h : List Entry) (now tick : ℕ) (pending : List (ℕ × CommandRow)) : Type 0 where
  pub at : now ≡ tick * s.shape.tick
  pub calls : AreInRange (all_at tick pending)
  pub done : all_done h tick s pending ≡ do_commands scenario h tick s

pub tick_started : (scenario : Scenario) (s : SchedulerState) (h : List Entry) (now tick : ℕ) (pending : List (ℕ × CommandRow)) → IsScenario scenario → has_tick_work s h now ≡ true → tick ≡ now / s.shape.tick
    → IsPending scenario s.shape.tick h pending → IsStarted scenario s h now tick pending
tick_started scenario s h now tick pending valid works is p =
    let begun = tick_begun s h now tick works is in
    let all = p tick begun.unmet in
    record {
      at = begun.at;
      calls = subst AreInRange (sym all) (in_range scenario tick valid);
      done = ap (fold (do_command h tick) s) all;
    }

-- what one entry more hasn't met
record IsUnmet (h : List Entry) (e : Entry) (moment : ℕ) : Type 0 where
  before : is_met h moment ≡ false
  apart : e.to ≢ moment

unmet : (h : List Entry) (e : Entry) (moment : ℕ) → is_met (h ++ e ∷ []) moment ≡ false → IsUnmet h e moment
unmet h e moment none =
    let each = by (is_met h moment) (nat_eq e.to moment) (sym (list_any-append (λ (x : Entry). nat_eq x.to moment) h (e ∷ [])) ∙ none) in
    record { before = each.0; apart = λ same. absurd (differ (sym (test_eq e.to moment same) ∙ each.1)) }
  where
    by : (a b : Bool) → (a || (b || false)) ≡ false → (a ≡ false) × (b ≡ false)
    by true b f = absurd cc
    by false true f = absurd cc
    by false false f = (refl, refl)

    differ : true ≡ false → ⊥
    differ f = cc

-- an entry at the beginning of a tick, whose commands are done
pub pending_begun : (scenario : Scenario) (tick : ℕ) (h : List Entry) (e : Entry) (now j : ℕ) (pending left : List (ℕ × CommandRow)) → now ≡ j * tick → e.to ≡ now
    → ((k : ℕ) → k ≢ j → all_at k left ≡ all_at k pending) → IsPending scenario tick h pending → IsPending scenario tick (h ++ e ∷ []) left
pending_begun scenario tick h e now j pending left at to others p = λ k none.
    let u = unmet h e (k * tick) none in
    others k (λ same. u.apart (to ∙ at ∙ ap (λ i. i * tick) (sym same))) ∙ p k u.before

-- and any other one
pub pending_kept : (scenario : Scenario) (tick : ℕ) (h : List Entry) (e : Entry) (pending : List (ℕ × CommandRow)) → IsPending scenario tick h pending → IsPending scenario tick (h ++ e ∷ []) pending
pending_kept scenario tick h e pending p = λ k none. p k (unmet h e (k * tick) none).before
