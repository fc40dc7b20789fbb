-- Who always had a candidate always had work, and whom no pick found out of budget was always in budget.
use Rattle.std.proofs.Common.{◌≡◌, ℕ, ◌*◌, ◌/◌, ◌<◌, ◌≤◌, List, [], ◌∷◌, ◌++◌, sym, ◌∙◌, true, false, arith, inl, inr}
use Rattle.std.proofs.lemmas.Bool.{not-false}
use Rattle.aps_model.specs.declared.entry.Entry.{Entry}
use Rattle.aps_model.specs.declared.entry.Order.{Order}
use Rattle.aps_model.specs.After.{state_after}
use Rattle.aps_model.specs.Legal.{IsLegal}
use Rattle.aps_model.specs.Limits.{shortest_tick}
use Rattle.aps_model.specs.Loaded.{finished_ticks}
use Rattle.aps_model.specs.Scenario.{Scenario}
use Rattle.aps_model.specs.Valid.{IsScenario}
use Rattle.laws_runs.specs.Moments.{moment}
use Rattle.laws_runs.proofs.Words.{up_to}
use Rattle.laws_bounds.specs.Kinds.{is_funded}
use Rattle.laws_load.specs.OwnShare.{WorksInBudget}
use Rattle.laws_load.specs.Passing.{parts_now}
use Rattle.laws_load.proofs.Classes.{funded_is}
use Rattle.laws_load.proofs.OpenPick.{open_pick}
use Rattle.laws_bounds.proofs.ServedTicks.{makes_pick}
use Rattle.view_samples.specs.Picks.{had_candidate, lacks, lacks_test, out_test, was_out}
use Rattle.laws_views.proofs.Alongs.{none_of}
use Rattle.laws_views.proofs.HadWork.{had_work}

-- whether a pick finds the partition in budget
pub out_is : (scenario : Scenario) (g : List Entry) (p : ℕ) (e : Entry) → out_test scenario p g e ≡ false → is_funded scenario (g ++ e ∷ []) p ≡ true
out_is scenario g p e none =
    let t = state_after scenario (g ++ e ∷ []) in
    sym (funded_is t.shape t.rows (g ++ e ∷ []) (moment (g ++ e ∷ []) / t.shape.tick) p) ∙ not-false _ none

pub never_out : (scenario : Scenario) (h : List Entry) (p a b : ℕ) → was_out scenario h p a b ≡ false → 0 < scenario.shape.tick → (before later : List Entry) (e : Entry) → h ≡ before ++ e ∷ later
    → a * scenario.shape.tick ≤ e.to → e.to < b * scenario.shape.tick → is_funded scenario (before ++ e ∷ []) p ≡ true
unfolding was_out
never_out scenario h p a b none some before later e same low high =
    out_is scenario before p e (none_of (out_test scenario p) scenario.shape.tick a b h before later e none same some low high)

had_one : (scenario : Scenario) (h : List Entry) (p a b : ℕ) → lacks scenario h p a b ≡ false → 0 < scenario.shape.tick → (before later : List Entry) (e : Entry) → h ≡ before ++ e ∷ later
    → a * scenario.shape.tick ≤ e.to → e.to < b * scenario.shape.tick → had_candidate (state_after scenario (before ++ e ∷ [])) (before ++ e ∷ []) e.cpu p ≡ true
unfolding lacks
had_one scenario h p a b none some before later e same low high =
    not-false _ (none_of (lacks_test scenario p) scenario.shape.tick a b h before later e none same some low high)

pub always_worked : (scenario : Scenario) (order : Order) (h : List Entry) (p a b : ℕ) → IsScenario scenario → IsLegal scenario order h → b ≤ finished_ticks scenario.shape h → lacks scenario h p a b ≡ false
    → WorksInBudget scenario h p a b
always_worked scenario order h p a b r legal finished none = λ before later e same low high in_budget.
    let g = before ++ e ∷ [] in
    let t = state_after scenario g in
    let long = r.shape.tick_long in
    let had = had_one scenario h p a b none (some_time scenario.shape.tick long) before later e same low high in
    elim (open_pick scenario order before e r (up_to scenario order h before later e same legal)) [
      | inl no_pick ↦ absurd (makes_pick scenario order h before later e b r legal same finished high no_pick)
      | inr pick ↦ had_work scenario before e t (parts_now t g) p pick had
    ]
  where
    some_time : (tick : ℕ) → shortest_tick ≤ tick → 0 < tick
    some_time tick long = omega (arith, long)
