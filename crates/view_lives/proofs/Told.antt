-- The life of a legal history tells what the thread does at each moment.
use Rattle.std.proofs.Common.{◌≡◌, ℕ, ◌<◌, ◌≤◌, List, [], ◌∷◌, ◌++◌, refl, sym, ap, subst, ◌∙◌, inl, inr, arith}
use Rattle.std.specs.Prelude.{nat_le}
use Rattle.std.specs.List.{AllByRecursion}
use Rattle.std.proofs.lemmas.Bool.{cases_Bool, le-leb, lt-leb}
use Rattle.std.proofs.lemmas.List.Elements.{recursion_from_All}
use Rattle.aps_model.specs.declared.entry.Entry.{Entry}
use Rattle.aps_model.specs.declared.entry.Order.{Order}
use Rattle.aps_model.specs.After.{state_after}
use Rattle.aps_model.specs.Legal.{IsLegal}
use Rattle.aps_model.specs.Scenario.{Scenario}
use Rattle.aps_model.specs.Valid.{IsScenario}
use Rattle.laws_runs.specs.Moments.{moment}
use Rattle.laws_runs.proofs.BoundaryLaws.{latest}
use Rattle.laws_runs.proofs.Prefixes.{by_entries, one_more}
use Rattle.laws_runs.proofs.Sound.{next_law}
use Rattle.view_lives.specs.Doing.{doing_of}
use Rattle.view_lives.specs.Life.{life_of}
use Rattle.view_lives.specs.Whole.{IsLife, IsWholeLife, doing_at, until}
use Rattle.view_lives.proofs.Longer.{life_more, moment_more}
use Rattle.view_lives.proofs.Wholes.{whole_more}

-- an entry that ends later changes nothing
until_stops : (m : ℕ) (h : List Entry) (e : Entry) → m < e.to → until m (h ++ e ∷ []) ≡ until m h
until_stops m [] e later = rw (lt-leb e.to m later) refl
until_stops m (d ∷ h) e later =
    elim (cases_Bool (nat_le d.to m)) [
      | inl past ↦ rw past (ap (λ l. d ∷ l) (until_stops m h e later))
      | inr ahead ↦ rw ahead refl
    ]

until_all : (m : ℕ) (h : List Entry) → AllByRecursion (λ (e : Entry). e.to ≤ m) h → until m h ≡ h
until_all m [] past = refl
until_all m (e ∷ h) past = rw (le-leb e.to m past.0) (ap (λ l. e ∷ l) (until_all m h past.1))

module _ (scenario : Scenario) (order : Order) (valid : IsScenario scenario) (x : ℕ) where
  more : (h : List Entry) (e : Entry) → IsLegal scenario order (h ++ e ∷ []) → IsLife scenario h x (life_of scenario h x) → IsLife scenario (h ++ e ∷ []) x (life_of scenario (h ++ e ∷ []) x)
  more h e legal life =
      let before = (one_more scenario order h e legal).before in
      let rises : moment h ≤ e.to = (next_law scenario order h e valid legal).rises in
      let past = latest scenario order h valid before in
      let ends : moment (h ++ e ∷ []) ≡ e.to = moment_more h e in
      let same : (m : ℕ) → m < e.to → doing_at scenario (h ++ e ∷ []) x m ≡ doing_at scenario h x m =
      λ m early. ap (λ g. doing_of (state_after scenario g) x) (until_stops m h e early) in
      let new : (m : ℕ) → moment h ≤ m → m < e.to → doing_at scenario (h ++ e ∷ []) x m ≡ doing_of (state_after scenario h) x =
      λ m from to. same m to ∙ ap (λ g. doing_of (state_after scenario g) x)
      (until_all m h (recursion_from_All (λ (d : Entry). d.to ≤ m) h (λ k d lt. let at = past k d lt in omega (arith, at, from)))) in
      let whole : IsWholeLife (doing_at scenario (h ++ e ∷ []) x) 0 e.to (life_of scenario (h ++ e ∷ []) x) =
      subst (IsWholeLife (doing_at scenario (h ++ e ∷ []) x) 0 e.to) (sym (life_more scenario h e x))
      (whole_more (doing_at scenario h x) (doing_at scenario (h ++ e ∷ []) x) 0 (moment h) e.to (doing_of (state_after scenario h) x) (life_of scenario h x) life rises
      (λ m early. same m (omega (arith, early, rises))) new) in
      subst (λ b. IsWholeLife (doing_at scenario (h ++ e ∷ []) x) 0 b (life_of scenario (h ++ e ∷ []) x)) (sym ends) whole

  none : IsLife scenario [] x (life_of scenario [] x)
  unfolding life_of
  none = record { tiles = refl; differ = tt; told = tt }

  pub life_is_told : (h : List Entry) → IsLegal scenario order h → IsLife scenario h x (life_of scenario h x)
  life_is_told h legal = by_entries scenario order (λ g. IsLife scenario g x (life_of scenario g x)) more h legal none
