-- Whether a partition has work at each pick of some ticks: a test that computes, and what it tells.
use Rattle.std.proofs.Common.{◌≡◌, ℕ, ◌*◌, ◌<◌, ◌≤◌, ◌++◌, List, [], ◌∷◌, Bool, true, not, nat_eq, ◌&&◌, ◌||◌, length, sym, ◌∙◌, ap, subst}
use Rattle.std.specs.List.{list_any, range_with_len}
use Rattle.std.proofs.lemmas.Bool.{and_parts, eqb-true}
use Rattle.std.proofs.lemmas.List.Folds.{Any-from_list_any}
use Rattle.aps_model.specs.declared.entry.Entry.{Entry}
use Rattle.aps_model.specs.Inherit.{facts_of}
use Rattle.aps_model.specs.Pick.{is_ready}
use Rattle.aps_model.specs.Scenario.{Scenario}
use Rattle.aps_model.specs.SchedulerState.{SchedulerState}
use Rattle.laws_runs.specs.Waits.{state_at}
use Rattle.laws_bounds.specs.Lanes.{in_window}
use Rattle.laws_bounds.proofs.Inside.{inside_window}
use Rattle.laws_bounds.proofs.Marked.{Along, along_at}
use Rattle.laws_load.specs.Work.{HasWork, chosen_from}
use Rattle.laws_load.proofs.Greatest.{ready_from}

-- at each pick in ticks a to b-1 the partition has work
abbrev pub AlwaysWorks : Scenario → List Entry → ℕ → ℕ → ℕ → Type 0
AlwaysWorks scenario h p a b =
    (before later : List Entry) (e : Entry)
    → h ≡ before ++ e ∷ later
    → a * scenario.shape.tick ≤ e.to
    → e.to < b * scenario.shape.tick
    → HasWork scenario before e p

-- ---- the test

-- the thread is ready, and scheduled by the partition
abbrev wants : SchedulerState → ℕ → ℕ → Bool
wants s p x = is_ready (state_at s x) && nat_eq (facts_of s x).partition p

-- some thread is so
abbrev is_wanted : SchedulerState → ℕ → Bool
is_wanted s p = list_any (wants s p) (range_with_len 0 (length s.threads))

-- there is such a thread at the pick of each entry that ends in ticks a to b-1; these are the entries before
abbrev pub works : Scenario → ℕ → ℕ → ℕ → List Entry → List Entry → Bool
works scenario p a b before [] = true
works scenario p a b before (e ∷ es) =
    (not (in_window scenario.shape.tick a b e.to) || is_wanted (chosen_from scenario before e) p)
    && works scenario p a b (before ++ e ∷ []) es

-- ---- what it tells

wanted_works : (scenario : Scenario) (before : List Entry) (e : Entry) (p : ℕ) → is_wanted (chosen_from scenario before e) p ≡ true → HasWork scenario before e p
wanted_works scenario before e p wanted =
    let s = chosen_from scenario before e in
    let found = Any-from_list_any (wants s p) (range_with_len 0 (length s.threads)) wanted in
    let x : ℕ = found.1 in
    let both = and_parts (is_ready (state_at s x)) (nat_eq (facts_of s x).partition p) found.4 in
    record { thread = x; ready = ready_from (state_at s x) both.0; partition = eqb-true (facts_of s x).partition p both.1 }

-- the entry's pick finds the partition with work, if it ends in ticks a to b-1
abbrev WorksIn : Scenario → ℕ → ℕ → ℕ → List Entry → Entry → Type 0
WorksIn scenario p a b before e = a * scenario.shape.tick ≤ e.to → e.to < b * scenario.shape.tick → HasWork scenario before e p

works_along : (scenario : Scenario) (p a b : ℕ) (g es : List Entry) → works scenario p a b g es ≡ true → Along (WorksIn scenario p a b) g es
works_along scenario p a b g [] test = tt
works_along scenario p a b g (e ∷ es) test =
    let both = and_parts (not (in_window scenario.shape.tick a b e.to) || is_wanted (chosen_from scenario g e) p) (works scenario p a b (g ++ e ∷ []) es) test in (
      λ low high. wanted_works scenario g e p
          (sym (ap (λ t. not t || is_wanted (chosen_from scenario g e) p) (inside_window scenario.shape.tick a b e.to low high)) ∙ both.0),
      works_along scenario p a b (g ++ e ∷ []) es both.1,
    )

-- where the test passes, the partition has work at each of these picks
pub always_works : (scenario : Scenario) (p a b : ℕ) (h : List Entry) → works scenario p a b [] h ≡ true → AlwaysWorks scenario h p a b
always_works scenario p a b h test before later e same =
    along_at (WorksIn scenario p a b) [] before later e (subst (Along (WorksIn scenario p a b) []) same (works_along scenario p a b [] h test))
