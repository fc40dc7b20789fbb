-- The changes of a history, by the steps that made them.
use Rattle.std.proofs.Common.{◌≡◌, ℕ, ◌/◌, ◌+◌, List, [], ◌∷◌, ◌++◌, length, Bool, true, false, ◌&&◌, ◌||◌, nat_lt, refl, sym, ap, ◌∙◌, arith, length-append}
use Rattle.std.proofs.lemmas.Bool.Decides.{nat_tests}
use Rattle.std.proofs.lemmas.List.Folds.{list_any-append}
use Rattle.aps_model.specs.declared.command.Change.{Change}
use Rattle.aps_model.specs.declared.entry.Entry.{Entry}
use Rattle.aps_model.specs.declared.entry.Order.{Order}
use Rattle.aps_model.specs.After.{after, state_after}
use Rattle.aps_model.specs.Legal.{IsLegal}
use Rattle.aps_model.specs.Loaded.{has_change, is_among}
use Rattle.aps_model.specs.Scenario.{Scenario}
use Rattle.aps_model.specs.Valid.{IsScenario}
use Rattle.laws_runs.specs.Grown.{AllAt}
use Rattle.laws_runs.proofs.Prefixes.{by_entries}
use Rattle.laws_runs.proofs.StepGrown.{change_or_same}
use Rattle.view_samples.specs.Picks.{changes_by, changes_in}
use Rattle.view_samples.specs.Along.{any_of, in_ticks}
use Rattle.view_samples.proofs.Along.{along_more}
use Rattle.view_samples.proofs.Passing.{changes_are}
use Rattle.view_samples.proofs.Tests.{or_false}

or_same : (b : Bool) → (b || b) ≡ b
or_same true = refl
or_same false = refl

-- changes that all stand at a tick stand in some ticks if there are any, and it is one of them
all_at : (j a b n : ℕ) (more : List Change) → AllAt j more → has_change more a b ≡ (nat_lt n (n + length more) && is_among a b j)
all_at j a b n [] at = nothing n
  where
    nothing : (n : ℕ) → false ≡ (nat_lt n (n + 0) && is_among a b j)
    nothing n = let same : nat_lt n (n + 0) ≡ false = grind (arith, nat_tests) in sym (ap (λ t. t && is_among a b j) same)
all_at j a b n (change ∷ more) at =
    ap (λ t. is_among a b t || has_change more a b) at.0
    ∙ ap (λ t. is_among a b j || t) (all_at j a b n more at.1)
    ∙ by_test (nat_lt n (n + length more)) (is_among a b j)
    ∙ sym (ap (λ t. t && is_among a b j) some)
  where
    some : nat_lt n (n + length (change ∷ more)) ≡ true
    some = let k = length more in grind (arith, nat_tests)

    by_test : (p q : Bool) → (q || (p && q)) ≡ (true && q)
    by_test true q = or_same q
    by_test false q = or_false q

-- one entry more
changes_more : (scenario : Scenario) (order : Order) (h : List Entry) (e : Entry) (a b : ℕ) → IsScenario scenario → IsLegal scenario order (h ++ e ∷ [])
    → has_change (state_after scenario (h ++ e ∷ [])).changes a b ≡ (has_change (state_after scenario h).changes a b || (changes_by scenario h e && is_among a b (e.to / scenario.shape.tick)))
changes_more scenario order h e a b valid legal =
    let grown = change_or_same scenario order h e valid legal in
    let before = (state_after scenario h).changes in
    let count : length (state_after scenario (h ++ e ∷ [])).changes ≡ length before + length grown.more =
    ap (λ (l : List Change). length l) grown.is ∙ length-append before grown.more in
    ap (λ l. has_change l a b) grown.is ∙ list_any-append (λ (change : Change). is_among a b change.tick) before grown.more
    ∙ ap (λ t. has_change before a b || t) (all_at (e.to / scenario.shape.tick) a b (length before) grown.more grown.ticks)
    ∙ ap (λ n. has_change before a b || (nat_lt (length before) n && is_among a b (e.to / scenario.shape.tick))) (sym count)

no_changes : (scenario : Scenario) → (state_after scenario []).changes ≡ []
unfolding after
no_changes scenario = refl

pub changes_is : (scenario : Scenario) (order : Order) (h : List Entry) → IsScenario scenario → IsLegal scenario order h
    → (a b : ℕ) → has_change (state_after scenario h).changes a b ≡ changes_in scenario h a b
changes_is scenario order h valid legal a b =
    by_entries scenario order (λ g. has_change (state_after scenario g).changes a b ≡ any_of (changes_by scenario) scenario.shape.tick a b g)
    (λ g e l so_far.
    changes_more scenario order g e a b valid l
    ∙ ap (λ t. t || (changes_by scenario g e && is_among a b (e.to / scenario.shape.tick))) so_far
    ∙ sym (along_more (in_ticks (changes_by scenario) (λ d. d.to / scenario.shape.tick) a b) [] g e))
    h legal (ap (λ l. has_change l a b) (no_changes scenario))
    ∙ sym (changes_are scenario h a b)
