-- A tick passes.
use Rattle.std.proofs.Common.{◌≡◌, ℕ, ◌/◌, ◌+◌, ◌<◌, ◌≤◌, List, [], Bool, true, false, ◌&&◌, ◌||◌, nat_lt, nat_le, slice_index, is_some, replicate, refl, sym, ap, ◌∙◌, arith}
use Rattle.std.proofs.lemmas.Bool.Decides.{nat_tests}
use Rattle.std.proofs.lemmas.List.{get_or-replicate}
use Rattle.aps_model.specs.declared.entry.Entry.{Entry}
use Rattle.aps_model.specs.Limits.{most_partitions}
use Rattle.aps_model.specs.Loaded.{has_starved, is_among}
use Rattle.aps_model.specs.Scenario.{Scenario}
use Rattle.view_samples.specs.declared.lasts.Lasts.{Lasts}
use Rattle.view_samples.specs.declared.note.Note.{Note}
use Rattle.view_samples.specs.Lasts.{AreLasts, IsAfterLast}
use Rattle.view_samples.specs.Note.{IsNote}
use Rattle.view_samples.specs.Passed.{IsPassed, later, no_lasts}
use Rattle.view_samples.specs.Along.{any_of}
use Rattle.view_samples.specs.Picks.{changes_by, changes_in, lacks, lacks_test, out_test, was_out}
use Rattle.view_samples.proofs.Along.{along_any, along_no_tick, along_split}
use Rattle.view_samples.proofs.Tests.{and_false}

-- ---- the tests of the picks, as tests along the history

abbrev pub starved_test : List Entry → Entry → Bool
starved_test before e = is_some e.starved

abbrev tick_by : ℕ → Entry → ℕ
tick_by tick e = e.to / tick

pub lacks_is : (scenario : Scenario) (h : List Entry) (p a b : ℕ) → lacks scenario h p a b ≡ any_of (lacks_test scenario p) scenario.shape.tick a b h
unfolding lacks
lacks_is scenario h p a b = refl

pub out_is : (scenario : Scenario) (h : List Entry) (p a b : ℕ) → was_out scenario h p a b ≡ any_of (out_test scenario p) scenario.shape.tick a b h
unfolding was_out
out_is scenario h p a b = refl

pub changes_are : (scenario : Scenario) (h : List Entry) (a b : ℕ) → changes_in scenario h a b ≡ any_of (changes_by scenario) scenario.shape.tick a b h
unfolding changes_in
changes_are scenario h a b = refl

pub starved_is : (tick : ℕ) (h : List Entry) (a b : ℕ) → has_starved tick h a b ≡ any_of starved_test tick a b h
starved_is tick h a b = along_any (λ (e : Entry). is_some e.starved && is_among a b (e.to / tick)) [] h

-- ---- ticks pass

-- no tick has passed, and one more
pub record PassesBy (was : ℕ → ℕ → Bool) : Type 0 where
  pub none : (a : ℕ) → was a 0 ≡ false
  pub more : (a j : ℕ) → was a (j + 1) ≡ (was a j || (nat_le a j && was j (j + 1)))

any_passes : (test : List Entry → Entry → Bool) (tick : ℕ) (h : List Entry) → PassesBy (λ a b. any_of test tick a b h)
any_passes test tick h = record {
  none = λ a. along_no_tick test (tick_by tick) a [] h;
  more = λ a j. along_split test (tick_by tick) a j [] h;
}

passes_same : (was is : ℕ → ℕ → Bool) → ((a b : ℕ) → was a b ≡ is a b) → PassesBy is → PassesBy was
passes_same was is same passes = record {
  none = λ a. same a 0 ∙ passes.none a;
  more = λ a j.
      same a (j + 1) ∙ passes.more a j ∙ ap (λ b. b || (nat_le a j && is j (j + 1))) (sym (same a j))
      ∙ ap (λ b. was a j || (nat_le a j && b)) (sym (same j (j + 1)));
}

lacks_passes : (scenario : Scenario) (h : List Entry) (p : ℕ) → PassesBy (lacks scenario h p)
lacks_passes scenario h p = passes_same (lacks scenario h p) (λ a b. any_of (lacks_test scenario p) scenario.shape.tick a b h) (lacks_is scenario h p) (any_passes (lacks_test scenario p) scenario.shape.tick h)

out_passes : (scenario : Scenario) (h : List Entry) (p : ℕ) → PassesBy (was_out scenario h p)
out_passes scenario h p = passes_same (was_out scenario h p) (λ a b. any_of (out_test scenario p) scenario.shape.tick a b h) (out_is scenario h p) (any_passes (out_test scenario p) scenario.shape.tick h)

starved_passes : (tick : ℕ) (h : List Entry) → PassesBy (has_starved tick h)
starved_passes tick h = passes_same (has_starved tick h) (λ a b. any_of starved_test tick a b h) (starved_is tick h) (any_passes starved_test tick h)

changes_pass : (scenario : Scenario) (h : List Entry) → PassesBy (changes_in scenario h)
changes_pass scenario h = passes_same (changes_in scenario h) (λ a b. any_of (changes_by scenario) scenario.shape.tick a b h) (changes_are scenario h) (any_passes (changes_by scenario) scenario.shape.tick h)

last_none : (was : ℕ → ℕ → Bool) → PassesBy was → IsAfterLast was 0 0
last_none was passes = record { same = λ a. passes.none a ∙ nothing a; within = omega arith }
  where
    nothing : (a : ℕ) → false ≡ nat_lt a 0
    nothing a = grind (arith, nat_tests)

last_more : (was : ℕ → ℕ → Bool) (j last : ℕ) (t : Bool) → PassesBy was → was j (j + 1) ≡ t → IsAfterLast was j last → IsAfterLast was (j + 1) (later last t j)
last_more was j last t passes is before = record {
  same = λ a. passes.more a j ∙ ap (λ b. was a j || (nat_le a j && b)) is ∙ ap (λ b. b || (nat_le a j && t)) (before.same a) ∙ by_test a t;
  within = within t;
}
  where
    either_way : (a : ℕ) → last ≤ j → (nat_lt a last || nat_le a j) ≡ nat_lt a (j + 1)
    either_way a le = grind (arith, nat_tests)

    and_true : (b : Bool) → (b && true) ≡ b
    and_true true = refl
    and_true false = refl

    or_false : (b : Bool) → (b || false) ≡ b
    or_false true = refl
    or_false false = refl

    by_test : (a : ℕ) (b : Bool) → (nat_lt a last || (nat_le a j && b)) ≡ nat_lt a (later last b j)
    by_test a true = ap (λ b. nat_lt a last || b) (and_true (nat_le a j)) ∙ either_way a before.within
    by_test a false = ap (λ b. nat_lt a last || b) (and_false (nat_le a j)) ∙ or_false (nat_lt a last)

    within : (b : Bool) → later last b j ≤ j + 1
    within true = omega arith
    within false = let le = before.within in omega (arith, le)

pub lasts_none : (scenario : Scenario) (h : List Entry) → AreLasts scenario h 0 no_lasts
lasts_none scenario h = record {
  lacked = λ p less. from (lacks scenario h p) p less (lacks_passes scenario h p);
  out = λ p less. from (was_out scenario h p) p less (out_passes scenario h p);
  starved = last_none (has_starved scenario.shape.tick h) (starved_passes scenario.shape.tick h);
  changed = last_none (changes_in scenario h) (changes_pass scenario h);
}
  where
    from : (was : ℕ → ℕ → Bool) (p : ℕ) → p < most_partitions → PassesBy was → IsAfterLast was 0 (slice_index (replicate most_partitions 0) p)
    from was p less passes = let zero : slice_index (replicate most_partitions 0) p ≡ 0 = get_or-replicate most_partitions p 0 0 less in rw zero (last_none was passes)

pub lasts_more : (scenario : Scenario) (h : List Entry) (j : ℕ) (note : Note) (before after : Lasts) → IsNote scenario h j note → AreLasts scenario h j before
    → IsPassed j note before after → AreLasts scenario h (j + 1) after
lasts_more scenario h j note before after is are passed = record {
  lacked = λ p less. one (lacks scenario h p) _ _ _ (lacks_passes scenario h p) (passed.lacked p less) (sym (is.lacking p less)) (are.lacked p less);
  out = λ p less. one (was_out scenario h p) _ _ _ (out_passes scenario h p) (passed.out p less) (sym (is.out p less)) (are.out p less);
  starved = one (has_starved scenario.shape.tick h) _ _ _ (starved_passes scenario.shape.tick h) passed.starved (sym is.starved) are.starved;
  changed = one (changes_in scenario h) _ _ _ (changes_pass scenario h) passed.changed (sym is.changed) are.changed;
}
  where
    one : (was : ℕ → ℕ → Bool) (last next : ℕ) (t : Bool) → PassesBy was → next ≡ later last t j → was j (j + 1) ≡ t → IsAfterLast was j last → IsAfterLast was (j + 1) next
    one was last next t passes same now here = rw same (last_more was j last t passes now here)
