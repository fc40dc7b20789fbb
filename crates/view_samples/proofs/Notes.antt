-- The note of a tick, with one entry more.
use Rattle.std.proofs.Common.{◌≡◌, ℕ, ◌/◌, ◌+◌, ◌*◌, ◌<◌, ◌≤◌, List, [], ◌∷◌, ◌++◌, Bool, true, false, ◌&&◌, ◌||◌, slice_index, slice_index_or, sym, ap, subst, ◌∙◌}
use Rattle.std.specs.List.{AllByRecursion}
use Rattle.aps_model.specs.declared.entry.Entry.{Entry}
use Rattle.aps_model.specs.After.{state_after}
use Rattle.aps_model.specs.Limits.{most_partitions}
use Rattle.aps_model.specs.Loaded.{state_of_tick}
use Rattle.aps_model.specs.Scenario.{Scenario}
use Rattle.aps_model.specs.SchedulerState.{SchedulerState}
use Rattle.view_samples.specs.declared.look.Look.{Look}
use Rattle.view_samples.specs.declared.note.Note.{Note}
use Rattle.view_samples.specs.Along.{any_of}
use Rattle.view_samples.specs.Look.{IsLook}
use Rattle.view_samples.specs.Note.{IsLookAdded, IsBegunNote, IsFreshNote, IsNote, is_reached}
use Rattle.view_samples.specs.Picks.{changes_by, lacks_test, out_test}
use Rattle.view_samples.proofs.Along.{along_later, along_more, any_longer}
use Rattle.view_samples.proofs.Passing.{changes_are, lacks_is, out_is, starved_is, starved_test}
use Rattle.view_samples.proofs.Tests.{among_same, and_true}
use Rattle.view_samples.proofs.Ticks.{through_kept}

-- these entries end in ticks before this one
abbrev pub AreEarly : ℕ → ℕ → List Entry → Type 0
AreEarly tick j h = AllByRecursion (λ (e : Entry). e.to / tick < j) h

-- these end in later ones
abbrev pub AreLate : ℕ → ℕ → List Entry → Type 0
AreLate tick j h = AllByRecursion (λ (e : Entry). j + 1 ≤ e.to / tick) h

none_yet : (test : List Entry → Entry → Bool) (tick j : ℕ) (h : List Entry) → AreEarly tick j h → any_of test tick j (j + 1) h ≡ false
none_yet test tick j h early = along_later test (λ e. e.to / tick) j (j + 1) [] h early

here : (test : List Entry → Entry → Bool) (tick j : ℕ) (h : List Entry) (e : Entry) → e.to / tick ≡ j → any_of test tick j (j + 1) (h ++ e ∷ []) ≡ (any_of test tick j (j + 1) h || test h e)
here test tick j h e is =
    along_more _ [] h e ∙ ap (λ t. any_of test tick j (j + 1) h || (test h e && t)) (among_same j (e.to / tick) is)
    ∙ ap (λ t. any_of test tick j (j + 1) h || t) (and_true (test h e))

-- this is so of tick j, by the state of a later history and the picks of an earlier one
pub record IsSplit (scenario : Scenario) (later h : List Entry) (j : ℕ) (note : Note) : Type 0 where
  pub begun : IsBegunNote (state_of_tick scenario later j) note
  pub lacking : (p : ℕ) → p < most_partitions → slice_index_or note.lacking p false ≡ any_of (lacks_test scenario p) scenario.shape.tick j (j + 1) h
  pub out : (p : ℕ) → p < most_partitions → slice_index_or note.out p false ≡ any_of (out_test scenario p) scenario.shape.tick j (j + 1) h
  pub starved : note.starved ≡ any_of starved_test scenario.shape.tick j (j + 1) h
  pub changed : note.changed ≡ any_of (changes_by scenario) scenario.shape.tick j (j + 1) h

pub split_fresh : (scenario : Scenario) (later h : List Entry) (j : ℕ) (s : SchedulerState) (note : Note) → AreEarly scenario.shape.tick j h → state_of_tick scenario later j ≡ s → IsFreshNote s note
    → IsSplit scenario later h j note
split_fresh scenario later h j s note early is fresh = record {
  begun = subst (λ (t : SchedulerState). IsBegunNote t note) (sym is) fresh.begun;
  lacking = λ p less. fresh.lacking p less ∙ sym (none_yet (lacks_test scenario p) scenario.shape.tick j h early);
  out = λ p less. fresh.out p less ∙ sym (none_yet (out_test scenario p) scenario.shape.tick j h early);
  starved = fresh.starved ∙ sym (none_yet starved_test scenario.shape.tick j h early);
  changed = fresh.changed ∙ sym (none_yet (changes_by scenario) scenario.shape.tick j h early);
}

pub split_note : (scenario : Scenario) (h es : List Entry) (j : ℕ) (note : Note) → is_reached (j * scenario.shape.tick) h ≡ true → IsNote scenario h j note → IsSplit scenario (h ++ es) h j note
split_note scenario h es j note reached is = record {
  begun = subst (λ (g : List Entry). IsBegunNote (state_after scenario g) note) (sym (through_kept (j * scenario.shape.tick) h es reached)) is.begun;
  lacking = λ p less. is.lacking p less ∙ lacks_is scenario h p j (j + 1);
  out = λ p less. is.out p less ∙ out_is scenario h p j (j + 1);
  starved = is.starved ∙ starved_is scenario.shape.tick h j (j + 1);
  changed = is.changed ∙ changes_are scenario h j (j + 1);
}

note_of : (scenario : Scenario) (h : List Entry) (j : ℕ) (note : Note) → IsSplit scenario h h j note → IsNote scenario h j note
note_of scenario h j note is = record {
  begun = is.begun;
  lacking = λ p less. is.lacking p less ∙ sym (lacks_is scenario h p j (j + 1));
  out = λ p less. is.out p less ∙ sym (out_is scenario h p j (j + 1));
  starved = is.starved ∙ sym (starved_is scenario.shape.tick h j (j + 1));
  changed = is.changed ∙ sym (changes_are scenario h j (j + 1));
}

-- the look at its pick is added
pub note_more : (scenario : Scenario) (h : List Entry) (e : Entry) (j : ℕ) (look : Look) (before after : Note) → e.to / scenario.shape.tick ≡ j → IsSplit scenario (h ++ e ∷ []) h j before
    → IsLook scenario h e look → IsLookAdded look before after → IsNote scenario (h ++ e ∷ []) j after
note_more scenario h e j look before after at is seen added = note_of scenario (h ++ e ∷ []) j after (record {
  begun = record {
    window = added.window ∙ is.begun.window;
    allowance = λ p less. ap (λ (l : List ℕ). slice_index l p) added.allowance ∙ is.begun.allowance p less;
  };
  lacking = λ p less. added.lacking p less ∙ joined _ _ _ _ (is.lacking p less) (seen.lacking p less) ∙ sym (here (lacks_test scenario p) tick j h e at);
  out = λ p less. added.out p less ∙ joined _ _ _ _ (is.out p less) (seen.out p less) ∙ sym (here (out_test scenario p) tick j h e at);
  starved = added.starved ∙ joined _ _ _ _ is.starved seen.starved ∙ sym (here starved_test tick j h e at);
  changed = added.changed ∙ joined _ _ _ _ is.changed seen.changed ∙ sym (here (changes_by scenario) tick j h e at);
})
  where
    tick : ℕ
    tick = scenario.shape.tick

    joined : (a b c d : Bool) → a ≡ b → c ≡ d → (a || c) ≡ (b || d)
    joined a b c d one two = λ i. one i || two i

-- later entries tell nothing of it
pub note_kept : (scenario : Scenario) (h later : List Entry) (j : ℕ) (note : Note) → is_reached (j * scenario.shape.tick) h ≡ true → AreLate scenario.shape.tick j later → IsNote scenario h j note
    → IsNote scenario (h ++ later) j note
note_kept scenario h later j note reached late is =
    let split = split_note scenario h later j note reached is in
    note_of scenario (h ++ later) j note (record {
      begun = split.begun;
      lacking = λ p less. split.lacking p less ∙ sym (any_longer (lacks_test scenario p) scenario.shape.tick j (j + 1) h later late);
      out = λ p less. split.out p less ∙ sym (any_longer (out_test scenario p) scenario.shape.tick j (j + 1) h later late);
      starved = split.starved ∙ sym (any_longer starved_test scenario.shape.tick j (j + 1) h later late);
      changed = split.changed ∙ sym (any_longer (changes_by scenario) scenario.shape.tick j (j + 1) h later late);
    })
