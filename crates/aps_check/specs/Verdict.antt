-- What a verdict on a journal says: of the scenario, the order of turns and the limit of a setup.
use Rattle.std.specs.Prelude.{◌≡◌, ℕ, ◌++◌, List, ◌∷◌, length, Option, Some, None, IsSome}
use Rattle.aps_model.specs.declared.entry.End.{End}
use Rattle.aps_model.specs.declared.entry.Entry.{Entry}
use Rattle.aps_model.specs.After.{end_of, state_after}
use Rattle.aps_model.specs.Due.{HasTurn}
use Rattle.aps_model.specs.Legal.{IsLegal}
use Rattle.aps_model.specs.Step.{step}
use Rattle.laws_runs.specs.Runs.{EndsNoSooner}
use Rattle.aps_core.specs.Run.{Setup}
use Rattle.aps_check.specs.declared.verdict.Rule.{Rule}
use Rattle.aps_check.specs.declared.verdict.Rule.TheVariants.{Turn, After}
use Rattle.aps_check.specs.declared.verdict.Verdict.{Verdict}
use Rattle.aps_check.specs.declared.verdict.Verdict.TheVariants.{Legal, Breaks}
use Rattle.aps_check.specs.Difference.{IsFirstDifference}

-- how the run has ended with these entries, if it has
abbrev pub end_with : Setup → List Entry → Option End
end_with setup h = end_of setup.scenario setup.limit h

-- the entry of the processor's step after these entries
abbrev pub step_after : Setup → List Entry → ℕ → Entry
step_after setup h c = (step setup.scenario (state_after setup.scenario h) h c).entry

-- the processor exists, and has the turn after these entries
abbrev pub HasTurnAfter : Setup → List Entry → ℕ → Type 0
HasTurnAfter setup h c = HasTurn setup.order (state_after setup.scenario h) h c

-- each entry is the step of a processor that had the turn, before the run had ended
pub record IsRunSoFar (setup : Setup) (h : List Entry) : Type 0 where
  pub legal : IsLegal setup.scenario setup.order h
  pub no_sooner : EndsNoSooner setup.scenario setup.limit h

-- the entries before have ended the run
pub record IsAfterEnd (setup : Setup) (h : List Entry) (expected : Option Entry) : Type 0 where
  pub ended : IsSome (end_with setup h)
  pub none : expected ≡ None

-- the run goes on, and the entry's processor doesn't exist or hasn't the turn
pub record IsOutOfTurn (setup : Setup) (h : List Entry) (e : Entry) (expected : Option Entry) : Type 0 where
  pub goes_on : end_with setup h ≡ None
  pub waits : ¬ HasTurnAfter setup h e.cpu
  pub none : expected ≡ None

-- the entry's processor has the turn, and the entry isn't that of its step: this is the first field that differs
pub record IsOtherStep (setup : Setup) (h : List Entry) (e : Entry) (field : Rule) (expected : Option Entry) : Type 0 where
  pub goes_on : end_with setup h ≡ None
  pub turn : HasTurnAfter setup h e.cpu
  pub stepped : expected ≡ Some (step_after setup h e.cpu)
  pub differs : IsFirstDifference e (step_after setup h e.cpu) field

-- after these entries the entry breaks this rule, and no rule that is tested before it
abbrev pub BreaksRule : Setup → List Entry → Entry → Rule → Option Entry → Type 0
BreaksRule setup h e After expected = IsAfterEnd setup h expected
BreaksRule setup h e Turn expected = IsOutOfTurn setup h e expected
BreaksRule setup h e field expected = IsOtherStep setup h e field expected

-- the entries before the one at this place are a run so far, and that one breaks the rule
pub record IsFirstBreach (setup : Setup) (journal : List Entry) (place : ℕ) (rule : Rule) (expected : Option Entry) : Type 0 where
  pub before : List Entry
  pub entry : Entry
  pub later : List Entry
  pub parts : journal ≡ before ++ entry ∷ later
  pub at_place : length before ≡ place
  pub sound : IsRunSoFar setup before
  pub breaks : BreaksRule setup before entry rule expected

-- the whole journal is a run so far, and this is its end
pub record IsLegalJournal (setup : Setup) (journal : List Entry) (end : Option End) : Type 0 where
  pub sound : IsRunSoFar setup journal
  pub ended : end_with setup journal ≡ end

-- the verdict on the journal: one holds, and no other
abbrev pub IsVerdict : Setup → List Entry → Verdict → Type 0
IsVerdict setup journal (Legal end) = IsLegalJournal setup journal end
IsVerdict setup journal (Breaks place rule expected) = IsFirstBreach setup journal place rule expected
