-- A journal's text, as far as its lines are those of a run's steps.
use Rattle.std.specs.Prelude.{◌≡◌, ℕ, ◌<◌, ◌≤◌, ◌++◌, List, [], All, length, slice_index_or, Some, Result, Ok, Err}
use Rattle.std.specs.Borrow.{Bor}
use Rattle.aps_model.specs.declared.entry.Entry.{Entry}
use Rattle.aps_model.specs.Journal.{entry_line, journal_text, IsJournal, IsLine}
use Rattle.aps_model.specs.Limits.{greatest_u32}
use Rattle.aps_core.specs.Run.{Run, Setup}
use Rattle.aps_core.specs.Turn.{IsTurnTaken, with_entry}
use Rattle.aps_text.specs.InTime.{IsInTime}
use Rattle.aps_text.specs.Line.{cpu_of_line}
use Rattle.aps_check.specs.declared.following.Followed.{Followed}
use Rattle.aps_check.specs.declared.following.Followed.TheVariants.{Whole, Waits, Differs}
use Rattle.aps_check.specs.declared.verdict.Verdict.{Verdict}
use Rattle.aps_check.specs.declared.verdict.Verdict.TheVariants.{Legal, Breaks}
use Rattle.aps_check.specs.Difference.{IsFirstDifference}
use Rattle.aps_check.specs.Verdict.{IsRunSoFar, IsVerdict}

-- a run that has no entries yet
abbrev pub run_begun : Setup → Run
run_begun setup = record { setup = setup; entries = [] }

-- the text is a journal, and this is the verdict on it
abbrev pub IsTextVerdict : Setup → List ℕ → Verdict → Type 0
IsTextVerdict setup text verdict = (entries : List Entry) × IsJournal entries text × IsVerdict setup entries verdict

-- the text begins with the lines of entries that the later run has behind those of the run; this is the rest
pub record HasReadUpTo (run later : Run) (text rest : List ℕ) : Type 0 where
  pub entries : List Entry
  pub lines : All IsLine entries
  pub parts : text ≡ journal_text entries ++ rest
  pub goes_on : later ≡ record run { entries = run.entries ++ entries }

-- the text begins with the line of this entry, which the later run has behind those of the run
pub record IsUpToLine (run later : Run) (text rest : List ℕ) : Type 0 where
  pub entry : Entry
  pub line : IsLine entry
  pub parts : text ≡ entry_line entry ++ rest
  pub goes_on : later ≡ with_entry run entry

-- the step of the processor that the text names, which the later run has; its moments are those of a line
pub record IsNamedStep (run later : Run) (text : List ℕ) (made : Entry) : Type 0 where
  pub sound : IsRunSoFar run.setup run.entries
  pub named : cpu_of_line text ≡ Some made.cpu
  pub taken : IsTurnTaken run made.cpu made
  pub goes_on : later ≡ with_entry run made
  pub in_time : IsInTime made

-- the text begins with another line than that of this step
pub record IsOther (run later : Run) (text : List ℕ) (made : Entry) : Type 0 where
  pub step : IsNamedStep run later text made
  pub other : (rest : List ℕ) → ¬ (text ≡ entry_line made ++ rest)

-- how far the text was followed
abbrev pub IsFollowed : Run → Run → List ℕ → Followed → Type 0
IsFollowed run later text Whole = HasReadUpTo run later text []
IsFollowed run later text Waits = (rest : List ℕ) × HasReadUpTo run later text rest
IsFollowed run later text (Differs made) =
    (before : Run) × (rest : List ℕ) × HasReadUpTo run before text rest × IsOther before later rest made

abbrev pub StopsAtLine : Run → Run → List ℕ → Followed → Type 0
StopsAtLine run later text Whole = ⊥
StopsAtLine run later text Waits = later ≡ run
StopsAtLine run later text (Differs made) = IsOther run later text made

-- the rest behind the line, or where following ended
abbrev pub FollowsLine : Run → Run → List ℕ → Result (Bor (List ℕ)) Followed → Type 0
FollowsLine run later text (Ok rest) = IsUpToLine run later text rest.now
FollowsLine run later text (Err stop) = StopsAtLine run later text stop

-- the entry at this place is another than this step of its processor
pub record IsOtherAt (entries : List Entry) (place : ℕ) (made : Entry) : Type 0 where
  pub there : place < length entries
  pub small : place ≤ greatest_u32
  pub own : (slice_index_or entries place made).cpu ≡ made.cpu
  pub other : ¬ (slice_index_or entries place made ≡ made)

-- the first field in which it differs from the step is told of this place
abbrev pub TellsDifference : List Entry → ℕ → Entry → Verdict → Type 0
TellsDifference entries place made (Legal end) = ⊥
TellsDifference entries place made (Breaks at rule expected) =
    (at ≡ place) × (expected ≡ Some made) × IsFirstDifference (slice_index_or entries place made) made rule
