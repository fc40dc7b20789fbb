-- How a text goes to a sink.
use Rattle.std.specs.Prelude.{◌≡◌, ℕ, ◌≤◌, ◌⊎◌, List, length, take, Option}
use Rattle.std.specs.Io.KnownBytes.{Appends, Keeps}
use Rattle.aps_io.specs.Causes.{Rose}
use Rattle.aps_calls.specs.declared.status.Status.{Status}
use Rattle.aps_calls.specs.declared.status.Status.TheVariants.{NoMemory}
use Rattle.aps_calls.specs.Status.{or_write_fault}

-- a sink before and after a call: the bytes written, where it tells, and its counts of faults and of wants of memory
pub record Output : Type 0 where
  pub before : Option (List ℕ)
  pub after : Option (List ℕ)
  pub faults_before : ℕ
  pub faults : ℕ
  pub shortages_before : ℕ
  pub shortages : ℕ

abbrev pub output_of : (before after : Option (List ℕ)) → (faults_before faults shortages_before shortages : ℕ) → Output
output_of before after faults_before faults shortages_before shortages = record {
  before = before;
  after = after;
  faults_before = faults_before;
  faults = faults;
  shortages_before = shortages_before;
  shortages = shortages;
}

abbrev pub WritesWhole : Output → List ℕ → Type 0
WritesWhole output text = Appends output.before output.after text

abbrev pub WritesPrefix : Output → List ℕ → Type 0
WritesPrefix output text = (n : ℕ) × (n ≤ length text) × Appends output.before output.after (take n text)

abbrev pub WritesNothing : Output → Type 0
WritesNothing output = Keeps output.before output.after

-- a text was to be written under a status: the whole text was, or a prefix where the sink's faults rose, or where its
-- wants of memory did
abbrev pub Prints : Output → List ℕ → Status → Status → Type 0
Prints output text wanted status =
    ((status ≡ wanted) × WritesWhole output text)
    ⊎ ((status ≡ or_write_fault wanted) × Rose output.faults_before output.faults × WritesPrefix output text)
    ⊎ ((status ≡ NoMemory) × Rose output.shortages_before output.shortages × WritesPrefix output text)

-- the same where it may be that the text has to be made first, which takes memory: there was none, and nothing was written
abbrev pub MakesAndPrints : Type 0 → Output → List ℕ → Status → Status → Type 0
MakesAndPrints Made output text wanted status =
    Prints output text wanted status ⊎ (Made × (status ≡ NoMemory) × WritesNothing output)

-- why memory was wanting: to come to the text, so that nothing was written, or because the sink itself wanted it
abbrev pub LacksMemory : Output → Type 0
LacksMemory output = WritesNothing output ⊎ Rose output.shortages_before output.shortages
