-- How a text goes to a sink, at once or in pieces.
use Rattle.std.specs.Prelude.{◌≡◌, ℕ, ◌⊎◌, List, ⊤}
use Rattle.aps_io.specs.Causes.{Rose}
use Rattle.aps_calls.specs.declared.status.Status.{Status}
use Rattle.aps_calls.specs.declared.status.Status.TheVariants.{NoMemory}
use Rattle.aps_calls.specs.Printing.{MakesAndPrints, Output, WritesWhole}
use Rattle.aps_calls.specs.Status.{or_write_fault}

-- a text in pieces was to be written under a status: of what was written of it before a refusal nothing is said
abbrev pub PrintsPieces : Output → List ℕ → Status → Status → Type 0
PrintsPieces output text wanted status =
    ((status ≡ wanted) × WritesWhole output text)
    ⊎ ((status ≡ or_write_fault wanted) × Rose output.faults_before output.faults)
    ⊎ (status ≡ NoMemory)

-- what is to be written: a text at once, or in pieces
pub data Told : Type 0 where
  at_once : List ℕ → Told
  in_pieces : List ℕ → Told

-- a text that is written at once may have to be made first
abbrev pub SaysTold : Output → Told → Status → Status → Type 0
SaysTold output (at_once text) wanted status = MakesAndPrints ⊤ output text wanted status
SaysTold output (in_pieces text) wanted status = PrintsPieces output text wanted status

-- all of it was written
abbrev pub SaysAll : Output → Told → Type 0
SaysAll output (at_once text) = WritesWhole output text
SaysAll output (in_pieces text) = WritesWhole output text
