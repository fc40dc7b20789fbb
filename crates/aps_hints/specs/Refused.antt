-- The hint on bytes that are no scenario, or no demands.
use Rattle.std.specs.Prelude.{◌≡◌, ℕ, List, Option, Some, None, Result, Ok, Err, ⊤}
use Rattle.aps_scenario.specs.declared.refusal.ScenarioRefusal.{ScenarioRefusal}
use Rattle.aps_scenario.specs.declared.refusal.ScenarioRefusal.TheVariants as answer
use Rattle.aps_scenario.specs.Refusal.{Refusal}
use Rattle.aps_scenario.specs.Reading.{reads}
use Rattle.aps_scenario.specs.Demands.{reads_demands}
use Rattle.aps_hints.specs.declared.refused.Finding.{Finding}
use Rattle.aps_hints.specs.declared.spot.Document.{Document}
use Rattle.aps_hints.specs.declared.spot.Document.TheVariants.{Scenario, Demands}
use Rattle.aps_hints.specs.Hint.{IsHint}

-- why a text was refused, if it was
abbrev pub refusal_told : {A : Type 0} → Result A Refusal → Option Refusal
refusal_told (Ok value) = None
refusal_told (Err refusal) = Some refusal

-- why these bytes are refused as such a document, if they are
abbrev pub refusal_in : Document → List ℕ → Option Refusal
refusal_in Scenario bytes = refusal_told (reads bytes)
refusal_in Demands bytes = refusal_told (reads_demands bytes)

-- there is a hint on these bytes exactly where there is a refusal, and it is one of its path and its kind
abbrev pub HintsAt : (bytes : List ℕ) → Option Refusal → Option (List ℕ) → Type 0
HintsAt bytes None None = ⊤
HintsAt bytes None (Some line) = ⊥
HintsAt bytes (Some refusal) None = ⊥
HintsAt bytes (Some refusal) (Some line) = IsHint bytes refusal.path refusal.kind line

-- a refusal as it is kept here
abbrev pub IsRefusedAs : Option Refusal → Option Finding → Type 0
IsRefusedAs None None = ⊤
IsRefusedAs None (Some found) = ⊥
IsRefusedAs (Some refusal) None = ⊥
IsRefusedAs (Some refusal) (Some found) = (found.path ≡ refusal.path) × (found.kind ≡ refusal.kind)

-- the same by the answer of a reading
abbrev pub IsRefusal : ScenarioRefusal → Option Finding → Type 0
IsRefusal answer.NoMemory found = ⊥
IsRefusal (answer.Refused kind path) None = ⊥
IsRefusal (answer.Refused kind path) (Some found) = (found.path ≡ path) × (found.kind ≡ kind)
