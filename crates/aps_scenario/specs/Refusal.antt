-- Why a text is no scenario, as it is told, and what functions answer.
use Rattle.std.specs.Prelude.{◌≡◌, ℕ, List, Result, Ok, Err, ⊤}
use Rattle.aps_scenario.specs.declared.kind.Kind.{Kind}
use Rattle.aps_scenario.specs.declared.refusal.Finding.{Finding}
use Rattle.aps_scenario.specs.declared.refusal.Failure.{Failure}
use Rattle.aps_scenario.specs.declared.refusal.Failure.TheVariants as failure
use Rattle.aps_scenario.specs.declared.refusal.ScenarioRefusal.{ScenarioRefusal}
use Rattle.aps_scenario.specs.declared.refusal.ScenarioRefusal.TheVariants as refusal
use Rattle.aps_scenario.specs.Path.{path_text}

-- why a text is no scenario, as it is told
pub record Refusal : Type 0 where
  pub kind : Kind
  pub path : List ℕ

abbrev pub refusal_of_finding : Finding → Refusal
refusal_of_finding finding = record { kind = finding.kind; path = path_text finding.part }

-- what a function returned, seen by view, is what reading gives, unless memory ran out
abbrev pub Fails : {Y : Type 0} → Failure → Result Y Finding → Type 0
Fails failure.NoMemory read = ⊤
Fails (failure.Found finding) read = read ≡ Err finding

abbrev pub ReadsOrFails : {X Y : Type 0} → (X → Y) → Result X Failure → Result Y Finding → Type 0
ReadsOrFails view (Ok x) read = read ≡ Ok (view x)
ReadsOrFails view (Err e) read = Fails e read

-- the same of what is told
abbrev pub RefusesScenario : {X : Type 0} → ScenarioRefusal → Result X Refusal → Type 0
RefusesScenario refusal.NoMemory read = ⊤
RefusesScenario (refusal.Refused kind path) read = read ≡ Err (record { kind = kind; path = path })

abbrev pub TellsScenario : {X : Type 0} → Result X ScenarioRefusal → Result X Refusal → Type 0
TellsScenario (Ok x) read = read ≡ Ok x
TellsScenario (Err e) read = RefusesScenario e read
