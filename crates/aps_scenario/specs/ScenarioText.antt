-- The text of a scenario, and the upgrade of a text.
use Rattle.std.specs.Prelude.{ℕ, List, Result, Ok}
use Rattle.aps_model.specs.Scenario.{Scenario}
use Rattle.aps_model.specs.Upgrade.{upgraded}
use Rattle.aps_scenario.specs.DocumentText.{document_text}
use Rattle.aps_scenario.specs.PrintedScenario.{scenario_members}
use Rattle.aps_scenario.specs.Reading.{reads}
use Rattle.aps_scenario.specs.Refusal.{Refusal}
use Rattle.aps_scenario.specs.Row.{◌>>=◌}

-- The document of the scenario's members: the sizes and the policies, a line each, and the arrays that are empty, as
-- `channel = []`; then the channels, the commands, the partitions but the root and the threads, a header for each, as
-- `[[thread]]`, and a line for each of its keys. Each key that a part has is written, also where its value is the
-- default; of a modification and of a setting of parameters, those that are given.
abbrev pub scenario_text : Scenario → List ℕ
scenario_text s = document_text (scenario_members s)

-- the text of the scenario that these bytes are, with its budgets in parts per thousand
abbrev pub upgraded_text : List ℕ → Result (List ℕ) Refusal
upgraded_text bytes = do
  s ← reads bytes
  Ok (scenario_text (upgraded s))
