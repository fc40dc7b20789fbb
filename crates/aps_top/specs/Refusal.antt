-- Why a text is refused.
use Rattle.std.specs.Prelude.{ℕ, List, Option, Some, None, Result, Ok, Err}
use Rattle.aps_scenario.specs.Refusal.{Refusal}
use Rattle.aps_scenario.specs.Reading.{reads}
use Rattle.aps_scenario.specs.Demands.{reads_demands}
use Rattle.aps_calls.specs.declared.refusal.InputRefusal.{InputRefusal}
use Rattle.aps_calls.specs.declared.refusal.InputRefusal.TheVariants.{Text}

-- why a text was refused, if it was
abbrev pub refused_text : {A : Type 0} → Result A Refusal → Option InputRefusal
refused_text (Ok value) = None
refused_text (Err refusal) = Some (Text refusal.kind refusal.path)

abbrev pub scenario_refusal : List ℕ → Option InputRefusal
scenario_refusal bytes = refused_text (reads bytes)

abbrev pub demands_refusal : List ℕ → Option InputRefusal
demands_refusal bytes = refused_text (reads_demands bytes)
