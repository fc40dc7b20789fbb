use Rattle.std.specs.Prelude.{◌≡◌, false, List, Option, Some, None}
use Rattle.aps_model.specs.declared.shape.Free.{Free}
use Rattle.aps_model.specs.declared.merit.PartFacts.{PartFacts}
use Rattle.aps_model.specs.declared.merit.Contender.{Contender}
use Rattle.aps_model.specs.Merit.{by_ratio}
use Rattle.aps_model.specs.Pick.{merit_among}
use Rattle.aps_ready.specs.declared.ahead.Ahead.{Ahead}

-- what this contender is ahead by: its class, and its priority, unless it is of class 0 and free time goes by ratio
pub record IsAheadOf (free : Free) (parts : List PartFacts) (c : Contender) (ahead : Ahead) : Type 0 where
  pub class : ahead.class ≡ (merit_among parts c).class
  pub priority : by_ratio free (merit_among parts c) (merit_among parts c) ≡ false → ahead.priority ≡ c.facts.priority

-- the same of a contender that may be none: then nothing is told, and only then
abbrev pub IsAhead : Free → List PartFacts → Option Contender → Option Ahead → Type 0
IsAhead free parts None None = Unit {0}
IsAhead free parts None (Some ahead) = ⊥
IsAhead free parts (Some c) None = ⊥
IsAhead free parts (Some c) (Some ahead) = IsAheadOf free parts c ahead
