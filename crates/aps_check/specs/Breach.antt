-- What one entry breaks behind those of a run.
use Rattle.std.specs.Prelude.{◌≡◌, length}
use Rattle.aps_model.specs.declared.entry.Entry.{Entry}
use Rattle.aps_core.specs.Run.{Run}
use Rattle.aps_check.specs.declared.judging.Breach.{Breach}
use Rattle.aps_check.specs.Verdict.{BreaksRule, IsRunSoFar}

-- the entry behind those of the run breaks this rule
pub record IsBreach (run : Run) (e : Entry) (breach : Breach) : Type 0 where
  pub place : breach.place ≡ length run.entries
  pub sound : IsRunSoFar run.setup run.entries
  pub breaks : BreaksRule run.setup run.entries e breach.rule breach.expected
