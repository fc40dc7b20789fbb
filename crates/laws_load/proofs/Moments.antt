-- What holds whenever time passes, after each entry of a history.
use Rattle.std.proofs.Common.{List}
use Rattle.aps_model.specs.declared.entry.Entry.{Entry}
use Rattle.aps_model.specs.declared.entry.Order.{Order}
use Rattle.aps_model.specs.Legal.{IsLegal}
use Rattle.aps_model.specs.Scenario.{Scenario}
use Rattle.aps_model.specs.Valid.{IsScenario}
use Rattle.laws_runs.proofs.Words.{up_to}
use Rattle.laws_load.specs.Passing.{NeverPassesOver}
use Rattle.laws_load.proofs.Passed.{passed}

pub never_passed : (scenario : Scenario) (order : Order) (h : List Entry) → IsScenario scenario → IsLegal scenario order h → NeverPassesOver scenario h
never_passed scenario order h valid legal before later e same time =
    passed scenario order before e valid (up_to scenario order h before later e same legal) time
