use Rattle.std.proofs.Common.{ap}
use Rattle.aps_scenario.specs.Document.{or_told}
use Rattle.aps_scenario.proofs.reading.scenario_in.Goals as goal

pub returns-in-Ok : goal.returns-in-Ok
returns-in-Ok c = ap or_told c.in-Ok.ensures

pub returns-in-Err-Found : goal.returns-in-Err-Found
returns-in-Err-Found c = rw c.told.ensures (ap or_told (rw c.in-Err-Found.field-0-is at c.in-Err-Found.ensures))
