use Rattle.std.proofs.Common.{rules}
use Rattle.view_pictures.proofs.shown.end_of.Goals as goal

pub returns-in-Some : goal.returns-in-Some
returns-in-Some c = search rules
