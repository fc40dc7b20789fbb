use Rattle.std.proofs.Common.{[]}
use Rattle.std.proofs.KnownBytes.{Consumes-nil}
use Rattle.view_top.proofs.Dues.{lacks_memory}
use Rattle.view_top.proofs.outcome.Outcome.of.Goals as goal

pub returns-in-Err-NoMemory : goal.returns-in-Err-NoMemory
returns-in-Err-NoMemory g c = ([], Consumes-nil _, lacks_memory _ _ [])
