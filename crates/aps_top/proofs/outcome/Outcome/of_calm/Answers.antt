use Rattle.std.proofs.Common.{[], ap, refl}
use Rattle.std.proofs.KnownBytes.{Consumes-nil}
use Rattle.aps_top.specs.Asked.{calm}
use Rattle.aps_top.proofs.outcome.Outcome.of_calm.Goals as goal

pub returns-in-Gen : goal.returns-in-Gen
returns-in-Gen g c = ([], Consumes-nil _, c.of_gen.ensures _ (ap calm c.in-Gen.is) refl)
