use Rattle.std.proofs.Common.{ℕ, arith}
use Rattle.std.proofs.KnownBytes.{Consumes-trans}
use Rattle.std.proofs.lemmas.List.{length-take}
use Rattle.aps_io.proofs.Pieces.{grown}
use Rattle.aps_io.proofs.all.read_by_pieces.Goals as goal

pub returns-then-is_err-clause-delivered : goal.returns-then-is_err-clause-delivered
returns-then-is_err-clause-delivered g c =
    let ok = c.reading.bytes.ok.0 in (
      _,
      Consumes-trans _ _ _ _ _ c.reading.invariant.taken c.in-Got.ensures.bytes.2,
      grown c.reading.bytes.items _ _ _ c.in-Got.ensures.bytes.1
          (omega (arith, c.in-Got.ensures.bytes.1, length-take {A = ℕ})),
    )
