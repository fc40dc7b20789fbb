use Rattle.std.proofs.Common.{arith}
use Rattle.std.proofs.KnownBytes.{Appends-trans}
use Rattle.aps_io.proofs.Pieces.{piece_added, piece_within}
use Rattle.aps_io.proofs.all.write_all.Goals as goal

pub writing-preserved : goal.writing-preserved
writing-preserved g c = record {
  put = rw (← piece_added c.writing.at c.in-Wrote.n c.args.text.now) (Appends-trans _ _ _ _ _ c.writing.invariant.put c.in-Wrote.ensures.bytes.2);
  later = omega arith;
  more_shortages = omega arith;
  within = piece_within _ _ _ c.writing.invariant.within c.in-Wrote.ensures.bytes.1;
}
