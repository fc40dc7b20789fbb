use Rattle.std.proofs.Common.{arith}
use Rattle.std.proofs.lemmas.Fmt.{IsAscii-decimal}
use Rattle.aps_text.proofs.Ascii.{IsAscii-before}
use Rattle.aps_text.proofs.line.LineBuffer.put_number.Goals as goal

pub invariant_of-self : goal.invariant_of-self
invariant_of-self c =
    (omega arith, IsAscii-before _ _ _ c.write_digits-self-inside.ensures.written (IsAscii-decimal c.args.number (omega arith)) c.self.invariant.1)
