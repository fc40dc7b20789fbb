use Rattle.std.proofs.Common.{arith}
use Rattle.std.proofs.lemmas.Grind.{common_steps}
use Rattle.aps_text.proofs.Ascii.{IsAscii-from_test, IsAscii-before}
use Rattle.aps_text.proofs.line.LineBuffer.put_word.Goals as goal

pub invariant_of-self : goal.invariant_of-self
invariant_of-self c =
    (omega arith, IsAscii-before _ _ _ (grind (arith, common_steps)) (IsAscii-from_test c.args.word.now c.requires.ascii) c.self.invariant.1)
