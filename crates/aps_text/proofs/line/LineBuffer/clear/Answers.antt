use Rattle.std.proofs.Common.{◌≡◌, [], drop, arith}
use Rattle.std.proofs.Math.ListN.{drop_of_length-le}
use Rattle.std.proofs.lemmas.Str.Ascii.{IsAscii-nil}
use Rattle.aps_text.proofs.line.LineBuffer.clear.Goals as goal
use Rattle.aps_text.specs.Line.{longest_line}

pub invariant_of-self : goal.invariant_of-self
invariant_of-self c =
    let gone : drop longest_line c.self.inside.bytes ≡ [] = drop_of_length-le c.self.inside.bytes {i = longest_line} (omega arith) in
    (omega arith, rw gone IsAscii-nil)

pub returns : goal.returns
returns c = drop_of_length-le c.self.inside.bytes {i = longest_line} (omega arith)
