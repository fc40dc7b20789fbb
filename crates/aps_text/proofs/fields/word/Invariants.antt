use Rattle.std.proofs.Common.{◌≡◌, drop}
use Rattle.aps_text.specs.Reader.{word_at}
use Rattle.aps_text.proofs.fields.word.Given as goal

abbrev pub invariant-loop-expected : goal.invariant-loop-expected
invariant-loop-expected l = word_at (drop l.expected-index l.word) l.rest ≡ word_at l.word l.bytes
