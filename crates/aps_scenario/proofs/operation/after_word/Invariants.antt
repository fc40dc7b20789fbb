use Rattle.std.proofs.Common.{◌≡◌, drop}
use Rattle.aps_scenario.specs.Operation.{after_word}
use Rattle.aps_scenario.proofs.operation.after_word.Given as goal

abbrev pub invariant-loop-expected : goal.invariant-loop-expected
invariant-loop-expected l = after_word (drop l.expected-index l.word) l.rest ≡ after_word l.word l.text
