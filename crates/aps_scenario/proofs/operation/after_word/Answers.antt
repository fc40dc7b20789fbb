use Rattle.std.proofs.Common.{sym, ◌∙◌}
use Rattle.aps_scenario.proofs.Operations.{word_cut}
use Rattle.aps_scenario.proofs.operation.after_word.Goals as goal

pub returns-in_default : goal.returns-in_default
returns-in_default c = sym (word_cut c.args.word.now c.loop-expected.rest.now c.loop-expected.expected-index c.loop-expected-test.true c.in_default.len_below) ∙ c.loop-expected.invariant
