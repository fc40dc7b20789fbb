use Rattle.std.proofs.Common.{sym, ◌∙◌}
use Rattle.aps_text.proofs.Words.{word_cut}
use Rattle.aps_text.proofs.fields.word.Goals as goal

pub returns-in_default : goal.returns-in_default
returns-in_default c = sym c.loop-expected.invariant ∙ word_cut c.args.word.now c.loop-expected.rest.now c.loop-expected.expected-index c.loop-expected-test.true c.in_default.len_below
