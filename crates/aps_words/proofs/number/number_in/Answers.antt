use Rattle.std.proofs.Common.{sym, rules}
use Rattle.aps_words.proofs.Numerals.{number-refused}
use Rattle.aps_words.proofs.number.number_in.Goals as goal

pub returns-in_default-3-clause-same : goal.returns-in_default-3-clause-same
returns-in_default-3-clause-same c =
    sym (number-refused c.args.word.now (search rules) c.args.low c.args.high c.parse.result _ c.ranges.high.fits c.parse.ensures.value.0 c.in_default.is)
