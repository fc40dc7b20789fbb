use Rattle.std.proofs.Common.{◌∙◌}
use Rattle.view_samples.proofs.Served.{lacking_told}
use Rattle.view_samples.proofs.look.lacking.Goals as goal

pub returns-then-each_had : goal.returns-then-each_had
returns-then-each_had c = λ p less.
    let run = c.args.core.now in
    c.from_on.ensures p less
    ∙ lacking_told run.setup.scenario run.setup.order run.entries c.requires.last.0 c.args.e.now c.args.parts.now c.requires.last.1 c.history-history.ensures.valid c.history-history.ensures.legal c.requires.parts
    (c.each_had.ensures c.if-each_had.true) p
