use Rattle.aps_calls.proofs.Separated.{separated_within}
use Rattle.aps_calls.proofs.parts.parted.Goals as goal

pub returns-clause-inside : goal.returns-clause-inside
returns-clause-inside c = separated_within c.args.bytes.now c.journal_at.result c.journal_at.ensures
