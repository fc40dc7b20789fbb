use Rattle.laws_runs.proofs.StampCounts.{few_stamps}
use Rattle.laws_runs.proofs.threads.stamps_are_few.Goals as goal

pub returns : goal.returns
returns c = few_stamps
