use Rattle.laws_runs.proofs.ThreadLaws.{stamps_law}
use Rattle.laws_runs.proofs.threads.stamps_differ.Goals as goal

pub returns : goal.returns
returns c = λ scenario order h r legal. stamps_law scenario order r h legal
