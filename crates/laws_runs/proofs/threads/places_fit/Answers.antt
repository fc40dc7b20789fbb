use Rattle.laws_runs.proofs.ThreadFit.{fits_law}
use Rattle.laws_runs.proofs.threads.places_fit.Goals as goal

pub returns : goal.returns
returns c = λ scenario order h r legal x below. (fits_law scenario order h r legal x below).0
