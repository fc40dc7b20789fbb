use Rattle.laws_upgrade.proofs.Runs.{upgraded_end, upgraded_legal}
use Rattle.laws_upgrade.proofs.upgrade.upgraded_runs_are_the_same.Goals as goal

pub returns : goal.returns
returns c = λ scenario valid. record {
  legal = λ order h. upgraded_legal scenario order h valid;
  end = λ limit h. upgraded_end scenario limit h valid;
}
