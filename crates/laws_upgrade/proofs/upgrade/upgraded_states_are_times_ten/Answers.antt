use Rattle.std.proofs.Common.{ap}
use Rattle.aps_model.specs.SchedulerState.{SchedulerState}
use Rattle.laws_upgrade.proofs.Runs.{upgraded_state}
use Rattle.laws_upgrade.proofs.upgrade.upgraded_states_are_times_ten.Goals as goal

pub returns-clause-ten : goal.returns-clause-ten
returns-clause-ten c = λ scenario e. record {
  replies = λ h. ap (λ (s : SchedulerState). s.replies) (upgraded_state scenario h e);
  state = λ h. upgraded_state scenario h e;
}
