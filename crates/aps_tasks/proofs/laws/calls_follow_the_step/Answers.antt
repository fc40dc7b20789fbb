use Rattle.aps_tasks.proofs.TiedLaws.{tied_enter, tied_give_back, tied_restamp, tied_spend, tied_state}
use Rattle.aps_tasks.proofs.laws.calls_follow_the_step.Goals as goal

pub returns : goal.returns
returns c = record {
  state = tied_state;
  stamp = tied_restamp;
  spend = tied_spend;
  give_back = tied_give_back;
  enter = tied_enter;
}
