use Rattle.laws_bounds.proofs.ServedTicks.{free_picks_make_free_time}
use Rattle.laws_bounds.proofs.served.free_picks_make_free_time.Goals as goal

pub returns : goal.returns
returns c = free_picks_make_free_time
