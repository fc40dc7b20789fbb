use Rattle.view_trace_events.proofs.Times.{us_injective}
use Rattle.view_trace_events.proofs.laws.times_are_told_exactly.Goals as goal

pub returns : goal.returns
returns c = us_injective
