use Rattle.std.proofs.Common.{◌∙◌, ap}
use Rattle.laws_runs.proofs.Turns.{any_turn}
use Rattle.aps_core.specs.Run.{Run, state_of_run}
use Rattle.view_latency.proofs.following.follow_run.Goals as goal

pub go_on-requires-clause-turn : goal.go_on-requires-clause-turn
go_on-requires-clause-turn c =
    let run = c.loop-core.core in
    any_turn run.setup.order (state_of_run run) run.entries c.first_due-first.result c.first_due-first.ensures.lowest

pub loop-core-preserved : goal.loop-core-preserved
loop-core-preserved c = record {
  setup = ap (λ (r : Run). r.setup) c.in_ok-go_on.ensures.run ∙ c.loop-core.invariant.setup;
  beside = c.in_ok-go_on.ensures.beside;
}
