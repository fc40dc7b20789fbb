use Rattle.std.proofs.Common.{false}
use Rattle.std.proofs.lemmas.List.FromFn.{fill_by_all}
use Rattle.aps_model.specs.Limits.{most_partitions}
use Rattle.aps_core.specs.Run.{state_of_run}
use Rattle.view_samples.specs.Picks.{had_candidate}
use Rattle.view_value_changes.proofs.told.demand.Goals as goal

pub returns : goal.returns
returns c =
    let all = c.demand_by_place in
    fill_by_all (had_candidate (state_of_run c.args.core.now) c.args.core.now.entries c.args.c) all.result most_partitions false all.ensures.places all.ensures.each
