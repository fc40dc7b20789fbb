use Rattle.std.proofs.Common.{◌∙◌, ap, map}
use Rattle.aps_tasks.specs.Start.{plan_of}
use Rattle.aps_tasks.proofs.Opening.{kept_by_parts}
use Rattle.aps_tasks.proofs.tasks.Tasks.new.Goals as goal

pub invariant_of-result : goal.invariant_of-result
invariant_of-result c =
    let plans = c.in_ok-plans.ensures ∙ ap (map plan_of) c.threads.ensures.same in
    kept_by_parts c.args.scenario.now c.shape-shape.result.now c.in_ok-plans.plans.items c.in_ok-table.table
    c.threads.ensures.valid c.shape-shape.ensures.same plans c.in_ok-table.ensures

pub returns-clause-keeps : goal.returns-clause-keeps
returns-clause-keeps c =
    let plans = c.in_ok-plans.ensures ∙ ap (map plan_of) c.threads.ensures.same in
    kept_by_parts c.args.scenario.now c.shape-shape.result.now c.in_ok-plans.plans.items c.in_ok-table.table
    c.threads.ensures.valid c.shape-shape.ensures.same plans c.in_ok-table.ensures
