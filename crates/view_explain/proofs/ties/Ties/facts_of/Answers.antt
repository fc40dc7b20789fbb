use Rattle.aps_core.specs.Run.{state_of_run}
use Rattle.view_explain.proofs.Leading.{leads}
use Rattle.view_explain.proofs.ties.Ties.facts_of.Goals as goal

pub returns : goal.returns
returns c =
    let end = leads (state_of_run c.args.core.now) c.args.self.now c.args.x c.requires in
    let max = c.max.ensures in
    let lead = c.lead-last.ensures in
    let own = c.thread-own.ensures in cc
