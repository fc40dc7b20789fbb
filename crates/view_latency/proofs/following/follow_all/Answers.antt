use Rattle.std.proofs.Common.{IfOk, List, ap, subst}
use Rattle.aps_model.specs.declared.entry.Entry.{Entry}
use Rattle.aps_model.specs.Scenario.{Scenario}
use Rattle.aps_core.specs.Run.{Run}
use Rattle.view_latency.specs.Followed.{AreFollowed}
use Rattle.view_latency.proofs.following.follow_all.Goals as goal

pub returns : goal.returns
returns c =
    let h = c.args.history.now in
    subst (λ (s : Scenario). IfOk c.follow.result (AreFollowed s h.entries)) (ap (λ (r : Run). r.setup.scenario) c.in_ok-core.ensures.same)
    (subst (λ (es : List Entry). IfOk c.follow.result (AreFollowed c.in_ok-core.core.setup.scenario es)) c.entries.ensures.same c.follow.ensures)
