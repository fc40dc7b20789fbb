use Rattle.std.proofs.Common.{IfOk, subst, sym}
use Rattle.aps_model.specs.declared.entry.Order.TheVariants.{Fixed}
use Rattle.aps_core.specs.Run.{Run, Setup}
use Rattle.view_words.specs.declared.asked.Report.{Report}
use Rattle.view_words.specs.declared.asked.Report.TheVariants.{Latency, Shares}
use Rattle.view_top.specs.declared.outcome.Outcome.{Outcome}
use Rattle.view_top.specs.Cause.{told_by}
use Rattle.view_top.specs.Due.{IsDueOfSetup}
use Rattle.view_top.proofs.running.ran.Goals as goal

pub returns-in-Latency : goal.returns-in-Latency
returns-in-Latency c =
    let setup : Setup = record { scenario = c.args.scenario; order = Fixed; limit = c.args.asked.limit } in
    subst (λ (r : Report). IfOk c.ran_for_latency.result (λ (o : Outcome). IsDueOfSetup r setup (told_by o))) (sym c.in-Latency.is)
    (subst (λ (run : Run). IfOk c.ran_for_latency.result (λ (o : Outcome). IsDueOfSetup Latency run.setup (told_by o))) c.in_ok-core.ensures c.ran_for_latency.ensures)

pub returns-in-Shares : goal.returns-in-Shares
returns-in-Shares c =
    let setup : Setup = record { scenario = c.args.scenario; order = Fixed; limit = c.args.asked.limit } in
    subst (λ (r : Report). IfOk c.ran_for_shares.result (λ (o : Outcome). IsDueOfSetup r setup (told_by o))) (sym c.in-Shares.is)
    (subst (λ (run : Run). IfOk c.ran_for_shares.result (λ (o : Outcome). IsDueOfSetup Shares run.setup (told_by o))) c.in_ok-core.ensures c.ran_for_shares.ensures)
