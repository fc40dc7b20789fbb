use Rattle.std.proofs.Common.{refl, ap, ◌∙◌}
use Rattle.aps_model.specs.Report.{summary_text}
use Rattle.aps_calls.proofs.Said.{made_as}
use Rattle.aps_top.proofs.report.print_summary.Goals as goal

pub returns-in-Ok : goal.returns-in-Ok
returns-in-Ok g c =
    made_as _ _ _ _ _ _ _ (c.as_bytes.ensures.value ∙ c.in-Ok.ensures ∙ ap (summary_text c.args.history.now) c.audit.ensures) refl c.print.ensures.prints
