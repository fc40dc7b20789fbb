use Rattle.std.proofs.Common.{refl, sym, ap}
use Rattle.aps_top.specs.Outcome.{report_text}
use Rattle.aps_calls.proofs.Said.{makes_as}
use Rattle.aps_top.proofs.report.print_report.Goals as goal

pub returns-in-Summary : goal.returns-in-Summary
returns-in-Summary g c = makes_as _ _ _ _ _ _ _ (sym (ap (λ report. report_text report c.args.history.now) c.in-Summary.is)) refl c.print_summary.ensures

pub returns-in-Windows : goal.returns-in-Windows
returns-in-Windows g c = makes_as _ _ _ _ _ _ _ (sym (ap (λ report. report_text report c.args.history.now) c.in-Windows.is)) refl c.print_windows.ensures
