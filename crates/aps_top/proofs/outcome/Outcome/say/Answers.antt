use Rattle.std.proofs.Common.{◌≡◌, refl, sym, subst}
use Rattle.aps_calls.specs.declared.status.Status.{Status}
use Rattle.aps_calls.specs.Printing.{Output}
use Rattle.aps_calls.proofs.Said.{makes_as}
use Rattle.aps_top.specs.declared.outcome.Outcome.{Outcome}
use Rattle.aps_top.specs.Outcome.{Says}
use Rattle.aps_top.proofs.outcome.Outcome.say.Goals as goal

-- an outcome under another name
says_of : (output : Output) (o told : Outcome) (status : Status) → o ≡ told → Says output told status → Says output o status
says_of output o told status same h = subst (λ o. Says output o status) (sym same) h

pub returns-in-Failed : goal.returns-in-Failed
returns-in-Failed g c = says_of _ _ _ _ c.in-Failed.is c.say.ensures

pub returns-in-Ran : goal.returns-in-Ran
returns-in-Ran g c = says_of _ _ _ _ c.in-Ran.is (makes_as _ _ _ _ _ _ _ refl c.of_end.ensures c.print_report.ensures)

pub returns-in-Checked : goal.returns-in-Checked
returns-in-Checked g c = says_of _ _ _ _ c.in-Checked.is c.print_verdict.ensures

pub returns-in-Admitted : goal.returns-in-Admitted
returns-in-Admitted g c = says_of _ _ _ _ c.in-Admitted.is c.print_admission.ensures
