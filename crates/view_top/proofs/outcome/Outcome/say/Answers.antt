use Rattle.std.proofs.Common.{inl, sym, ap, ◌∙◌}
use Rattle.view_top.specs.Outcome.{view_status, view_text}
use Rattle.view_top.specs.Printing.{Told.at_once}
use Rattle.view_top.proofs.Said.{says_as, says_made}
use Rattle.view_top.proofs.outcome.Outcome.say.Goals as goal

pub returns-in-Failed : goal.returns-in-Failed
returns-in-Failed g c =
    let is = c.in-Failed.is in
    says_as _ _ _ _ _ _ (sym (ap view_text is)) (sym (ap view_status is)) (says_made _ _ _ _ _ c.say.ensures)

pub returns-in-Reported : goal.returns-in-Reported
returns-in-Reported g c =
    let is = c.in-Reported.is in
    says_as _ _ _ _ _ _ (ap (λ t. at_once t) c.as_bytes.ensures.value ∙ sym (ap view_text is)) (sym (ap view_status is)) (inl c.print.ensures.prints)

pub returns-in-Broken : goal.returns-in-Broken
returns-in-Broken g c =
    let is = c.in-Broken.is in
    says_as _ _ _ _ _ _ (sym (ap view_text is)) (sym (ap view_status is)) c.print_verdict.ensures

pub returns-in-Traced : goal.returns-in-Traced
returns-in-Traced g c =
    let is = c.in-Traced.is in
    says_as _ _ _ _ _ _ (sym (ap view_text is)) (sym (ap view_status is)) c.say-in-Traced.ensures
