-- The outcome of a call: its status and its text.
use Rattle.std.specs.Prelude.{string_bytes}
use Rattle.aps_calls.specs.declared.status.Status.{Status}
use Rattle.aps_calls.specs.Failure.{failure_status, failure_text}
use Rattle.aps_calls.specs.Status.{status_of_verdict}
use Rattle.aps_check.specs.Text.{verdict_text}
use Rattle.view_top.specs.declared.outcome.Outcome.{Outcome}
use Rattle.view_top.specs.declared.outcome.Outcome.TheVariants.{Failed, Reported, Traced, Broken}
use Rattle.view_top.specs.Printing.{Told, Told.at_once}
use Rattle.view_top.specs.Traced.{trace_told}

abbrev pub view_status : Outcome → Status
view_status (Failed failure) = failure_status failure
view_status (Reported status text) = status
view_status (Traced traced) = traced.status
view_status (Broken verdict) = status_of_verdict verdict

-- what is written
abbrev pub view_text : Outcome → Told
view_text (Failed failure) = at_once (failure_text failure)
view_text (Reported status text) = at_once (string_bytes text)
view_text (Traced traced) = trace_told traced.trace traced.run.setup.scenario traced.run.entries
view_text (Broken verdict) = at_once (verdict_text verdict)
