use Rattle.std.proofs.Common.{◌≡◌, ◌∙◌, ap, subst, sym}
use Rattle.aps_model.specs.Legal.{fixed_run}
use Rattle.aps_core.specs.Run.{Run, Setup, end_of_run}
use Rattle.aps_calls.specs.declared.status.Status.{Status}
use Rattle.view_top.specs.Cause.{told_by}
use Rattle.view_top.specs.Due.{IsReported, status_by}
use Rattle.view_top.proofs.Viewed.{run_due}
use Rattle.view_top.proofs.running.ran_before.Goals as goal

pub returns : goal.returns
returns c =
    let setup = c.args.core.setup in
    let after : Run = c.finish-end.new.self in
    let is : after ≡ record { setup = setup; entries = fixed_run setup.scenario setup.limit } =
    ap (λ (s : Setup). record { setup = s; entries = after.entries }) (ap (λ (r : Run). r.setup) c.finish-end.ensures.run)
    ∙ ap (λ h. record { setup = setup; entries = h }) (c.finish-end.ensures.fixed c.requires.begins) in
    let status : c.of_end.result ≡ status_by (end_of_run after) = c.of_end.ensures ∙ sym (ap status_by c.finish-end.ensures.ended) in
    run_due c.args.report setup after (told_by c.in_ok-outcome.outcome) is
    (subst (λ (s : Status). IsReported c.args.report after.setup.scenario after.entries s (told_by c.in_ok-outcome.outcome)) status c.in_ok-outcome.ensures)
