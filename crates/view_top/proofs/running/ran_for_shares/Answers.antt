use Rattle.std.proofs.Common.{◌∙◌, ap, Some, string_bytes, subst, sym}
use Rattle.aps_model.specs.History.{History}
use Rattle.aps_core.specs.Run.{Run}
use Rattle.view_shares.specs.Spent.{AreSpent}
use Rattle.view_shares.specs.Text.{shares_text}
use Rattle.view_words.specs.declared.asked.Report.TheVariants.{Shares}
use Rattle.aps_calls.specs.declared.status.Status.{Status}
use Rattle.view_top.specs.Due.{reported}
use Rattle.view_top.proofs.Viewed.{ended_run, run_due}
use Rattle.view_top.proofs.running.ran_for_shares.Goals as goal

pub shares_text_with-requires-clause-spent : goal.shares_text_with-requires-clause-spent
shares_text_with-requires-clause-spent c =
    subst (λ (h : History). AreSpent h.scenario h.entries c.in_ok-spending.spending.spent) (sym c.history-history.ensures.same) c.in_ok-spending.ensures.spent

pub returns : goal.returns
returns c =
    let after : Run = c.in_ok-spending.spending.core in
    let text = Some (string_bytes c.in_ok-text.text) in
    let told = ap (λ t. Some t) (c.in_ok-text.ensures ∙ ap (λ (h : History). shares_text h.scenario h.entries) c.history-history.ensures.same) in
    run_due Shares c.args.core.setup after _
    (ended_run c.args.core.setup after c.in_ok-spending.ensures.setup c.requires.fixed c.history-history.ensures.valid c.history-history.ensures.legal c.history-history.ensures.no_sooner c.in_ok-spending.ensures.ended)
    (text, told, c.of_text.ensures ∙ ap (λ (status : Status). reported Shares status text) c.ended_as.ensures)
