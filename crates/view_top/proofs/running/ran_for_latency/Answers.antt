use Rattle.std.proofs.Common.{◌∙◌, ap, Some, string_bytes, subst, sym}
use Rattle.aps_model.specs.History.{History}
use Rattle.aps_core.specs.Run.{Run}
use Rattle.view_latency.specs.Followed.{AreFollowed}
use Rattle.view_latency.specs.Text.{latency_text}
use Rattle.view_words.specs.declared.asked.Report.TheVariants.{Latency}
use Rattle.aps_calls.specs.declared.status.Status.{Status}
use Rattle.view_top.specs.Due.{reported}
use Rattle.view_top.proofs.Viewed.{ended_run, run_due}
use Rattle.view_top.proofs.running.ran_for_latency.Goals as goal

pub latency_text_of-requires-clause-followed : goal.latency_text_of-requires-clause-followed
latency_text_of-requires-clause-followed c =
    subst (λ (h : History). AreFollowed h.scenario h.entries c.in_ok-followed.followed) (sym c.history-history.ensures.same) c.in_ok-followed.ensures.followed

pub returns : goal.returns
returns c =
    let after : Run = c.follow_run.new.core in
    let text = Some (string_bytes c.in_ok-text.text) in
    let told = ap (λ t. Some t) (c.in_ok-text.ensures ∙ ap (λ (h : History). latency_text h.scenario h.entries) c.history-history.ensures.same) in
    run_due Latency c.args.core.setup after _
    (ended_run c.args.core.setup after c.in_ok-followed.ensures.setup c.requires.fixed c.history-history.ensures.valid c.history-history.ensures.legal c.history-history.ensures.no_sooner c.in_ok-followed.ensures.ended)
    (text, told, c.of_text.ensures ∙ ap (λ (status : Status). reported Latency status text) c.ended_as.ensures)
