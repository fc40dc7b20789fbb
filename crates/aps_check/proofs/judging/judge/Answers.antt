use Rattle.std.proofs.Common.{◌<◌, ◌≤◌, ◌∙◌, length, ap, arith, subst, sym}
use Rattle.aps_model.specs.History.{History}
use Rattle.aps_core.specs.Run.{Run}
use Rattle.aps_check.specs.Breach.{IsBreach}
use Rattle.aps_check.proofs.Breaches.{first_breach, legal_journal, one_behind, nothing_behind}
use Rattle.aps_check.proofs.judging.judge.Goals as goal

pub loop-entry-init : goal.loop-entry-init
loop-entry-init c = nothing_behind c.args.core.now c.args.entries.now

pub returns-in-Some : goal.returns-in-Some
returns-in-Some c =
    let less : c.loop-entry.entry-index < length c.args.entries.now = omega arith in
    first_breach c.args.core.now c.args.entries.now c.loop-entry.entry-index c.entry-item.result c.in-Some.breach less (sym c.entry-item.is)
    (subst (λ (run : Run). IsBreach run c.entry-item.result c.in-Some.breach) c.loop-entry.invariant c.in-Some.ensures)

pub loop-entry-preserved : goal.loop-entry-preserved
loop-entry-preserved c =
    let less : c.loop-entry.entry-index < length c.args.entries.now = omega arith in
    one_behind c.args.core.now c.args.entries.now c.loop-entry.entry-index c.entry-item.result c.loop-entry.core c.breach_of.new.core less (sym c.entry-item.is)
    c.loop-entry.invariant c.in_default.ensures.1

pub returns : goal.returns
returns c =
    let past : length c.args.entries.now ≤ c.loop-entry.entry-index = omega arith in
    legal_journal c.args.core.now c.args.entries.now c.loop-entry.entry-index c.loop-entry.core c.end.result past c.loop-entry.invariant
    c.history.ensures.legal c.history.ensures.no_sooner
    (c.end.ensures ∙ ap (λ (h : History). h.end) c.history.ensures.same)
