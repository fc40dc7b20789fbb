use Rattle.std.proofs.Common.{◌≡◌, ◌≤◌, ◌∙◌, List, None, ap, arith, length, rules, sym}
use Rattle.aps_model.specs.declared.entry.Entry.{Entry}
use Rattle.aps_model.specs.declared.shape.Shape.{Shape}
use Rattle.aps_model.specs.History.{History}
use Rattle.aps_model.specs.Scenario.{Scenario}
use Rattle.aps_core.specs.Run.{end_of_run}
use Rattle.aps_check.proofs.Breaches.{missing_breach}
use Rattle.aps_check.proofs.judging.breach_of.Goals as goal

pub returns-then-index-from : goal.returns-then-index-from
returns-then-index-from c =
    let run = c.args.core.now in
    let kept = c.history-history.ensures in
    let ended : c.end.result ≡ end_of_run run = c.end.ensures ∙ ap (λ (h : History). h.end) kept.same in
    let none : c.end.result ≡ None = search rules in
    let cpus : c.shape.result.now.cpus ≡ run.setup.scenario.shape.cpus =
    ap (λ (s : Shape). s.cpus) c.shape.ensures.same ∙ ap (λ (s : Scenario). s.shape.cpus) c.scenario.ensures
    ∙ ap (λ (h : History). h.scenario.shape.cpus) kept.same in
    let high : run.setup.scenario.shape.cpus ≤ c.args.entry.now.cpu = omega (arith, cpus) in
    let place : length c.entries.result.now ≡ length run.entries =
    ap (λ (h : List Entry). length h) (c.entries.ensures.same ∙ ap (λ (h : History). h.entries) kept.same) in
    missing_breach run c.args.entry.now (length c.entries.result.now) kept.valid kept.legal kept.no_sooner (sym ended ∙ none) high place
