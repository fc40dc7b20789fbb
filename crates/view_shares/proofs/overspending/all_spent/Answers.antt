use Rattle.std.proofs.Common.{◌∙◌, ◌++◌, List, take, drop, sym, subst}
use Rattle.std.proofs.lemmas.List.{take-append-drop}
use Rattle.aps_model.specs.declared.entry.Entry.{Entry}
use Rattle.aps_model.specs.Legal.{IsLegal}
use Rattle.laws_runs.proofs.Words.{prefix_legal}
use Rattle.aps_core.specs.Run.{Run}
use Rattle.view_shares.specs.Spent.{AreSpent}
use Rattle.view_shares.proofs.Untested.{spent_rest}
use Rattle.view_shares.proofs.overspending.all_spent.Goals as goal

pub go_through-requires-clause-legal : goal.go_through-requires-clause-legal
go_through-requires-clause-legal c =
    let h = c.args.history.now in
    let n = c.tested_count-count.result in
    let entries = c.entries-entries.result.now in
    let legal : IsLegal h.scenario c.args.order entries = subst (IsLegal h.scenario c.args.order) (sym c.entries-entries.ensures.same) c.requires.legal in
    let whole : IsLegal h.scenario c.args.order (take n entries ++ drop n entries) = subst (IsLegal h.scenario c.args.order) (sym (take-append-drop n entries)) legal in
    subst (λ (r : Run). IsLegal r.setup.scenario r.setup.order (take n entries)) (sym (c.in_ok-pass.ensures.core ∙ c.in_ok-core.ensures.same)) (prefix_legal h.scenario c.args.order (take n entries) (drop n entries) whole)

pub returns : goal.returns
returns c =
    let h = c.args.history.now in
    let spent = c.go_through.new.self.spent in
    let n = c.tested_count-count.result in
    let entries = c.entries-entries.result.now in
    let there : AreSpent c.in_ok-pass.pass.core.setup.scenario (take n entries) spent = c.in_ok-go_through.ensures in
    let here : AreSpent h.scenario (take n entries) spent = subst (λ (r : Run). AreSpent r.setup.scenario (take n entries) spent) (c.in_ok-pass.ensures.core ∙ c.in_ok-core.ensures.same) there in
    subst (λ (l : List Entry). AreSpent h.scenario l spent) c.entries-entries.ensures.same
    (spent_rest h.scenario entries n spent c.tested_count-count.ensures.within c.tested_count-count.ensures.later here)
