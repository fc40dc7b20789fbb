use Rattle.std.proofs.Common.{◌≡◌, ◌++◌, [], ◌∷◌, Option, ◌∙◌, ap, refl, sym, subst, arith}
use Rattle.aps_model.specs.declared.entry.Entry.{Entry}
use Rattle.aps_core.specs.Run.{Run}
use Rattle.aps_core.specs.Turn.{with_entry}
use Rattle.view_replay.specs.Retraced.{order_of_run, scenario_of_run}
use Rattle.view_shares.specs.declared.critical_budget.CriticalBudget.{CriticalBudget}
use Rattle.view_shares.specs.declared.usages.Usages.{Usages}
use Rattle.view_shares.specs.declared.overspending.Pass.{Pass}
use Rattle.view_shares.specs.CriticalBudget.{budget_at, if_lasts}
use Rattle.view_shares.specs.Usages.{AreUsagesCounted}
use Rattle.view_shares.specs.Spent.{overspent_by}
use Rattle.view_shares.proofs.Overspent.{at_compared, at_quiet, budget_window, overspent_found, overspent_none, spent_few}
use Rattle.view_shares.proofs.overspending.Pass.go_on.Goals as goal

pub add-requires : goal.add-requires
add-requires c =
    let self = c.args.self.now in
    let core : c.take_turn-e.new.core ≡ record { setup = self.core.setup; entries = self.core.entries ++ c.take_turn-e.result ∷ [] } = c.take_turn-e.ensures.run in
    record { last = (self.core.entries, ap (λ (r : Run). r.entries) core, subst (λ (r : Run). AreUsagesCounted r.setup.scenario self.core.entries self.time) (sym core) c.requires.at.counted) }

-- the budget of the test
found : (self : Pass) (e d : Entry) (foretold result : Option CriticalBudget) → e ≡ d → if_lasts d foretold ≡ budget_at (scenario_of_run self.core) self.core.entries d → result ≡ if_lasts e foretold
    → budget_at (scenario_of_run self.core) self.core.entries e ≡ result
found self e d foretold result same told is =
    ap (budget_at (scenario_of_run self.core) self.core.entries) same ∙ sym told ∙ ap (λ (x : Entry). if_lasts x foretold) (sym same) ∙ sym is

-- the time with the entry's
counted : (self : Pass) (e : Entry) (later : Run) (time : Usages) → later ≡ record { setup = self.core.setup; entries = self.core.entries ++ e ∷ [] } → AreUsagesCounted later.setup.scenario later.entries time
    → AreUsagesCounted (scenario_of_run self.core) (self.core.entries ++ e ∷ []) time
counted self e later time core is = subst (λ (r : Run). AreUsagesCounted r.setup.scenario r.entries time) core is

pub compare-requires-clause-least : goal.compare-requires-clause-least
compare-requires-clause-least c =
    let self = c.args.self.now in
    let e = c.take_turn-e.result in
    (budget_window (scenario_of_run self.core) (order_of_run self.core) self.core.entries e c.in-Some.budget c.requires.at.valid c.take_turn-e.ensures.legal
    (found self e _ _ _ c.take_turn-e.ensures.same c.in_ok-budget.ensures c.if_lasts.ensures ∙ c.in-Some.is)).0

pub compare-requires-clause-most : goal.compare-requires-clause-most
compare-requires-clause-most c =
    let self = c.args.self.now in
    let e = c.take_turn-e.result in
    (budget_window (scenario_of_run self.core) (order_of_run self.core) self.core.entries e c.in-Some.budget c.requires.at.valid c.take_turn-e.ensures.legal
    (found self e _ _ _ c.take_turn-e.ensures.same c.in_ok-budget.ensures c.if_lasts.ensures ∙ c.in-Some.is)).1

pub compare-requires-clause-few : goal.compare-requires-clause-few
compare-requires-clause-few c =
    let self = c.args.self.now in
    let room = c.take_turn-e.ensures.room in
    let few = c.requires.few in
    spent_few (scenario_of_run self.core) self.core.entries self.spent (omega (arith, room, few)) c.requires.at.spent

pub returns-in-Some-clause-at : goal.returns-in-Some-clause-at
returns-in-Some-clause-at c =
    let self = c.args.self.now in
    let e = c.take_turn-e.result in
    let after = c.compare.new.self in
    at_compared self after e c.in-Some.budget c.add.new.self c.requires.at c.take_turn-e.ensures.legal
    (ap (λ (p : Pass). p.core) c.compare.ensures.same ∙ c.take_turn-e.ensures.run) (ap (λ (p : Pass). p.moment) c.compare.ensures.same)
    (counted self e c.take_turn-e.new.core c.add.new.self c.take_turn-e.ensures.run c.add.ensures) c.compare.ensures.time
    (found self e _ _ _ c.take_turn-e.ensures.same c.in_ok-budget.ensures c.if_lasts.ensures ∙ c.in-Some.is) c.compare.ensures.within c.compare.ensures.spent

pub returns-in-None-clause-at : goal.returns-in-None-clause-at
returns-in-None-clause-at c =
    let self = c.args.self.now in
    let e = c.take_turn-e.result in
    at_quiet self (record { core = c.take_turn-e.new.core; moment = e.to; time = c.add.new.self; spent = self.spent }) e c.requires.at
    c.take_turn-e.ensures.run refl (counted self e c.take_turn-e.new.core c.add.new.self c.take_turn-e.ensures.run c.add.ensures)
    (found self e _ _ _ c.take_turn-e.ensures.same c.in_ok-budget.ensures c.if_lasts.ensures ∙ c.in-None.is) refl

pub returns-in-Some-clause-core : goal.returns-in-Some-clause-core
returns-in-Some-clause-core c =
    ap (λ (p : Pass). p.core) c.compare.ensures.same ∙ c.take_turn-e.ensures.run ∙ ap (λ (d : Entry). with_entry c.args.self.now.core d) c.take_turn-e.ensures.same

pub returns-in-None-clause-core : goal.returns-in-None-clause-core
returns-in-None-clause-core c = c.take_turn-e.ensures.run ∙ ap (λ (d : Entry). with_entry c.args.self.now.core d) c.take_turn-e.ensures.same

pub returns-in-Some-clause-overspent : goal.returns-in-Some-clause-overspent
returns-in-Some-clause-overspent c =
    let self = c.args.self.now in
    let e = c.take_turn-e.result in
    c.compare.ensures.overspent
    ∙ overspent_found (scenario_of_run self.core) (order_of_run self.core) self.core.entries e c.in-Some.budget c.add.new.self c.requires.at.valid c.take_turn-e.ensures.legal
    (found self e _ _ _ c.take_turn-e.ensures.same c.in_ok-budget.ensures c.if_lasts.ensures ∙ c.in-Some.is) c.compare.ensures.within
    (counted self e c.take_turn-e.new.core c.add.new.self c.take_turn-e.ensures.run c.add.ensures)
    ∙ ap (overspent_by (scenario_of_run self.core) self.core.entries) c.take_turn-e.ensures.same

pub returns-in-None-clause-overspent : goal.returns-in-None-clause-overspent
returns-in-None-clause-overspent c =
    let self = c.args.self.now in
    let e = c.take_turn-e.result in
    overspent_none (scenario_of_run self.core) self.core.entries e (found self e _ _ _ c.take_turn-e.ensures.same c.in_ok-budget.ensures c.if_lasts.ensures ∙ c.in-None.is)
    ∙ ap (overspent_by (scenario_of_run self.core) self.core.entries) c.take_turn-e.ensures.same
