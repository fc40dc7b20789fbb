use Rattle.std.proofs.Common.{◌/◌, ◌++◌, [], ◌∷◌, true, false, ◌∙◌, sym}
use Rattle.aps_core.proofs.Counting.{bankrupt_by, bankrupt_is, fine_is, read_verdict}
use Rattle.aps_model.specs.Usage.{window_critical}
use Rattle.aps_core.proofs.machine.Machine.bankrupt.Goals as goal

pub returns-in-Fine : goal.returns-in-Fine
returns-in-Fine c =
    let s = c.args.self.now in
    let e = c.args.e.now in
    let h = c.args.entries.now ++ e ∷ [] in
    let j = e.to / s.shape.tick in
    let p = c.in_ok-p.p in
    let budget = c.critical_budget.result in
    let told = read_verdict s.shape h j c.args.window.now p budget c.after_bill.result c.requires.counts c.after_bill.ensures.stands in
    let test = fine_is (window_critical s.shape h j p) budget (sym c.in-Fine.is ∙ told) in
    bankrupt_by s h e p budget false c.if-not-e.false c.if-e.false c.in_ok-p.was c.critical_budget.ensures test

pub returns-in-Bankrupt : goal.returns-in-Bankrupt
returns-in-Bankrupt c =
    let s = c.args.self.now in
    let e = c.args.e.now in
    let h = c.args.entries.now ++ e ∷ [] in
    let j = e.to / s.shape.tick in
    let p = c.in_ok-p.p in
    let budget = c.critical_budget.result in
    let told = read_verdict s.shape h j c.args.window.now p budget c.after_bill.result c.requires.counts c.after_bill.ensures.stands in
    let test = bankrupt_is (window_critical s.shape h j p) budget c.in-Bankrupt.used c.in-Bankrupt.budget (sym c.in-Bankrupt.is ∙ told) in
    bankrupt_by s h e p budget true c.if-not-e.false c.if-e.false c.in_ok-p.was c.critical_budget.ensures test
