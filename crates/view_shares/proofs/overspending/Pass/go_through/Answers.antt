use Rattle.std.proofs.Common.{◌≡◌, ◌≤◌, ◌∙◌, List, ap, sym, subst, arith}
use Rattle.std.proofs.lemmas.List.{take_all}
use Rattle.aps_model.specs.declared.entry.Entry.{Entry}
use Rattle.aps_model.specs.Limits.{most_entries}
use Rattle.aps_core.specs.Run.{Run}
use Rattle.aps_core.specs.Turn.{IsTurnTaken, with_entry}
use Rattle.view_replay.specs.Entry.{entry_of}
use Rattle.view_replay.proofs.Retraced.{front_more, next_taken}
use Rattle.view_shares.specs.Spent.{AreSpent}
use Rattle.view_shares.proofs.overspending.Pass.go_through.Goals as goal

pub loop-e-init : goal.loop-e-init
loop-e-init c =
    let whole : List Entry → Run = λ es. record { setup = c.args.self.now.core.setup; entries = es } in
    record { at = c.requires.at; core = ap whole c.requires.begins }

pub go_on-requires-clause-at : goal.go_on-requires-clause-at
go_on-requires-clause-at c = c.loop-e.invariant.at

pub go_on-requires-clause-goes_on : goal.go_on-requires-clause-goes_on
go_on-requires-clause-goes_on c =
    (next_taken c.args.self.now.core.setup c.args.entries.now c.loop-e.e-index c.e-item.result c.loop-e.self.core c.loop-e.invariant.core c.requires.legal c.loop-e-test.true (sym c.e-item.is) c.requires.few).goes_on

pub go_on-requires-clause-turn : goal.go_on-requires-clause-turn
go_on-requires-clause-turn c =
    (next_taken c.args.self.now.core.setup c.args.entries.now c.loop-e.e-index c.e-item.result c.loop-e.self.core c.loop-e.invariant.core c.requires.legal c.loop-e-test.true (sym c.e-item.is) c.requires.few).turn

pub go_on-requires-clause-few : goal.go_on-requires-clause-few
go_on-requires-clause-few c = subst (λ (r : Run). r.setup.limit ≤ most_entries) (sym c.loop-e.invariant.core) c.requires.most

pub loop-e-preserved : goal.loop-e-preserved
loop-e-preserved c =
    let e = c.e-item.result in
    let here : IsTurnTaken c.loop-e.self.core e.cpu e = next_taken c.args.self.now.core.setup c.args.entries.now c.loop-e.e-index e c.loop-e.self.core c.loop-e.invariant.core c.requires.legal c.loop-e-test.true (sym c.e-item.is) c.requires.few in
    let is : entry_of c.loop-e.self.core e.cpu ≡ e = sym here.stepped in
    record {
      at = c.in_ok-_overspent.ensures.at;
      core = front_more c.args.self.now.core.setup c.args.entries.now c.loop-e.e-index e c.loop-e.self.core _ c.loop-e.invariant.core c.loop-e-test.true (sym c.e-item.is)
          (c.in_ok-_overspent.ensures.core ∙ ap (λ (d : Entry). with_entry c.loop-e.self.core d) is);
    }

pub returns : goal.returns
returns c =
    let whole : List Entry → Run = λ es. record { setup = c.args.self.now.core.setup; entries = es } in
    subst (λ (r : Run). AreSpent r.setup.scenario r.entries c.loop-e.self.spent)
    (c.loop-e.invariant.core ∙ ap whole (take_all c.loop-e.e-index c.args.entries.now (let past = c.loop-e-test.false in omega (arith, past))))
    c.loop-e.invariant.at.spent
