use Rattle.std.proofs.Common.{◌≡◌, ◌≤◌, ◌∙◌, List, ◌++◌, take, ap, sym, subst, arith}
use Rattle.std.proofs.lemmas.List.{take_all}
use Rattle.aps_model.specs.declared.entry.Entry.{Entry}
use Rattle.aps_model.specs.Limits.{most_entries}
use Rattle.aps_core.specs.Run.{Run}
use Rattle.aps_core.specs.Turn.{IsTurnTaken, with_entry}
use Rattle.view_replay.specs.Entry.{entry_of}
use Rattle.view_replay.proofs.Retraced.{front_more, next_taken, one_more}
use Rattle.view_shares.specs.Spent.{overspent_listed, overspent_by, overspent_of}
use Rattle.view_shares.proofs.Overspent.{overspent_begins, overspent_more}
use Rattle.view_shares.proofs.overspending.Pass.collect.Goals as goal

pub loop-e-init : goal.loop-e-init
loop-e-init c =
    let whole : List Entry → Run = λ es. record { setup = c.args.self.now.core.setup; entries = es } in
    record { at = c.requires.at; core = ap whole c.requires.begins; all = c.new-all.ensures.items ∙ sym (overspent_begins c.args.self.now.core.setup.scenario) }

pub go_on-requires-clause-at : goal.go_on-requires-clause-at
go_on-requires-clause-at c = c.loop-e.invariant.at

pub go_on-requires-clause-goes_on : goal.go_on-requires-clause-goes_on
go_on-requires-clause-goes_on c =
    (next_taken c.args.self.now.core.setup c.args.entries.now c.loop-e.e-index c.e-item.result c.loop-e.self.core c.loop-e.invariant.core c.requires.legal c.loop-e-test.true (sym c.e-item.is) c.requires.few).goes_on

pub go_on-requires-clause-turn : goal.go_on-requires-clause-turn
go_on-requires-clause-turn c =
    (next_taken c.args.self.now.core.setup c.args.entries.now c.loop-e.e-index c.e-item.result c.loop-e.self.core c.loop-e.invariant.core c.requires.legal c.loop-e-test.true (sym c.e-item.is) c.requires.few).turn

pub go_on-requires-clause-few : goal.go_on-requires-clause-few
go_on-requires-clause-few c = subst (λ (r : Run). r.setup.limit ≤ most_entries) (sym c.loop-e.invariant.core) c.requires.most

pub loop-e-preserved : goal.loop-e-preserved
loop-e-preserved c =
    let e = c.e-item.result in
    let here : IsTurnTaken c.loop-e.self.core e.cpu e = next_taken c.args.self.now.core.setup c.args.entries.now c.loop-e.e-index e c.loop-e.self.core c.loop-e.invariant.core c.requires.legal c.loop-e-test.true (sym c.e-item.is) c.requires.few in
    let is : entry_of c.loop-e.self.core e.cpu ≡ e = sym here.stepped in
    let scenario = c.args.self.now.core.setup.scenario in
    let h = take c.loop-e.e-index c.args.entries.now in
    let more = sym (one_more c.args.entries.now c.loop-e.e-index c.e-item.result c.loop-e-test.true (sym c.e-item.is)) in
    record {
      at = c.in_ok-overspent.ensures.at;
      core = front_more c.args.self.now.core.setup c.args.entries.now c.loop-e.e-index e c.loop-e.self.core _ c.loop-e.invariant.core c.loop-e-test.true (sym c.e-item.is)
          (c.in_ok-overspent.ensures.core ∙ ap (λ (d : Entry). with_entry c.loop-e.self.core d) is);
      all = c.in_ok-add.ensures ∙ ap (λ l. l ++ overspent_listed c.in_ok-overspent.overspent) c.loop-e.invariant.all
          ∙ ap (λ o. overspent_of scenario h ++ overspent_listed o) (c.in_ok-overspent.ensures.overspent ∙ ap (λ (d : Entry). overspent_by c.loop-e.self.core.setup.scenario c.loop-e.self.core.entries d) is ∙ ap (λ (r : Run). overspent_by r.setup.scenario r.entries c.e-item.result) c.loop-e.invariant.core)
          ∙ sym (overspent_more scenario h c.e-item.result) ∙ ap (overspent_of scenario) more;
    }

pub returns : goal.returns
returns c =
    c.loop-e.invariant.all
    ∙ ap (overspent_of c.args.self.now.core.setup.scenario) (take_all c.loop-e.e-index c.args.entries.now (let past = c.loop-e-test.false in omega (arith, past)))
