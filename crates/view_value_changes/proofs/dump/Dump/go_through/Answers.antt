use Rattle.std.proofs.Common.{◌≡◌, ◌+◌, ◌<◌, ◌∙◌, List, [], ◌∷◌, ◌++◌, length, take, drop, refl, ap, sym, subst, arith}
use Rattle.std.proofs.lemmas.List.{length-take-le}
use Rattle.aps_model.specs.declared.entry.Entry.{Entry}
use Rattle.aps_model.specs.Legal.{IsLegal}
use Rattle.laws_runs.proofs.Prefixes.{legal_up_to}
use Rattle.aps_core.specs.Run.{Run, Setup}
use Rattle.view_replay.proofs.Retraced.{front_more, parted}
use Rattle.view_texts.proofs.Told.{told_both, told_none, told_same}
use Rattle.view_value_changes.specs.declared.retracing.Retraced.{Retraced}
use Rattle.view_value_changes.specs.Dump.{Dumped, Telling, dumped, noted, telling_before, telling_of, text_before}
use Rattle.view_value_changes.specs.Retraced.{RetracedFollowsCore}
use Rattle.view_value_changes.proofs.Dumped.{dumped_more}
use Rattle.view_value_changes.proofs.dump.Dump.go_through.Goals as goal

pub loop-e-init : goal.loop-e-init
loop-e-init g c =
    let whole : List Entry → Run = λ es. record { setup = c.args.self.now.at.core.setup; entries = es } in
    record { at = c.requires.at; core = ap whole c.requires.begins; told = told_none _ _; telling = refl; later = omega arith }

pub go_on-requires-clause-at : goal.go_on-requires-clause-at
go_on-requires-clause-at g c = subst RetracedFollowsCore (sym c.in_ok-tell_before.ensures.at) c.loop-e.invariant.at

pub go_on-requires-clause-legal : goal.go_on-requires-clause-legal
go_on-requires-clause-legal g c =
    let setup = c.args.self.now.at.core.setup in
    let h = c.args.entries.now in
    let i = c.loop-e.e-index in
    let e = c.e-item.result in
    let legal = legal_up_to setup.scenario setup.order (take i h) (drop (i + 1) h) e (subst (IsLegal setup.scenario setup.order) (parted h i e c.loop-e-test.true (sym c.e-item.is)) c.requires.legal) in
    subst (λ (r : Run). IsLegal r.setup.scenario r.setup.order (r.entries ++ e ∷ [])) (sym (ap (λ (x : Retraced). x.core) c.in_ok-tell_before.ensures.at ∙ c.loop-e.invariant.core)) legal

pub go_on-requires-clause-room : goal.go_on-requires-clause-room
go_on-requires-clause-room g c =
    let less = c.loop-e-test.true in
    let count = length-take-le c.loop-e.e-index c.args.entries.now (omega (arith, less)) in
    subst (λ (r : Run). length r.entries < r.setup.limit) (sym (ap (λ (x : Retraced). x.core) c.in_ok-tell_before.ensures.at ∙ c.loop-e.invariant.core)) (let few = c.requires.few in omega (arith, count, less, few))

pub loop-e-preserved : goal.loop-e-preserved
loop-e-preserved g c =
    let setup = c.args.self.now.at.core.setup in
    let threads = c.args.threads.now in
    let rows = c.args.rows.now in
    let overspent = c.args.overspent.now in
    let h = c.args.entries.now in
    let i = c.loop-e.e-index in
    let e = c.e-item.result in
    let so_far = dumped setup threads rows (telling_of overspent c.args.self.now) (take i h) in
    let more = dumped_more setup threads rows (telling_of overspent c.args.self.now) h i e c.loop-e-test.true (sym c.e-item.is) in
    let same : c.loop-e.self.at.core.setup ≡ setup = ap (λ (r : Run). r.setup) c.loop-e.invariant.core in
    let after : c.tell_before.new.self.at.core.setup ≡ setup = ap (λ (x : Retraced). x.core.setup) c.in_ok-tell_before.ensures.at ∙ same in
    let before = c.in_ok-tell_before.ensures.telling overspent
    ∙ ap (λ (s : Setup). telling_before s (length rows) e.to (telling_of overspent c.loop-e.self)) same
    ∙ ap (telling_before setup (length rows) e.to) c.loop-e.invariant.telling in
    record {
      at = c.go_on.ensures.at;
      core = front_more setup h i e _ _ (ap (λ (x : Retraced). x.core) c.in_ok-tell_before.ensures.at ∙ c.loop-e.invariant.core) c.loop-e-test.true (sym c.e-item.is) c.go_on.ensures.core;
      told = told_same _ _ _ _ _ _ (sym (ap (λ (d : Dumped). d.text) more))
          (told_both _ _ _ _ _ _ _ _ c.loop-e.invariant.told
          (told_same _ _ _ _ _ _
          (ap (λ (s : Setup). text_before s threads rows e.to (telling_of overspent c.loop-e.self)) same
          ∙ ap (text_before setup threads rows e.to) c.loop-e.invariant.telling)
          c.in_ok-tell_before.ensures.told));
      telling = c.go_on.ensures.telling
          ∙ ap (λ (s : Setup). noted s (telling_of overspent c.tell_before.new.self) e) after
          ∙ ap (λ (t : Telling). noted setup t e) before
          ∙ sym (ap (λ (d : Dumped). d.telling) more);
      later = omega arith;
    }
