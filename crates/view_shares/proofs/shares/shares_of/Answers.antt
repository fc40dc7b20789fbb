use Rattle.std.proofs.Common.{◌≡◌, ◌∙◌, ap, subst, arith}
use Rattle.aps_model.specs.Loaded.{finished_ticks}
use Rattle.aps_model.specs.Scenario.{Scenario}
use Rattle.view_samples.specs.declared.sample.Sample.{Sample}
use Rattle.view_samples.specs.Sample.{sample_of}
use Rattle.view_shares.specs.Shares.{AreUpTo, tick_of_all}
use Rattle.view_shares.proofs.Folded.{none_told, one_told, told_few}
use Rattle.view_shares.proofs.shares.shares_of.Goals as goal

pub loop-init : goal.loop-init
loop-init c = record {
  told = none_told c.args.history.now.scenario c.args.history.now.entries c.none-shares.result c.none-shares.ensures.counts c.none-shares.ensures.each;
  at = c.requires.at;
  of = c.requires.of;
  tick = c.requires.first;
}

pub next-sample-requires-clause-at : goal.next-sample-requires-clause-at
next-sample-requires-clause-at c = c.loop.invariant.at

pub next-sample-requires-clause-of : goal.next-sample-requires-clause-of
next-sample-requires-clause-of c = c.loop.invariant.of

pub next-sample-requires-clause-finished : goal.next-sample-requires-clause-finished
next-sample-requires-clause-finished c =
    let all : c.finished_ticks-finished.result ≡ finished_ticks c.args.history.now.scenario.shape c.args.history.now.entries =
    c.finished_ticks-finished.ensures.same
    ∙ (λ i. finished_ticks (c.shape-shape.ensures.same i) c.entries.result.now)
    ∙ ap (λ (s : Scenario). finished_ticks s.shape c.entries.result.now) c.scenario.ensures
    ∙ (λ i. finished_ticks c.args.history.now.scenario.shape (c.entries.ensures.same i)) in
    let tick = c.loop.invariant.tick in
    let less = c.loop-test.true in
    omega (arith, all, tick, less)

pub next-sample-requires-clause-few : goal.next-sample-requires-clause-few
next-sample-requires-clause-few c =
    let tick = c.loop.invariant.tick in
    let less = c.loop-test.true in
    let few = c.finished_ticks-finished.ensures.few in
    omega (arith, tick, less, few)

pub add-requires-clause-few : goal.add-requires-clause-few
add-requires-clause-few c =
    let less = c.loop-test.true in
    let few = c.finished_ticks-finished.ensures.few in
    told_few c.args.history.now.scenario c.args.history.now.entries c.loop.counter c.loop.shares (omega (arith, less, few)) c.loop.invariant.told

pub add-requires-clause-tick : goal.add-requires-clause-tick
add-requires-clause-tick c =
    let tick = c.loop.invariant.tick in
    let less = c.loop-test.true in
    let few = c.finished_ticks-finished.ensures.few in
    let told = ap (λ (s : Sample). s.tick) c.next-sample.ensures.same in
    omega (arith, tick, less, few, told)

pub loop-preserved : goal.loop-preserved
loop-preserved c =
    let scenario = c.args.history.now.scenario in
    let h = c.args.history.now.entries in
    let tick = c.loop.invariant.tick in
    let turn : c.tick_of_all-turn.result ≡ tick_of_all scenario.shape =
    c.tick_of_all-turn.ensures ∙ ap tick_of_all (c.shape-shape.ensures.same ∙ ap (λ (s : Scenario). s.shape) c.scenario.ensures) in
    let next = c.next-sample.ensures.next in
    record {
      told = one_told scenario h c.loop.counter c.tick_of_all-turn.result c.loop.shares c.add.new.self c.next-sample.result
          (c.next-sample.ensures.same ∙ ap (sample_of scenario h) tick) turn c.loop.invariant.told c.add.ensures.counts c.add.ensures.each;
      at = c.next-sample.ensures.at;
      of = c.next-sample.ensures.of;
      tick = omega (arith, next, tick);
    }

pub returns-clause-told : goal.returns-clause-told
returns-clause-told c =
    let all : c.finished_ticks-finished.result ≡ finished_ticks c.args.history.now.scenario.shape c.args.history.now.entries =
    c.finished_ticks-finished.ensures.same
    ∙ (λ i. finished_ticks (c.shape-shape.ensures.same i) c.entries.result.now)
    ∙ ap (λ (s : Scenario). finished_ticks s.shape c.entries.result.now) c.scenario.ensures
    ∙ (λ i. finished_ticks c.args.history.now.scenario.shape (c.entries.ensures.same i)) in
    let ends = c.loop.auto.counter-end in
    let past = c.loop-test.false in
    let same : c.loop.counter ≡ finished_ticks c.args.history.now.scenario.shape c.args.history.now.entries = omega (arith, all, ends, past) in
    subst (λ n. AreUpTo c.args.history.now.scenario c.args.history.now.entries n c.loop.shares) same c.loop.invariant.told
