use Rattle.std.proofs.Common.{◌≡◌, ◌+◌, ◌-◌, ap, arith, subst, ◌∙◌}
use Rattle.view_samples.specs.Sample.{sample_of}
use Rattle.view_pictures.specs.Survey.{IsSurvey}
use Rattle.view_pictures.proofs.Surveyed.{one_surveyed, same_surveyed, unchanged_few}
use Rattle.view_pictures.proofs.survey.Survey.pass.Goals as goal

pub add-requires : goal.add-requires
add-requires c =
    let few = unchanged_few c.args.history.now.scenario c.args.history.now.entries c.args.range.from (c.take.j - c.args.range.from) in
    let told = c.take.invariant.told.unchanged in
    let less = c.take-test.true in
    let end = c.args.range.few in
    omega (arith, few, told, less, end)

pub take-preserved : goal.take-preserved
take-preserved c =
    let scenario = c.args.history.now.scenario in
    let h = c.args.history.now.entries in
    let from = c.args.range.from in
    let begun = c.take.auto.j in
    let tick = c.take.invariant.tick in
    let next = c.next-sample.ensures.next in
    let place : from + (c.take.j - from) ≡ c.take.j = omega (arith, begun) in
    let more : c.take.j - from + 1 ≡ c.take.j + 1 - from = omega (arith, begun) in
    record {
      at = c.next-sample.ensures.at;
      of = c.next-sample.ensures.of;
      tick = omega (arith, next, tick);
      told = subst (λ n. IsSurvey scenario h c.args.sizes from n c.add.new.self) more
          (one_surveyed scenario h c.args.sizes from (c.take.j - from) c.take.j c.take.self c.add.new.self c.next-sample.result place
          (c.next-sample.ensures.same ∙ ap (sample_of scenario h) tick) c.take.invariant.told c.add.ensures.unchanged c.add.ensures.partial c.add.ensures.found);
    }

pub add-requires-2 : goal.add-requires-2
add-requires-2 c =
    let few = unchanged_few c.args.history.now.scenario c.args.history.now.entries c.args.range.from (c.take.j - c.args.range.from) in
    let told = c.take.invariant.told.unchanged in
    let same = c.in_ok-keep_rows.ensures.unchanged in
    let ends = c.take.auto.j-end in
    let end = c.args.range.few in
    omega (arith, few, told, same, ends, end)

pub returns : goal.returns
returns c =
    let scenario = c.args.history.now.scenario in
    let h = c.args.history.now.entries in
    let from = c.args.range.from in
    let begun = c.take.auto.j in
    let past = c.take-test.false in
    let ends = c.take.auto.j-end in
    let some = c.args.range.some in
    let place : from + (c.take.j - from) ≡ c.take.j = omega (arith, begun) in
    let all : c.take.j - from + 1 ≡ c.args.range.end - from = omega (arith, begun, past, ends, some) in
    let kept = same_surveyed scenario h c.args.sizes from (c.take.j - from) c.take.self c.keep_rows.new.self
    c.in_ok-keep_rows.ensures.unchanged c.in_ok-keep_rows.ensures.partial c.in_ok-keep_rows.ensures.found c.take.invariant.told in
    subst (λ n. IsSurvey scenario h c.args.sizes from n c.add-2.new.self) all
    (one_surveyed scenario h c.args.sizes from (c.take.j - from) c.take.j c.keep_rows.new.self c.add-2.new.self c.next-sample-2.result place
    (c.next-sample-2.ensures.same ∙ ap (sample_of scenario h) c.take.invariant.tick) kept c.add-2.ensures.unchanged c.add-2.ensures.partial c.add-2.ensures.found)
