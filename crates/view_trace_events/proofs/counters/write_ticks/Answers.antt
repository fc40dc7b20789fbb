use Rattle.std.proofs.Common.{◌≡◌, ◌∙◌, Option, Some, ap, arith, sym}
use Rattle.std.proofs.Math.Numerals.{add-one}
use Rattle.aps_model.specs.declared.shape.Shape.{Shape}
use Rattle.aps_model.specs.Scenario.{Scenario}
use Rattle.view_samples.specs.declared.sample.Sample.{Sample}
use Rattle.view_samples.specs.Sample.{sample_of}
use Rattle.view_texts.proofs.Pieces.{as_other}
use Rattle.view_texts.proofs.Told.{told_item, told_tick}
use Rattle.view_trace_events.specs.Counters.{before_tick, sample_events, tick_events}
use Rattle.view_trace_events.proofs.counters.write_ticks.Goals as goal

pub loop-preserved : goal.loop-preserved
loop-preserved g c =
    let scenario = c.args.history.now.scenario in
    let h = c.args.history.now.entries in
    let rows = c.args.rows in
    let j = c.loop.counter in
    let at = c.loop.invariant.tick in
    let next = c.next-sample.ensures.next in
    let tick : c.shape.result.now.tick ≡ scenario.shape.tick =
    ap (λ (s : Shape). s.tick) c.shape.ensures.same ∙ ap (λ (s : Scenario). s.shape.tick) c.scenario.ensures in
    let sample : c.next-sample.result ≡ sample_of scenario h j = c.next-sample.ensures.same ∙ ap (sample_of scenario h) at in
    record {
      told = told_tick (tick_events scenario h rows) _ _ _ _ _ _ j c.loop.invariant.told
          (told_item _ _ _ _ _ _
          (as_other (sample_events scenario.shape.tick rows (before_tick scenario h j)) _ _ _ _
          (as_other (λ (before : Option Sample). sample_events scenario.shape.tick rows before c.next-sample.result) _ _ _ _
          (as_other (λ t. sample_events t rows c.loop.before c.next-sample.result) _ _ _ _ c.in_ok-add_sample.ensures tick) c.loop.invariant.before) sample)
          c.in_ok-make_room.ensures.told);
      later = omega arith;
      at = c.next-sample.ensures.at;
      of = c.next-sample.ensures.of;
      tick = omega (arith, next, at);
      before = ap (λ (s : Sample). Some s) sample ∙ sym (ap (before_tick scenario h) (add-one j));
    }
