use Rattle.std.proofs.Common.{◌≡◌, ◌++◌, ◌∙◌, ap, string_bytes, length, arith}
use Rattle.aps_model.specs.declared.shape.Shape.{Shape}
use Rattle.aps_model.specs.After.{state_after}
use Rattle.aps_model.specs.Scenario.{Scenario}
use Rattle.view_samples.specs.declared.sample.Sample.{Sample}
use Rattle.view_samples.specs.Csv.{line_of_tick, sample_line}
use Rattle.view_samples.specs.Sample.{sample_of}
use Rattle.view_texts.proofs.Texts.{next_tick, no_tick, same_ticks}
use Rattle.view_samples.proofs.table.add_lines.Goals as goal
use Rattle.view_samples.proofs.table.add_lines.Goals.{then-first-j+in_ok-add_line, else-first-j}

pub loop-j-init : goal.loop-j-init
loop-j-init c = record {
  text = no_tick (line_of_tick c.args.history.now.scenario c.args.history.now.entries) (string_bytes c.args.out.now) c.args.first 0 (omega arith);
  at = c.requires.at;
  of = c.requires.of;
  tick = c.requires.first;
}

pub loop-j-preserved : goal.loop-j-preserved
loop-j-preserved c =
    let scenario = c.args.history.now.scenario in
    let h = c.args.history.now.entries in
    let j = c.loop-j.j in
    let tick = c.loop-j.invariant.tick in
    let sample : c.next-sample.result ≡ sample_of scenario h j = c.next-sample.ensures.same ∙ ap (sample_of scenario h) tick in
    record {
      text = elim c.if-first-j.branch [
        | then-first-j+in_ok-add_line w ↦
            next_tick (line_of_tick scenario h) _ (string_bytes c.loop-j.out) _ c.args.first j (let at = w.if-first-j.true in omega (arith, at)) c.loop-j.invariant.text
            (ap string_bytes w.out-is ∙ w.in_ok-add_line.ensures
            ∙ ap (λ (s : Shape). string_bytes c.loop-j.out ++ sample_line s.tick c.args.rows c.next-sample.result) (c.shape.ensures.same ∙ ap (λ (s : Scenario). s.shape) c.scenario.ensures)
            ∙ ap (λ n. string_bytes c.loop-j.out ++ sample_line scenario.shape.tick n c.next-sample.result) c.requires.rows
            ∙ ap (λ (s : Sample). string_bytes c.loop-j.out ++ sample_line scenario.shape.tick (length (state_after scenario h).rows) s) sample)
        | else-first-j w ↦
            same_ticks (line_of_tick scenario h) _ _ c.args.first j (let below = w.if-first-j.false in omega (arith, below)) (ap string_bytes w.out-is ∙ c.loop-j.invariant.text)
      ];
      at = c.next-sample.ensures.at;
      of = c.next-sample.ensures.of;
      tick = let next = c.next-sample.ensures.next in omega (arith, next, tick);
    }
