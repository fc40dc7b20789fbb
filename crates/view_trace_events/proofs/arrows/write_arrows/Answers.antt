use Rattle.std.proofs.Common.{◌∙◌, ap, arith, subst, sym}
use Rattle.view_marks.specs.Arrow.{arrow_of}
use Rattle.std.proofs.Common.{◌≤◌, ◌+◌}
use Rattle.view_texts.proofs.Pieces.{as_other}
use Rattle.view_trace_events.proofs.ArrowCounts.{arrows_more, one_number_more}
use Rattle.view_texts.proofs.Told.{told_both, told_item, told_same}
use Rattle.view_trace_events.specs.Arrows.{Arrows, entry_events, arrow_number_after}
use Rattle.view_trace_events.proofs.arrows.write_arrows.Goals as goal

pub loop-e-preserved : goal.loop-e-preserved
loop-e-preserved g c =
    let threads = c.args.threads.now in
    let e = c.e-item.result in
    let more = arrows_more threads c.args.entries.now c.loop-e.e-index e c.loop-e-test.true (sym c.e-item.is) in
    record {
      told = told_same _ _ _ _ _ _ (sym (ap (λ (arrows : Arrows). arrows.text) more))
          (told_both _ _ _ _ _ _ _ _ c.loop-e.invariant.told
          (told_item _ _ _ _ _ _ (as_other (λ n. entry_events threads n e) _ _ _ _ c.in_ok-count.ensures.text c.loop-e.invariant.next) c.in_ok-make_room.ensures.told));
      later = omega arith;
      next = c.in_ok-count.ensures.next ∙ ap (λ n. arrow_number_after n e) c.loop-e.invariant.next ∙ sym (ap (λ (arrows : Arrows). arrows.next) more);
      few = subst (λ n. n ≤ c.loop-e.e-index + 1) (sym c.in_ok-count.ensures.next) (one_number_more c.loop-e.count c.loop-e.e-index (arrow_of e) c.loop-e.invariant.few);
    }
