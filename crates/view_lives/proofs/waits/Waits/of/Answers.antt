use Rattle.std.proofs.Common.{◌≡◌, ◌+◌, ◌∷◌, ◌++◌, [], ◌∙◌, take, ap, sym}
use Rattle.std.proofs.lemmas.List.{take_more}
use Rattle.std.proofs.lemmas.List.Sums.{fold-append}
use Rattle.view_lives.specs.declared.life.Segment.{Segment}
use Rattle.view_lives.specs.Waits.{no_waits, waits_in, with_next}
use Rattle.view_lives.proofs.waits.Waits.of.Goals as goal

pub loop-segment-preserved : goal.loop-segment-preserved
loop-segment-preserved c =
    let life = c.segments-segment-items.result.now in
    let i = c.loop-segment.segment-index in
    let segment = c.segment-item.result in
    let next : take (i + 1) life ≡ take i life ++ segment ∷ [] =
    take_more life i segment c.loop-segment-test.true ∙ ap (λ (s : Segment). take i life ++ s ∷ []) (sym c.segment-item.is) in
    record {
      same = c.with-waits.ensures.same ∙ ap (λ waits. with_next waits segment) c.loop-segment.invariant.same
          ∙ sym (ap waits_in next ∙ fold-append with_next no_waits (take i life) (segment ∷ []));
      wake = c.with-waits.ensures.few_wakes i c.loop-segment.invariant.wake;
      preempted = c.with-waits.ensures.few_preempted i c.loop-segment.invariant.preempted;
    }
