use Rattle.std.proofs.Common.{◌≡◌, ◌+◌, ◌*◌, ◌∷◌, ◌++◌, [], ◌∙◌, take, ap, sym, subst, arith}
use Rattle.std.proofs.lemmas.List.{take_more}
use Rattle.std.proofs.lemmas.List.Sums.{fold-append}
use Rattle.view_lives.specs.declared.life.Segment.{Segment}
use Rattle.view_lives.specs.Cycle.{Cycles, cycles_in, no_cycles, with_segment}
use Rattle.view_lives.proofs.Bounds.{AreSmall, small_more}
use Rattle.view_lives.proofs.cycle.Cycles.of.Goals as goal

pub loop-segment-preserved : goal.loop-segment-preserved
loop-segment-preserved c =
    let life = c.segments-segment-items.result.now in
    let i = c.loop-segment.segment-index in
    let segment = c.segment-item.result in
    let before = c.loop-segment.cycles in
    let next : take (i + 1) life ≡ take i life ++ segment ∷ [] =
    take_more life i segment c.loop-segment-test.true ∙ ap (λ (s : Segment). take i life ++ s ∷ []) (sym c.segment-item.is) in
    let here : c.add.new.self ≡ with_segment before segment = c.in_ok-add.ensures.same in
    let size : i * 18446744073709551616 + 18446744073709551616 ≡ (i + 1) * 18446744073709551616 = omega arith in
    record {
      same = here ∙ ap (λ cycles. with_segment cycles segment) c.loop-segment.invariant.same
          ∙ sym (ap cycles_in next ∙ fold-append with_segment no_cycles (take i life) (segment ∷ []));
      small = subst (λ (cycles : Cycles). AreSmall ((i + 1) * 18446744073709551616) cycles.current) (sym here)
          (subst (λ n. AreSmall n (with_segment before segment).current) size
          (small_more (i * 18446744073709551616) 18446744073709551616 before segment c.in_ok-add.ensures.short c.loop-segment.invariant.small));
    }
