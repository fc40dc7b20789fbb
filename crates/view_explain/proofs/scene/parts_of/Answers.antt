use Rattle.std.proofs.Common.{◌≡◌, ◌∙◌, ◌++◌, ◌∷◌, [], List, ap, arith, map, sym, subst}
use Rattle.std.specs.Prelude.{All}
use Rattle.std.specs.List.{range_with_len}
use Rattle.std.proofs.lemmas.List.{get_or_read}
use Rattle.std.proofs.lemmas.List.Elements.{All-append, All-cons, All-nil}
use Rattle.std.proofs.lemmas.List.FromFn.{map-range_with_len_more}
use Rattle.aps_model.specs.declared.merit.PartFacts.{PartFacts}
use Rattle.aps_model.specs.declared.partition.PartitionRow.{PartitionRow}
use Rattle.aps_model.specs.Partition.{no_row}
use Rattle.aps_core.specs.Small.{IsSmall}
use Rattle.view_explain.specs.Parts.{part_by, part_by_row}
use Rattle.view_explain.proofs.scene.parts_of.Goals as goal

pub loop-p-preserved : goal.loop-p-preserved
loop-p-preserved c =
    let shape = c.shape-shape.result.now in
    let rows = c.rows-rows.result.now in
    let usage = c.args.usage.now in
    let p = c.loop-p.p in
    let before = c.loop-p.parts.items in
    let part = c.part_by.result in
    let row = get_or_read rows p c.index-rows-p.result c.loop-p-test.true c.index-rows-p.is no_row in
    let same : part ≡ part_by shape rows usage p = c.part_by.ensures.same ∙ ap (λ (r : PartitionRow). part_by_row shape r usage p) row in
    let items = c.in_ok-push.ensures.items in
    record {
      same = items ∙ ap (λ (l : List PartFacts). l ++ part ∷ []) c.loop-p.invariant.same
          ∙ ap (λ (d : PartFacts). map (part_by shape rows usage) (range_with_len 0 p) ++ d ∷ []) same ∙ sym (map-range_with_len_more (part_by shape rows usage) 0 p p (omega arith));
      small = subst (λ (l : List PartFacts). All IsSmall l) (sym items)
          (All-append IsSmall before (part ∷ []) c.loop-p.invariant.small (All-cons IsSmall part [] c.part_by.ensures.small (All-nil IsSmall)));
    }
