use Rattle.std.proofs.Common.{◌∙◌, slice_index_or, slice_set, length-set, inl, inr, sym, ap, rules, arith}
use Rattle.std.proofs.lemmas.Bool.{cases_eq}
use Rattle.std.proofs.lemmas.List.{get_or_read, get_or-set_same, get_or-set_other}
use Rattle.aps_model.specs.declared.partition.PartitionRow.{PartitionRow}
use Rattle.aps_model.specs.Audit.{allowance}
use Rattle.aps_model.specs.Partition.{no_row, row_or_none}
use Rattle.aps_bound.proofs.allowed.allowed_of.Goals as goal

pub loop-p-preserved : goal.loop-p-preserved
loop-p-preserved c =
    let rows = c.rows-rows.result.now in
    let set = slice_set c.loop-p.allowed c.loop-p.p c.allowance.result in
    let allows = λ (row : PartitionRow). allowance c.shape-shape.result.now row.budget in
    let read = get_or_read rows c.loop-p.p c.index-rows-p.result (search rules) c.index-rows-p.is no_row in
    let own = get_or-set_same c.loop-p.allowed c.loop-p.p c.allowance.result 0 (search rules) ∙ c.allowance.ensures ∙ ap allows (sym c.index-rows-p.is ∙ read) in
    record {
      places = length-set c.loop-p.allowed c.loop-p.p c.allowance.result ∙ c.loop-p.invariant.places;
      same = λ k below. elim (cases_eq k c.loop-p.p) [
        | inl here ↦ ap (λ j. slice_index_or set j 0) here ∙ own ∙ ap (λ j. allows (row_or_none rows j)) (sym here)
        | inr other ↦ get_or-set_other c.loop-p.allowed c.loop-p.p k c.allowance.result 0 other ∙ c.loop-p.invariant.same k (omega (arith, below, other))
      ];
    }
