use Rattle.std.proofs.Common.{◌∙◌, List, ap, refl, false}
use Rattle.std.proofs.lemmas.List.{get_or-replicate}
use Rattle.aps_model.specs.declared.partition.PartitionRow.{PartitionRow}
use Rattle.aps_model.specs.declared.shape.Shape.{Shape}
use Rattle.aps_model.specs.Audit.{allowance}
use Rattle.aps_model.specs.History.{History}
use Rattle.aps_model.specs.Limits.{most_partitions}
use Rattle.aps_model.specs.Partition.{row_or_none}
use Rattle.aps_core.specs.Run.{state_of_run}
use Rattle.view_samples.proofs.note.Note.fresh.Goals as goal

pub returns : goal.returns
returns c =
    let shape = c.shape-shape.ensures.same ∙ ap (λ (h : History). h.shape) c.history-history.ensures.same in
    let rows = c.rows.ensures.same ∙ ap (λ (h : History). h.rows) c.history-history.ensures.same in
    record {
      begun = record {
        window = ap (λ (s : Shape). s.window) shape;
        allowance = λ p less.
            c.allowances.ensures p less ∙ ap (λ (s : Shape). allowance s (row_or_none c.rows.result.now p).budget) shape
            ∙ ap (λ (l : List PartitionRow). allowance (state_of_run c.args.core.now).shape (row_or_none l p).budget) rows;
      };
      lacking = λ p less. get_or-replicate most_partitions p false false less;
      out = λ p less. get_or-replicate most_partitions p false false less;
      starved = refl;
      changed = refl;
    }
