use Rattle.std.proofs.Common.{◌≡◌, ℕ, ◌++◌, ◌∙◌, List, ap, subst}
use Rattle.std.specs.Io.KnownBytes.{Appends}
use Rattle.aps_model.specs.declared.partition.PartitionRow.{PartitionRow}
use Rattle.aps_model.specs.After.{state_after}
use Rattle.aps_core.specs.Run.{Run, Setup}
use Rattle.view_texts.proofs.Pieces.{on_ok}
use Rattle.view_value_changes.specs.Dump.{body_text, dump_text}
use Rattle.view_value_changes.specs.Signals.{head_text}
use Rattle.view_value_changes.proofs.dumping.vcd.Goals as goal

pub returns-clause-whole : goal.returns-clause-whole
returns-clause-whole g c =
    let scenario = c.args.history.now.scenario in
    let h = c.args.history.now.entries in
    let rows = (state_after scenario h).rows in
    let overspent = c.args.overspent.now in
    let setup = c.in_ok-dump.dump.at.core.setup in
    let text : List PartitionRow → Setup → List ℕ = λ rs s. head_text scenario.shape.cpus rs scenario.threads ++ body_text s scenario.threads rs overspent h in
    let same : text c.as_slice.result.now setup ≡ dump_text scenario h overspent =
    ap (λ (rs : List PartitionRow). text rs setup) (c.as_slice.ensures.value ∙ c.in_ok-rows.ensures.same) ∙ ap (λ (r : Run). text rows r.setup) c.in_ok-dump.ensures.core in
    on_ok c.write_dump.result (λ last. subst (Appends (g.K.Sink.written c.args.sink.now) (g.K.Sink.written c.write_dump.new.sink)) same last) c.write_dump.ensures.whole
