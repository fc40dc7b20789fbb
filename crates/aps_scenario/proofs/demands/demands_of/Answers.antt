use Rattle.std.proofs.Common.{inl, inr}
use Rattle.aps_scenario.specs.Demands.{demands_at}
use Rattle.aps_scenario.proofs.Documents.{reads-document, reads-no_document}
use Rattle.aps_scenario.proofs.demands.demands_of.Goals as goal

pub returns-in-Ok : goal.returns-in-Ok
returns-in-Ok c = rw (reads-document demands_at c.args.bytes.now _ c.in-Ok.ensures.ok.0 c.in-Ok.ensures.ok.1) c.demands_in.ensures

pub returns-in-Err : goal.returns-in-Err
returns-in-Err c =
    elim c.no_document.ensures [
      | inl memory ↦ rw memory tt
      | inr other ↦ rw other.1 (reads-no_document demands_at c.args.bytes.now (c.in-Err.ensures.refused other.0))
    ]
