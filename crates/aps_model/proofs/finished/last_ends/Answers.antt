use Rattle.std.proofs.Common.{◌≤◌, arith, take}
use Rattle.std.proofs.Math.ListN.{length-set}
use Rattle.std.proofs.lemmas.List.Elements.{All-set}
use Rattle.aps_model.specs.History.{IsEntry}
use Rattle.aps_model.specs.Limits.{last_moment}
use Rattle.aps_model.proofs.Ends.{ends_more, taken}
use Rattle.aps_model.proofs.finished.last_ends.Goals as goal

pub loop-e-preserved : goal.loop-e-preserved
loop-e-preserved c =
    let this : IsEntry c.e-item.result = rw c.e-item.is (c.requires c.loop-e.e-index c.e-item.result c.loop-e-test.true) in
    record {
      places = rw length-set c.loop-e.invariant.places;
      each =
          rw (taken _ _ c.e-item.result c.loop-e-test.true c.e-item.is, c.index.ensures.same)
          (ends_more c.loop-e.ends (take c.loop-e.e-index c.args.entries.now) c.e-item.result (omega arith) c.loop-e.invariant.each);
      early = All-set (λ end. end ≤ last_moment) _ _ _ this.to c.loop-e.invariant.early;
    }
