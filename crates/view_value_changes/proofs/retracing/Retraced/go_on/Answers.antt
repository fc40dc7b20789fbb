use Rattle.std.proofs.Common.{ap, subst, sym}
use Rattle.aps_core.specs.Run.{Run}
use Rattle.view_replay.proofs.Retraced.{taken}
use Rattle.view_shares.specs.Usages.{AreUsagesCounted}
use Rattle.view_value_changes.proofs.retracing.Retraced.go_on.Goals as goal

pub retrace-requires : goal.retrace-requires
retrace-requires c = taken c.args.self.now.core c.args.e.now c.requires.legal c.requires.room

pub add-requires : goal.add-requires
add-requires c =
    let self = c.args.self.now in
    let at = subst (λ (r : Run). AreUsagesCounted r.setup.scenario self.core.entries self.usages) (sym c.retrace.ensures) c.requires.at.up.counted in
    record { last = (self.core.entries, ap (λ (r : Run). r.entries) c.retrace.ensures, at) }
