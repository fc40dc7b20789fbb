use Rattle.std.proofs.Common.{sym}
use Rattle.aps_core.proofs.recording.tell.Goals as goal

pub returns-else-is_changed : goal.returns-else-is_changed
returns-else-is_changed c =
    let told = c.requires.told c.if-is_changed.false in
    λ i. record c.args.history.now {
      replies = sym told.replies i;
      changes = sym told.changes i;
      rows = sym told.rows i;
      shape = sym told.shape i;
    }
