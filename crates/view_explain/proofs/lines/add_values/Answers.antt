use Rattle.std.proofs.Common.{append_assoc}
use Rattle.view_explain.proofs.lines.add_values.Goals as goal

pub returns : goal.returns
returns c = rw (← c.yes_or_no-critical.ensures, ← c.row_name-name.ensures, ← c.index-p.ensures.same) (simp append_assoc c.write.ensures.bytes)
