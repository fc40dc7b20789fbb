use Rattle.std.proofs.Common.{arith}
use Rattle.view_samples.specs.Csv.{part_cells}
use Rattle.view_texts.proofs.Texts.{tick_more}
use Rattle.view_samples.proofs.table.add_parts.Goals as goal

pub loop-p-preserved : goal.loop-p-preserved
loop-p-preserved c = tick_more (part_cells c.args.sample.now) _ _ _ 0 c.loop-p.p c.loop-p.p (omega arith) c.loop-p.invariant c.in_ok-add_part.ensures
