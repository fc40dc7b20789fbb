use Rattle.std.proofs.Common.{min, ◌∙◌, arith, sym}
use Rattle.aps_model.specs.Due.{last_end}
use Rattle.aps_model.proofs.Ranges.{fold_more}
use Rattle.aps_bound.proofs.finished.finished_ticks.Goals as goal

pub loop-cpu-preserved : goal.loop-cpu-preserved
loop-cpu-preserved c = record {
  same =
      c.earlier-least.ensures
      ∙ rw (c.last_end.ensures.same, c.loop-cpu.invariant.same)
      (sym (fold_more (λ least c'. min least (last_end c.args.entries.now c')) _ 0 c.loop-cpu.cpu c.loop-cpu.cpu (omega arith)));
  early = omega (arith, c.earlier-least.ensures, c.loop-cpu.invariant.early);
}
