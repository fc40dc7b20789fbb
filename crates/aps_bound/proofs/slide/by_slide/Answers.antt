use Rattle.std.proofs.Common.{rules, arith}
use Rattle.aps_bound.proofs.Growth.{windows_done, windows_more}
use Rattle.aps_bound.proofs.slide.by_slide.Goals as goal

pub loop-a-preserved : goal.loop-a-preserved
loop-a-preserved c = record {
  same = search (rules, windows_more);
  limits = search rules;
  reached = omega arith;
  window = search rules;
  first = search rules;
  end = search rules;
}

pub returns : goal.returns
returns c = search (rules, windows_done)
