use Rattle.std.proofs.Common.{◌≡◌, take}
use Rattle.view_replay.specs.Retraced.{front}
use Rattle.view_marks.specs.Alteration.{alterations_of}
use Rattle.view_marks.specs.Bar.{AreLanes}
use Rattle.view_marks.proofs.drawn.drawn_by.Given as goal

abbrev pub invariant-loop-e : goal.invariant-loop-e
invariant-loop-e l = record {
  core : l.core ≡ front (record l.fn.core.setup { scenario = l.scenario }) l.entries l.e-index;
  lanes : AreLanes l.scenario (take l.e-index l.entries) l.lanes.items;
  alterations : l.alterations.items ≡ alterations_of l.scenario (take l.e-index l.entries);
}
