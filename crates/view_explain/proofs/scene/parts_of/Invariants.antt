use Rattle.std.proofs.Common.{◌≡◌, map}
use Rattle.std.specs.Prelude.{All}
use Rattle.std.specs.List.{range_with_len}
use Rattle.aps_core.specs.Small.{IsSmall}
use Rattle.view_explain.specs.Parts.{part_by}
use Rattle.view_explain.proofs.scene.parts_of.Given as goal

abbrev pub invariant-loop-p : goal.invariant-loop-p
invariant-loop-p l = record {
  same : l.parts.items ≡ map (part_by l.shape l.rows l.usage) (range_with_len 0 l.p);
  small : All IsSmall l.parts.items;
}
