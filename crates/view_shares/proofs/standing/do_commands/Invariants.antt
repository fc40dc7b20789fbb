use Rattle.std.proofs.Common.{◌≡◌, take}
use Rattle.view_shares.specs.Standing.{all_commanded, stand}
use Rattle.view_shares.proofs.standing.do_commands.Given as goal

abbrev pub invariant-loop-row : goal.invariant-loop-row
invariant-loop-row l = record {
  stands : stand l.tree.rows l.shape ≡ all_commanded l.tick (take l.row-index l.commands) (stand l.initial.tree.rows l.initial.shape);
  parts : l.tree.parts ≡ l.shape.parts;
}
