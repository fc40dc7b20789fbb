use Rattle.std.proofs.Common.{◌≡◌, ◌≤◌, ◌-◌, ◌++◌, take, drop, length}
use Rattle.aps_model.specs.Messages.{without_sender}
use Rattle.view_explain.proofs.ties.Queue.remove.Given as goal

abbrev pub invariant-loop-place : goal.invariant-loop-place
invariant-loop-place l = record {
  within : l.place ≤ length l.self-inside.messages.items;
  same : without_sender l.sender l.self-inside.messages.items ≡ take l.place l.self-inside.messages.items ++ without_sender l.sender (drop l.place l.self-inside.messages.items);
}

abbrev pub decreases-loop-place : goal.decreases-loop-place
decreases-loop-place l = length l.self-inside.messages.items - l.place
