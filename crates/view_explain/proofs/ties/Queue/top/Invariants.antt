use Rattle.std.proofs.Common.{◌≡◌, take}
use Rattle.std.specs.Prelude.{unwrap_or}
use Rattle.aps_model.specs.Inherit.{top_of}
use Rattle.view_explain.proofs.ties.Queue.top.Given as goal

abbrev pub invariant-loop-m : goal.invariant-loop-m
invariant-loop-m l = l.top ≡ unwrap_or (top_of (take l.m-index l.self)) 0
