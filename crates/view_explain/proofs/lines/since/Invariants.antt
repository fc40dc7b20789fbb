use Rattle.std.proofs.Common.{◌≡◌, drop}
use Rattle.view_explain.specs.Text.{since}
use Rattle.view_explain.proofs.lines.since.Given as goal

abbrev pub invariant-loop-i : goal.invariant-loop-i
invariant-loop-i l = since l.life l.last l.at ≡ since (drop l.i l.life) l.last l.at
