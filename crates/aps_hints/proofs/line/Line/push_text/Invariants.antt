use Rattle.std.proofs.Common.{◌≡◌, ◌++◌, take}
use Rattle.aps_hints.specs.Line.{shown_text, cut}
use Rattle.aps_hints.proofs.line.Line.push_text.Given as goal

abbrev pub invariant-loop-byte : goal.invariant-loop-byte
invariant-loop-byte l = l.self ≡ cut (l.initial.self ++ shown_text (take l.byte-index l.text))
