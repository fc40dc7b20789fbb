use Rattle.std.proofs.Common.{rules, ◌≡◌}
use Rattle.aps_hints.proofs.Cuts.{text_none, text_more}
use Rattle.aps_hints.proofs.line.Line.push_text.Goals as goal

pub loop-byte-init : goal.loop-byte-init
loop-byte-init c =
    let same : c.args.self.now ≡ c.self.inside.bytes.items = search rules in text_none _ _ same c.self.invariant

pub loop-byte-preserved : goal.loop-byte-preserved
loop-byte-preserved c = text_more _ _ _ _ _ c.loop-byte-test.true c.loop-byte.invariant c.in_ok-push.ensures
