use Rattle.std.proofs.Common.{rules, ◌≡◌, arith}
use Rattle.std.specs.Result.{is_ok}
use Rattle.aps_hints.proofs.Cuts.{line_more, line_full}
use Rattle.aps_hints.proofs.line.Line.push.Goals as goal

pub invariant_of-self : goal.invariant_of-self
invariant_of-self c = line_more _ _ c.args.byte (is_ok c.push.result) c.self.invariant (omega arith) (search rules)

pub returns-else-len-lt-MOST_BYTES : goal.returns-else-len-lt-MOST_BYTES
returns-else-len-lt-MOST_BYTES c =
    let same : c.args.self.now ≡ c.self.inside.bytes.items = search rules in
    line_full _ _ _ same c.self.invariant (omega arith)
