use Rattle.std.proofs.Common.{rules}
use Rattle.aps_levels.specs.Bits.{set_has}
use Rattle.aps_ready.proofs.Fewer.{is_one}
use Rattle.aps_ready.proofs.look.only.Goals as goal

pub returns-then-is_empty : goal.returns-then-is_empty
returns-then-is_empty c =
    let set = set_has c.args.set in
    let rest = set_has c.without_least.result in
    let least = c.in-Some.ensures.some in
    record {
      below = least.below;
      here = least.here;
      one = λ g h. is_one set rest c.in-Some.group g (c.without_least.ensures c.in-Some.group least) h (c.if-is_empty.ensures.empty (search rules) g);
    }
