use Rattle.std.proofs.Common.{◌+◌, ◌*◌, List, subst, arith}
use Rattle.aps_levels.specs.declared.bits.Bits64.{Bits64}
use Rattle.aps_levels.specs.Bits.{set_has}
use Rattle.aps_ready.specs.Table.{AreAtLeast, IsFirstLevel, IsLevelFree}
use Rattle.aps_ready.proofs.TableLaws.{first_is_least, quarter_free}
use Rattle.aps_ready.proofs.table.Table.least.Goals as goal

pub quarters-preserved : goal.quarters-preserved
quarters-preserved c l low =
    let s = c.self.inside in
    quarter_free s.at_level.items s.levels s.of_group.items s.occupied c.quarter-word.result (set_has c.args.set) (64 * c.quarters.q) 64 c.self.invariant
    (omega (arith, c.quarters-test.true)) (omega arith) c.quarter-word.ensures c.quarters.invariant
    (λ k below h. subst (λ (t : List Bits64). IsLevelFree t (set_has c.args.set) (64 * c.quarters.q + k)) c.deref.ensures.value (c.in_default.ensures.none k below h))
    l (omega (arith, low))

pub returns-in-Some-clause-some : goal.returns-in-Some-clause-some
returns-in-Some-clause-some c =
    let s = c.self.inside in
    let found = c.in-Some.found in
    let from = 64 * c.quarters.q in
    subst (λ (t : List Bits64). AreAtLeast t (set_has c.args.set) found.level (set_has found.groups)) c.self.view_is
    (first_is_least s.at_level.items s.levels s.of_group.items s.occupied c.quarter-word.result (set_has c.args.set) from found.level (set_has found.groups) c.self.invariant
    (omega (arith, c.quarters-test.true)) c.quarter-word.ensures c.quarters.invariant
    (subst (λ (t : List Bits64). IsFirstLevel t c.quarter-word.result (set_has c.args.set) from found.level (set_has found.groups)) c.deref.ensures.value c.in-Some.ensures.some))
