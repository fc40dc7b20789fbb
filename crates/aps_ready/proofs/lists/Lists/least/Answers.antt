use Rattle.std.proofs.Common.{ℕ, ◌<◌, List, Option, Some, None, IfSome, IfNone, subst}
use Rattle.aps_levels.specs.declared.bits.Bits64.{Bits64}
use Rattle.aps_levels.specs.Bits.{set_has}
use Rattle.aps_levels.specs.Levels.{level_count}
use Rattle.aps_ready.specs.declared.entrant.Entrant.{Entrant}
use Rattle.aps_ready.specs.declared.table.Found.{Found}
use Rattle.aps_ready.specs.Firsts.{firsts_of, AreAt, AreEmpty, AreLeast}
use Rattle.aps_ready.specs.Lists.{AreLists}
use Rattle.aps_ready.specs.Table.{AreAtLeast, IsLevelFree}
use Rattle.aps_ready.proofs.Looks.{least_is, least_at, none_least}
use Rattle.aps_ready.proofs.lists.Lists.least.Goals as goal

some_least : (row : List Entrant) (after before : List ℕ) (at_level : List Bits64) (set : Bits64) (r : Option Found) → AreLists row after before at_level
    → IfSome r (λ found. AreAtLeast at_level (set_has set) found.level (set_has found.groups))
    → IfSome r (λ found. AreLeast (firsts_of row) (set_has set) (set_has found.groups))
some_least row after before at_level set (Some found) lists is = least_is row after before at_level (set_has set) (set_has found.groups) found.level lists is
some_least row after before at_level set None lists is = is

some_at : (row : List Entrant) (after before : List ℕ) (at_level : List Bits64) (set : Bits64) (r : Option Found) → AreLists row after before at_level
    → IfSome r (λ found. AreAtLeast at_level (set_has set) found.level (set_has found.groups))
    → IfSome r (λ found. AreAt (firsts_of row) (set_has found.groups) found.level)
some_at row after before at_level set (Some found) lists is = least_at row after before at_level (set_has set) (set_has found.groups) found.level lists is
some_at row after before at_level set None lists is = is

none_empty : (row : List Entrant) (after before : List ℕ) (at_level : List Bits64) (set : Bits64) (r : Option Found) → AreLists row after before at_level
    → IfNone r ((l : ℕ) → l < level_count → IsLevelFree at_level (set_has set) l) → IfNone r (AreEmpty (firsts_of row) set)
none_empty row after before at_level set (Some found) lists is = is
none_empty row after before at_level set None lists is = none_least row after before at_level set lists is

pub returns-clause-some : goal.returns-clause-some
returns-clause-some c =
    let s = c.self.inside in
    subst (λ (row : List Entrant). IfSome c.least.result (λ found. AreLeast (firsts_of row) (set_has c.args.set) (set_has found.groups))) c.self.view_is
    (some_least s.row.items s.after.items s.before.items s.table c.args.set c.least.result c.self.invariant c.least.ensures.some)

pub returns-clause-at : goal.returns-clause-at
returns-clause-at c =
    let s = c.self.inside in
    subst (λ (row : List Entrant). IfSome c.least.result (λ found. AreAt (firsts_of row) (set_has found.groups) found.level)) c.self.view_is
    (some_at s.row.items s.after.items s.before.items s.table c.args.set c.least.result c.self.invariant c.least.ensures.some)

pub returns-clause-none : goal.returns-clause-none
returns-clause-none c =
    let s = c.self.inside in
    subst (λ (row : List Entrant). IfNone c.least.result (AreEmpty (firsts_of row) c.args.set)) c.self.view_is
    (none_empty s.row.items s.after.items s.before.items s.table c.args.set c.least.result c.self.invariant c.least.ensures.none)
