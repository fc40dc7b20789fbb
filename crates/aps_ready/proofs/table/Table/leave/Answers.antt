use Rattle.std.proofs.Common.{◌∙◌, ap, not, ◌&&◌, nat_eq, List}
use Rattle.aps_levels.specs.declared.bits.Bits64.{Bits64}
use Rattle.aps_levels.specs.Bits.{set_has}
use Rattle.aps_ready.specs.Table.{bits_at}
use Rattle.aps_ready.proofs.TableLaws.{left}
use Rattle.aps_ready.proofs.table.Table.leave.Goals as goal

pub invariant_of-self : goal.invariant_of-self
invariant_of-self c =
    let t = c.self.inside in
    let groups = c.remove_group in
    let levels = c.remove_level-self-inside in
    left t.at_level.items groups.new.at_level.items t.levels groups.new.levels t.of_group.items levels.new.of_group.items
    t.occupied levels.result c.args.level c.args.group c.self.invariant c.requires.level c.requires.group
    groups.ensures.count levels.ensures.count groups.ensures.at groups.ensures.in_use groups.ensures.before groups.ensures.own levels.ensures.at levels.ensures.all levels.ensures.before
    levels.ensures.own

pub returns : goal.returns
returns c l g below =
    c.remove_group.ensures.at l g
    ∙ ap (λ (at : List Bits64). not (nat_eq l c.args.level && nat_eq g c.args.group) && set_has (bits_at at l) g) c.self.view_is
