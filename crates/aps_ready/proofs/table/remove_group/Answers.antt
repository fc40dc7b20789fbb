use Rattle.std.proofs.Common.{rules, ◌≡◌, Bool, true, false, ap, ◌∙◌, arith, get_or-set_same}
use Rattle.aps_levels.specs.Bits.{set_has}
use Rattle.aps_levels.specs.Levels.{has_level}
use Rattle.aps_levels.specs.declared.bits.Bits64.{Bits64}
use Rattle.aps_ready.specs.Table.{no_bits}
use Rattle.aps_ready.proofs.Fewer.{was_in, is_out}
use Rattle.aps_ready.proofs.TableLaws.{left_in_use}
use Rattle.aps_ready.proofs.table.remove_group.Goals as goal

clash : (t : Bool) → t ≡ true → t ≡ false → ⊥
clash t p q = cc

pub returns-then-is_empty-clause-in_use : goal.returns-then-is_empty-clause-in_use
returns-then-is_empty-clause-in_use c l g l_below g_below still kept =
    left_in_use c.args.at_level.now.items c.args.levels.now c.remove.new.self c.without-rest.result c.args.level l g c.requires.count
    c.requires.level (c.if-is_empty.ensures.empty (search rules)) c.remove.ensures still kept

pub returns-then-is_empty-clause-before : goal.returns-then-is_empty-clause-before
returns-then-is_empty-clause-before c l h = was_in (has_level c.args.levels.now) (has_level c.remove.new.self) c.args.level l c.remove.ensures h

pub returns-then-is_empty-clause-own : goal.returns-then-is_empty-clause-own
returns-then-is_empty-clause-own c h =
    absurd (clash (has_level c.remove.new.self c.args.level) h (is_out (has_level c.args.levels.now) (has_level c.remove.new.self) c.args.level c.remove.ensures))

pub returns-else-is_empty-clause-own : goal.returns-else-is_empty-clause-own
returns-else-is_empty-clause-own c _ =
    let some = c.if-is_empty.ensures.some (search rules) in (
      some.0,
      some.1,
      ap (λ (b : Bits64). set_has b some.0)
          (get_or-set_same c.args.at_level.now.items c.args.level c.without-rest.result no_bits (omega (arith, c.requires.level, c.requires.count))) ∙ some.2,
    )
