use Rattle.std.proofs.Common.{◌≡◌, false, List, replicate, sym, subst}
use Rattle.aps_levels.specs.declared.bits.Bits64.{Bits64}
use Rattle.aps_levels.specs.declared.levels.Levels.{Levels}
use Rattle.aps_levels.specs.Bits.{set_has}
use Rattle.aps_levels.specs.Levels.{level_count}
use Rattle.aps_ready.specs.Table.{bits_at, IsLevelTable}
use Rattle.aps_ready.proofs.TableLaws.{nowhere, empty_table}
use Rattle.aps_ready.proofs.table.Table.new.Goals as goal

pub invariant_of-result : goal.invariant_of-result
invariant_of-result c =
    subst (λ (at : List Bits64). IsLevelTable at c.none-3.result c.in_ok-of_group.of_group.items c.none-4.result)
    (sym (c.in_ok-at_level.ensures.items_if_clones_equal (λ y h. h)))
    (subst (λ (of : List Levels). IsLevelTable (replicate level_count c.none.result) c.none-3.result of c.none-4.result) (sym (c.in_ok-of_group.ensures.items_if_clones_equal (λ y h. h)))
    (empty_table c.none.result c.none-4.result c.none-2.result c.none-3.result c.none.ensures c.none-2.ensures c.none-3.ensures c.none-4.ensures))

pub returns : goal.returns
returns c l g =
    subst (λ (at : List Bits64). set_has (bits_at at l) g ≡ false) (sym (c.in_ok-at_level.ensures.items_if_clones_equal (λ y h. h)))
    (nowhere c.none.result level_count l g c.none.ensures)
