use Rattle.std.proofs.Common.{Some, ◌∷◌, ap, sym, ◌∙◌}
use Rattle.atomic_table.specs.Table.{rest}
use Rattle.aps_live.proofs.step.step_core.Goals as goal

pub slot_mut-requires : goal.slot_mut-requires
slot_mut-requires c = let h = c.requires.held in (c.requires.table.0, (Some h.0, h.1 ∙ ap (λ l. (0, Some h.0) ∷ rest l) (sym h.1)))
