use Rattle.std.proofs.Common.{◌≡◌, ◌∙◌, sym, subst, slice_set}
use Rattle.indexmap.specs.IndexMap.{keys, spare, values, with_value_at}
use Rattle.indexmap.proofs.CallerLemmas.{keys-with_value_at}
use Rattle.aps_model.specs.Partition.{row_or_none}
use Rattle.aps_tree.specs.Named.{AreByName}
use Rattle.aps_tree.proofs.Named.{set_by_name, values-set_value_at}
use Rattle.aps_tree.proofs.rows.Rows.set.Goals as goal

pub invariant_of-self : goal.invariant_of-self
invariant_of-self c =
    let map = c.self.inside.by_name in
    let p = c.index.result in
    let row = c.args.row in
    let name : row.name ≡ (row_or_none (values map) p).name = c.requires.name ∙ (λ j. (row_or_none (sym c.self.view_is j) (sym c.index.ensures.same j)).name) in
    subst (λ names. AreByName names (values (with_value_at map p row)) (spare map)) (sym (keys-with_value_at map p row))
    (subst (λ rows. AreByName (keys map) rows (spare map)) (sym (values-set_value_at map.entries p row))
    (set_by_name (keys map) (values map) p row (spare map) name c.self.invariant))

pub returns : goal.returns
returns c =
    values-set_value_at c.self.inside.by_name.entries c.index.result c.args.row
    ∙ (λ j. slice_set (c.self.view_is j) (c.index.ensures.same j) c.args.row)
