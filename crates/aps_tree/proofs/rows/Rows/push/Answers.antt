use Rattle.std.proofs.Common.{◌≡◌, ◌<◌, ◌++◌, [], ◌∷◌, length, ◌∙◌, sym, ap, subst, position, None}
use Rattle.std.specs.Map.{keys_of, values_of}
use Rattle.std.specs.Str.{bytes_eq}
use Rattle.std.proofs.lemmas.List.{map-append}
use Rattle.aps_model.specs.Limits.{most_partitions}
use Rattle.indexmap.specs.IndexMap.{insert_entry, keys, values, spare}
use Rattle.aps_model.specs.Partition.{partition_named}
use Rattle.aps_tree.specs.Named.{AreByName}
use Rattle.aps_tree.proofs.Named.{found_by_name, has_room, inserted, on_ok, pushed_by_name}
use Rattle.aps_tree.proofs.rows.Rows.push.Goals as goal

entries : (c : goal.After-insert) → c.insert.new.self.entries ≡ c.self.inside.by_name.entries ++ (c.args.row.name, c.args.row) ∷ []
entries c =
    let map = c.self.inside.by_name in
    let name = c.args.row.name in
    let free : position (bytes_eq name) (keys map) ≡ None =
    ap (position (bytes_eq name)) c.self.invariant.named ∙ found_by_name (values map) name ∙ ap (λ rows. partition_named rows name) c.self.view_is ∙ c.requires.free in
    let few = subst (λ rows. length rows < most_partitions) (sym c.self.view_is) c.requires.room in
    let is = c.insert.ensures.succeeds (has_room (keys map) (values map) (spare map) few c.self.invariant) in
    on_ok c.insert.result is c.insert.ensures.entries
    ∙ ap (λ key. insert_entry bytes_eq map.entries key c.args.row) c.new.ensures
    ∙ inserted bytes_eq map.entries name c.args.row free

pub invariant_of-self : goal.invariant_of-self
invariant_of-self c =
    let map = c.self.inside.by_name in
    let name = c.args.row.name in
    subst (λ rows. AreByName (keys c.insert.new.self) rows (spare c.insert.new.self))
    (sym (ap values_of (entries c) ∙ map-append _ map.entries ((name, c.args.row) ∷ [])))
    (pushed_by_name (keys map) (keys c.insert.new.self) (values map) c.args.row (spare map) (spare c.insert.new.self)
    (ap keys_of (entries c) ∙ map-append _ map.entries ((name, c.args.row) ∷ [])) c.insert.ensures.spare c.self.invariant)

pub returns : goal.returns
returns c =
    let map = c.self.inside.by_name in
    ap values_of (entries c) ∙ map-append _ map.entries ((c.args.row.name, c.args.row) ∷ []) ∙ ap (λ rows. rows ++ c.args.row ∷ []) c.self.view_is
