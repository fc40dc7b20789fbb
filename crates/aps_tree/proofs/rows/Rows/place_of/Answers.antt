use Rattle.std.proofs.Common.{◌∙◌, ap, position}
use Rattle.std.specs.Str.{bytes_eq}
use Rattle.indexmap.specs.IndexMap.{keys, values}
use Rattle.aps_model.specs.Partition.{partition_named}
use Rattle.aps_tree.proofs.Named.{found_by_name}
use Rattle.aps_tree.proofs.rows.Rows.place_of.Goals as goal

pub returns-clause-same : goal.returns-clause-same
returns-clause-same c =
    let map = c.self.inside.by_name in
    let name = c.args.name in
    c.get_index_of.ensures.index
    ∙ ap (λ key. position (bytes_eq key) (keys map)) c.new.ensures
    ∙ ap (position (bytes_eq name)) c.self.invariant.named
    ∙ found_by_name (values map) name
    ∙ ap (λ rows. partition_named rows name) c.self.view_is
