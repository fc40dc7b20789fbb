use Rattle.std.proofs.Common.{◌∷◌, ◌∙◌, ap, Some, slice_set}
use Rattle.aps_inherit.specs.Order.{has}
use Rattle.aps_inherit.specs.Serving.{servers}
use Rattle.aps_inherit.specs.Table.{IsTable}
use Rattle.aps_inherit.proofs.Serving.{servers-free}
use Rattle.aps_inherit.proofs.Tables.{IsTable-add, IsTable-tabled, tabled-table}
use Rattle.aps_inherit.proofs.triples.Triples.add.Goals as goal

pub put_first-requires : goal.put_first-requires
put_first-requires c =
    ap (has c.self.inside.order) c.server-server.ensures
    ∙ ap (λ l. has l c.args.t.server) (c.self.invariant.ordered ∙ ap servers c.self.view_is)
    ∙ servers-free c.args.self.now c.args.t.server c.requires.free

table : (c : goal.After-self-2-1)
    → IsTable c.put_first.new.self (slice_set c.self.inside.by_server.items c.index-2.result (Some c.args.t))
    (slice_set c.self.inside.by_client.items c.index.result (Some c.server-server.result)) (c.args.t ∷ c.args.self.now)
table c =
    IsTable-add c.self.inside.order c.put_first.new.self c.self.inside.by_server.items c.self.inside.by_client.items
    c.args.self.now c.args.t
    c.server-server.result c.index-2.result c.index.result c.self.invariant c.self.view_is c.requires.free c.requires.alone c.requires.other
    c.put_first.ensures c.server-server.ensures c.index-2.ensures.same c.index-2.ensures.small
    (c.index.ensures.same ∙ c.client.ensures) c.index.ensures.small

pub invariant_of-self : goal.invariant_of-self
invariant_of-self c = IsTable-tabled _ _ _ _ (table c)

pub returns : goal.returns
returns c = tabled-table _ _ _ _ (table c)
