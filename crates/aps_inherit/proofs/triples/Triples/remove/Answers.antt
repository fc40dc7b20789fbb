use Rattle.std.proofs.Common.{sym, ◌∙◌, None, slice_set}
use Rattle.aps_model.specs.Inherit.{without_server}
use Rattle.aps_inherit.specs.Table.{IsTable}
use Rattle.aps_inherit.proofs.Serving.{without_server-absent}
use Rattle.aps_inherit.proofs.Tables.{IsTable-tabled, IsTable-without, tabled-table}
use Rattle.aps_inherit.proofs.triples.Triples.remove.Goals as goal

pub returns-in_default : goal.returns-in_default
returns-in_default c = without_server-absent c.args.self.now c.args.server (sym c.triple_of.ensures ∙ c.in_default.is)

table : (c : goal.After-self-2-1)
    → IsTable c.take_out.new.self (slice_set c.self.inside.by_server.items c.index-2.result None)
    (slice_set c.self.inside.by_client.items c.index.result None) (without_server c.args.self.now c.args.server)
table c =
    IsTable-without c.self.inside.order c.take_out.new.self c.self.inside.by_server.items c.self.inside.by_client.items
    c.args.self.now c.args.server
    c.in-Some.t c.index-2.result c.index.result c.self.invariant c.self.view_is (sym c.triple_of.ensures ∙ c.in-Some.is)
    c.take_out.ensures c.index-2.ensures.same c.index-2.ensures.small (c.index.ensures.same ∙ c.client.ensures) c.index.ensures.small

pub invariant_of-self : goal.invariant_of-self
invariant_of-self c = IsTable-tabled _ _ _ _ (table c)

pub returns : goal.returns
returns c = tabled-table _ _ _ _ (table c)
