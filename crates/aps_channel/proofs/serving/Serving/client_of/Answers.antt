use Rattle.std.proofs.Common.{Some, None, cond, is_some, sym, ap, ◌∙◌}
use Rattle.aps_channel.specs.Serving.{client_in}
use Rattle.aps_channel.proofs.Served.{client_read}
use Rattle.aps_channel.proofs.serving.Serving.client_of.Goals as goal

pub returns-in-None : goal.returns-in-None
returns-in-None c =
    sym (client_read c.self.inside.servers c.self.inside.held.items c.args.self.now c.args.x c.index.result c.index-held.result.now
    c.self.invariant c.self.view_is c.index.ensures.same c.requires c.index-held.ensures
    ∙ ap (λ h. cond (is_some h) (Some (client_in h)) None) c.in-None.is)

pub returns-in-Some : goal.returns-in-Some
returns-in-Some c =
    ap (λ x. Some x) c.at.ensures
    ∙ sym (client_read c.self.inside.servers c.self.inside.held.items c.args.self.now c.args.x c.index.result c.index-held.result.now
    c.self.invariant c.self.view_is c.index.ensures.same c.requires c.index-held.ensures
    ∙ ap (λ h. cond (is_some h) (Some (client_in h)) None) c.in-Some.is)
