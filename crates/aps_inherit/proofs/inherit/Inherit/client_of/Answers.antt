use Rattle.std.proofs.Common.{sym, ◌∙◌, ap, Some, None}
use Rattle.aps_model.specs.Inherit.{Inheritance, client_of}
use Rattle.aps_inherit.proofs.Values.{client_of-triple}
use Rattle.aps_inherit.proofs.inherit.Inherit.client_of.Goals as goal

pub returns-in-None : goal.returns-in-None
returns-in-None c =
    sym (client_of-triple c.self.inside.content.triples c.args.x None (sym c.in-None.ensures))
    ∙ ap (λ (i : Inheritance). client_of i.triples c.args.x) c.self.view_is

pub returns-in-Some : goal.returns-in-Some
returns-in-Some c =
    ap (λ x. Some x) c.client.ensures
    ∙ sym (client_of-triple c.self.inside.content.triples c.args.x (Some c.in-Some.t) (sym c.in-Some.ensures))
    ∙ ap (λ (i : Inheritance). client_of i.triples c.args.x) c.self.view_is
