use Rattle.std.proofs.Common.{◌<◌, ◌∙◌, ap, length, subst, sym}
use Rattle.std.specs.Prelude.{IfSome}
use Rattle.view_explain.specs.Past.{Past, past_of}
use Rattle.view_explain.specs.Ties.{Ties, newest_server}
use Rattle.view_explain.proofs.Scenes.{server_known}
use Rattle.view_explain.proofs.scene.Scene.newest_server.Goals as goal

pub returns-clause-known : goal.returns-clause-known
returns-clause-known c =
    let h = c.self.invariant in
    let same = c.newest_server.ensures ∙ ap (λ (t : Ties). newest_server t.triples c.args.c) h.tied in
    subst (λ (past : Past). IfSome c.newest_server.result (λ y. y < length past.scenario.threads)) c.self.view_is
    (subst (λ o. IfSome o (λ y. y < length (past_of c.self.inside.core).scenario.threads)) (sym same) (server_known _ _ _ c.args.c h.known.triples))
