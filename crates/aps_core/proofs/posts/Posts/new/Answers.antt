use Rattle.std.proofs.Common.{None, refl, subst, sym}
use Rattle.std.proofs.lemmas.List.{get_or-replicate}
use Rattle.aps_model.specs.Limits.{most_cpus}
use Rattle.aps_core.specs.Posts.{IsIdlePost, no_post}
use Rattle.aps_core.proofs.posts.Posts.new.Goals as goal

pub returns : goal.returns
returns c = λ d inside.
    c.stand.ensures.same d None (subst IsIdlePost (sym (get_or-replicate most_cpus d no_post no_post inside)) (record { group = refl; base = refl; more = refl }))
