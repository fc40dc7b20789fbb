use Rattle.std.proofs.Common.{refl, Some}
use Rattle.aps_core.proofs.posts.Post.of.Goals as goal

pub returns-clause-is : goal.returns-clause-is
returns-clause-is c =
    c.by.ensures.same (Some c.args.facts.now) (record {
      below = c.group_of.ensures.below;
      partition = c.group_of.ensures.partition;
      critical = c.group_of.ensures.critical;
      base = c.base_of.ensures.same;
      more = refl;
      few = c.base_of.ensures.few;
    })
