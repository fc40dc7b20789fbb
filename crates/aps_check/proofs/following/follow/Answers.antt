use Rattle.aps_check.proofs.FollowedLines.{line_followed}
use Rattle.aps_check.proofs.following.follow.Goals as goal

pub loop-rest-preserved : goal.loop-rest-preserved
loop-rest-preserved c =
    line_followed c.args.core.now c.loop-rest.core c.follow_line.new.core c.args.text.now c.loop-rest.rest.now c.in-Ok.after.now c.loop-rest.invariant c.in-Ok.ensures
