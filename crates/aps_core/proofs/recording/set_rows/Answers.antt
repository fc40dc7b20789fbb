use Rattle.std.proofs.Common.{arith}
use Rattle.std.proofs.lemmas.Grind.{common_steps}
use Rattle.aps_core.proofs.Taken.{rows_more}
use Rattle.aps_core.proofs.recording.set_rows.Goals as goal

pub loop-p-preserved : goal.loop-p-preserved
loop-p-preserved c =
    grind (arith, common_steps, rows_more c.args.history.now.rows c.args.rows.now c.loop-p.p c.index-rows-p.result c.loop-p-test.true)
