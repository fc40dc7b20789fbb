use Rattle.std.proofs.Common.{arith}
use Rattle.view_texts.proofs.Rows.{row_more, rows_all}
use Rattle.view_latency.specs.Text.{channel_lines}
use Rattle.view_latency.proofs.lines.add_calls.Goals as goal

pub loop-c-preserved : goal.loop-c-preserved
loop-c-preserved c =
    row_more (channel_lines c.args.end c.args.calls.now) _ _ _ c.args.channels.now c.loop-c.c c.index-channels-c.result c.loop-c-test.true c.index-channels-c.is c.loop-c.invariant c.in_ok-add_channel.ensures

pub returns : goal.returns
returns c = rows_all (channel_lines c.args.end c.args.calls.now) _ _ c.args.channels.now c.loop-c.c (omega arith) c.loop-c.invariant
