use Rattle.std.proofs.Common.{ℕ, [], min, replicate, ap, ◌∙◌, arith}
use Rattle.aps_model.specs.Limits.{most_threads}
use Rattle.aps_model.specs.SchedulerState.{no_channel}
use Rattle.aps_channel.specs.Lines.{Lines}
use Rattle.aps_channel.proofs.Joined.{AreSeenChannels, opened}
use Rattle.aps_channel.proofs.channels.Channels.new.Goals as goal

made : (c : goal.In_ok-serving) → AreSeenChannels c.in_ok-waiting.waiting c.in_ok-receivers.receivers c.in_ok-serving.serving
    (record { channels = replicate c.args.channels no_channel; triples = []; threads = min c.args.threads most_threads })
made c =
    opened c.in_ok-waiting.waiting c.in_ok-receivers.receivers c.in_ok-serving.serving c.args.channels (min c.args.threads most_threads) (omega arith)
    c.in_ok-waiting.ensures
    (c.in_ok-receivers.ensures ∙ ap (λ (n : ℕ). let l : Lines = record { lines = replicate c.args.channels []; numbers = n } in l) c.min.ensures)
    c.in_ok-serving.ensures

pub invariant_of-result : goal.invariant_of-result
invariant_of-result c =
    (made c).are

pub returns : goal.returns
returns c =
    (made c).same
