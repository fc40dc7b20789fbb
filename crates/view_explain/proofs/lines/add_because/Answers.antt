use Rattle.std.proofs.Common.{append_assoc}
use Rattle.view_explain.proofs.Wording.{pushed}
use Rattle.view_explain.proofs.lines.add_because.Goals as goal

pub returns-in-Outranked : goal.returns-in-Outranked
returns-in-Outranked c = rw c.in-Outranked.is (simp append_assoc c.write-in-Outranked.ensures.bytes)

pub returns-in-WaitsForReceiver : goal.returns-in-WaitsForReceiver
returns-in-WaitsForReceiver c = rw c.in-WaitsForReceiver.is c.add_channel.ensures

pub returns-in-WaitsForMessage : goal.returns-in-WaitsForMessage
returns-in-WaitsForMessage c = rw c.in-WaitsForMessage.is c.add_channel-in-WaitsForMessage.ensures

pub returns-in-Gone : goal.returns-in-Gone
returns-in-Gone c = rw c.in-Gone.is (pushed c.push_str-in-Gone.result _ _ _ c.push_str-in-Gone.ensures.bytes)
