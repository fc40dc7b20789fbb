-- Which entries are marked on the bars.
use Rattle.std.specs.Prelude.{Bool, true, false, Option, Some, None}
use Rattle.aps_model.specs.declared.entry.Done.{Done}
use Rattle.aps_model.specs.declared.entry.Done.TheVariants.{SendTo, SendBlocked, ReceiveGot, ReplyFreed}
use Rattle.view_marks.specs.declared.mark.Message.{Message}
use Rattle.view_marks.specs.declared.mark.Message.TheVariants.{Taken, Waits}

-- a message is taken where a send finds its receiver and where a receive finds a message
abbrev pub message_of_done : Done → Option Message
message_of_done (SendTo receiver) = Some Taken
message_of_done (ReceiveGot sender) = Some Taken
message_of_done SendBlocked = Some Waits
message_of_done done = None

abbrev pub is_reply : Done → Bool
is_reply (ReplyFreed client) = true
is_reply done = false
