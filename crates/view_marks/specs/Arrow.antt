-- From which thread to which a message or a reply goes.
use Rattle.std.specs.Prelude.{ℕ, Option, Some, None}
use Rattle.aps_model.specs.declared.entry.Done.{Done}
use Rattle.aps_model.specs.declared.entry.Done.TheVariants.{SendTo, ReceiveGot, ReplyFreed}
use Rattle.aps_model.specs.declared.entry.Entry.{Entry}
use Rattle.view_marks.specs.declared.arrow.Arrow.{Arrow}
use Rattle.view_marks.specs.declared.arrow.Carried.TheVariants.{Message, Reply}

-- a message goes from its sender to its receiver, whichever of the two ran; a reply goes to the client
abbrev pub arrow_by : ℕ → Done → Option Arrow
arrow_by ran (SendTo receiver) = Some (record { carried = Message; source = ran; target = receiver })
arrow_by ran (ReceiveGot sender) = Some (record { carried = Message; source = sender; target = ran })
arrow_by ran (ReplyFreed client) = Some (record { carried = Reply; source = ran; target = client })
arrow_by ran done = None

abbrev pub arrow_in : Option ℕ → Done → Option Arrow
arrow_in (Some ran) done = arrow_by ran done
arrow_in None done = None

-- what goes from a thread to another where the entry ends
abbrev pub arrow_of : Entry → Option Arrow
arrow_of e = arrow_in e.ran e.done
