use Rattle.std.proofs.Common.{◌≡◌, ◌++◌, take}
use Rattle.view_marks.specs.Alteration.{by_replies}
use Rattle.view_marks.proofs.alteration.add_commands.Given as goal

abbrev pub invariant-loop-reply : goal.invariant-loop-reply
invariant-loop-reply l = l.alterations.items ≡ l.initial.alterations.items ++ by_replies l.commands l.moment (take l.reply-index l.replies)
