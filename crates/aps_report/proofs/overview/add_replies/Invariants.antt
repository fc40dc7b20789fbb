use Rattle.std.proofs.Common.{◌≡◌, ◌++◌, string_bytes, take}
use Rattle.std.specs.List.{flat_map}
use Rattle.aps_model.specs.Replies.{reply_line}
use Rattle.aps_report.proofs.overview.add_replies.Given as goal

abbrev pub invariant-loop-reply : goal.invariant-loop-reply
invariant-loop-reply l = string_bytes l.out ≡ string_bytes l.initial.out ++ flat_map reply_line (take l.reply-index l.replies)
