use Rattle.std.proofs.Common.{◌≡◌, ◌++◌, List, ℕ, OnOk, subst, string_bytes}
use Rattle.aps_report.proofs.Answers.{partition_reply-is, thread_reply-is}
use Rattle.aps_report.proofs.replies.add_reply.Goals as goal

pub returns-in-Partition : goal.returns-in-Partition
returns-in-Partition c =
    subst (λ (line : List ℕ). OnOk c.add_partition.result (string_bytes c.add_partition.new.out ≡ string_bytes c.args.out.now ++ line))
    (partition_reply-is c.args.reply.now c.in-Partition.id c.index-in-Partition.result c.in-Partition.row c.in-Partition.used c.in-Partition.critical_used c.in-Partition.is c.index-in-Partition.ensures.same)
    c.add_partition.ensures

pub returns-in-Thread : goal.returns-in-Thread
returns-in-Thread c =
    subst (λ (line : List ℕ). OnOk c.add_thread.result (string_bytes c.add_thread.new.out ≡ string_bytes c.args.out.now ++ line))
    (thread_reply-is c.args.reply.now c.in-Thread.id c.index-in-Thread.result c.in-Thread.own c.in-Thread.now c.in-Thread.state c.in-Thread.is c.index-in-Thread.ensures.same)
    c.add_thread.ensures

pub returns-in-Statistics : goal.returns-in-Statistics
returns-in-Statistics c = rw (c.in-Statistics.is, ← c.index-in-Statistics.ensures.same) c.add_statistics.ensures
