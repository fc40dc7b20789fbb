use Rattle.std.proofs.Common.{◌≡◌, ℕ, append_assoc, ap, sym, ◌∙◌}
use Rattle.aps_model.specs.declared.partition.PartitionRow.{PartitionRow}
use Rattle.aps_model.specs.declared.state.Facts.{Facts}
use Rattle.aps_model.specs.declared.state.State.{State}
use Rattle.aps_model.specs.declared.command.Reply.{Reply}
use Rattle.aps_model.specs.declared.command.Answer.{Answer}
use Rattle.aps_model.specs.declared.command.Answer.TheVariants.{Partition, Thread}
use Rattle.aps_model.specs.Replies.{reply_line}
use Rattle.aps_report.specs.Lines.{partition_reply, thread_reply}

-- the lines of the answers to two queries, in the words of a reply
partition_line-is : (command p : ℕ) (row : PartitionRow) (used critical_used : ℕ)
    → partition_reply command p row used critical_used ≡ reply_line (record { command = command; answer = Partition p row used critical_used })
partition_line-is command p row used critical_used = simp append_assoc

thread_line-is : (command x : ℕ) (own now : Facts) (state : State)
    → thread_reply command x own now state ≡ reply_line (record { command = command; answer = Thread x own now state })
thread_line-is command x own now state = simp append_assoc

pub partition_reply-is : (reply : Reply) (p q : ℕ) (row : PartitionRow) (used critical_used : ℕ) → reply.answer ≡ Partition p row used critical_used → q ≡ p
    → partition_reply reply.command q row used critical_used ≡ reply_line reply
partition_reply-is reply p q row used critical_used is same =
    ap (λ n. partition_reply reply.command n row used critical_used) same ∙ partition_line-is reply.command p row used critical_used
    ∙ ap (λ (a : Answer). reply_line (record { command = reply.command; answer = a })) (sym is)

pub thread_reply-is : (reply : Reply) (x y : ℕ) (own now : Facts) (state : State) → reply.answer ≡ Thread x own now state → y ≡ x
    → thread_reply reply.command y own now state ≡ reply_line reply
thread_reply-is reply x y own now state is same =
    ap (λ n. thread_reply reply.command n own now state) same ∙ thread_line-is reply.command x own now state
    ∙ ap (λ (a : Answer). reply_line (record { command = reply.command; answer = a })) (sym is)
