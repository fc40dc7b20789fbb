-- What a command leaves.
use Rattle.std.proofs.Common.{ℕ, List, refl, Bool, true, false, Option, Some, None}
use Rattle.aps_model.specs.declared.entry.Entry.{Entry}
use Rattle.aps_model.specs.declared.command.CommandRow.{CommandRow}
use Rattle.aps_model.specs.declared.command.Reply.{Reply}
use Rattle.aps_model.specs.declared.command.Change.{Change}
use Rattle.aps_model.specs.declared.command.Answer.{Answer}
use Rattle.aps_model.specs.declared.command.Call.{Call}
use Rattle.aps_model.specs.declared.command.Call.TheVariants.{Create, Modify, Lookup, QueryPartition, QueryThread, QueryParameters, SetParameters, Statistics, MarkCritical, ClearCritical}
use Rattle.aps_model.specs.declared.command.CtlView.{CtlView}
use Rattle.aps_model.specs.declared.command.ThreadView.{ThreadView}
use Rattle.aps_model.specs.declared.partition.PartitionRow.{PartitionRow}
use Rattle.aps_model.specs.declared.partition.TreeRefusal.{TreeRefusal}
use Rattle.aps_model.specs.declared.state.Facts.{Facts}
use Rattle.aps_model.specs.declared.state.State.{State}
use Rattle.aps_model.specs.declared.state.State.TheVariants.{Ready, Running, Sleeping, Sending, Receiving, Replying, Gone}
use Rattle.aps_model.specs.declared.shape.Shape.{Shape}
use Rattle.laws_runs.specs.Sizes.{IsSameSizes}
use Rattle.aps_model.specs.Command.{create_under, created, mark_thread, marked, modified, modify_found, perform}
use Rattle.aps_model.specs.Partition.{partition_named}
use Rattle.aps_model.specs.SchedulerState.{SchedulerState, with_own}
use Rattle.aps_model.specs.TickWork.{do_command, thread_named, view_of, with_mark}

pub sizes_same : (shape : Shape) → IsSameSizes shape shape
sizes_same shape = record { cpus = refl; tick = refl; ticks = refl; call_ns = refl; parts = refl }

created_sizes : (rows : List PartitionRow) (shape : Shape) (name : List ℕ) (parent budget critical max : ℕ) (o : Option TreeRefusal) → IsSameSizes shape (created rows shape name parent budget critical max o).shape
created_sizes rows shape name parent budget critical max None = sizes_same shape
created_sizes rows shape name parent budget critical max (Some why) = sizes_same shape

create_sizes : (rows : List PartitionRow) (shape : Shape) (name : List ℕ) (budget critical max : ℕ) (o : Option ℕ) → IsSameSizes shape (create_under rows shape name budget critical max o).shape
create_sizes rows shape name budget critical max None = sizes_same shape
create_sizes rows shape name budget critical max (Some parent) = created_sizes rows shape name parent budget critical max _

modified_sizes : (rows : List PartitionRow) (shape : Shape) (p : ℕ) (budget critical max : Option ℕ) (o : Option TreeRefusal) → IsSameSizes shape (modified rows shape p budget critical max o).shape
modified_sizes rows shape p budget critical max None = sizes_same shape
modified_sizes rows shape p budget critical max (Some why) = sizes_same shape

modify_sizes : (rows : List PartitionRow) (shape : Shape) (budget critical max : Option ℕ) (o : Option ℕ) → IsSameSizes shape (modify_found rows shape budget critical max o).shape
modify_sizes rows shape budget critical max None = sizes_same shape
modify_sizes rows shape budget critical max (Some p) = modified_sizes rows shape p budget critical max _

marked_sizes : (rows : List PartitionRow) (shape : Shape) (on : Bool) (answer : Answer) (st : State) → IsSameSizes shape (marked rows shape on answer st).shape
marked_sizes rows shape on answer Ready = sizes_same shape
marked_sizes rows shape on answer (Running c) = sizes_same shape
marked_sizes rows shape on answer (Sleeping until) = sizes_same shape
marked_sizes rows shape on answer (Sending c) = sizes_same shape
marked_sizes rows shape on answer (Receiving c) = sizes_same shape
marked_sizes rows shape on answer (Replying x) = sizes_same shape
marked_sizes rows shape on answer Gone = sizes_same shape

mark_sizes : (rows : List PartitionRow) (shape : Shape) (on : Bool) (answer : Answer) (o : Option ThreadView) → IsSameSizes shape (mark_thread rows shape on answer o).shape
mark_sizes rows shape on answer None = sizes_same shape
mark_sizes rows shape on answer (Some thread) = marked_sizes rows shape on answer thread.state

performed_sizes : (call : Call) (rows : List PartitionRow) (shape : Shape) (view : CtlView) → IsSameSizes shape (perform call rows shape view).shape
performed_sizes (Create name parent budget critical max) rows shape view = create_sizes rows shape name budget critical max (partition_named rows parent)
performed_sizes (Modify partition budget critical max) rows shape view = modify_sizes rows shape budget critical max (partition_named rows partition)
performed_sizes (Lookup partition) rows shape view = sizes_same shape
performed_sizes (QueryPartition partition) rows shape view = sizes_same shape
performed_sizes (QueryThread thread) rows shape view = sizes_same shape
performed_sizes QueryParameters rows shape view = sizes_same shape
performed_sizes (SetParameters window free limit bankruptcy) rows shape view = record { cpus = refl; tick = refl; ticks = refl; call_ns = refl; parts = refl }
performed_sizes (Statistics partition) rows shape view = sizes_same shape
performed_sizes (MarkCritical thread) rows shape view = mark_sizes rows shape true _ view.thread
performed_sizes (ClearCritical thread) rows shape view = mark_sizes rows shape false _ view.thread

marked_by : (s : SchedulerState) (o : Option ℕ) (mark : Option Bool) (P : SchedulerState → Type 0) → P s → ((x : ℕ) (own : Facts) → P (with_own s x own)) → P (with_mark s o mark)
marked_by s None mark P same marks = same
marked_by s (Some x) None P same marks = same
marked_by s (Some x) (Some on) P same marks = marks x _

-- a command leaves the state with another own mark of at most one thread, and then other rows, parameters, replies and changes
pub command_by : (h : List Entry) (j : ℕ) (s : SchedulerState) (c : ℕ × CommandRow) (P : SchedulerState → Type 0)
    → (Q : SchedulerState → Type 0)
    → ((mid : SchedulerState) (rows : List PartitionRow) (shape : Shape) (replies : List Reply) (changes : List Change) → Q mid → IsSameSizes s.shape shape → P (record mid { rows = rows; shape = shape; replies = replies; changes = changes }))
    → Q s → ((x : ℕ) (own : Facts) → Q (with_own s x own)) → P (do_command h j s c)
command_by h j s (place, row) P Q rest same marks =
    let done = perform row.call s.rows s.shape (view_of s h j row.call) in
    rest (with_mark s (thread_named row.call) done.mark) done.rows done.shape _ _ (marked_by s (thread_named row.call) done.mark Q same marks) (performed_sizes row.call s.rows s.shape (view_of s h j row.call))
