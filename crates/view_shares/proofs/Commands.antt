-- Rows and shape after commands don't depend on what these see.
use Rattle.std.proofs.Common.{◌≡◌, ℕ, ◌||◌, ◌+◌, ◌<◌, List, [], ◌∷◌, ◌++◌, length, take, get_or, refl, sym, ◌∙◌, ap, cond, Bool, true, false, nat_eq, Option, Some, None}
use Rattle.std.specs.List.{enumerate_from, filter, fold}
use Rattle.std.proofs.lemmas.List.{take_more}
use Rattle.std.proofs.lemmas.List.Sums.{fold-append}
use Rattle.aps_model.specs.declared.command.Answer.{Answer}
use Rattle.aps_model.specs.declared.command.Call.{Call}
use Rattle.aps_model.specs.declared.command.Call.TheVariants.{Create, Modify, Lookup, QueryPartition, QueryThread, QueryParameters, SetParameters, Statistics, MarkCritical, ClearCritical}
use Rattle.aps_model.specs.declared.command.CommandRow.{CommandRow}
use Rattle.aps_model.specs.declared.command.CtlView.{CtlView}
use Rattle.aps_model.specs.declared.command.ThreadView.{ThreadView}
use Rattle.aps_model.specs.declared.entry.Entry.{Entry}
use Rattle.aps_model.specs.declared.partition.PartitionRow.{PartitionRow}
use Rattle.aps_model.specs.declared.partition.TreeRefusal.{TreeRefusal}
use Rattle.aps_model.specs.declared.shape.Shape.{Shape}
use Rattle.aps_model.specs.declared.state.State.{State}
use Rattle.aps_model.specs.declared.state.State.TheVariants.{Ready, Running, Sleeping, Sending, Receiving, Replying, Gone}
use Rattle.aps_model.specs.Command.{create_under, created, mark_thread, marked, modified, modify_found, perform}
use Rattle.aps_model.specs.Partition.{partition_named}
use Rattle.aps_model.specs.Scenario.{Scenario}
use Rattle.aps_model.specs.SchedulerState.{SchedulerState}
use Rattle.aps_model.specs.TickWork.{do_command, do_commands, view_of}
use Rattle.aps_model.specs.Tree.{create_refusal, modify_refusal}
use Rattle.view_shares.specs.Standing.{Standing, all_commanded, commanded, commanded_at, has_command, stand, standing_of, unseen}

-- ---- one command

marked_stands : (rows : List PartitionRow) (shape : Shape) (on : Bool) (answer : Answer) (o : Option ThreadView)
    → stand (mark_thread rows shape on answer o).rows (mark_thread rows shape on answer o).shape ≡ stand rows shape
marked_stands rows shape on answer None = refl
marked_stands rows shape on answer (Some thread) = by_state thread.state
  where
    by_state : (state : State) → stand (marked rows shape on answer state).rows (marked rows shape on answer state).shape ≡ stand rows shape
    by_state Ready = refl
    by_state (Running c) = refl
    by_state (Sleeping until) = refl
    by_state (Sending c) = refl
    by_state (Receiving c) = refl
    by_state (Replying x) = refl
    by_state Gone = refl

performed_stands : (call : Call) (rows : List PartitionRow) (shape : Shape) (view : CtlView)
    → stand (perform call rows shape view).rows (perform call rows shape view).shape ≡ commanded call (stand rows shape)
performed_stands (Create name parent budget critical max) rows shape view = refl
performed_stands (Modify partition budget critical max) rows shape view = refl
performed_stands (Lookup partition) rows shape view = refl
performed_stands (QueryPartition partition) rows shape view = refl
performed_stands (QueryThread thread) rows shape view = refl
performed_stands QueryParameters rows shape view = refl
performed_stands (SetParameters window free limit bankruptcy) rows shape view = refl
performed_stands (Statistics partition) rows shape view = refl
performed_stands (MarkCritical thread) rows shape view = marked_stands rows shape true _ view.thread
performed_stands (ClearCritical thread) rows shape view = marked_stands rows shape false _ view.thread

done_stands : (h : List Entry) (j : ℕ) (s : SchedulerState) (place : ℕ) (row : CommandRow) → standing_of (do_command h j s (place, row)) ≡ commanded row.call (standing_of s)
done_stands h j s place row = performed_stands row.call s.rows s.shape (view_of s h j row.call)

-- the parts stay
created_parts : (rows : List PartitionRow) (shape : Shape) (name : List ℕ) (parent budget critical max : ℕ) (o : Option TreeRefusal) → (created rows shape name parent budget critical max o).shape.parts ≡ shape.parts
created_parts rows shape name parent budget critical max None = refl
created_parts rows shape name parent budget critical max (Some why) = refl

modified_parts : (rows : List PartitionRow) (shape : Shape) (p : ℕ) (budget critical max : Option ℕ) (o : Option TreeRefusal) → (modified rows shape p budget critical max o).shape.parts ≡ shape.parts
modified_parts rows shape p budget critical max None = refl
modified_parts rows shape p budget critical max (Some why) = refl

create_parts : (rows : List PartitionRow) (shape : Shape) (name : List ℕ) (budget critical max : ℕ) (o : Option ℕ) → (create_under rows shape name budget critical max o).shape.parts ≡ shape.parts
create_parts rows shape name budget critical max None = refl
create_parts rows shape name budget critical max (Some p) = created_parts rows shape name p budget critical max (create_refusal shape.parts rows name p budget critical max)

modify_parts : (rows : List PartitionRow) (shape : Shape) (budget critical max : Option ℕ) (o : Option ℕ) → (modify_found rows shape budget critical max o).shape.parts ≡ shape.parts
modify_parts rows shape budget critical max None = refl
modify_parts rows shape budget critical max (Some p) = modified_parts rows shape p budget critical max (modify_refusal shape.parts rows p budget critical max)

pub commanded_parts : (call : Call) (rows : List PartitionRow) (shape : Shape) → (perform call rows shape unseen).shape.parts ≡ shape.parts
commanded_parts (Create name parent budget critical max) rows shape = create_parts rows shape name budget critical max (partition_named rows parent)
commanded_parts (Modify partition budget critical max) rows shape = modify_parts rows shape budget critical max (partition_named rows partition)
commanded_parts (Lookup partition) rows shape = refl
commanded_parts (QueryPartition partition) rows shape = refl
commanded_parts (QueryThread thread) rows shape = refl
commanded_parts QueryParameters rows shape = refl
commanded_parts (SetParameters window free limit bankruptcy) rows shape = refl
commanded_parts (Statistics partition) rows shape = refl
commanded_parts (MarkCritical thread) rows shape = refl
commanded_parts (ClearCritical thread) rows shape = refl

-- ---- those of a tick

all_done : (h : List Entry) (j n : ℕ) (commands : List CommandRow) (s : SchedulerState) (z : Standing) → standing_of s ≡ z
    → standing_of (fold (do_command h j) s (filter (λ (c : ℕ × CommandRow). nat_eq c.1.tick j) (enumerate_from n commands))) ≡ all_commanded j commands z
all_done h j n [] s z is = is
all_done h j n (row ∷ commands) s z is =
    by_test (all_done h j (n + 1) commands (do_command h j s (n, row)) (commanded row.call z) (done_stands h j s n row ∙ ap (commanded row.call) is)) (all_done h j (n + 1) commands s z is) (nat_eq row.tick j)
  where
    by_test : standing_of (fold (do_command h j) (do_command h j s (n, row)) (filter (λ (c : ℕ × CommandRow). nat_eq c.1.tick j) (enumerate_from (n + 1) commands))) ≡ all_commanded j commands (commanded row.call z)
        → standing_of (fold (do_command h j) s (filter (λ (c : ℕ × CommandRow). nat_eq c.1.tick j) (enumerate_from (n + 1) commands))) ≡ all_commanded j commands z
        → (t : Bool)
        → standing_of (fold (do_command h j) s (cond t ((n, row) ∷ filter (λ (c : ℕ × CommandRow). nat_eq c.1.tick j) (enumerate_from (n + 1) commands)) (filter (λ (c : ℕ × CommandRow). nat_eq c.1.tick j) (enumerate_from (n + 1) commands))))
        ≡ all_commanded j commands (cond t (commanded row.call z) z)
    by_test done left true = done
    by_test done left false = left

pub commands_stand : (scenario : Scenario) (h : List Entry) (j : ℕ) (s : SchedulerState) → standing_of (do_commands scenario h j s) ≡ all_commanded j scenario.commands (standing_of s)
commands_stand scenario h j s = all_done h j 0 scenario.commands s (standing_of s) refl

-- where there is none of the tick
pub none_commanded : (j : ℕ) (commands : List CommandRow) (z : Standing) → has_command j commands ≡ false → all_commanded j commands z ≡ z
none_commanded j [] z none = refl
none_commanded j (row ∷ commands) z none = by_test (λ rest. none_commanded j commands z rest) (nat_eq row.tick j) none
  where
    by_test : (has_command j commands ≡ false → all_commanded j commands z ≡ z) → (t : Bool) → (t || has_command j commands) ≡ false → all_commanded j commands (cond t (commanded row.call z) z) ≡ z
    by_test rest true none = absurd cc
    by_test rest false none = rest none

-- one command more
pub commanded_more : (j : ℕ) (commands : List CommandRow) (z before after : Standing) (i : ℕ) (row : CommandRow) → i < length commands → get_or commands i row ≡ row
    → before ≡ all_commanded j (take i commands) z → after ≡ commanded_at j before row → after ≡ all_commanded j (take (i + 1) commands) z
commanded_more j commands z before after i row less is so_far one =
    one ∙ ap (λ b. commanded_at j b row) so_far
    ∙ sym (ap (λ l. all_commanded j l z) (take_more commands i row less ∙ ap (λ (x : CommandRow). take i commands ++ x ∷ []) is)
    ∙ fold-append (commanded_at j) z (take i commands) (row ∷ []))
