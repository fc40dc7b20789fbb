-- A timed command answers and leaves ten times the parts.
use Rattle.std.proofs.Common.{◌≡◌, ℕ, ◌+◌, ◌++◌, List, [], ◌∷◌, map, refl, sym, ◌∙◌, ap, Bool, true, false, cond, nat_eq, Option, Some, None, slice_index_or}
use Rattle.std.specs.List.{enumerate_from, filter, fold, range_with_len}
use Rattle.std.specs.Option.{option_map}
use Rattle.std.proofs.lemmas.List.{length-map, map-append}
use Rattle.aps_model.specs.declared.command.Answer.{Answer}
use Rattle.aps_model.specs.declared.command.Answer.TheVariants.{Created, Cleared, Marked, Partition, Refused}
use Rattle.aps_model.specs.declared.command.Call.{Call}
use Rattle.aps_model.specs.declared.command.Call.TheVariants.{Create, Modify, Lookup, QueryPartition, QueryThread, QueryParameters, SetParameters, Statistics, MarkCritical, ClearCritical}
use Rattle.aps_model.specs.declared.command.ChangeKind.TheVariants.{Created as RowCreated}
use Rattle.aps_model.specs.declared.command.CommandRow.{CommandRow}
use Rattle.aps_model.specs.declared.command.CtlView.{CtlView}
use Rattle.aps_model.specs.declared.command.ThreadView.{ThreadView}
use Rattle.aps_model.specs.declared.entry.Entry.{Entry}
use Rattle.aps_model.specs.declared.partition.PartitionRow.{PartitionRow}
use Rattle.aps_model.specs.declared.partition.TreeRefusal.{TreeRefusal}
use Rattle.aps_model.specs.declared.partition.TreeRefusal.TheVariants.{NoSuchPartition, NameTaken, TooMany, NoParent, OverBudget, BadCritical, BadMax}
use Rattle.aps_model.specs.declared.shape.Shape.{Shape}
use Rattle.aps_model.specs.declared.state.State.{State}
use Rattle.aps_model.specs.declared.state.State.TheVariants.{Ready, Running, Sleeping, Sending, Receiving, Replying, Gone}
use Rattle.aps_model.specs.Command.{Performed, answered, create_under, created, found, mark_thread, marked, modified, modify_found, partition_answer, perform, refusal_of, statistics_answer, thread_answer}
use Rattle.aps_model.specs.Limits.{most_partitions}
use Rattle.aps_model.specs.Partition.{partition_named}
use Rattle.aps_model.specs.Scenario.{Scenario}
use Rattle.aps_model.specs.SchedulerState.{SchedulerState}
use Rattle.aps_model.specs.TickWork.{after_command, commands_of, do_command, do_commands, thread_named, thread_view, view_of, with_mark}
use Rattle.aps_model.specs.Tree.{create_refusal, modify_refusal, rows_created}
use Rattle.aps_model.specs.Upgrade.{call_times_ten, row_times_ten, times_ten}
use Rattle.aps_model.specs.Usage.{window_critical, window_used}
use Rattle.laws_upgrade.specs.TimesTen.{answer_times_ten, command_times_ten, refusal_times_ten, reply_times_ten, scenario_times_ten, shape_times_ten, state_times_ten}
use Rattle.laws_upgrade.proofs.Alike.{fold_through, map_alike}
use Rattle.laws_upgrade.proofs.Moves.{named_ten}
use Rattle.laws_upgrade.proofs.Picks.{row_ten}
use Rattle.laws_upgrade.proofs.Trees.{cause_times_ten, create_refusal_ten, modify_refusal_ten, rows_created_ten, rows_modified_ten}

abbrev pub performed_times_ten : Performed → Performed
performed_times_ten done = record done {
  answer = answer_times_ten done.answer;
  rows = map row_times_ten done.rows;
  shape = shape_times_ten done.shape;
}

-- ---- create and modify

told_ten : (why : TreeRefusal) → refusal_of (cause_times_ten why) ≡ refusal_times_ten (refusal_of why)
told_ten NoSuchPartition = refl
told_ten NameTaken = refl
told_ten TooMany = refl
told_ten NoParent = refl
told_ten (OverBudget have) = refl
told_ten BadCritical = refl
told_ten (BadMax partition least) = refl

created_ten : (rows : List PartitionRow) (shape : Shape) (name : List ℕ) (parent budget critical max : ℕ) (why : Option TreeRefusal)
    → created (map row_times_ten rows) (shape_times_ten shape) name parent (times_ten budget) critical (times_ten max) (option_map cause_times_ten why)
    ≡ performed_times_ten (created rows shape name parent budget critical max why)
created_ten rows shape name parent budget critical max (Some why) =
    ap (λ told. answered (map row_times_ten rows) (shape_times_ten shape) (Refused told)) (told_ten why)
created_ten rows shape name parent budget critical max None =
    ap (λ n. record {
      answer = Created n;
      rows = rows_created (map row_times_ten rows) name parent (times_ten budget) critical (times_ten max);
      shape = shape_times_ten shape;
      mark = None;
      change = Some (RowCreated n);
    }) (length-map rows row_times_ten)
    ∙ ap (λ all. record (performed_times_ten (created rows shape name parent budget critical max None)) { rows = all })
    (rows_created_ten rows name parent budget critical max)

create_under_ten : (rows : List PartitionRow) (shape : Shape) (name : List ℕ) (budget critical max : ℕ) (parent : Option ℕ)
    → create_under (map row_times_ten rows) (shape_times_ten shape) name (times_ten budget) critical (times_ten max) parent
    ≡ performed_times_ten (create_under rows shape name budget critical max parent)
create_under_ten rows shape name budget critical max None = refl
create_under_ten rows shape name budget critical max (Some parent) =
    ap (created (map row_times_ten rows) (shape_times_ten shape) name parent (times_ten budget) critical (times_ten max))
    (create_refusal_ten shape.parts rows name parent budget critical max)
    ∙ created_ten rows shape name parent budget critical max (create_refusal shape.parts rows name parent budget critical max)

modified_ten : (rows : List PartitionRow) (shape : Shape) (p : ℕ) (budget critical max : Option ℕ) (why : Option TreeRefusal)
    → modified (map row_times_ten rows) (shape_times_ten shape) p (option_map times_ten budget) critical (option_map times_ten max) (option_map cause_times_ten why)
    ≡ performed_times_ten (modified rows shape p budget critical max why)
modified_ten rows shape p budget critical max (Some why) =
    ap (λ told. answered (map row_times_ten rows) (shape_times_ten shape) (Refused told)) (told_ten why)
modified_ten rows shape p budget critical max None =
    ap (λ all. record (performed_times_ten (modified rows shape p budget critical max None)) { rows = all })
    (rows_modified_ten rows p budget critical max)

modify_found_ten : (rows : List PartitionRow) (shape : Shape) (budget critical max p : Option ℕ)
    → modify_found (map row_times_ten rows) (shape_times_ten shape) (option_map times_ten budget) critical (option_map times_ten max) p
    ≡ performed_times_ten (modify_found rows shape budget critical max p)
modify_found_ten rows shape budget critical max None = refl
modify_found_ten rows shape budget critical max (Some p) =
    ap (modified (map row_times_ten rows) (shape_times_ten shape) p (option_map times_ten budget) critical (option_map times_ten max))
    (modify_refusal_ten shape.parts rows p budget critical max)
    ∙ modified_ten rows shape p budget critical max (modify_refusal shape.parts rows p budget critical max)

-- ---- the other commands

found_ten : (p : Option ℕ) → found p ≡ answer_times_ten (found p)
found_ten None = refl
found_ten (Some p) = refl

partition_ten : (rows : List PartitionRow) (view : CtlView) (p : Option ℕ)
    → partition_answer (map row_times_ten rows) view p ≡ answer_times_ten (partition_answer rows view p)
partition_ten rows view None = refl
partition_ten rows view (Some p) = ap (λ row. Partition p row (slice_index_or view.used p 0) (slice_index_or view.critical_used p 0)) (row_ten rows p)

statistics_ten : (view : CtlView) (p : Option ℕ) → statistics_answer view p ≡ answer_times_ten (statistics_answer view p)
statistics_ten view None = refl
statistics_ten view (Some p) = refl

thread_ten : (x : ℕ) (thread : Option ThreadView) → thread_answer x thread ≡ answer_times_ten (thread_answer x thread)
thread_ten x None = refl
thread_ten x (Some thread) = refl

marked_ten : (rows : List PartitionRow) (shape : Shape) (on : Bool) (answer : Answer) (state : State) → answer ≡ answer_times_ten answer
    → marked (map row_times_ten rows) (shape_times_ten shape) on answer state ≡ performed_times_ten (marked rows shape on answer state)
marked_ten rows shape on answer Ready e = ap (λ a. record (answered (map row_times_ten rows) (shape_times_ten shape) a) { mark = Some on }) e
marked_ten rows shape on answer (Running c) e = ap (λ a. record (answered (map row_times_ten rows) (shape_times_ten shape) a) { mark = Some on }) e
marked_ten rows shape on answer (Sleeping until) e = ap (λ a. record (answered (map row_times_ten rows) (shape_times_ten shape) a) { mark = Some on }) e
marked_ten rows shape on answer (Sending c) e = ap (λ a. record (answered (map row_times_ten rows) (shape_times_ten shape) a) { mark = Some on }) e
marked_ten rows shape on answer (Receiving c) e = ap (λ a. record (answered (map row_times_ten rows) (shape_times_ten shape) a) { mark = Some on }) e
marked_ten rows shape on answer (Replying r) e = ap (λ a. record (answered (map row_times_ten rows) (shape_times_ten shape) a) { mark = Some on }) e
marked_ten rows shape on answer Gone e = refl

mark_ten : (rows : List PartitionRow) (shape : Shape) (on : Bool) (answer : Answer) (thread : Option ThreadView) → answer ≡ answer_times_ten answer
    → mark_thread (map row_times_ten rows) (shape_times_ten shape) on answer thread ≡ performed_times_ten (mark_thread rows shape on answer thread)
mark_ten rows shape on answer None e = refl
mark_ten rows shape on answer (Some thread) e = marked_ten rows shape on answer thread.state e

perform_ten : (call : Call) (rows : List PartitionRow) (shape : Shape) (view : CtlView)
    → perform (call_times_ten call) (map row_times_ten rows) (shape_times_ten shape) view ≡ performed_times_ten (perform call rows shape view)
perform_ten (Create name parent budget critical max) rows shape view =
    ap (create_under (map row_times_ten rows) (shape_times_ten shape) name (times_ten budget) critical (times_ten max)) (named_ten rows parent)
    ∙ create_under_ten rows shape name budget critical max (partition_named rows parent)
perform_ten (Modify partition budget critical max) rows shape view =
    ap (modify_found (map row_times_ten rows) (shape_times_ten shape) (option_map times_ten budget) critical (option_map times_ten max)) (named_ten rows partition)
    ∙ modify_found_ten rows shape budget critical max (partition_named rows partition)
perform_ten (Lookup partition) rows shape view =
    ap (λ p. answered (map row_times_ten rows) (shape_times_ten shape) (found p)) (named_ten rows partition)
    ∙ ap (answered (map row_times_ten rows) (shape_times_ten shape)) (found_ten (partition_named rows partition))
perform_ten (QueryPartition partition) rows shape view =
    ap (λ p. answered (map row_times_ten rows) (shape_times_ten shape) (partition_answer (map row_times_ten rows) view p)) (named_ten rows partition)
    ∙ ap (answered (map row_times_ten rows) (shape_times_ten shape)) (partition_ten rows view (partition_named rows partition))
perform_ten (QueryThread thread) rows shape view =
    ap (answered (map row_times_ten rows) (shape_times_ten shape)) (thread_ten thread view.thread)
perform_ten QueryParameters rows shape view = refl
perform_ten (SetParameters window free limit bankruptcy) rows shape view = refl
perform_ten (Statistics partition) rows shape view =
    ap (λ p. answered (map row_times_ten rows) (shape_times_ten shape) (statistics_answer view p)) (named_ten rows partition)
    ∙ ap (answered (map row_times_ten rows) (shape_times_ten shape)) (statistics_ten view (partition_named rows partition))
perform_ten (MarkCritical thread) rows shape view = mark_ten rows shape true Marked view.thread refl
perform_ten (ClearCritical thread) rows shape view = mark_ten rows shape false Cleared view.thread refl

-- ---- what a command sees and leaves

thread_named_ten : (call : Call) → thread_named (call_times_ten call) ≡ thread_named call
thread_named_ten (Create name parent budget critical max) = refl
thread_named_ten (Modify partition budget critical max) = refl
thread_named_ten (Lookup partition) = refl
thread_named_ten (QueryPartition partition) = refl
thread_named_ten (QueryThread thread) = refl
thread_named_ten QueryParameters = refl
thread_named_ten (SetParameters window free limit bankruptcy) = refl
thread_named_ten (Statistics partition) = refl
thread_named_ten (MarkCritical thread) = refl
thread_named_ten (ClearCritical thread) = refl

threads_view_ten : (s : SchedulerState) (x : Option ℕ) → option_map (thread_view (state_times_ten s)) x ≡ option_map (thread_view s) x
threads_view_ten s None = refl
threads_view_ten s (Some x) = refl

view_ten : (s : SchedulerState) (h : List Entry) (j : ℕ) (call : Call) → view_of (state_times_ten s) h j (call_times_ten call) ≡ view_of s h j call
view_ten s h j call =
    ap (λ used. record (view_of (state_times_ten s) h j (call_times_ten call)) { used = used })
    (map_alike (window_used (shape_times_ten s.shape) h j) (window_used s.shape h j) (λ p. refl) (range_with_len 0 most_partitions))
    ∙ ap (λ used. record (view_of (state_times_ten s) h j (call_times_ten call)) { used = map (window_used s.shape h j) (range_with_len 0 most_partitions); critical_used = used })
    (map_alike (window_critical (shape_times_ten s.shape) h j) (window_critical s.shape h j) (λ p. refl) (range_with_len 0 most_partitions))
    ∙ ap (λ x. record (view_of s h j call) { thread = option_map (thread_view (state_times_ten s)) x }) (thread_named_ten call)
    ∙ ap (λ x. record (view_of s h j call) { thread = x }) (threads_view_ten s (thread_named call))

with_mark_ten : (s : SchedulerState) (x : Option ℕ) (mark : Option Bool) → with_mark (state_times_ten s) x mark ≡ state_times_ten (with_mark s x mark)
with_mark_ten s None mark = refl
with_mark_ten s (Some x) None = refl
with_mark_ten s (Some x) (Some on) = refl

-- the state after the command, by the state with its mark
abbrev left_by_command : SchedulerState → SchedulerState → ℕ → ℕ → Performed → SchedulerState
left_by_command with_marks s j place done = record with_marks {
  rows = done.rows;
  shape = done.shape;
  replies = s.replies ++ (record { command = place; answer = done.answer }) ∷ [];
  changes = (after_command s j place QueryParameters done).changes;
}

after_command_ten : (s : SchedulerState) (j place : ℕ) (call : Call) (done : Performed)
    → after_command (state_times_ten s) j place (call_times_ten call) (performed_times_ten done) ≡ state_times_ten (after_command s j place call done)
after_command_ten s j place call done =
    ap (λ x. left_by_command (with_mark (state_times_ten s) x done.mark) (state_times_ten s) j place (performed_times_ten done)) (thread_named_ten call)
    ∙ ap (λ t. left_by_command t (state_times_ten s) j place (performed_times_ten done)) (with_mark_ten s (thread_named call) done.mark)
    ∙ ap (λ replies. record (state_times_ten (after_command s j place call done)) { replies = replies })
    (sym (map-append reply_times_ten s.replies ((record { command = place; answer = done.answer }) ∷ [])))

-- ---- the commands of a tick

abbrev placed_times_ten : ℕ × CommandRow → ℕ × CommandRow
placed_times_ten (place, row) = (place, command_times_ten row)

do_command_ten : (h : List Entry) (j : ℕ) (s : SchedulerState) (c : ℕ × CommandRow)
    → do_command h j (state_times_ten s) (placed_times_ten c) ≡ state_times_ten (do_command h j s c)
do_command_ten h j s (place, row) =
    ap (λ view. after_command (state_times_ten s) j place (call_times_ten row.call) (perform (call_times_ten row.call) (map row_times_ten s.rows) (shape_times_ten s.shape) view))
    (view_ten s h j row.call)
    ∙ ap (after_command (state_times_ten s) j place (call_times_ten row.call)) (perform_ten row.call s.rows s.shape (view_of s h j row.call))
    ∙ after_command_ten s j place row.call (perform row.call s.rows s.shape (view_of s h j row.call))

kept_ten : (t : Bool) (c : ℕ × CommandRow) (cs : List (ℕ × CommandRow))
    → cond t (placed_times_ten c ∷ map placed_times_ten cs) (map placed_times_ten cs) ≡ map placed_times_ten (cond t (c ∷ cs) cs)
kept_ten true c cs = refl
kept_ten false c cs = refl

abbrev is_of : ℕ → ℕ × CommandRow → Bool
is_of j c = nat_eq c.1.tick j

commands_from : (j n : ℕ) (rows : List CommandRow)
    → filter (is_of j) (enumerate_from n (map command_times_ten rows)) ≡ map placed_times_ten (filter (is_of j) (enumerate_from n rows))
commands_from j n [] = refl
commands_from j n (row ∷ rows) =
    ap (λ rest. cond (nat_eq row.tick j) (placed_times_ten (n, row) ∷ rest) rest) (commands_from j (n + 1) rows)
    ∙ kept_ten (nat_eq row.tick j) (n, row) (filter (is_of j) (enumerate_from (n + 1) rows))

pub do_commands_ten : (scenario : Scenario) (h : List Entry) (j : ℕ) (s : SchedulerState)
    → do_commands (scenario_times_ten scenario) h j (state_times_ten s) ≡ state_times_ten (do_commands scenario h j s)
do_commands_ten scenario h j s =
    ap (fold (do_command h j) (state_times_ten s)) (commands_from j 0 scenario.commands)
    ∙ fold_through (do_command h j) (do_command h j) state_times_ten placed_times_ten (do_command_ten h j) s (commands_of scenario j)
