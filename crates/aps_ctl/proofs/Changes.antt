-- The change of a command follows from its answer and the rows that it leaves.
use Rattle.std.proofs.Common.{◌≡◌, ℕ, ◌-◌, ◌+◌, List, [], get_or, refl, sym, ◌∙◌, ap, slice_set, Bool, true, false, Option, Some, None, position, unwrap_or}
use Rattle.std.specs.Str.{bytes_eq}
use Rattle.std.specs.Option.{option_map}
use Rattle.std.proofs.Math.ListN.{get_or-map}
use Rattle.std.proofs.Math.Seq.{map-set_same}
use Rattle.aps_model.specs.declared.command.Answer.{Answer}
use Rattle.aps_model.specs.declared.command.Answer.TheVariants.{Marked, Cleared}
use Rattle.aps_model.specs.declared.command.Call.{Call}
use Rattle.aps_model.specs.declared.command.Call.TheVariants.{Create, Modify, Lookup, QueryPartition, QueryThread, QueryParameters, SetParameters, Statistics, MarkCritical, ClearCritical}
use Rattle.aps_model.specs.declared.command.ChangeKind.TheVariants.{Modified as RowModified}
use Rattle.aps_model.specs.declared.command.CtlView.{CtlView}
use Rattle.aps_model.specs.declared.command.ThreadView.{ThreadView}
use Rattle.aps_model.specs.declared.partition.PartitionRow.{PartitionRow}
use Rattle.aps_model.specs.declared.partition.TreeRefusal.{TreeRefusal}
use Rattle.aps_model.specs.declared.shape.Shape.{Shape}
use Rattle.aps_model.specs.declared.state.State.{State}
use Rattle.aps_model.specs.declared.state.State.TheVariants.{Ready, Running, Sleeping, Sending, Receiving, Replying, Gone}
use Rattle.aps_model.specs.Command.{Performed, create_under, created, found, mark_thread, marked, modified, modify_found, partition_answer, perform, statistics_answer, thread_answer, answered}
use Rattle.aps_model.specs.Partition.{no_row, partition_named, row_or_none}
use Rattle.aps_model.specs.Tree.{create_refusal, modify_refusal, row_modified, rows_modified}
use Rattle.aps_tree.specs.Named.{names_of}
use Rattle.aps_tree.proofs.Named.{found_by_name}
use Rattle.aps_ctl.specs.Outcome.{change_by}

-- ---- a modify leaves the names

names_modified : (rows : List PartitionRow) (p : ℕ) (budget critical max : Option ℕ) → names_of (rows_modified rows p budget critical max) ≡ names_of rows
names_modified rows p budget critical max =
    let row = row_or_none rows p in
    let parent = row_or_none rows row.parent in
    let giver : PartitionRow = record parent { budget = parent.budget + row.budget - unwrap_or budget row.budget } in
    let name : PartitionRow → List ℕ = λ r. r.name in
    let mid = slice_set rows row.parent giver in
    let first : names_of mid ≡ names_of rows = map-set_same name rows row.parent giver no_row refl in
    let kept : row.name ≡ (row_or_none mid p).name = sym (get_or-map name rows p no_row) ∙ ap (λ names. get_or names p []) (sym first) ∙ get_or-map name mid p no_row in
    map-set_same name mid p (row_modified row budget critical max) no_row kept ∙ first

named_after : (rows : List PartitionRow) (p : ℕ) (budget critical max : Option ℕ) (name : List ℕ) → partition_named (rows_modified rows p budget critical max) name ≡ partition_named rows name
named_after rows p budget critical max name =
    sym (found_by_name (rows_modified rows p budget critical max) name) ∙ ap (position (bytes_eq name)) (names_modified rows p budget critical max) ∙ found_by_name rows name

-- ---- the law, by the command

-- the change by what is done is its change
abbrev Follows : Call → Performed → Type 0
Follows call done = change_by call done.answer done.rows ≡ done.change

create_follows : (rows : List PartitionRow) (shape : Shape) (name parent : List ℕ) (budget critical max : ℕ) (o : Option ℕ)
    → Follows (Create name parent budget critical max) (create_under rows shape name budget critical max o)
create_follows rows shape name parent budget critical max None = refl
create_follows rows shape name parent budget critical max (Some p) = by (create_refusal shape.parts rows name p budget critical max)
  where
    by : (why : Option TreeRefusal) → Follows (Create name parent budget critical max) (created rows shape name p budget critical max why)
    by None = refl
    by (Some why) = refl

modify_follows : (rows : List PartitionRow) (shape : Shape) (name : List ℕ) (budget critical max : Option ℕ) (o : Option ℕ) → partition_named rows name ≡ o
    → Follows (Modify name budget critical max) (modify_found rows shape budget critical max o)
modify_follows rows shape name budget critical max None e = refl
modify_follows rows shape name budget critical max (Some p) e = by (modify_refusal shape.parts rows p budget critical max)
  where
    by : (why : Option TreeRefusal) → Follows (Modify name budget critical max) (modified rows shape p budget critical max why)
    by None = ap (option_map RowModified) (named_after rows p budget critical max name ∙ e)
    by (Some why) = refl

mark_follows : (call : Call) (rows : List PartitionRow) (shape : Shape) (on : Bool) (answer : Answer) (o : Option ThreadView) → change_by call answer rows ≡ None → Follows call (mark_thread rows shape on answer o)
mark_follows call rows shape on answer None e = refl
mark_follows call rows shape on answer (Some thread) e = by thread.state
  where
    by : (state : State) → Follows call (marked rows shape on answer state)
    by Ready = e
    by (Running c) = e
    by (Sleeping until) = e
    by (Sending c) = e
    by (Receiving c) = e
    by (Replying x) = e
    by Gone = refl

follows : (call : Call) (rows : List PartitionRow) (shape : Shape) (view : CtlView) → Follows call (perform call rows shape view)
follows (Create name parent budget critical max) rows shape view = create_follows rows shape name parent budget critical max (partition_named rows parent)
follows (Modify partition budget critical max) rows shape view = modify_follows rows shape partition budget critical max (partition_named rows partition) refl
follows (Lookup partition) rows shape view = by (partition_named rows partition)
  where
    by : (o : Option ℕ) → Follows (Lookup partition) (answered rows shape (found o))
    by None = refl
    by (Some p) = refl
follows (QueryPartition partition) rows shape view = by (partition_named rows partition)
  where
    by : (o : Option ℕ) → Follows (QueryPartition partition) (answered rows shape (partition_answer rows view o))
    by None = refl
    by (Some p) = refl
follows (QueryThread thread) rows shape view = by view.thread
  where
    by : (o : Option ThreadView) → Follows (QueryThread thread) (answered rows shape (thread_answer thread o))
    by None = refl
    by (Some t) = refl
follows QueryParameters rows shape view = refl
follows (SetParameters window free limit bankruptcy) rows shape view = refl
follows (Statistics partition) rows shape view = by (partition_named rows partition)
  where
    by : (o : Option ℕ) → Follows (Statistics partition) (answered rows shape (statistics_answer view o))
    by None = refl
    by (Some p) = refl
follows (MarkCritical thread) rows shape view = mark_follows (MarkCritical thread) rows shape true Marked view.thread refl
follows (ClearCritical thread) rows shape view = mark_follows (ClearCritical thread) rows shape false Cleared view.thread refl

-- an answer and rows that are those of a command give its change
pub change_follows : (call : Call) (answer : Answer) (left rows : List PartitionRow) (shape : Shape) (view : CtlView)
    → answer ≡ (perform call rows shape view).answer → left ≡ (perform call rows shape view).rows → change_by call answer left ≡ (perform call rows shape view).change
change_follows call answer left rows shape view e1 e2 = (λ j. change_by call (e1 j) (e2 j)) ∙ follows call rows shape view
