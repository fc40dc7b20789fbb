-- What a command may leave of rows and shape: four cases.
use Rattle.std.proofs.Common.{◌≡◌, ℕ, List, length, refl, Bool, true, false, Option, Some, None, IfSome}
use Rattle.aps_model.specs.declared.command.Answer.{Answer}
use Rattle.aps_model.specs.declared.command.Answer.TheVariants.{Created as IsCreated, Modified as IsModified, Set as IsSet}
use Rattle.aps_model.specs.declared.command.Call.{Call}
use Rattle.aps_model.specs.declared.command.Call.TheVariants.{Create, Modify, Lookup, QueryPartition, QueryThread, QueryParameters, SetParameters, Statistics, MarkCritical, ClearCritical}
use Rattle.aps_model.specs.declared.command.ChangeKind.TheVariants.{Created as RowCreated, Modified as RowModified, Parameters as ParametersSet}
use Rattle.aps_model.specs.declared.command.CtlView.{CtlView}
use Rattle.aps_model.specs.declared.command.ThreadView.{ThreadView}
use Rattle.aps_model.specs.declared.partition.PartitionRow.{PartitionRow}
use Rattle.aps_model.specs.declared.partition.TreeRefusal.{TreeRefusal}
use Rattle.aps_model.specs.declared.shape.Bankruptcy.{Bankruptcy}
use Rattle.aps_model.specs.declared.shape.Free.{Free}
use Rattle.aps_model.specs.declared.shape.Shape.{Shape}
use Rattle.aps_model.specs.declared.state.State.{State}
use Rattle.aps_model.specs.declared.state.State.TheVariants.{Ready, Running, Sleeping, Sending, Receiving, Replying, Gone}
use Rattle.aps_model.specs.Command.{Performed, create_under, created, mark_thread, marked, modified, modify_found, perform, shape_set}
use Rattle.aps_model.specs.Name.{IsName}
use Rattle.aps_model.specs.Partition.{partition_named}
use Rattle.aps_model.specs.Tree.{create_refusal, modify_refusal, rows_created, rows_modified}
use Rattle.aps_model.specs.Valid.{IsCall, IsWindow}

-- a property of what a command leaves: where it changes nothing, makes a row, modifies a row, and sets parameters
pub record Leaves (rows : List PartitionRow) (shape : Shape) (P : Performed → Type 0) : Type 0 where
  pub same : (answer : Answer) (mark : Option Bool) → P (record { answer = answer; rows = rows; shape = shape; mark = mark; change = None })
  pub creates : (name : List ℕ) (parent budget critical max : ℕ) → IsName name → create_refusal shape.parts rows name parent budget critical max ≡ None → P (record {
    answer = IsCreated (length rows);
    rows = rows_created rows name parent budget critical max;
    shape = shape;
    mark = None;
    change = Some (RowCreated (length rows));
  })
  pub modifies : (p : ℕ) (budget critical max : Option ℕ) → modify_refusal shape.parts rows p budget critical max ≡ None → P (record {
    answer = IsModified;
    rows = rows_modified rows p budget critical max;
    shape = shape;
    mark = None;
    change = Some (RowModified p);
  })
  pub sets : (window : Option ℕ) (free : Option Free) (limit : Option Bool) (bankruptcy : Option Bankruptcy) → IfSome window IsWindow → P (record {
    answer = IsSet;
    rows = rows;
    shape = shape_set shape window free limit bankruptcy;
    mark = None;
    change = Some ParametersSet;
  })

created_by : (rows : List PartitionRow) (shape : Shape) (P : Performed → Type 0) → Leaves rows shape P → (name : List ℕ) (parent budget critical max : ℕ) → IsName name
    → (o : Option TreeRefusal) → create_refusal shape.parts rows name parent budget critical max ≡ o → P (created rows shape name parent budget critical max o)
created_by rows shape P m name parent budget critical max named None is = m.creates name parent budget critical max named is
created_by rows shape P m name parent budget critical max named (Some why) is = m.same _ None

create_by : (rows : List PartitionRow) (shape : Shape) (P : Performed → Type 0) → Leaves rows shape P → (name : List ℕ) (budget critical max : ℕ) → IsName name
    → (o : Option ℕ) → P (create_under rows shape name budget critical max o)
create_by rows shape P m name budget critical max named None = m.same _ None
create_by rows shape P m name budget critical max named (Some parent) = created_by rows shape P m name parent budget critical max named _ refl

modified_by : (rows : List PartitionRow) (shape : Shape) (P : Performed → Type 0) → Leaves rows shape P → (p : ℕ) (budget critical max : Option ℕ)
    → (o : Option TreeRefusal) → modify_refusal shape.parts rows p budget critical max ≡ o → P (modified rows shape p budget critical max o)
modified_by rows shape P m p budget critical max None is = m.modifies p budget critical max is
modified_by rows shape P m p budget critical max (Some why) is = m.same _ None

modify_by : (rows : List PartitionRow) (shape : Shape) (P : Performed → Type 0) → Leaves rows shape P → (budget critical max : Option ℕ) → (o : Option ℕ) → P (modify_found rows shape budget critical max o)
modify_by rows shape P m budget critical max None = m.same _ None
modify_by rows shape P m budget critical max (Some p) = modified_by rows shape P m p budget critical max _ refl

marked_by : (rows : List PartitionRow) (shape : Shape) (P : Performed → Type 0) → Leaves rows shape P → (on : Bool) (answer : Answer) (st : State) → P (marked rows shape on answer st)
marked_by rows shape P m on answer Ready = m.same _ _
marked_by rows shape P m on answer (Running c) = m.same _ _
marked_by rows shape P m on answer (Sleeping until) = m.same _ _
marked_by rows shape P m on answer (Sending c) = m.same _ _
marked_by rows shape P m on answer (Receiving c) = m.same _ _
marked_by rows shape P m on answer (Replying x) = m.same _ _
marked_by rows shape P m on answer Gone = m.same _ _

mark_by : (rows : List PartitionRow) (shape : Shape) (P : Performed → Type 0) → Leaves rows shape P → (on : Bool) (answer : Answer) (o : Option ThreadView) → P (mark_thread rows shape on answer o)
mark_by rows shape P m on answer None = m.same _ _
mark_by rows shape P m on answer (Some thread) = marked_by rows shape P m on answer thread.state

pub performed_by : (parts threads : ℕ) (call : Call) (rows : List PartitionRow) (shape : Shape) (view : CtlView) (P : Performed → Type 0) → IsCall parts threads call → Leaves rows shape P → P (perform call rows shape view)
performed_by parts threads (Create name parent budget critical max) rows shape view P fits m = create_by rows shape P m name budget critical max fits.named (partition_named rows parent)
performed_by parts threads (Modify partition budget critical max) rows shape view P fits m = modify_by rows shape P m budget critical max (partition_named rows partition)
performed_by parts threads (Lookup partition) rows shape view P fits m = m.same _ _
performed_by parts threads (QueryPartition partition) rows shape view P fits m = m.same _ _
performed_by parts threads (QueryThread thread) rows shape view P fits m = m.same _ _
performed_by parts threads QueryParameters rows shape view P fits m = m.same _ _
performed_by parts threads (SetParameters window free limit bankruptcy) rows shape view P fits m = m.sets window free limit bankruptcy fits.1
performed_by parts threads (Statistics partition) rows shape view P fits m = m.same _ _
performed_by parts threads (MarkCritical thread) rows shape view P fits m = mark_by rows shape P m true _ view.thread
performed_by parts threads (ClearCritical thread) rows shape view P fits m = mark_by rows shape P m false _ view.thread
