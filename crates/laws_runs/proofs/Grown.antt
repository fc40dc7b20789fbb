-- Rows and shape change only with a change.
use Rattle.std.proofs.Common.{◌≡◌, ℕ, ◌/◌, List, [], ◌∷◌, ◌++◌, length, refl, sym, ◌∙◌, ap, append_assoc, Bool, true, false, Option, Some, None}
use Rattle.std.proofs.lemmas.List.{append-nil}
use Rattle.aps_model.specs.declared.entry.Entry.{Entry}
use Rattle.aps_model.specs.declared.command.CommandRow.{CommandRow}
use Rattle.aps_model.specs.declared.command.Change.{Change}
use Rattle.aps_model.specs.declared.command.ChangeKind.{ChangeKind}
use Rattle.aps_model.specs.declared.command.Answer.{Answer}
use Rattle.aps_model.specs.declared.command.Call.{Call}
use Rattle.aps_model.specs.declared.command.Call.TheVariants.{Create, Modify, Lookup, QueryPartition, QueryThread, QueryParameters, SetParameters, Statistics, MarkCritical, ClearCritical}
use Rattle.aps_model.specs.declared.command.CtlView.{CtlView}
use Rattle.aps_model.specs.declared.command.ThreadView.{ThreadView}
use Rattle.aps_model.specs.declared.partition.PartitionRow.{PartitionRow}
use Rattle.aps_model.specs.declared.partition.TreeRefusal.{TreeRefusal}
use Rattle.aps_model.specs.declared.state.State.{State}
use Rattle.aps_model.specs.declared.state.State.TheVariants.{Ready, Running, Sleeping, Sending, Receiving, Replying, Gone}
use Rattle.aps_model.specs.declared.shape.Shape.{Shape}
use Rattle.laws_runs.specs.Grown.{IsGrown, AllAt}
use Rattle.laws_runs.proofs.ThreadFacts.{go_on_by}
use Rattle.laws_runs.proofs.Walk.{wake_each, command_each, sleepers_fold}
use Rattle.aps_model.specs.Command.{Performed, create_under, created, mark_thread, marked, modified, modify_found, perform}
use Rattle.aps_model.specs.Operation.{go_on}
use Rattle.aps_model.specs.Partition.{partition_named}
use Rattle.aps_model.specs.Scenario.{Scenario}
use Rattle.aps_model.specs.SchedulerState.{SchedulerState}
use Rattle.aps_model.specs.TickWork.{changes_with, commands_of, do_command, do_commands, has_tick_work, tick_work, view_of, wake_all, waking}

pub grown_same : (j : ℕ) (s t : SchedulerState) → t.rows ≡ s.rows → t.shape ≡ s.shape → t.changes ≡ s.changes → IsGrown j s t
grown_same j s t rows shape changes = record { more = []; is = changes ∙ sym (append-nil s.changes); ticks = tt; same = λ e. (rows, shape) }

all_append : (j : ℕ) (xs ys : List Change) → AllAt j xs → AllAt j ys → AllAt j (xs ++ ys)
all_append j [] ys a b = b
all_append j (x ∷ xs) ys a b = (a.0, all_append j xs ys a.1 b)

first_none : (xs ys : List Change) → xs ++ ys ≡ [] → (xs ≡ []) × (ys ≡ [])
first_none [] ys e = (refl, e)
first_none (x ∷ xs) ys e = absurd cc

pub grown_trans : (j : ℕ) (s t u : SchedulerState) → IsGrown j s t → IsGrown j t u → IsGrown j s u
grown_trans j s t u a b = record {
  more = a.more ++ b.more;
  is = b.is ∙ ap (λ l. l ++ b.more) a.is ∙ append_assoc s.changes a.more b.more;
  ticks = all_append j a.more b.more a.ticks b.ticks;
  same = λ e.
      let n = first_none a.more b.more e in
      let p = a.same n.0 in
      let q = b.same n.1 in
      (q.0 ∙ p.0, q.1 ∙ p.1);
}

-- ---- commands

abbrev IsHeld : List PartitionRow → Shape → Performed → Type 0
IsHeld rows shape p = p.change ≡ None → (p.rows ≡ rows) × (p.shape ≡ shape)

created_held : (rows : List PartitionRow) (shape : Shape) (name : List ℕ) (parent budget critical max : ℕ) (o : Option TreeRefusal) → IsHeld rows shape (created rows shape name parent budget critical max o)
created_held rows shape name parent budget critical max None = λ e. absurd cc
created_held rows shape name parent budget critical max (Some why) = λ e. (refl, refl)

create_held : (rows : List PartitionRow) (shape : Shape) (name : List ℕ) (budget critical max : ℕ) (o : Option ℕ) → IsHeld rows shape (create_under rows shape name budget critical max o)
create_held rows shape name budget critical max None = λ e. (refl, refl)
create_held rows shape name budget critical max (Some parent) = created_held rows shape name parent budget critical max _

modified_held : (rows : List PartitionRow) (shape : Shape) (p : ℕ) (budget critical max : Option ℕ) (o : Option TreeRefusal) → IsHeld rows shape (modified rows shape p budget critical max o)
modified_held rows shape p budget critical max None = λ e. absurd cc
modified_held rows shape p budget critical max (Some why) = λ e. (refl, refl)

modify_held : (rows : List PartitionRow) (shape : Shape) (budget critical max : Option ℕ) (o : Option ℕ) → IsHeld rows shape (modify_found rows shape budget critical max o)
modify_held rows shape budget critical max None = λ e. (refl, refl)
modify_held rows shape budget critical max (Some p) = modified_held rows shape p budget critical max _

marked_held : (rows : List PartitionRow) (shape : Shape) (on : Bool) (answer : Answer) (st : State) → IsHeld rows shape (marked rows shape on answer st)
marked_held rows shape on answer Ready = λ e. (refl, refl)
marked_held rows shape on answer (Running c) = λ e. (refl, refl)
marked_held rows shape on answer (Sleeping until) = λ e. (refl, refl)
marked_held rows shape on answer (Sending c) = λ e. (refl, refl)
marked_held rows shape on answer (Receiving c) = λ e. (refl, refl)
marked_held rows shape on answer (Replying x) = λ e. (refl, refl)
marked_held rows shape on answer Gone = λ e. (refl, refl)

mark_held : (rows : List PartitionRow) (shape : Shape) (on : Bool) (answer : Answer) (o : Option ThreadView) → IsHeld rows shape (mark_thread rows shape on answer o)
mark_held rows shape on answer None = λ e. (refl, refl)
mark_held rows shape on answer (Some thread) = marked_held rows shape on answer thread.state

performed_held : (call : Call) (rows : List PartitionRow) (shape : Shape) (view : CtlView) → IsHeld rows shape (perform call rows shape view)
performed_held (Create name parent budget critical max) rows shape view = create_held rows shape name budget critical max (partition_named rows parent)
performed_held (Modify partition budget critical max) rows shape view = modify_held rows shape budget critical max (partition_named rows partition)
performed_held (Lookup partition) rows shape view = λ e. (refl, refl)
performed_held (QueryPartition partition) rows shape view = λ e. (refl, refl)
performed_held (QueryThread thread) rows shape view = λ e. (refl, refl)
performed_held QueryParameters rows shape view = λ e. (refl, refl)
performed_held (SetParameters window free limit bankruptcy) rows shape view = λ e. absurd cc
performed_held (Statistics partition) rows shape view = λ e. (refl, refl)
performed_held (MarkCritical thread) rows shape view = mark_held rows shape true _ view.thread
performed_held (ClearCritical thread) rows shape view = mark_held rows shape false _ view.thread

grown_by : (j : ℕ) (s t : SchedulerState) (o : Option ChangeKind) → t.changes ≡ changes_with s.changes j o → (o ≡ None → (t.rows ≡ s.rows) × (t.shape ≡ s.shape)) → IsGrown j s t
grown_by j s t None is same = let both = same refl in grown_same j s t both.0 both.1 is
grown_by j s t (Some kind) is same = record { more = (record { tick = j; kind = kind }) ∷ []; is = is; ticks = (refl, tt); same = λ e. absurd cc }

command_grown : (h : List Entry) (j : ℕ) (s : SchedulerState) (c : ℕ × CommandRow) → IsGrown j s (do_command h j s c)
command_grown h j s (place, row) =
    let view = view_of s h j row.call in
    grown_by j s (do_command h j s (place, row)) (perform row.call s.rows s.shape view).change refl (performed_held row.call s.rows s.shape view)

pub go_on_grown : (scenario : Scenario) (j : ℕ) (s t : SchedulerState) (y now : ℕ) → IsGrown j s t → IsGrown j s (go_on scenario t y now)
go_on_grown scenario j s t y now m =
    go_on_by scenario t y now (IsGrown j s)
    (λ u e o. grown_trans j s t _ m (grown_same j t _ refl refl refl))
    (λ u n e o st l. grown_trans j s t _ m (grown_same j t _ refl refl refl))

pub tick_grown : (scenario : Scenario) (s : SchedulerState) (h : List Entry) (now : ℕ) → IsGrown (now / s.shape.tick) s (tick_work scenario s h now)
tick_grown scenario s h now = by_test (has_tick_work s h now)
  where
    by_test : (t : Bool) → IsGrown (now / s.shape.tick) s (elim t [
      | true ↦ wake_all scenario now (do_commands scenario h (now / s.shape.tick) s)
      | false ↦ s
    ])
    by_test true =
        let j = now / s.shape.tick in
        let mid = do_commands scenario h j s in
        wake_each scenario now (IsGrown j s) (λ t y u m st. go_on_grown scenario j s t y now m) (waking mid now) mid (sleepers_fold mid now (length mid.threads) 0 [] (λ y l. tt) tt)
        (command_each h j (IsGrown j s) (λ t c m. grown_trans j s t _ m (command_grown h j t c)) (commands_of scenario j) s (grown_same j s s refl refl refl))
    by_test false = grown_same (now / s.shape.tick) s s refl refl refl
