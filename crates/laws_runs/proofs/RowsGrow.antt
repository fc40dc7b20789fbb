-- Rows never go away.
use Rattle.std.proofs.Common.{◌≡◌, ℕ, ◌-◌, ◌/◌, ◌≤◌, List, [], ◌∷◌, ◌++◌, length, refl, ◌∙◌, ap, Bool, true, false, Option, Some, None, slice_set, arith, length-set}
use Rattle.std.proofs.lemmas.List.{length-append}
use Rattle.aps_model.specs.declared.entry.Entry.{Entry}
use Rattle.aps_model.specs.declared.command.Answer.{Answer}
use Rattle.aps_model.specs.declared.command.Call.{Call}
use Rattle.aps_model.specs.declared.command.Call.TheVariants.{Create, Modify, Lookup, QueryPartition, QueryThread, QueryParameters, SetParameters, Statistics, MarkCritical, ClearCritical}
use Rattle.aps_model.specs.declared.command.CommandRow.{CommandRow}
use Rattle.aps_model.specs.declared.command.CtlView.{CtlView}
use Rattle.aps_model.specs.declared.command.ThreadView.{ThreadView}
use Rattle.aps_model.specs.declared.merit.PartFacts.{PartFacts}
use Rattle.aps_model.specs.declared.merit.Contender.{Contender}
use Rattle.aps_model.specs.declared.partition.PartitionRow.{PartitionRow}
use Rattle.aps_model.specs.declared.partition.TreeRefusal.{TreeRefusal}
use Rattle.aps_model.specs.declared.shape.Shape.{Shape}
use Rattle.aps_model.specs.declared.state.Pick.{Pick}
use Rattle.aps_model.specs.declared.state.State.{State}
use Rattle.aps_model.specs.declared.state.State.TheVariants.{Ready, Running, Sleeping, Sending, Receiving, Replying, Gone}
use Rattle.laws_runs.specs.Bears.{Bears, NamesChannels}
use Rattle.laws_runs.specs.Waits.{IsPlain, state_at}
use Rattle.laws_runs.proofs.EachThread.{go_on_exact}
use Rattle.laws_runs.proofs.EachStep.{IsStanding}
use Rattle.laws_runs.proofs.Mid.{test_mid, tested_by, unflagged}
use Rattle.laws_runs.proofs.Picked.{flag_rows}
use Rattle.laws_runs.proofs.StepOf.{bill_at, step_by, tested_at}
use Rattle.laws_runs.proofs.Walk.{returned_kept, tick_kept}
use Rattle.laws_runs.proofs.WaitBears.{plain_bears}
use Rattle.aps_model.specs.Bill.{spend}
use Rattle.aps_model.specs.Budget.{all_parts}
use Rattle.aps_model.specs.Command.{Performed, create_under, created, mark_thread, marked, modified, modify_found, perform}
use Rattle.aps_model.specs.Due.{due}
use Rattle.aps_model.specs.Flag.{flag_for}
use Rattle.aps_model.specs.Operation.{go_on}
use Rattle.aps_model.specs.Partition.{partition_named, row_or_none}
use Rattle.aps_model.specs.Pick.{contenders, greatest}
use Rattle.aps_model.specs.Scenario.{Scenario}
use Rattle.aps_model.specs.SchedulerState.{SchedulerState, cpu_at}
use Rattle.aps_model.specs.Step.{Step, begun, billed, chosen, settled, step}
use Rattle.aps_model.specs.TickWork.{do_command, view_of}

abbrev IsLonger : List PartitionRow → Performed → Type 0
IsLonger rows p = length rows ≤ length p.rows

created_longer : (rows : List PartitionRow) (shape : Shape) (name : List ℕ) (parent budget critical max : ℕ) (o : Option TreeRefusal) → IsLonger rows (created rows shape name parent budget critical max o)
created_longer rows shape name parent budget critical max None =
    let row : PartitionRow = record { name = name; parent = parent; budget = budget; critical = critical; max = max } in
    let less : PartitionRow = record (row_or_none rows parent) { budget = (row_or_none rows parent).budget - budget } in
    omega (arith, length-append (slice_set rows parent less) (row ∷ []), length-set rows parent less)
created_longer rows shape name parent budget critical max (Some why) = omega arith

create_longer : (rows : List PartitionRow) (shape : Shape) (name : List ℕ) (budget critical max : ℕ) (o : Option ℕ) → IsLonger rows (create_under rows shape name budget critical max o)
create_longer rows shape name budget critical max None = omega arith
create_longer rows shape name budget critical max (Some parent) = created_longer rows shape name parent budget critical max _

modified_longer : (rows : List PartitionRow) (shape : Shape) (p : ℕ) (budget critical max : Option ℕ) (o : Option TreeRefusal) → IsLonger rows (modified rows shape p budget critical max o)
modified_longer rows shape p budget critical max None =
    let same : length (modified rows shape p budget critical max None).rows ≡ length rows = length-set (slice_set rows (row_or_none rows p).parent _) p _ ∙ length-set rows (row_or_none rows p).parent _ in
    omega (arith, same)
modified_longer rows shape p budget critical max (Some why) = omega arith

modify_longer : (rows : List PartitionRow) (shape : Shape) (budget critical max : Option ℕ) (o : Option ℕ) → IsLonger rows (modify_found rows shape budget critical max o)
modify_longer rows shape budget critical max None = omega arith
modify_longer rows shape budget critical max (Some p) = modified_longer rows shape p budget critical max _

marked_longer : (rows : List PartitionRow) (shape : Shape) (on : Bool) (answer : Answer) (st : State) → IsLonger rows (marked rows shape on answer st)
marked_longer rows shape on answer Ready = omega arith
marked_longer rows shape on answer (Running c) = omega arith
marked_longer rows shape on answer (Sleeping until) = omega arith
marked_longer rows shape on answer (Sending c) = omega arith
marked_longer rows shape on answer (Receiving c) = omega arith
marked_longer rows shape on answer (Replying x) = omega arith
marked_longer rows shape on answer Gone = omega arith

mark_longer : (rows : List PartitionRow) (shape : Shape) (on : Bool) (answer : Answer) (o : Option ThreadView) → IsLonger rows (mark_thread rows shape on answer o)
mark_longer rows shape on answer None = omega arith
mark_longer rows shape on answer (Some thread) = marked_longer rows shape on answer thread.state

performed_longer : (call : Call) (rows : List PartitionRow) (shape : Shape) (view : CtlView) → IsLonger rows (perform call rows shape view)
performed_longer (Create name parent budget critical max) rows shape view = create_longer rows shape name budget critical max (partition_named rows parent)
performed_longer (Modify partition budget critical max) rows shape view = modify_longer rows shape budget critical max (partition_named rows partition)
performed_longer (Lookup partition) rows shape view = omega arith
performed_longer (QueryPartition partition) rows shape view = omega arith
performed_longer (QueryThread thread) rows shape view = omega arith
performed_longer QueryParameters rows shape view = omega arith
performed_longer (SetParameters window free limit bankruptcy) rows shape view = omega arith
performed_longer (Statistics partition) rows shape view = omega arith
performed_longer (MarkCritical thread) rows shape view = mark_longer rows shape true _ view.thread
performed_longer (ClearCritical thread) rows shape view = mark_longer rows shape false _ view.thread

pub go_on_rows : (scenario : Scenario) (s : SchedulerState) (y now : ℕ) → (go_on scenario s y now).rows ≡ s.rows
go_on_rows scenario s y now = go_on_exact scenario s y now (λ u. u.rows ≡ s.rows) (λ awake. refl) (λ ns is. refl)

pub rows_begun : (scenario : Scenario) (s : SchedulerState) (h : List Entry) (c now : ℕ) → length s.rows ≤ length (begun scenario s h c now).rows
rows_begun scenario s h c now =
    tick_kept scenario now (λ t. length s.rows ≤ length t.rows)
    (λ t y u m e. let same = ap (λ (l : List PartitionRow). length l) (go_on_rows scenario t y now) in omega (arith, same, m))
    (λ k j t row m. commanded k j t row m) (unflagged s c) h (omega arith)
  where
    commanded : (k : List Entry) (j : ℕ) (t : SchedulerState) (row : ℕ × CommandRow) → length s.rows ≤ length t.rows → length s.rows ≤ length (do_command k j t row).rows
    commanded k j t (place, row) m = let l = performed_longer row.call t.rows t.shape (view_of t k j row.call) in omega (arith, l, m)

-- where the threads move, rows stay
rows_bears : (scenario : Scenario) (now c x : ℕ) (s : SchedulerState) → Bears scenario now c x (λ t. IsPlain scenario t × (t.rows ≡ s.rows))
rows_bears scenario now c x s =
    let b = plain_bears scenario now c x in
    record {
      waiting = λ t m. b.waiting t m.0;
      woken = λ t y u m e. (b.woken t y u m.0 e, go_on_rows scenario t y now ∙ m.1);
      put = λ t u m run loose st. (b.put t u m.0 run loose st, m.1);
      stamped = λ t u m run up. (b.stamped t u m.0 run up, m.1);
      send_waits = λ t d named m run e. (b.send_waits t d named m.0 run e, m.1);
      send_meets = λ t d r rest named m run e. (b.send_meets t d r rest named m.0 run e, go_on_rows scenario _ r now ∙ m.1);
      receive_waits = λ t d named m run free e. (b.receive_waits t d named m.0 run free e, m.1);
      receive_takes = λ t d msg named m run free e. (b.receive_takes t d msg named m.0 run free e, m.1);
      replies = λ t y m run e. (b.replies t y m.0 run e, go_on_rows scenario _ y now ∙ m.1);
      leaves = λ t m run free. (b.leaves t m.0 run free, m.1);
    }

pub settled_rows : (scenario : Scenario) (r : SchedulerState) (c now : ℕ) (running : Option Pick) → NamesChannels scenario → IsPlain scenario r → ((p : Pick) → running ≡ Some p → state_at r p.thread ≡ Running c)
    → (settled scenario r now running).state.rows ≡ r.rows
settled_rows scenario r c now None names plain runs = refl
settled_rows scenario r c now (Some p) names plain runs =
    (returned_kept scenario now c p (λ t. IsPlain scenario t × (t.rows ≡ r.rows)) (rows_bears scenario now c p.thread r) names r (plain, refl) (runs p refl)).0.1

spent_rows : (s : SchedulerState) (ns : ℕ) (running : Option Pick) → (spend s ns running).rows ≡ s.rows
spent_rows s ns None = refl
spent_rows s ns (Some p) = refl

pub chosen_rows : (s : SchedulerState) (ps : List PartFacts) (c : ℕ) (best : Option Contender) → (chosen s ps c best).rows ≡ s.rows
chosen_rows s ps c None = refl
chosen_rows s ps c (Some b) = refl

pub tested_rows : (scenario : Scenario) (s : SchedulerState) (h : List Entry) (c : ℕ) → length (tested_at scenario s h c).state.rows ≡ length (begun scenario s h c (due s h c)).rows
tested_rows scenario s h c =
    let e = bill_at s h c in
    let s1 = begun scenario s h c (due s h c) in
    let r = billed s1 e (cpu_at s c).running in
    let same : length r.rows ≡ length s1.rows = ap (λ (l : List PartitionRow). length l) (spent_rows s1 (e.to - e.from) (cpu_at s c).running) in
    tested_by r.shape.bankruptcy r _ _ (λ t. length t.rows ≡ length s1.rows) same (λ p. length-set r.rows p _ ∙ same)

-- a step has as many rows as after the work of the tick
pub step_rows : (scenario : Scenario) (s : SchedulerState) (h : List Entry) (c : ℕ) → IsStanding scenario s c → length (step scenario s h c).state.rows ≡ length (begun scenario s h c (due s h c)).rows
step_rows scenario s h c st =
    let now = due s h c in
    let running = (cpu_at s c).running in
    let mid = test_mid scenario s h c now (bill_at s h c) running st.plain st.kept refl in
    let s3 = (tested_at scenario s h c).state in
    let r = (settled scenario s3 now running).state in
    let settled' : r.rows ≡ s3.rows = settled_rows scenario s3 c now running st.names mid.mid.plain mid.runs in
    step_by scenario s h c (λ (out : Step). length out.state.rows ≡ length (begun scenario s h c now).rows)
    (λ o why. tested_rows scenario s h c)
    (λ early.
    let ps = all_parts r.shape r.rows (h ++ (record (bill_at s h c) { done = (settled scenario s3 now running).done }) ∷ []) (now / r.shape.tick) in
    let best = greatest r.shape.free ps (contenders r) in
    let q = chosen r ps c best in
    ap (λ (l : List PartitionRow). length l) (flag_rows q now (flag_for q h ps c now (greatest r.shape.free ps (contenders q))) ∙ chosen_rows r ps c best ∙ settled') ∙ tested_rows scenario s h c)
