-- What a command leaves, and the commands of a tick that are still to come.
use Rattle.std.proofs.Common.{◌≡◌, ℕ, ◌+◌, ◌<◌, ◌≤◌, List, [], ◌∷◌, ◌++◌, length, get_or, map, refl, sym, ◌∙◌, ap, subst, Bool, nat_eq, Option, Some, None, All, IfSome, arith}
use Rattle.std.specs.List.{enumerate_from, fold}
use Rattle.std.proofs.Math.ListN.{get_or-map}
use Rattle.std.proofs.Math.Seq.{map-set_same}
use Rattle.std.proofs.lemmas.List.Elements.{All-cons, All-filter, All-head, All-nil, All-tail, All-weaker}
use Rattle.std.proofs.lemmas.List.{length-append}
use Rattle.aps_model.specs.declared.command.Answer.{Answer}
use Rattle.aps_model.specs.declared.command.Call.{Call}
use Rattle.aps_model.specs.declared.command.Change.{Change}
use Rattle.aps_model.specs.declared.command.ChangeKind.{ChangeKind}
use Rattle.aps_model.specs.declared.command.CommandRow.{CommandRow}
use Rattle.aps_model.specs.declared.command.CtlView.{CtlView}
use Rattle.aps_model.specs.declared.command.Reply.{Reply}
use Rattle.aps_model.specs.declared.entry.Entry.{Entry}
use Rattle.aps_model.specs.declared.partition.PartitionRow.{PartitionRow}
use Rattle.aps_model.specs.declared.shape.Bankruptcy.{Bankruptcy}
use Rattle.aps_model.specs.declared.shape.Free.{Free}
use Rattle.aps_model.specs.declared.shape.Shape.{Shape}
use Rattle.aps_model.specs.declared.state.ThreadNow.{ThreadNow}
use Rattle.aps_model.specs.Command.{Performed, perform, shape_set}
use Rattle.aps_model.specs.Inherit.{Inheritance}
use Rattle.aps_model.specs.Limits.{most_commands}
use Rattle.aps_model.specs.Scenario.{Scenario}
use Rattle.aps_model.specs.SchedulerState.{SchedulerState, no_thread, thread_at}
use Rattle.aps_model.specs.Shape.{IsShape}
use Rattle.aps_model.specs.TickWork.{changes_with, commands_of, do_command, thread_named, view_of, with_mark}
use Rattle.aps_model.specs.Valid.{IsCall, IsCommand, IsScenario, IsWindow}
use Rattle.laws_runs.proofs.Performed.{performed_by}
use Rattle.aps_ctl.specs.Pending.{all_at, given, next_at, without_next}
use Rattle.aps_ctl.proofs.InTurn.{next_first, next_left, none_next}
use Rattle.aps_core.specs.Calls.{AreInRange, IsCallInRange, all_done, command_at}
use Rattle.aps_core.specs.Counts.{Counts}
use Rattle.aps_core.specs.Machine.{IsCoreMachine}
use Rattle.aps_core.specs.Room.{HasRoomToWake, changes_of_a_run}
use Rattle.aps_core.proofs.Counting.{counts_resized}
use Rattle.aps_window.specs.Window.{Window, resized}

-- ---- the shape

record IsShapeKept (before after : Shape) : Type 0 where
  ranges : IsShape after
  parts : after.parts ≡ before.parts
  cpus : after.cpus ≡ before.cpus
  tick : after.tick ≡ before.tick

set_kept : (shape : Shape) (window : Option ℕ) (free : Option Free) (limit : Option Bool) (bankruptcy : Option Bankruptcy) → IfSome window IsWindow → IsShape shape
    → IsShapeKept shape (shape_set shape window free limit bankruptcy)
set_kept shape None free limit bankruptcy fits m = record {
  ranges = record { parts = m.parts; some_cpu = m.some_cpu; few_cpus = m.few_cpus; tick_long = m.tick_long; tick_short = m.tick_short; tick_whole = m.tick_whole; window_long = m.window_long; window_short = m.window_short; some_tick = m.some_tick; few_ticks = m.few_ticks; some_call = m.some_call; short_call = m.short_call };
  parts = refl;
  cpus = refl;
  tick = refl;
}
set_kept shape (Some w) free limit bankruptcy fits m = record {
  ranges = record { parts = m.parts; some_cpu = m.some_cpu; few_cpus = m.few_cpus; tick_long = m.tick_long; tick_short = m.tick_short; tick_whole = m.tick_whole; window_long = fits.long; window_short = fits.short; some_tick = m.some_tick; few_ticks = m.few_ticks; some_call = m.some_call; short_call = m.short_call };
  parts = refl;
  cpus = refl;
  tick = refl;
}

performed_kept : (parts threads : ℕ) (call : Call) (rows : List PartitionRow) (shape : Shape) (view : CtlView) → IsCall parts threads call → IsShape shape → IsShapeKept shape (perform call rows shape view).shape
performed_kept parts threads call rows shape view fits m =
    performed_by parts threads call rows shape view (λ (done : Performed). IsShapeKept shape done.shape) fits
    (record {
      same = λ answer mark. record { ranges = m; parts = refl; cpus = refl; tick = refl };
      creates = λ name parent budget critical max named none. record { ranges = m; parts = refl; cpus = refl; tick = refl };
      modifies = λ p budget critical max none. record { ranges = m; parts = refl; cpus = refl; tick = refl };
      sets = λ window free limit bankruptcy range. set_kept shape window free limit bankruptcy range m;
    })

-- the machine keeps its ranges
pub performed_machine : (parts threads : ℕ) (call : Call) (view : CtlView) (s : SchedulerState) (rows : List PartitionRow) (shape : Shape) (waiters : ℕ) (inherit : Inheritance) (tree_parts tree_parts' replies changes : ℕ)
    → IsCall parts threads call → IsCoreMachine s waiters inherit tree_parts replies changes → shape ≡ (perform call s.rows s.shape view).shape → tree_parts' ≡ tree_parts
    → IsCoreMachine (record s { rows = rows; shape = shape }) waiters inherit tree_parts' replies changes
performed_machine parts threads call view s rows shape waiters inherit tree_parts tree_parts' replies changes fits m left same =
    let kept : IsShapeKept s.shape shape = subst (IsShapeKept s.shape) (sym left) (performed_kept parts threads call s.rows s.shape view fits m.shape) in
    record {
      shape = kept.ranges;
      few_threads = m.few_threads;
      cpus = m.cpus ∙ sym kept.cpus;
      waiters = m.waiters;
      inherits = m.inherits;
      parts = same ∙ m.parts ∙ sym kept.parts;
      reply_room = m.reply_room;
      change_room = m.change_room;
    }

-- ---- one command

mark_frame : (s : SchedulerState) (rows : List PartitionRow) (shape : Shape) (o : Option ℕ) (m : Option Bool) → with_mark (record s { rows = rows; shape = shape }) o m ≡ record (with_mark s o m) { rows = rows; shape = shape }
mark_frame s rows shape None m = refl
mark_frame s rows shape (Some x) None = refl
mark_frame s rows shape (Some x) (Some on) = refl

mark_shape : (s : SchedulerState) (o : Option ℕ) (m : Option Bool) → (with_mark s o m).shape ≡ s.shape
mark_shape s None m = refl
mark_shape s (Some x) None = refl
mark_shape s (Some x) (Some on) = refl

mark_replies : (s : SchedulerState) (o : Option ℕ) (m : Option Bool) → (with_mark s o m).replies ≡ s.replies
mark_replies s None m = refl
mark_replies s (Some x) None = refl
mark_replies s (Some x) (Some on) = refl

mark_changes : (s : SchedulerState) (o : Option ℕ) (m : Option Bool) → (with_mark s o m).changes ≡ s.changes
mark_changes s None m = refl
mark_changes s (Some x) None = refl
mark_changes s (Some x) (Some on) = refl

-- what the code's parts of a command leave, before its reply and its change are kept
pub record IsPerformed (s : SchedulerState) (h : List Entry) (j : ℕ) (call : Call) (answer : Answer) (change : Option ChangeKind) (t : SchedulerState) : Type 0 where
  pub answers : answer ≡ (perform call s.rows s.shape (view_of s h j call)).answer
  pub changes : change ≡ (perform call s.rows s.shape (view_of s h j call)).change
  pub leaves : t ≡ record (with_mark s (thread_named call) (perform call s.rows s.shape (view_of s h j call)).mark) {
    rows = (perform call s.rows s.shape (view_of s h j call)).rows;
    shape = (perform call s.rows s.shape (view_of s h j call)).shape;
  }

pub performed_of : (s : SchedulerState) (h : List Entry) (j : ℕ) (call : Call) (view : CtlView) (answer : Answer) (rows : List PartitionRow) (shape : Shape) (change : Option ChangeKind) (mark : Option Bool) (t : SchedulerState)
    → view ≡ view_of s h j call → answer ≡ (perform call s.rows s.shape view).answer → rows ≡ (perform call s.rows s.shape view).rows → shape ≡ (perform call s.rows s.shape view).shape
    → change ≡ (perform call s.rows s.shape view).change → mark ≡ (perform call s.rows s.shape view).mark
    → t ≡ with_mark (record s { rows = rows; shape = shape }) (thread_named call) mark
    → IsPerformed s h j call answer change t
performed_of s h j call view answer rows shape change mark t seen e1 e2 e3 e4 e5 e6 =
    let same = ap (λ v. perform call s.rows s.shape v) seen in
    record {
      answers = e1 ∙ ap (λ (p : Performed). p.answer) same;
      changes = e4 ∙ ap (λ (p : Performed). p.change) same;
      leaves = e6
          ∙ mark_frame s rows shape (thread_named call) mark
          ∙ (λ k. record (with_mark s (thread_named call) (e5 k)) { rows = e2 k; shape = e3 k })
          ∙ ap (λ (p : Performed). record (with_mark s (thread_named call) p.mark) { rows = p.rows; shape = p.shape }) same;
    }

pub few_replies : (s : SchedulerState) (h : List Entry) (j : ℕ) (call : Call) (answer : Answer) (change : Option ChangeKind) (t : SchedulerState) → IsPerformed s h j call answer change t → t.replies ≡ s.replies
few_replies s h j call answer change t p = ap (λ (u : SchedulerState). u.replies) p.leaves ∙ mark_replies s (thread_named call) _

pub few_changes : (s : SchedulerState) (h : List Entry) (j : ℕ) (call : Call) (answer : Answer) (change : Option ChangeKind) (t : SchedulerState) → IsPerformed s h j call answer change t → t.changes ≡ s.changes
few_changes s h j call answer change t p = ap (λ (u : SchedulerState). u.changes) p.leaves ∙ mark_changes s (thread_named call) _

-- the window that counts as many ticks as the shape says after the command
pub counts_performed : (parts threads : ℕ) (call : Call) (view : CtlView) (s t u : SchedulerState) (shape : Shape) (o : Option ℕ) (m : Option Bool) (h : List Entry) (j : ℕ) (w new : Window)
    → IsCall parts threads call → IsShape s.shape → shape ≡ (perform call s.rows s.shape view).shape → Counts s.shape h j w → new ≡ resized shape.window w
    → t.shape ≡ shape → u ≡ with_mark t o m → Counts u.shape h j new
counts_performed parts threads call view s t u shape o m h j w new fits sized left c new_is has marked =
    let kept : IsShapeKept s.shape shape = subst (IsShapeKept s.shape) (sym left) (performed_kept parts threads call s.rows s.shape view fits sized) in
    let same : u.shape ≡ shape = ap (λ (v : SchedulerState). v.shape) marked ∙ mark_shape t o m ∙ has in
    subst (λ (x : Shape). Counts x h j new) (sym same)
    (subst (Counts shape h j) (sym new_is) (counts_resized s.shape shape h j w c kept.tick kept.ranges.window_short))

-- a command with a change makes the changes longer
pub added_change : (s : SchedulerState) (h : List Entry) (j place : ℕ) (row : CommandRow) (answer : Answer) (change : Option ChangeKind) (kind : ChangeKind) (t : SchedulerState)
    → IsPerformed s h j row.call answer change t → change ≡ Some kind → length (do_command h j s (place, row)).changes ≡ length t.changes + 1
added_change s h j place row answer change kind t p is =
    ap (λ o. length (changes_with s.changes j o)) (sym p.changes ∙ is)
    ∙ length-append s.changes _
    ∙ ap (λ (l : List Change). length l + 1) (sym (few_changes s h j row.call answer change t p))

-- the command is done
pub done_by : (s : SchedulerState) (h : List Entry) (j place : ℕ) (row : CommandRow) (answer : Answer) (change : Option ChangeKind) (t : SchedulerState) (replies : List Reply) (changes : List Change)
    → IsPerformed s h j row.call answer change t → replies ≡ t.replies ++ (record { command = place; answer = answer }) ∷ [] → changes ≡ changes_with t.changes j change
    → record t { replies = replies; changes = changes } ≡ do_command h j s (place, row)
done_by s h j place row answer change t replies changes p e1 e2 =
    let r = few_replies s h j row.call answer change t p in
    let c = few_changes s h j row.call answer change t p in
    (λ k. record (p.leaves k) {
      replies = (e1 ∙ (λ i. r i ++ (record { command = place; answer = p.answers i }) ∷ [])) k;
      changes = (e2 ∙ (λ i. changes_with (c i) j (p.changes i))) k;
    })

-- ---- what a command makes longer

pub more_replies : (h : List Entry) (j : ℕ) (s : SchedulerState) (c : ℕ × CommandRow) → length (do_command h j s c).replies ≡ length s.replies + 1
more_replies h j s (place, row) = length-append s.replies _

with_longer : (changes : List Change) (j : ℕ) (o : Option ChangeKind) → length changes ≤ length (changes_with changes j o)
with_longer changes j None = omega arith
with_longer changes j (Some kind) = let n = length-append changes ((record { tick = j; kind = kind }) ∷ []) in omega (arith, n)

pub more_changes : (h : List Entry) (j : ℕ) (s : SchedulerState) (c : ℕ × CommandRow) → length s.changes ≤ length (do_command h j s c).changes
more_changes h j s (place, row) = with_longer s.changes j _

pub all_replies : (h : List Entry) (j : ℕ) (cs : List (ℕ × CommandRow)) (s : SchedulerState) → length s.replies ≤ length (fold (do_command h j) s cs).replies
all_replies h j [] s = omega arith
all_replies h j (c ∷ cs) s = let rest = all_replies h j cs (do_command h j s c) in let more = more_replies h j s c in omega (arith, rest, more)

pub all_changes : (h : List Entry) (j : ℕ) (cs : List (ℕ × CommandRow)) (s : SchedulerState) → length s.changes ≤ length (fold (do_command h j) s cs).changes
all_changes h j [] s = omega arith
all_changes h j (c ∷ cs) s = let rest = all_changes h j cs (do_command h j s c) in let more = more_changes h j s c in omega (arith, rest, more)

-- ---- the commands of a tick

some_call : (a b : ℕ × Call) → Some a ≡ Some b → a ≡ b
some_call a b e = cc

no_call : (a : ℕ × Call) → None ≡ Some a → ⊥
no_call a e = cc

-- the next command of a tick is the first one that is still to come
pub record IsNext (h : List Entry) (j : ℕ) (s : SchedulerState) (pending : List (ℕ × CommandRow)) (place : ℕ) (call : Call) : Type 0 where
  pub done : all_done h j s pending ≡ all_done h j (do_command h j s (command_at j place call)) (without_next j pending)
  pub range : AreInRange (all_at j pending) → IsCallInRange call
  pub left : AreInRange (all_at j pending) → AreInRange (all_at j (without_next j pending))
  pub fewer : length (all_at j (without_next j pending)) < length (all_at j pending)

pub next_of : (h : List Entry) (j : ℕ) (s : SchedulerState) (pending : List (ℕ × CommandRow)) (place : ℕ) (call : Call) → Some (place, call) ≡ next_at j pending → IsNext h j s pending place call
next_of h j s pending place call is = by (all_at j pending) refl
  where
    by : (all : List (ℕ × CommandRow)) → all_at j pending ≡ all → IsNext h j s pending place call
    by [] e = absurd (no_call (place, call) (sym (is ∙ none_next j pending e)))
    by (next ∷ later) e =
        let same : (place, call) ≡ given next = some_call _ _ (is ∙ next_first j pending next later e) in
        let rest = next_left j pending next later e in
        record {
          done =
              ap (fold (do_command h j) s) e
              ∙ ap (λ (c : ℕ × Call). fold (do_command h j) (do_command h j s (command_at j c.0 c.1)) later) (sym same)
              ∙ ap (fold (do_command h j) (do_command h j s (command_at j place call))) (sym rest);
          range = λ all. subst (λ (c : ℕ × Call). IsCallInRange c.1) (sym same) (All-head (λ (c : ℕ × CommandRow). IsCallInRange c.1.call) next later (subst AreInRange e all));
          left = λ all. subst AreInRange (sym rest) (All-tail (λ (c : ℕ × CommandRow). IsCallInRange c.1.call) next later (subst AreInRange e all));
          fewer = omega (arith, ap length rest, ap length e);
        }

-- where there is none, none is still to come
pub none_left : (h : List Entry) (j : ℕ) (s : SchedulerState) (pending : List (ℕ × CommandRow)) → None ≡ next_at j pending → all_done h j s pending ≡ s
none_left h j s pending is = by (all_at j pending) refl
  where
    by : (all : List (ℕ × CommandRow)) → all_at j pending ≡ all → all_done h j s pending ≡ s
    by [] e = ap (fold (do_command h j) s) e
    by (next ∷ later) e = absurd (no_call (given next) (is ∙ next_first j pending next later e))

-- the next command has room where all that are still to come have
pub record HasRoomAt (h : List Entry) (j place : ℕ) (call : Call) (s : SchedulerState) : Type 0 where
  pub replies : length s.replies < most_commands
  pub changes : length (do_command h j s (command_at j place call)).changes ≤ changes_of_a_run

pub room_at : (h : List Entry) (j place : ℕ) (call : Call) (s whole : SchedulerState) (pending : List (ℕ × CommandRow)) → IsNext h j s pending place call
    → all_done h j s pending ≡ whole → length whole.replies ≤ most_commands → length whole.changes ≤ changes_of_a_run → HasRoomAt h j place call s
room_at h j place call s whole pending next all replies changes =
    let did = do_command h j s (command_at j place call) in
    let left : all_done h j did (without_next j pending) ≡ whole = sym next.done ∙ all in
    let r = all_replies h j (all_at j (without_next j pending)) did in
    let c = all_changes h j (all_at j (without_next j pending)) did in
    let one = more_replies h j s (command_at j place call) in
    let same_replies = ap (λ (u : SchedulerState). length u.replies) left in
    let same_changes = ap (λ (u : SchedulerState). length u.changes) left in
    record { replies = omega (arith, r, one, same_replies, replies); changes = omega (arith, c, same_changes, changes) }

-- ---- places and stamps

mark_places : (s : SchedulerState) (o : Option ℕ) (m : Option Bool) → map (λ (t : ThreadNow). t.place) (with_mark s o m).threads ≡ map (λ (t : ThreadNow). t.place) s.threads
mark_places s None m = refl
mark_places s (Some x) None = refl
mark_places s (Some x) (Some on) = map-set_same (λ (t : ThreadNow). t.place) s.threads x _ no_thread refl

mark_stamps : (s : SchedulerState) (o : Option ℕ) (m : Option Bool) → (with_mark s o m).stamps ≡ s.stamps
mark_stamps s None m = refl
mark_stamps s (Some x) None = refl
mark_stamps s (Some x) (Some on) = refl

command_room : (place stamp : ℕ) (h : List Entry) (j : ℕ) (s : SchedulerState) (c : ℕ × CommandRow) → HasRoomToWake place stamp s → HasRoomToWake place stamp (do_command h j s c)
command_room place stamp h j s (at, row) m =
    let mark = (perform row.call s.rows s.shape (view_of s h j row.call)).mark in
    let places = mark_places s (thread_named row.call) mark in
    record {
      places = λ x.
          let same : (thread_at (do_command h j s (at, row)) x).place ≡ (thread_at s x).place =
          sym (get_or-map (λ (t : ThreadNow). t.place) (with_mark s (thread_named row.call) mark).threads x no_thread) ∙ ap (λ l. get_or l x 0) places ∙ get_or-map (λ (t : ThreadNow). t.place) s.threads x no_thread in
          let was = m.places x in
          omega (arith, same, was);
      stamps = let same = mark_stamps s (thread_named row.call) mark in let was = m.stamps in omega (arith, same, was);
    }

pub commands_room : (place stamp : ℕ) (h : List Entry) (j : ℕ) (cs : List (ℕ × CommandRow)) (s : SchedulerState) → HasRoomToWake place stamp s → HasRoomToWake place stamp (fold (do_command h j) s cs)
commands_room place stamp h j [] s m = m
commands_room place stamp h j (c ∷ cs) s m = commands_room place stamp h j cs (do_command h j s c) (command_room place stamp h j s c m)

-- ---- what the commands of a tick rest on

numbered_in_range : (n : ℕ) (rows : List CommandRow) → All (λ (row : CommandRow). IsCallInRange row.call) rows → AreInRange (enumerate_from n rows)
numbered_in_range n [] all = All-nil (λ (c : ℕ × CommandRow). IsCallInRange c.1.call)
numbered_in_range n (row ∷ rows) all =
    All-cons (λ (c : ℕ × CommandRow). IsCallInRange c.1.call) (n, row) (enumerate_from (n + 1) rows)
    (All-head (λ (r : CommandRow). IsCallInRange r.call) row rows all)
    (numbered_in_range (n + 1) rows (All-tail (λ (r : CommandRow). IsCallInRange r.call) row rows all))

pub in_range : (scenario : Scenario) (j : ℕ) → IsScenario scenario → AreInRange (commands_of scenario j)
in_range scenario j valid =
    All-filter (λ (c : ℕ × CommandRow). nat_eq c.1.tick j) (λ (c : ℕ × CommandRow). IsCallInRange c.1.call) (enumerate_from 0 scenario.commands)
    (numbered_in_range 0 scenario.commands
    (All-weaker (IsCommand scenario.shape.parts scenario.shape.ticks (length scenario.threads)) (λ (r : CommandRow). IsCallInRange r.call)
    (λ row fits. (scenario.shape.parts, length scenario.threads, fits.call)) scenario.commands valid.commands))

-- where no reply comes, no command does
pub quiet_commands : (h : List Entry) (j : ℕ) (cs : List (ℕ × CommandRow)) (s : SchedulerState) → length (fold (do_command h j) s cs).replies ≤ length s.replies → fold (do_command h j) s cs ≡ s
quiet_commands h j [] s few = refl
quiet_commands h j (c ∷ cs) s few =
    absurd (let more = more_replies h j s c in let all = all_replies h j cs (do_command h j s c) in omega (arith, more, all, few))
