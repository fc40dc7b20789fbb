-- How many stamps a step gives.
use Rattle.std.proofs.Common.{◌≡◌, ℕ, zero, suc, ◌+◌, ◌*◌, ◌-◌, ◌/◌, ◌≤◌, List, [], ◌∷◌, ◌++◌, length, refl, sym, ◌∙◌, subst, Bool, true, false, cond, Option, Some, None, arith, length-set, mul-le-mul_right}
use Rattle.std.specs.List.{cons_option, filter_map, fold, range_with_len}
use Rattle.std.proofs.lemmas.List.{length-append}
use Rattle.aps_model.specs.declared.entry.Entry.{Entry}
use Rattle.aps_model.specs.declared.entry.Order.{Order}
use Rattle.aps_model.specs.declared.command.CommandRow.{CommandRow}
use Rattle.aps_model.specs.declared.merit.PartFacts.{PartFacts}
use Rattle.aps_model.specs.declared.merit.Contender.{Contender}
use Rattle.aps_model.specs.declared.program.Op.{Op}
use Rattle.aps_model.specs.declared.program.Op.TheVariants.{Run, Forever, Sleep, Yield, Send, Receive, Reply, Join, Priority, CriticalOn, CriticalOff, Repeat, Exit}
use Rattle.aps_model.specs.declared.scenario.ThreadRow.{ThreadRow}
use Rattle.aps_model.specs.declared.state.Pick.{Pick}
use Rattle.aps_model.specs.declared.state.State.{State}
use Rattle.aps_model.specs.declared.state.State.TheVariants.{Ready, Running, Sleeping, Sending, Receiving, Replying, Gone}
use Rattle.laws_runs.specs.Sound.{IsSound}
use Rattle.laws_runs.specs.Stamped.{HasFewStamps}
use Rattle.laws_runs.specs.Waits.{state_at}
use Rattle.laws_runs.proofs.Carry.{carried}
use Rattle.laws_runs.proofs.Commands.{command_by}
use Rattle.laws_runs.proofs.EachThread.{go_on_exact}
use Rattle.laws_runs.proofs.Mid.{tested_by, unflagged}
use Rattle.laws_runs.proofs.Picked.{flag_stamps}
use Rattle.laws_runs.proofs.Sound.{running_on, sound_opening, sound_step, sound_step_of}
use Rattle.laws_runs.proofs.StepOf.{bill_at, step_by, tested_at}
use Rattle.laws_runs.proofs.ThreadFit.{start_count}
use Rattle.laws_runs.proofs.ThreadLaws.{stamps_law}
use Rattle.laws_runs.proofs.Walk.{command_each}
use Rattle.aps_model.specs.After.{state_after}
use Rattle.aps_model.specs.Bill.{spend}
use Rattle.aps_model.specs.Budget.{all_parts}
use Rattle.aps_model.specs.Due.{due}
use Rattle.aps_model.specs.Effect.{effect, joined}
use Rattle.aps_model.specs.Flag.{flag_for}
use Rattle.aps_model.specs.Inherit.{client_of}
use Rattle.aps_model.specs.Legal.{IsLegal}
use Rattle.aps_model.specs.Messages.{first_message, received, received_message, replied, sent}
use Rattle.aps_model.specs.Opening.{first_state, stamp_after, start_stamps}
use Rattle.aps_model.specs.Operation.{go_on, is_slice_over, with_stamped}
use Rattle.aps_model.specs.Partition.{partition_named}
use Rattle.aps_model.specs.Pick.{contenders, greatest}
use Rattle.aps_model.specs.Scenario.{Scenario, op_at, thread_row}
use Rattle.aps_model.specs.SchedulerState.{Message, SchedulerState, channel_at, cpu_at, thread_at, with_state}
use Rattle.aps_model.specs.Step.{Step, begun, billed, chosen, enter_next, finish_op, give_back, settled, step}
use Rattle.aps_model.specs.TickWork.{commands_of, do_command, do_commands, has_tick_work, insert_sleeper, is_earlier, tick_work, wake_all, wakes_at, waking}
use Rattle.aps_model.specs.Valid.{IsScenario}

go_on_stamps : (scenario : Scenario) (s : SchedulerState) (y now : ℕ) → (go_on scenario s y now).stamps ≤ s.stamps + 1
go_on_stamps scenario s y now = go_on_exact scenario s y now (λ u. u.stamps ≤ s.stamps + 1) (λ awake. omega arith) (λ ns is. omega arith)

-- ---- the wakes

woken_count : (now : ℕ) (st : ℕ → State) (n a : ℕ) → length (filter_map (λ x. wakes_at now x (st x)) (range_with_len a n)) ≤ n
woken_count now st zero a = omega arith
woken_count now st (suc n) a = by_wake (wakes_at now a (st a)) (woken_count now st n (a + 1))
  where
    by_wake : (o : Option (ℕ × ℕ)) → length (filter_map (λ x. wakes_at now x (st x)) (range_with_len (a + 1) n)) ≤ n
        → length (cons_option o (filter_map (λ x. wakes_at now x (st x)) (range_with_len (a + 1) n))) ≤ suc n
    by_wake None l = omega arith
    by_wake (Some p) l = omega arith

insert_count : (p : ℕ × ℕ) (xs : List (ℕ × ℕ)) → length (insert_sleeper p xs) ≡ length xs + 1
insert_count p [] = refl
insert_count p (q ∷ rest) = by_test (is_earlier p q) (insert_count p rest)
  where
    by_test : (t : Bool) → length (insert_sleeper p rest) ≡ length rest + 1 → length (cond t (p ∷ q ∷ rest) (q ∷ insert_sleeper p rest)) ≡ suc (length rest) + 1
    by_test true l = omega arith
    by_test false l = omega arith

sorted_count : (xs acc : List (ℕ × ℕ)) → length (fold (λ sleepers sleeper. insert_sleeper sleeper sleepers) acc xs) ≡ length acc + length xs
sorted_count [] acc = omega arith
sorted_count (x ∷ xs) acc = omega (arith, sorted_count xs (insert_sleeper x acc), insert_count x acc)

waking_count : (s : SchedulerState) (now : ℕ) → length (waking s now) ≤ length s.threads
waking_count s now =
    let xs : List (ℕ × ℕ) = filter_map (λ x. wakes_at now x (thread_at s x).state) (range_with_len 0 (length s.threads)) in
    omega (arith, sorted_count xs [], woken_count now (state_at s) (length s.threads) 0)

wakes_stamps : (scenario : Scenario) (now : ℕ) (xs : List (ℕ × ℕ)) (s : SchedulerState) → (fold (λ state (sleeper : ℕ × ℕ). go_on scenario state sleeper.1 now) s xs).stamps ≤ s.stamps + length xs
wakes_stamps scenario now [] s = omega arith
wakes_stamps scenario now (p ∷ rest) s = omega (arith, wakes_stamps scenario now rest (go_on scenario s p.1 now), go_on_stamps scenario s p.1 now)

-- commands leave stamps and the number of threads
record IsSameStamps (s t : SchedulerState) : Type 0 where
  stamps : t.stamps ≡ s.stamps
  count : length t.threads ≡ length s.threads

commanded : (h : List Entry) (j : ℕ) (s t : SchedulerState) (c : ℕ × CommandRow) → IsSameStamps s t → IsSameStamps s (do_command h j t c)
commanded h j s t c m = command_by h j t c (IsSameStamps s) (IsSameStamps s) (λ mid rows shape replies changes q sizes. record { stamps = q.stamps; count = q.count }) m (λ x own. record { stamps = m.stamps; count = length-set t.threads x _ ∙ m.count })

-- no more stamps than one for each thread
abbrev pub IsOneEach : SchedulerState → SchedulerState → Type 0
IsOneEach s t = t.stamps ≤ s.stamps + length s.threads

pub ticked_stamps : (scenario : Scenario) (s : SchedulerState) (h : List Entry) (now : ℕ) → IsOneEach s (tick_work scenario s h now)
ticked_stamps scenario s h now = by_test (has_tick_work s h now)
  where
    by_test : (t : Bool) → IsOneEach s (elim t [
      | true ↦ wake_all scenario now (do_commands scenario h (now / s.shape.tick) s)
      | false ↦ s
    ])
    by_test true =
        let j = now / s.shape.tick in
        let mid = do_commands scenario h j s in
        let same = command_each h j (IsSameStamps s) (λ t c m. commanded h j s t c m) (commands_of scenario j) s (record { stamps = refl; count = refl }) in
        let a = wakes_stamps scenario now (waking mid now) mid in
        let b = waking_count mid now in
        omega (arith, a, b, same.stamps, same.count)
    by_test false = omega arith

-- ---- the operation

sent_stamps : (scenario : Scenario) (s : SchedulerState) (x d now : ℕ) (rs : List ℕ) → (sent scenario s x d now rs).state.stamps ≤ s.stamps + 1
sent_stamps scenario s x d now [] = omega arith
sent_stamps scenario s x d now (r ∷ rest) = go_on_stamps scenario _ r now

received_stamps : (s : SchedulerState) (x d : ℕ) (o : Option Message) → (received_message s x d o).state.stamps ≤ s.stamps + 1
received_stamps s x d None = omega arith
received_stamps s x d (Some m) = omega arith

received_if_stamps : (s : SchedulerState) (x d : ℕ) (o : Option ℕ) → (received s x d o).state.stamps ≤ s.stamps + 1
received_if_stamps s x d None = received_stamps s x d (first_message (channel_at s d).messages)
received_if_stamps s x d (Some client) = omega arith

replied_stamps : (scenario : Scenario) (s : SchedulerState) (x now : ℕ) (o : Option ℕ) → (replied scenario s x now o).state.stamps ≤ s.stamps + 1
replied_stamps scenario s x now None = omega arith
replied_stamps scenario s x now (Some y) = go_on_stamps scenario _ y now

joined_stamps : (s : SchedulerState) (x : ℕ) (o : Option ℕ) → (joined s x o).state.stamps ≤ s.stamps + 1
joined_stamps s x None = omega arith
joined_stamps s x (Some p) = omega arith

effect_stamps : (scenario : Scenario) (s : SchedulerState) (x now : ℕ) (op : Op) → (effect scenario s x now op).state.stamps ≤ s.stamps + 1
effect_stamps scenario s x now (Run ns) = omega arith
effect_stamps scenario s x now Forever = omega arith
effect_stamps scenario s x now (Sleep ns) = omega arith
effect_stamps scenario s x now Yield = omega arith
effect_stamps scenario s x now (Send d) = sent_stamps scenario s x d now (channel_at s d).receivers
effect_stamps scenario s x now (Receive d) = received_if_stamps s x d (client_of s.triples x)
effect_stamps scenario s x now Reply = replied_stamps scenario s x now (client_of s.triples x)
effect_stamps scenario s x now (Join name) = joined_stamps s x (partition_named s.rows name)
effect_stamps scenario s x now (Priority n) = omega arith
effect_stamps scenario s x now CriticalOn = omega arith
effect_stamps scenario s x now CriticalOff = omega arith
effect_stamps scenario s x now Repeat = omega arith
effect_stamps scenario s x now Exit = replied_stamps scenario s x now (client_of s.triples x)

pub entered_stamps : (scenario : Scenario) (s : SchedulerState) (x now : ℕ) (op : Op) (st : State) → (enter_next scenario s x now op st).stamps ≡ s.stamps
entered_stamps scenario s x now op (Running c) = refl
entered_stamps scenario s x now op Ready = refl
entered_stamps scenario s x now op (Sleeping until) = refl
entered_stamps scenario s x now op (Sending d) = refl
entered_stamps scenario s x now op (Receiving d) = refl
entered_stamps scenario s x now op (Replying y) = refl
entered_stamps scenario s x now op Gone = refl

finished_stamps : (scenario : Scenario) (s : SchedulerState) (x now : ℕ) (left : Option ℕ) → (finish_op scenario s x now left).state.stamps ≤ s.stamps + 1
finished_stamps scenario s x now None = omega arith
finished_stamps scenario s x now (Some (suc n)) = omega arith
finished_stamps scenario s x now (Some zero) =
    let op = op_at scenario x (thread_at s x).place in
    let did = (effect scenario s x now op).state in
    omega (arith, entered_stamps scenario did x now op (thread_at did x).state, effect_stamps scenario s x now op)

given_stamps : (scenario : Scenario) (s : SchedulerState) (x : ℕ) (st : State) → (give_back scenario s x st).stamps ≤ s.stamps + 1
given_stamps scenario s x (Running c) = by_slice (is_slice_over s.shape (thread_row scenario x).policy (thread_at s x).since)
  where
    by_slice : (over : Bool) → (cond over (with_stamped s x (record (thread_at s x) { state = Ready })) (with_state s x Ready)).stamps ≤ s.stamps + 1
    by_slice true = omega arith
    by_slice false = omega arith
given_stamps scenario s x Ready = omega arith
given_stamps scenario s x (Sleeping until) = omega arith
given_stamps scenario s x (Sending d) = omega arith
given_stamps scenario s x (Receiving d) = omega arith
given_stamps scenario s x (Replying y) = omega arith
given_stamps scenario s x Gone = omega arith

pub settled_stamps : (scenario : Scenario) (s : SchedulerState) (now : ℕ) (running : Option Pick) → (settled scenario s now running).state.stamps ≤ s.stamps + 2
settled_stamps scenario s now None = omega arith
settled_stamps scenario s now (Some p) =
    let did = (finish_op scenario s p.thread now (thread_at s p.thread).left).state in
    omega (arith, given_stamps scenario did p.thread (thread_at did p.thread).state, finished_stamps scenario s p.thread now (thread_at s p.thread).left)

spent_stamps : (s : SchedulerState) (ns : ℕ) (running : Option Pick) → (spend s ns running).stamps ≡ s.stamps
spent_stamps s ns None = refl
spent_stamps s ns (Some p) = refl

chosen_stamps : (s : SchedulerState) (ps : List PartFacts) (c : ℕ) (best : Option Contender) → (chosen s ps c best).stamps ≡ s.stamps
chosen_stamps s ps c None = refl
chosen_stamps s ps c (Some b) = refl

pub tested_stamps : (scenario : Scenario) (s : SchedulerState) (h : List Entry) (c : ℕ) → (tested_at scenario s h c).state.stamps ≤ s.stamps + length s.threads
tested_stamps scenario s h c =
    let e = bill_at s h c in
    let s1 = begun scenario s h c (due s h c) in
    let r = billed s1 e (cpu_at s c).running in
    let first = ticked_stamps scenario (unflagged s c) h (due s h c) in
    let l : r.stamps ≤ s.stamps + length s.threads = omega (arith, spent_stamps s1 (e.to - e.from) (cpu_at s c).running, first) in
    tested_by r.shape.bankruptcy r _ _ (λ t. t.stamps ≤ s.stamps + length s.threads) l (λ p. l)

step_stamps : (scenario : Scenario) (s : SchedulerState) (h : List Entry) (c : ℕ) → (step scenario s h c).state.stamps ≤ s.stamps + (length s.threads + 2)
step_stamps scenario s h c =
    let now = due s h c in
    let running = (cpu_at s c).running in
    let s3 = (tested_at scenario s h c).state in
    let t = tested_stamps scenario s h c in
    step_by scenario s h c (λ (out : Step). out.state.stamps ≤ s.stamps + (length s.threads + 2))
    (λ o why. omega (arith, t))
    (λ early.
    let did = settled scenario s3 now running in
    let r = did.state in
    let ps = all_parts r.shape r.rows (h ++ (record (bill_at s h c) { done = did.done }) ∷ []) (now / r.shape.tick) in
    let best = greatest r.shape.free ps (contenders r) in
    let q = chosen r ps c best in
    omega (arith, flag_stamps q now (flag_for q h ps c now (greatest r.shape.free ps (contenders q))), chosen_stamps r ps c best, settled_stamps scenario s3 now running, t))

-- ---- all steps

first_stamps : (next : ℕ) (rows : List ThreadRow) → start_stamps next rows ≤ next + length rows
first_stamps next [] = omega arith
first_stamps next (row ∷ rows) = omega (arith, first_stamps (stamp_after (first_state row) next) rows, one_more (first_state row))
  where
    one_more : (st : State) → stamp_after st next ≤ next + 1
    one_more Ready = omega arith
    one_more (Running c) = omega arith
    one_more (Sleeping until) = omega arith
    one_more (Sending d) = omega arith
    one_more (Receiving d) = omega arith
    one_more (Replying y) = omega arith
    one_more Gone = omega arith

grows : (n k : ℕ) (h : List Entry) (e : Entry) → k + n * length h + n ≡ k + n * length (h ++ e ∷ [])
grows n k h e = rw (length-append h (e ∷ [])) (omega (arith, distribute n (length h)))
  where
    distribute : (a b : ℕ) → a * (b + 1) ≡ a * b + a
    distribute a b = search (arith)

pub few_stamps : (scenario : Scenario) (order : Order) (h : List Entry) → IsScenario scenario → IsLegal scenario order h → HasFewStamps (state_after scenario h) h
few_stamps scenario order h r legal =
    let n = length scenario.threads in
    let m = carried scenario order (λ h a. IsSound scenario a.state h × (length a.state.threads ≡ n) × (a.state.stamps ≤ n + (n + 2) * length h))
    (sound_opening scenario, start_count scenario.shape scenario.threads 0 0, let f = first_stamps 0 scenario.threads in omega (arith, f))
    (λ h a c m run turn.
    let e = (step scenario a.state h c).entry in
    let more = step_stamps scenario a.state h c in (
      sound_step scenario order a.state h c r m.0 (running_on a h run).early turn,
      (sound_step_of scenario order a.state h c r m.0 turn).count ∙ m.1,
      omega (arith, more, m.1, m.2, grows (n + 2) n h e),
    )) h legal in
    let few = r.few_threads in
    let less : (n + 2) * length h ≤ 1026 * length h = mul-le-mul_right (length h) (omega (arith, few)) in
    let next : (state_after scenario h).stamps ≤ n + (n + 2) * length h = m.2 in
    let small : (state_after scenario h).stamps ≤ 1024 + 1026 * length h = omega (arith, next, less, few) in
    record {
      next = subst (λ k. (state_after scenario h).stamps ≤ k + (k + 2) * length h) (sym m.1) next;
      small = small;
      active = λ x a. let b = (stamps_law scenario order r h legal).below x a in omega (arith, b, small);
    }
