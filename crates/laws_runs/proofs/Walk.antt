-- A property that bears each move is kept by all that a step does before its pick.
use Rattle.std.proofs.Common.{◌≡◌, ◌≢◌, ℕ, ◌+◌, ◌/◌, ◌<◌, ◌≤◌, zero, suc, List, [], ◌∷◌, length, refl, sym, ◌∙◌, ap, subst, Bool, true, false, cond, nat_le, Option, Some, None, slice_index_or, slice_set, arith, inl, inr, ◌⊎◌}
use Rattle.std.specs.List.{range_with_len, fold, filter_map, cons_option}
use Rattle.aps_model.specs.declared.program.Op.{Op}
use Rattle.aps_model.specs.declared.program.Op.TheVariants.{Run, Forever, Sleep, Yield, Send, Receive, Reply, Join, Priority, CriticalOn, CriticalOff, Repeat, Exit}
use Rattle.aps_model.specs.declared.state.ThreadNow.{ThreadNow}
use Rattle.aps_model.specs.declared.state.State.{State}
use Rattle.aps_model.specs.declared.state.State.TheVariants.{Ready, Running, Sleeping, Sending, Receiving, Replying, Gone}
use Rattle.aps_model.specs.declared.entry.Entry.{Entry}
use Rattle.aps_model.specs.declared.state.Pick.{Pick}
use Rattle.aps_model.specs.declared.command.CommandRow.{CommandRow}
use Rattle.laws_runs.specs.Waits.{state_at}
use Rattle.laws_runs.specs.Bears.{Bears, NamesChannels, IsLoose, IsUp}
use Rattle.laws_runs.proofs.ThreadFacts.{set_same, set_other, running_within, go_on_by}
use Rattle.laws_runs.proofs.WaitFacts.{first_receives, first_sends, client_replies, served_none}
use Rattle.aps_model.specs.Bill.{spend}
use Rattle.aps_model.specs.Effect.{effect, joined}
use Rattle.aps_model.specs.Inherit.{client_of, without_server}
use Rattle.aps_model.specs.Messages.{first_message, received, received_message, replied, sent}
use Rattle.aps_model.specs.Operation.{enter, go_on, is_slice_over, place_after, state_in, with_stamped}
use Rattle.aps_model.specs.Partition.{partition_named}
use Rattle.aps_model.specs.Scenario.{Scenario, op_at, thread_row}
use Rattle.aps_model.specs.SchedulerState.{Message, SchedulerState, channel_at, no_thread, thread_at, with_state, with_thread}
use Rattle.aps_model.specs.Step.{enter_next, finish_op, give_back, pick, settled}
use Rattle.aps_model.specs.TickWork.{commands_of, do_command, do_commands, has_tick_work, insert_sleeper, is_earlier, tick_work, wake_all, wakes_at, waking}
use Rattle.aps_model.specs.Usage.{names}

-- the thread does not run
abbrev pub IsOff : State → Type 0
IsOff st = (d : ℕ) → st ≡ Running d → ⊥

-- the thread still runs there, or not at all
abbrev pub IsOnOrOff : ℕ → State → Type 0
IsOnOrOff c st = (st ≡ Running c) ⊎ IsOff st

-- another thread stands as it stood where one goes on
pub go_on_other : (scenario : Scenario) (s : SchedulerState) (y now x : ℕ) → x ≢ y → thread_at (go_on scenario s y now) x ≡ thread_at s x
go_on_other scenario s y now x ne =
    go_on_by scenario s y now (λ u. thread_at u x ≡ thread_at s x)
    (λ t e o. set_other s.threads y x _ ne)
    (λ t u e o p l. set_other s.threads y x _ ne)

go_on_pairs : (scenario : Scenario) (s : SchedulerState) (y now : ℕ) → (go_on scenario s y now).triples ≡ s.triples
go_on_pairs scenario s y now = go_on_by scenario s y now (λ u. u.triples ≡ s.triples) (λ t e o. refl) (λ t u e o p l. refl)

-- ---- the operations

-- what an operation has to leave
abbrev pub Keeps : (SchedulerState → Type 0) → ℕ → ℕ → SchedulerState → Type 0
Keeps M c x s = M s × IsOnOrOff c (state_at s x)

put_on : (scenario : Scenario) (now c x : ℕ) (M : SchedulerState → Type 0) → Bears scenario now c x M → (s : SchedulerState) (t : ThreadNow)
    → M s → state_at s x ≡ Running c → t.state ≡ (thread_at s x).state → t.stamp ≡ (thread_at s x).stamp → Keeps M c x (with_thread s x t)
put_on scenario now c x M b s t m run same stamp =
    let on : t.state ≡ Running c = same ∙ run in (
      b.put s t m run (subst (IsLoose c) (sym on) refl) stamp,
      inl (ap (λ (z : ThreadNow). z.state) (set_same s.threads x t (running_within s x c run)) ∙ on),
    )

stamped_on : (scenario : Scenario) (now c x : ℕ) (M : SchedulerState → Type 0) → Bears scenario now c x M → (s : SchedulerState) (t : ThreadNow)
    → M s → state_at s x ≡ Running c → t.state ≡ (thread_at s x).state → Keeps M c x (with_stamped s x t)
stamped_on scenario now c x M b s t m run same =
    let on : t.state ≡ Running c = same ∙ run in (
      b.stamped s t m run (subst (IsUp c) (sym on) refl),
      inl (ap (λ (z : ThreadNow). z.state) (set_same s.threads x _ (running_within s x c run)) ∙ on),
    )

off_at : (threads : List ThreadNow) (x : ℕ) (t : ThreadNow) → x < length threads → IsOff t.state → IsOff (slice_index_or (slice_set threads x t) x no_thread).state
off_at threads x t below off = subst (λ (z : ThreadNow). IsOff z.state) (sym (set_same threads x t below)) off

sent_kept : (scenario : Scenario) (now c x : ℕ) (M : SchedulerState → Type 0) → Bears scenario now c x M → (s : SchedulerState) (d : ℕ) (rs : List ℕ)
    → d < length scenario.channels → M s → state_at s x ≡ Running c → (channel_at s d).receivers ≡ rs → Keeps M c x (sent scenario s x d now rs).state
sent_kept scenario now c x M b s d [] named m run e =
    (b.send_waits s d named m run e, inr (off_at s.threads x _ (running_within s x c run) (λ f g. cc)))
sent_kept scenario now c x M b s d (r ∷ rest) named m run e =
    let there : state_at s r ≡ Receiving d = first_receives (b.waiting s m) d r rest e in
    let ne : x ≢ r = λ same. absurd (clash (sym run ∙ ap (state_at s) same ∙ there)) in
    let mid = with_state (record s { triples = record { server = r; client = x; channel = d } ∷ s.triples; channels = slice_set s.channels d (record (channel_at s d) { receivers = rest }) }) x (Replying r) in (
      b.send_meets s d r rest named m run e,
      inr (subst (λ (z : ThreadNow). IsOff z.state) (sym (go_on_other scenario mid r now x ne))
          (off_at s.threads x _ (running_within s x c run) (λ f g. cc))),
    )
  where
    clash : {a b : ℕ} → ◌≡◌ {A = State} (Running a) (Receiving b) → ⊥
    clash e = cc

received_kept : (scenario : Scenario) (now c x : ℕ) (M : SchedulerState → Type 0) → Bears scenario now c x M → (s : SchedulerState) (d : ℕ) (o : Option Message)
    → d < length scenario.channels → M s → state_at s x ≡ Running c → client_of s.triples x ≡ None → first_message (channel_at s d).messages ≡ o → Keeps M c x (received_message s x d o).state
received_kept scenario now c x M b s d None named m run free e =
    (b.receive_waits s d named m run free e, inr (off_at s.threads x _ (running_within s x c run) (λ f g. cc)))
received_kept scenario now c x M b s d (Some msg) named m run free e =
    let there : state_at s msg.sender ≡ Sending d = first_sends (b.waiting s m) d msg e in
    let ne : x ≢ msg.sender = λ same. absurd (clash (sym run ∙ ap (state_at s) same ∙ there)) in (
      b.receive_takes s d msg named m run free e,
      inl (ap (λ (z : ThreadNow). z.state) (set_other s.threads msg.sender x _ ne) ∙ run),
    )
  where
    clash : {a b : ℕ} → ◌≡◌ {A = State} (Running a) (Sending b) → ⊥
    clash e = cc

received_if_kept : (scenario : Scenario) (now c x : ℕ) (M : SchedulerState → Type 0) → Bears scenario now c x M → (s : SchedulerState) (d : ℕ) (o : Option ℕ)
    → d < length scenario.channels → M s → state_at s x ≡ Running c → client_of s.triples x ≡ o → Keeps M c x (received s x d o).state
received_if_kept scenario now c x M b s d (Some client) named m run e = (m, inl run)
received_if_kept scenario now c x M b s d None named m run e = received_kept scenario now c x M b s d _ named m run e refl

replied_kept : (scenario : Scenario) (now c x : ℕ) (M : SchedulerState → Type 0) → Bears scenario now c x M → (s : SchedulerState) (o : Option ℕ)
    → M s → state_at s x ≡ Running c → client_of s.triples x ≡ o
    → M (replied scenario s x now o).state × (state_at (replied scenario s x now o).state x ≡ Running c) × (client_of (replied scenario s x now o).state.triples x ≡ None)
replied_kept scenario now c x M b s None m run e = (m, run, e)
replied_kept scenario now c x M b s (Some y) m run e =
    let there : state_at s y ≡ Replying x = client_replies (b.waiting s m) x y e in
    let ne : x ≢ y = λ same. absurd (clash (sym run ∙ ap (state_at s) same ∙ there)) in
    let mid = record s { triples = without_server s.triples x } in (
      b.replies s y m run e,
      ap (λ (z : ThreadNow). z.state) (go_on_other scenario mid y now x ne) ∙ run,
      ap (λ ps. client_of ps x) (go_on_pairs scenario mid y now) ∙ served_none s.triples x (b.waiting s m).made,
    )
  where
    clash : {a b : ℕ} → ◌≡◌ {A = State} (Running a) (Replying b) → ⊥
    clash e = cc

joined_kept : (scenario : Scenario) (now c x : ℕ) (M : SchedulerState → Type 0) → Bears scenario now c x M → (s : SchedulerState) (o : Option ℕ)
    → M s → state_at s x ≡ Running c → Keeps M c x (joined s x o).state
joined_kept scenario now c x M b s None m run = (m, inl run)
joined_kept scenario now c x M b s (Some p) m run = put_on scenario now c x M b s _ m run refl refl

pub effect_kept : (scenario : Scenario) (now c x : ℕ) (M : SchedulerState → Type 0) → Bears scenario now c x M → NamesChannels scenario
    → (s : SchedulerState) (op : Op) (place : ℕ) → op_at scenario x place ≡ op → M s → state_at s x ≡ Running c → Keeps M c x (effect scenario s x now op).state
effect_kept scenario now c x M b names s (Run ns) place e m run = (m, inl run)
effect_kept scenario now c x M b names s Forever place e m run = (m, inl run)
effect_kept scenario now c x M b names s (Sleep ns) place e m run = (m, inl run)
effect_kept scenario now c x M b names s Yield place e m run = stamped_on scenario now c x M b s (thread_at s x) m run refl
effect_kept scenario now c x M b names s (Send d) place e m run = sent_kept scenario now c x M b s d _ (names.sends x place d e) m run refl
effect_kept scenario now c x M b names s (Receive d) place e m run = received_if_kept scenario now c x M b s d _ (names.receives x place d e) m run refl
effect_kept scenario now c x M b names s Reply place e m run =
    let done = replied_kept scenario now c x M b s _ m run refl in
    (done.0, inl done.1)
effect_kept scenario now c x M b names s (Join name) place e m run = joined_kept scenario now c x M b s (partition_named s.rows name) m run
effect_kept scenario now c x M b names s (Priority n) place e m run =
    stamped_on scenario now c x M b s (record (thread_at s x) { own = record (thread_at s x).own { priority = n } }) m run refl
effect_kept scenario now c x M b names s CriticalOn place e m run = put_on scenario now c x M b s _ m run refl refl
effect_kept scenario now c x M b names s CriticalOff place e m run = put_on scenario now c x M b s _ m run refl refl
effect_kept scenario now c x M b names s Repeat place e m run = (m, inl run)
effect_kept scenario now c x M b names s Exit place e m run =
    let done = replied_kept scenario now c x M b s _ m run refl in
    let mid = (replied scenario s x now (client_of s.triples x)).state in
    (b.leaves mid done.0 done.1 done.2, inr (off_at mid.threads x _ (running_within mid x c done.1) (λ f g. cc)))

-- what a thread enters leaves it loose
enter_loose : (op : Op) (now c : ℕ) → IsLoose c (state_in op now (Running c)) × IsOnOrOff c (state_in op now (Running c))
enter_loose (Sleep ns) now c = (tt, inr (λ d e. cc))
enter_loose (Run ns) now c = (refl, inl refl)
enter_loose Forever now c = (refl, inl refl)
enter_loose Yield now c = (refl, inl refl)
enter_loose (Send d) now c = (refl, inl refl)
enter_loose (Receive d) now c = (refl, inl refl)
enter_loose Reply now c = (refl, inl refl)
enter_loose (Join name) now c = (refl, inl refl)
enter_loose (Priority n) now c = (refl, inl refl)
enter_loose CriticalOn now c = (refl, inl refl)
enter_loose CriticalOff now c = (refl, inl refl)
enter_loose Repeat now c = (refl, inl refl)
enter_loose Exit now c = (refl, inl refl)

same_cpu : (d c : ℕ) → Running d ≡ Running c → d ≡ c
same_cpu d c e = cc

entered_kept : (scenario : Scenario) (now c x : ℕ) (M : SchedulerState → Type 0) → Bears scenario now c x M → (s : SchedulerState) (op : Op) (st : State)
    → state_at s x ≡ st → M s → IsOnOrOff c st → Keeps M c x (enter_next scenario s x now op st)
entered_kept scenario now c x M b s op (Running d) at m (inl e) =
    let d_is : d ≡ c = same_cpu d c e in
    let run : state_at s x ≡ Running c = at ∙ e in
    let P : ℕ → Type 0 = λ k. Keeps M c x (enter_next scenario s x now op (Running k)) in
    let place = place_after op (thread_at s x).place in
    let t : ThreadNow = enter scenario s.shape x place now (Running c) (thread_at s x) in
    let here : P c = (
      b.put s t m run (enter_loose (op_at scenario x place) now c).0 refl,
      subst (λ (z : ThreadNow). IsOnOrOff c z.state) (sym (set_same s.threads x t (running_within s x c run))) (enter_loose (op_at scenario x place) now c).1,
    ) in
    subst P (sym d_is) here
entered_kept scenario now c x M b s op (Running d) at m (inr off) = absurd (off d refl)
entered_kept scenario now c x M b s op Ready at m h = (m, inr (λ d e. cc))
entered_kept scenario now c x M b s op (Sleeping until) at m h = (m, inr (λ d e. cc))
entered_kept scenario now c x M b s op (Sending ch) at m h = (m, inr (λ d e. cc))
entered_kept scenario now c x M b s op (Receiving ch) at m h = (m, inr (λ d e. cc))
entered_kept scenario now c x M b s op (Replying y) at m h = (m, inr (λ d e. cc))
entered_kept scenario now c x M b s op Gone at m h = (m, inr (λ d e. cc))

finished_kept : (scenario : Scenario) (now c x : ℕ) (M : SchedulerState → Type 0) → Bears scenario now c x M → NamesChannels scenario
    → (s : SchedulerState) (left : Option ℕ) → M s → state_at s x ≡ Running c → Keeps M c x (finish_op scenario s x now left).state
finished_kept scenario now c x M b names s None m run = (m, inl run)
finished_kept scenario now c x M b names s (Some (suc n)) m run = (m, inl run)
finished_kept scenario now c x M b names s (Some zero) m run =
    let op = op_at scenario x (thread_at s x).place in
    let done = effect_kept scenario now c x M b names s op (thread_at s x).place refl m run in
    entered_kept scenario now c x M b (effect scenario s x now op).state op _ refl done.0 done.1

given_kept : (scenario : Scenario) (now c x : ℕ) (M : SchedulerState → Type 0) → Bears scenario now c x M → (s : SchedulerState) (st : State)
    → state_at s x ≡ st → M s → IsOnOrOff c st → M (give_back scenario s x st) × IsOff (state_at (give_back scenario s x st) x)
given_kept scenario now c x M b s (Running d) at m (inr off) = absurd (off d refl)
given_kept scenario now c x M b s (Running d) at m (inl e) =
    by_slice (is_slice_over s.shape (thread_row scenario x).policy (thread_at s x).since)
  where
    run : state_at s x ≡ Running c
    run = at ∙ e

    ready : ThreadNow
    ready = record (thread_at s x) { state = Ready }

    by_slice : (over : Bool)
        → M (cond over (with_stamped s x (record (thread_at s x) { state = Ready })) (with_state s x Ready))
        × IsOff (state_at (cond over (with_stamped s x (record (thread_at s x) { state = Ready })) (with_state s x Ready)) x)
    by_slice true = (b.stamped s (record (thread_at s x) { state = Ready }) m (at ∙ e) tt, off_at s.threads x _ (running_within s x c (at ∙ e)) (λ f g. cc))
    by_slice false = (b.put s (record (thread_at s x) { state = Ready }) m (at ∙ e) tt refl, off_at s.threads x _ (running_within s x c (at ∙ e)) (λ f g. cc))
given_kept scenario now c x M b s Ready at m h = (m, subst IsOff (sym at) (λ d e. cc))
given_kept scenario now c x M b s (Sleeping until) at m h = (m, subst IsOff (sym at) (λ d e. cc))
given_kept scenario now c x M b s (Sending ch) at m h = (m, subst IsOff (sym at) (λ d e. cc))
given_kept scenario now c x M b s (Receiving ch) at m h = (m, subst IsOff (sym at) (λ d e. cc))
given_kept scenario now c x M b s (Replying y) at m h = (m, subst IsOff (sym at) (λ d e. cc))
given_kept scenario now c x M b s Gone at m h = (m, subst IsOff (sym at) (λ d e. cc))

-- after a thread is back with the ready ones, or waits, it doesn't run
pub returned_kept : (scenario : Scenario) (now c : ℕ) (pick : Pick) (M : SchedulerState → Type 0) → Bears scenario now c pick.thread M → NamesChannels scenario
    → (s : SchedulerState) → M s → state_at s pick.thread ≡ Running c
    → M (settled scenario s now (Some pick)).state × IsOff (state_at (settled scenario s now (Some pick)).state pick.thread)
returned_kept scenario now c pick M b names s m run =
    let done = finished_kept scenario now c pick.thread M b names s (thread_at s pick.thread).left m run in
    given_kept scenario now c pick.thread M b (finish_op scenario s pick.thread now (thread_at s pick.thread).left).state _ refl done.0 done.1

-- the time that the thread ran
pub spent_kept : (scenario : Scenario) (now c : ℕ) (pick : Pick) (M : SchedulerState → Type 0) → Bears scenario now c pick.thread M
    → (s : SchedulerState) (ns : ℕ) → M s → state_at s pick.thread ≡ Running c
    → M (spend s ns (Some pick)) × (state_at (spend s ns (Some pick)) pick.thread ≡ Running c)
spent_kept scenario now c pick M b s ns m run = (
  b.put s _ m run (subst (IsLoose c) (sym run) refl) refl,
  ap (λ (z : ThreadNow). z.state) (set_same s.threads pick.thread _ (running_within s pick.thread c run)) ∙ run,
)

-- ---- the wakes

abbrev pub IsAbsent : ℕ → List (ℕ × ℕ) → Type 0
IsAbsent x [] = Unit {0}
IsAbsent x (p ∷ rest) = (x ≢ p.1) × IsAbsent x rest

-- each of these sleeps until its moment, and stands there once
abbrev pub AreSleepers : SchedulerState → List (ℕ × ℕ) → Type 0
AreSleepers s [] = Unit {0}
AreSleepers s (p ∷ rest) = (state_at s p.1 ≡ Sleeping p.0) × IsAbsent p.1 rest × AreSleepers s rest

absent_insert : (y : ℕ) (p : ℕ × ℕ) (xs : List (ℕ × ℕ)) → y ≢ p.1 → IsAbsent y xs → IsAbsent y (insert_sleeper p xs)
absent_insert y p [] ne a = (ne, tt)
absent_insert y p (q ∷ rest) ne a = by_test (is_earlier p q) (absent_insert y p rest ne a.1)
  where
    by_test : (t : Bool) → IsAbsent y (insert_sleeper p rest) → IsAbsent y (cond t (p ∷ q ∷ rest) (q ∷ insert_sleeper p rest))
    by_test true r = (ne, a)
    by_test false r = (a.0, r)

sleepers_insert : (s : SchedulerState) (p : ℕ × ℕ) (xs : List (ℕ × ℕ)) → state_at s p.1 ≡ Sleeping p.0 → IsAbsent p.1 xs → AreSleepers s xs → AreSleepers s (insert_sleeper p xs)
sleepers_insert s p [] st a m = (st, tt, tt)
sleepers_insert s p (q ∷ rest) st a m = by_test (is_earlier p q) (sleepers_insert s p rest st a.1 m.2)
  where
    by_test : (t : Bool) → AreSleepers s (insert_sleeper p rest) → AreSleepers s (cond t (p ∷ q ∷ rest) (q ∷ insert_sleeper p rest))
    by_test true r = (st, a, m)
    by_test false r = (m.0, absent_insert q.1 p rest (λ e. a.0 (sym e)) m.1, r)

-- who wakes sleeps, until a moment that has come
wakes_sleeping : (now x : ℕ) (p : ℕ × ℕ) (st : State) → wakes_at now x st ≡ Some p → (st ≡ Sleeping p.0) × (p.1 ≡ x)
wakes_sleeping now x p (Sleeping until) e = by_test (nat_le until now) e
  where
    parts : (a b : ℕ × ℕ) → Some a ≡ Some b → a ≡ b
    parts a b e = cc

    by_test : (t : Bool) → cond t (Some (until, x)) None ≡ Some p → (Sleeping until ≡ Sleeping p.0) × (p.1 ≡ x)
    by_test true e = let same = parts (until, x) p e in (ap (λ (k : ℕ × ℕ). Sleeping k.0) same, sym (ap (λ (k : ℕ × ℕ). k.1) same))
    by_test false e = absurd cc
wakes_sleeping now x p Ready e = absurd cc
wakes_sleeping now x p (Running c) e = absurd cc
wakes_sleeping now x p (Sending c) e = absurd cc
wakes_sleeping now x p (Receiving c) e = absurd cc
wakes_sleeping now x p (Replying y) e = absurd cc
wakes_sleeping now x p Gone e = absurd cc

-- in order of moment; all below a number so far
pub sleepers_fold : (s : SchedulerState) (now n a : ℕ) (acc : List (ℕ × ℕ)) → ((y : ℕ) → a ≤ y → IsAbsent y acc) → AreSleepers s acc
    → AreSleepers s (fold (λ sleepers sleeper. insert_sleeper sleeper sleepers) acc (filter_map (λ x. wakes_at now x (thread_at s x).state) (range_with_len a n)))
sleepers_fold s now zero a acc far m = m
sleepers_fold s now (suc n) a acc far m =
    by_wake (wakes_at now a (state_at s a)) refl (sleepers_fold s now n (a + 1) acc (λ y l. far y (omega arith)) m)
    (λ p st at. sleepers_fold s now n (a + 1) (insert_sleeper p acc)
    (λ y l. absent_insert y p acc (λ e. absurd (omega (arith, e, at, l))) (far y (omega arith)))
    (sleepers_insert s p acc st (subst (λ k. IsAbsent k acc) (sym at) (far a (omega arith))) m))
  where
    rest : List (ℕ × ℕ)
    rest = filter_map (λ x. wakes_at now x (thread_at s x).state) (range_with_len (a + 1) n)

    by_wake : (o : Option (ℕ × ℕ)) → wakes_at now a (state_at s a) ≡ o
        → AreSleepers s (fold (λ sleepers sleeper. insert_sleeper sleeper sleepers) acc (filter_map (λ x. wakes_at now x (thread_at s x).state) (range_with_len (a + 1) n)))
        → ((p : ℕ × ℕ) → state_at s p.1 ≡ Sleeping p.0 → p.1 ≡ a → AreSleepers s (fold (λ sleepers sleeper. insert_sleeper sleeper sleepers) (insert_sleeper p acc) (filter_map (λ x. wakes_at now x (thread_at s x).state) (range_with_len (a + 1) n))))
        → AreSleepers s (fold (λ sleepers sleeper. insert_sleeper sleeper sleepers) acc (cons_option o (filter_map (λ x. wakes_at now x (thread_at s x).state) (range_with_len (a + 1) n))))
    by_wake None e f g = f
    by_wake (Some p) e f g =
        let w = wakes_sleeping now a p (state_at s a) e in
        g p (ap (state_at s) w.1 ∙ w.0) w.1

still_asleep : (scenario : Scenario) (s : SchedulerState) (x now : ℕ) (xs : List (ℕ × ℕ)) → IsAbsent x xs → AreSleepers s xs → AreSleepers (go_on scenario s x now) xs
still_asleep scenario s x now [] a m = tt
still_asleep scenario s x now (p ∷ rest) a m =
    (ap (λ (z : ThreadNow). z.state) (go_on_other scenario s x now p.1 (λ e. a.0 (sym e))) ∙ m.0, m.1, still_asleep scenario s x now rest a.1 m.2)

pub wake_each : (scenario : Scenario) (now : ℕ) (M : SchedulerState → Type 0)
    → ((s : SchedulerState) (y u : ℕ) → M s → state_at s y ≡ Sleeping u → M (go_on scenario s y now))
    → (xs : List (ℕ × ℕ)) (s : SchedulerState) → AreSleepers s xs → M s → M (fold (λ state (sleeper : ℕ × ℕ). go_on scenario state sleeper.1 now) s xs)
wake_each scenario now M b [] s a m = m
wake_each scenario now M b (p ∷ rest) s a m = wake_each scenario now M b rest (go_on scenario s p.1 now) (still_asleep scenario s p.1 now rest a.1 a.2) (b s p.1 p.0 m a.0)

pub command_each : (h : List Entry) (j : ℕ) (M : SchedulerState → Type 0) → ((s : SchedulerState) (c : ℕ × CommandRow) → M s → M (do_command h j s c))
    → (cs : List (ℕ × CommandRow)) (s : SchedulerState) → M s → M (fold (do_command h j) s cs)
command_each h j M b [] s m = m
command_each h j M b (c ∷ cs) s m = command_each h j M b cs (do_command h j s c) (b s c m)

pub tick_kept : (scenario : Scenario) (now : ℕ) (M : SchedulerState → Type 0)
    → ((s : SchedulerState) (y u : ℕ) → M s → state_at s y ≡ Sleeping u → M (go_on scenario s y now))
    → ((h : List Entry) (j : ℕ) (s : SchedulerState) (c : ℕ × CommandRow) → M s → M (do_command h j s c))
    → (s : SchedulerState) (h : List Entry) → M s → M (tick_work scenario s h now)
tick_kept scenario now M b k s h m = by_test (has_tick_work s h now)
  where
    by_test : (t : Bool) → M (elim t [
      | true ↦ wake_all scenario now (do_commands scenario h (now / s.shape.tick) s)
      | false ↦ s
    ])
    by_test true =
        let mid = do_commands scenario h (now / s.shape.tick) s in
        wake_each scenario now M b (waking mid now) mid (sleepers_fold mid now (length mid.threads) 0 [] (λ y l. tt) tt)
        (command_each h (now / s.shape.tick) M (k h (now / s.shape.tick)) (commands_of scenario (now / s.shape.tick)) s m)
    by_test false = m
