-- What a step leaves of a ready thread, and of its own.
use Rattle.std.proofs.Common.{◌≡◌, ◌≢◌, ℕ, zero, suc, ◌+◌, ◌-◌, ◌/◌, ◌<◌, List, [], ◌∷◌, ◌++◌, length, refl, sym, ◌∙◌, ap, subst, Bool, true, false, cond, Option, Some, None, slice_index_or, slice_set, arith, ◌⊎◌, inl, inr}
use Rattle.std.specs.Option.{option_map}
use Rattle.std.proofs.lemmas.Bool.{cases_eq}
use Rattle.aps_model.specs.declared.entry.Entry.{Entry}
use Rattle.aps_model.specs.declared.merit.Contender.{Contender}
use Rattle.aps_model.specs.declared.merit.PartFacts.{PartFacts}
use Rattle.aps_model.specs.declared.shape.Bankruptcy.{Bankruptcy}
use Rattle.aps_model.specs.declared.state.Facts.{Facts}
use Rattle.aps_model.specs.declared.state.Pick.{Pick}
use Rattle.aps_model.specs.declared.state.State.{State}
use Rattle.aps_model.specs.declared.state.State.TheVariants.{Gone, Ready, Running}
use Rattle.aps_model.specs.declared.state.ThreadNow.{ThreadNow}
use Rattle.aps_model.specs.Bill.{Tested, after_test, bankrupt, bill_of, spend}
use Rattle.aps_model.specs.Due.{due, last_end}
use Rattle.aps_model.specs.Flag.{with_flag}
use Rattle.aps_model.specs.Operation.{is_slice_over, with_stamped}
use Rattle.aps_model.specs.Scenario.{Scenario, thread_row}
use Rattle.aps_model.specs.SchedulerState.{SchedulerState, cpu_at, no_thread, thread_at, with_state}
use Rattle.aps_model.specs.Step.{begun, billed, chosen, finish_op, give_back, settled, tested}
use Rattle.aps_model.specs.TickWork.{tick_work}
use Rattle.laws_runs.specs.Bears.{Bears, NamesChannels}
use Rattle.laws_runs.specs.Untouched.{IsAlike, AgreesOnRunning}
use Rattle.laws_runs.specs.Waits.{IsPlain, state_at}
use Rattle.laws_runs.proofs.Commands.{sizes_same}
use Rattle.laws_runs.proofs.Mid.{IsFramed, IsTicked, command_kept, framed_bears, tested_by, ticked, unflagged}
use Rattle.laws_runs.proofs.Picked.{flag_threads}
use Rattle.laws_runs.proofs.ThreadFacts.{set_other, set_same, within}
use Rattle.laws_runs.proofs.ThreadMoves.{IsAsleep, ThreadsBear, alike_at, alike_own, alike_same, alike_trans, threads_bear}
use Rattle.laws_runs.proofs.Walk.{returned_kept, spent_kept, tick_kept}
use Rattle.laws_runs.proofs.WaitBears.{state_of}

-- the thread stands at this place with so much left, ready or running on c
pub record StandsWith (c place : ℕ) (left : Option ℕ) (t : ThreadNow) : Type 0 where
  pub place' : t.place ≡ place
  pub left' : t.left ≡ left
  pub state : (t.state ≡ Ready) ⊎ (t.state ≡ Running c)

pub record StandsReady (place : ℕ) (left : Option ℕ) (t : ThreadNow) : Type 0 where
  pub place' : t.place ≡ place
  pub left' : t.left ≡ left
  pub state : t.state ≡ Ready

pub record StandsRunning (c place : ℕ) (left : Option ℕ) (t : ThreadNow) : Type 0 where
  pub place' : t.place ≡ place
  pub left' : t.left ≡ left
  pub state : t.state ≡ Running c

-- ---- a ready thread

abbrev IsLikeNow : ℕ → ThreadNow → List ThreadNow → ℕ → Type 0
IsLikeNow z was ts n = IsAlike was (slice_index_or ts z no_thread)

like_set : (z y : ℕ) (was t : ThreadNow) (ts : List ThreadNow) → IsAlike was (slice_index_or ts z no_thread) → z ≢ y → IsAlike was (slice_index_or (slice_set ts y t) z no_thread)
like_set z y was t ts like ne = alike_at (set_other ts y z t ne) like

like_own : (z y : ℕ) (was : ThreadNow) (ts : List ThreadNow) (own : Facts) → y < length ts → IsAlike was (slice_index_or ts z no_thread)
    → IsAlike was (slice_index_or (slice_set ts y (record (slice_index_or ts y no_thread) { own = own })) z no_thread)
like_own z y was ts own below like = elim (cases_eq z y) [
  | inl same ↦
      let here : IsAlike (slice_index_or ts y no_thread) (slice_index_or (slice_set ts y (record (slice_index_or ts y no_thread) { own = own })) y no_thread) =
      alike_at (set_same ts y (record (slice_index_or ts y no_thread) { own = own }) below) (alike_own (slice_index_or ts y no_thread) own) in
      alike_trans like (subst (λ n. IsAlike (slice_index_or ts n no_thread) (slice_index_or (slice_set ts y (record (slice_index_or ts y no_thread) { own = own })) n no_thread)) (sym same) here)
  | inr ne ↦ like_set z y was _ ts like ne
]

not_asleep : (st : State) → st ≡ Ready → IsAsleep st → ⊥
not_asleep st is asleep = subst IsAsleep is asleep

-- no move of another thread touches it
ready_bears : (c x z : ℕ) (was : ThreadNow) → z ≢ x → was.state ≡ Ready → ThreadsBear c x (IsLikeNow z was)
ready_bears c x z was ne ready = record {
  quiet = λ ts n y t like below q st. like_set z y was t ts like (λ same. moved ts y like same (elim q [ inl own ↦ inl own.0 | inr asleep ↦ inr asleep.0 ]));
  fresh = λ ts n y t like below q. like_set z y was (record t { stamp = n; since = 0 }) ts like (λ same. moved ts y like same (elim q [ inl own ↦ inl own.0 | inr asleep ↦ inr asleep.0 ]));
  owned = λ ts n y own like below. like_own z y was ts own below like;
}
  where
    moved : (ts : List ThreadNow) (y : ℕ) → IsAlike was (slice_index_or ts z no_thread) → z ≡ y → (y ≡ x) ⊎ IsAsleep (state_of ts y) → ⊥
    moved ts y like same (inl own) = ne (same ∙ own)
    moved ts y like same (inr asleep) = not_asleep (state_of ts y) (ap (state_of ts) (sym same) ∙ like.state ∙ ready) asleep

-- the property that all moves before a pick keep
abbrev IsStill : Scenario → SchedulerState → ℕ → ThreadNow → SchedulerState → Type 0
IsStill scenario s0 z was t = (IsPlain scenario t × IsLikeNow z was t.threads t.stamps) × IsFramed s0 t

still_bears : (scenario : Scenario) (now c x z : ℕ) (s0 : SchedulerState) (was : ThreadNow) → z ≢ x → was.state ≡ Ready → Bears scenario now c x (IsStill scenario s0 z was)
still_bears scenario now c x z s0 was ne ready =
    framed_bears scenario now c x s0 (λ t. IsPlain scenario t × IsLikeNow z was t.threads t.stamps) (threads_bear scenario now c x (IsLikeNow z was) (ready_bears c x z was ne ready))

not_next : (z : ℕ) → z ≡ suc z → ⊥
not_next z same = omega (arith, same)

-- the work of the tick
still_ticked : (scenario : Scenario) (s : SchedulerState) (h : List Entry) (now z : ℕ) (was : ThreadNow) → was.state ≡ Ready → IsPlain scenario s → IsAlike was (thread_at s z)
    → IsStill scenario s z was (tick_work scenario s h now)
still_ticked scenario s h now z was ready plain like =
    let b = still_bears scenario now 0 (suc z) z s was (not_next z) ready in
    tick_kept scenario now (IsStill scenario s z was) (λ t y u. b.woken t y u)
    (λ g j t k. command_kept scenario 0 (suc z) s (IsLikeNow z was) (ready_bears 0 (suc z) z was (not_next z) ready) g j t k) s h
    ((plain, like), record { cpus = refl; sizes = sizes_same s.shape })

still_tested : (scenario : Scenario) (s0 : SchedulerState) (z : ℕ) (was : ThreadNow) (policy : Bankruptcy) (r : SchedulerState) (j : ℕ) (o : Option ℕ) → IsStill scenario s0 z was r → IsStill scenario s0 z was (after_test policy r j o).state
still_tested scenario s0 z was policy r j o m =
    tested_by policy r j o (IsStill scenario s0 z was) m
    (λ p. ((record { waiting = m.0.0.waiting; channels = m.0.0.channels }, m.0.1), record { cpus = m.1.cpus; sizes = m.1.sizes }))

-- ---- the parts of a step, by what the processor runs

abbrev pub bill : SchedulerState → List Entry → ℕ → Option Pick → Entry
bill s h c running = bill_of c (last_end h c) (due s h c) running

abbrev pub after_tick : Scenario → SchedulerState → List Entry → ℕ → SchedulerState
after_tick scenario s h c = begun scenario s h c (due s h c)

abbrev pub test_of : Scenario → SchedulerState → List Entry → ℕ → Option Pick → Tested
test_of scenario s h c running = tested (billed (after_tick scenario s h c) (bill s h c running) running) h (bill s h c running)

same_threads : (u : SchedulerState) (h : List Entry) (e : Entry) → (tested u h e).state.threads ≡ u.threads
same_threads u h e = tested_by u.shape.bankruptcy u (e.to / u.shape.tick) (bankrupt u (h ++ e ∷ []) e) (λ t. t.threads ≡ u.threads) refl (λ p. refl)

test_still : (scenario : Scenario) (s0 : SchedulerState) (z : ℕ) (was : ThreadNow) (u : SchedulerState) (h : List Entry) (e : Entry) → IsStill scenario s0 z was u → IsStill scenario s0 z was (tested u h e).state
test_still scenario s0 z was u h e m = still_tested scenario s0 z was u.shape.bankruptcy u (e.to / u.shape.tick) (bankrupt u (h ++ e ∷ []) e) m

module _ (scenario : Scenario) (s : SchedulerState) (h : List Entry) (c : ℕ) (names : NamesChannels scenario) (plain : IsPlain scenario s) (kept : AgreesOnRunning s) where
  plain' : IsPlain scenario (unflagged s c)
  plain' = record { waiting = plain.waiting; channels = plain.channels }

  tick_keeps : IsTicked scenario (unflagged s c) (after_tick scenario s h c)
  tick_keeps = ticked scenario (unflagged s c) h (due s h c) plain'

  -- before the pick a ready thread stands as it stood
  pub ready_kept : (z : ℕ) → state_at s z ≡ Ready → (running : Option Pick) → (cpu_at s c).running ≡ running
      → IsAlike (thread_at s z) (thread_at (test_of scenario s h c running).state z) × IsAlike (thread_at s z) (thread_at (settled scenario (test_of scenario s h c running).state (due s h c) running).state z)
  ready_kept z ready None is =
      let was = thread_at s z in
      let m = still_ticked scenario (unflagged s c) h (due s h c) z was ready plain' (alike_same was) in
      let t = test_still scenario (unflagged s c) z was (after_tick scenario s h c) h (bill s h c None) m in
      (t.0.1, t.0.1)
  ready_kept z ready (Some p) is =
      let was = thread_at s z in
      let now = due s h c in
      let run : state_at s p.thread ≡ Running c = kept.runs c p is in
      let ne : z ≢ p.thread = λ same. clash c (sym ready ∙ ap (state_at s) same ∙ run) in
      let m = still_ticked scenario (unflagged s c) h now z was ready plain' (alike_same was) in
      let run_t : state_at (after_tick scenario s h c) p.thread ≡ Running c = (tick_keeps.as_before p.thread c run).state ∙ run in
      let b = still_bears scenario now c p.thread z (unflagged s c) was ne ready in
      let e = bill s h c (Some p) in
      let u = spend (after_tick scenario s h c) (e.to - e.from) (Some p) in
      let spent = spent_kept scenario now c p (IsStill scenario (unflagged s c) z was) b (after_tick scenario s h c) (e.to - e.from) m run_t in
      let r = (test_of scenario s h c (Some p)).state in
      let t : IsStill scenario (unflagged s c) z was r = test_still scenario (unflagged s c) z was u h e spent.0 in
      let run_r : state_at r p.thread ≡ Running c = ap (λ ts. state_of ts p.thread) (same_threads u h e) ∙ spent.1 in
      let back = returned_kept scenario now c p (IsStill scenario (unflagged s c) z was) b names r t run_r in
      (t.0.1, back.0.0.1)
    where
      clash : (c : ℕ) → Ready ≡ Running c → ⊥
      clash c e = cc

  -- ---- the thread that the processor runs

  -- after the bill and the test it still runs, and has so much less left
  pub own_tested : (p : Pick) (n : ℕ) → (cpu_at s c).running ≡ Some p → (thread_at s p.thread).left ≡ Some n
      → StandsRunning c (thread_at s p.thread).place (Some (n - (due s h c - last_end h c))) (thread_at (test_of scenario s h c (Some p)).state p.thread)
  own_tested p n is left =
      let x : ℕ = p.thread in
      let run : state_at s x ≡ Running c = kept.runs c p is in
      let like = tick_keeps.as_before x c run in
      let v = after_tick scenario s h c in
      let e = bill s h c (Some p) in
      let ns : ℕ = e.to - e.from in
      let u = spend v ns (Some p) in
      let inside : x < length v.threads = within v.threads x (λ g. clash c (sym g ∙ like.state ∙ run)) in
      let at : thread_at u x ≡ record (thread_at v x) { left = option_map (λ k. k - ns) (thread_at v x).left; since = (thread_at v x).since + ns } = set_same v.threads x _ inside in
      let here : StandsRunning c (thread_at s x).place (Some (n - ns)) (thread_at u x) = record {
        place' = ap (λ (t : ThreadNow). t.place) at ∙ like.place;
        left' = ap (λ (t : ThreadNow). t.left) at ∙ ap (option_map (λ k. k - ns)) (like.left ∙ left);
        state = ap (λ (t : ThreadNow). t.state) at ∙ like.state ∙ run;
      } in
      subst (λ (ts : List ThreadNow). StandsRunning c (thread_at s x).place (Some (n - ns)) (slice_index_or ts x no_thread)) (sym (same_threads u h e)) here
    where
      clash : (c : ℕ) → Gone ≡ Running c → ⊥
      clash c e = cc

  -- with time left it goes back to the ready ones
  pub own_settled : (r : SchedulerState) (p : Pick) (place k now : ℕ) → StandsRunning c place (Some (suc k)) (thread_at r p.thread) → StandsReady place (Some (suc k)) (thread_at (settled scenario r now (Some p)).state p.thread)
  own_settled r p place k now own =
      let x : ℕ = p.thread in
      let back : SchedulerState → Type 0 = λ t. StandsReady place (Some (suc k)) (thread_at t x) in
      let inside : x < length r.threads = within r.threads x (λ g. clash c (sym g ∙ own.state)) in
      let set : (t : ThreadNow) → t.place ≡ place → t.left ≡ Some (suc k) → t.state ≡ Ready → StandsReady place (Some (suc k)) (slice_index_or (slice_set r.threads x t) x no_thread) =
      λ t one two three. subst (StandsReady place (Some (suc k))) (sym (set_same r.threads x t inside)) (record { place' = one; left' = two; state = three }) in
      by_left (thread_at r x).left own.left'
      (subst (λ st. back (give_back scenario r x st)) (sym own.state) (by_slice (is_slice_over r.shape (thread_row scenario x).policy (thread_at r x).since) set))
    where
      clash : (c : ℕ) → Gone ≡ Running c → ⊥
      clash c e = cc

      by_slice : (over : Bool) → ((t : ThreadNow) → t.place ≡ place → t.left ≡ Some (suc k) → t.state ≡ Ready → StandsReady place (Some (suc k)) (slice_index_or (slice_set r.threads p.thread t) p.thread no_thread))
          → StandsReady place (Some (suc k)) (thread_at (cond over (with_stamped r p.thread (record (thread_at r p.thread) { state = Ready })) (with_state r p.thread Ready)) p.thread)
      by_slice true set = set (record (thread_at r p.thread) { state = Ready; stamp = r.stamps; since = 0 }) own.place' own.left' refl
      by_slice false set = set (record (thread_at r p.thread) { state = Ready }) own.place' own.left' refl

      by_left : (o : Option ℕ) → o ≡ Some (suc k) → StandsReady place (Some (suc k)) (thread_at (give_back scenario r p.thread (thread_at r p.thread).state) p.thread)
          → StandsReady place (Some (suc k)) (thread_at (give_back scenario (finish_op scenario r p.thread now o).state p.thread (thread_at (finish_op scenario r p.thread now o).state p.thread).state) p.thread)
      by_left None is done = absurd cc
      by_left (Some zero) is done = absurd (never k (some_same zero (suc k) is))
        where
          some_same : (a b : ℕ) → Some a ≡ Some b → a ≡ b
          some_same a b e = cc

          never : (k : ℕ) → zero ≡ suc k → ⊥
          never k e = omega (arith, e)
      by_left (Some (suc j)) is done = done

  -- ---- the pick

  -- a ready thread stays so, or is picked
  pub picked_stands : (r : SchedulerState) (ps : List PartFacts) (best : Option Contender) (now : ℕ) (other : Option ℕ) (x place : ℕ) (left : Option ℕ) → StandsReady place left (thread_at r x)
      → StandsWith c place left (thread_at (with_flag (chosen r ps c best) now other) x)
  picked_stands r ps best now other x place left ready =
      subst (λ (ts : List ThreadNow). StandsWith c place left (slice_index_or ts x no_thread)) (sym (flag_threads (chosen r ps c best) now other)) (by_best best)
    where
      by_best : (o : Option Contender) → StandsWith c place left (thread_at (chosen r ps c o) x)
      by_best None = record { place' = ready.place'; left' = ready.left'; state = inl ready.state }
      by_best (Some b) = elim (cases_eq x b.thread) [
        | inl same ↦
            let inside : b.thread < length r.threads = subst (λ n. n < length r.threads) same (within r.threads x (λ g. clash (sym g ∙ ready.state))) in
            let at : thread_at (chosen r ps c (Some b)) x ≡ record (thread_at r x) { state = Running c } =
            ap (λ n. thread_at (chosen r ps c (Some b)) n) same ∙ set_same r.threads b.thread _ inside ∙ ap (λ n. record (thread_at r n) { state = Running c }) (sym same) in
            record { place' = ap (λ (t : ThreadNow). t.place) at ∙ ready.place'; left' = ap (λ (t : ThreadNow). t.left) at ∙ ready.left'; state = inr (ap (λ (t : ThreadNow). t.state) at) }
        | inr ne ↦
            let at : thread_at (chosen r ps c (Some b)) x ≡ thread_at r x = set_other r.threads b.thread x _ ne in
            record { place' = ap (λ (t : ThreadNow). t.place) at ∙ ready.place'; left' = ap (λ (t : ThreadNow). t.left) at ∙ ready.left'; state = inl (ap (λ (t : ThreadNow). t.state) at ∙ ready.state) }
      ]
        where
          clash : Gone ≡ Ready → ⊥
          clash e = cc
