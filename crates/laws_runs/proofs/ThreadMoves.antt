-- For a property of threads and stamps alone each move is one or two updates of one thread.
use Rattle.std.proofs.Common.{◌≡◌, ◌≢◌, ℕ, ◌+◌, ◌<◌, List, ◌∷◌, length, refl, sym, ◌∙◌, ap, subst, slice_index_or, slice_set, inl, inr, ◌⊎◌, length-set}
use Rattle.std.specs.Bool.{⊤}
use Rattle.std.proofs.lemmas.Bool.{cases_eq}
use Rattle.aps_model.specs.declared.state.State.{State}
use Rattle.aps_model.specs.declared.state.State.TheVariants.{Ready, Running, Sleeping, Sending, Receiving, Replying, Gone}
use Rattle.aps_model.specs.declared.state.ThreadNow.{ThreadNow}
use Rattle.aps_model.specs.declared.state.Facts.{Facts}
use Rattle.laws_runs.specs.Waits.{IsPlain, state_at}
use Rattle.laws_runs.specs.Bears.{Bears, IsLoose, IsUp}
use Rattle.laws_runs.specs.Untouched.{IsAlike}
use Rattle.laws_runs.proofs.ThreadFacts.{within, set_same, set_other, running_within, go_on_by}
use Rattle.laws_runs.proofs.WaitFacts.{first_receives, first_sends, client_replies}
use Rattle.laws_runs.proofs.WaitBears.{plain_bears, state_of}
use Rattle.laws_runs.proofs.Walk.{IsOff, IsOnOrOff}
use Rattle.aps_model.specs.Inherit.{without_server}
use Rattle.aps_model.specs.Operation.{go_on}
use Rattle.aps_model.specs.Scenario.{Scenario}
use Rattle.aps_model.specs.SchedulerState.{SchedulerState, channel_at, no_thread, with_state}

-- a thread that waits for something
abbrev pub IsAsleep : State → Type 0
IsAsleep Ready = ⊥
IsAsleep (Running c) = ⊥
IsAsleep (Sleeping until) = ⊤
IsAsleep (Sending d) = ⊤
IsAsleep (Receiving d) = ⊤
IsAsleep (Replying x) = ⊤
IsAsleep Gone = ⊥

-- the thread z keeps its stamp: it is x, which c runs, or it waits on
abbrev pub IsQuiet : ℕ → ℕ → ℕ → State → State → Type 0
IsQuiet c x z a b = ((z ≡ x) × (a ≡ Running c) × IsOnOrOff c b) ⊎ (IsAsleep a × IsAsleep b)

-- the thread z gets a new stamp: it is x, or it waited and is ready
abbrev pub IsFresh : ℕ → ℕ → ℕ → State → State → Type 0
IsFresh c x z a b = ((z ≡ x) × (a ≡ Running c) × IsUp c b) ⊎ (IsAsleep a × (b ≡ Ready))

-- a property of threads and the next stamp bears each update
pub record ThreadsBear (c x : ℕ) (N : List ThreadNow → ℕ → Type 0) : Type 0 where
  pub quiet : (ts : List ThreadNow) (n z : ℕ) (t : ThreadNow) → N ts n → z < length ts → IsQuiet c x z (state_of ts z) t.state → t.stamp ≡ (slice_index_or ts z no_thread).stamp → N (slice_set ts z t) n
  pub fresh : (ts : List ThreadNow) (n z : ℕ) (t : ThreadNow) → N ts n → z < length ts → IsFresh c x z (state_of ts z) t.state → N (slice_set ts z (record t { stamp = n; since = 0 })) (n + 1)
  pub owned : (ts : List ThreadNow) (n z : ℕ) (own : Facts) → N ts n → z < length ts → N (slice_set ts z (record (slice_index_or ts z no_thread) { own = own })) n

pub loose_on : (c : ℕ) (st : State) → IsLoose c st → IsOnOrOff c st
loose_on c Ready l = inr (λ d e. cc)
loose_on c (Running d) l = inl (ap (λ k. Running k) l)
loose_on c (Sleeping until) l = inr (λ d e. cc)
loose_on c (Sending d) l = absurd l
loose_on c (Receiving d) l = absurd l
loose_on c (Replying x) l = absurd l
loose_on c Gone l = absurd l

-- a thread that waited goes on
goes_on : (scenario : Scenario) (c x : ℕ) (N : List ThreadNow → ℕ → Type 0) → ThreadsBear c x N → (s : SchedulerState) (y now : ℕ)
    → y < length s.threads → IsAsleep (state_at s y) → N s.threads s.stamps → N (go_on scenario s y now).threads (go_on scenario s y now).stamps
goes_on scenario c x N b s y now below asleep n =
    go_on_by scenario s y now (λ u. N u.threads u.stamps)
    (λ t e o. b.fresh s.threads s.stamps y t n below (inr (asleep, e)))
    (λ t u e o st l. b.quiet s.threads s.stamps y t n below (inr (asleep, subst IsAsleep (sym e) tt)) st)

pub threads_bear : (scenario : Scenario) (now c x : ℕ) (N : List ThreadNow → ℕ → Type 0) → ThreadsBear c x N → Bears scenario now c x (λ s. IsPlain scenario s × N s.threads s.stamps)
threads_bear scenario now c x N b =
    let p = plain_bears scenario now c x in
    record {
      waiting = λ s m. m.0.waiting;
      woken = λ s y u m e. (p.woken s y u m.0 e, goes_on scenario c x N b s y now (within s.threads y (λ g. cc)) (subst IsAsleep (sym e) tt) m.1);
      put = λ s t m run loose st. (p.put s t m.0 run loose st, b.quiet s.threads s.stamps x t m.1 (running_within s x c run) (inl (refl, run, loose_on c t.state loose)) st);
      stamped = λ s t m run up. (p.stamped s t m.0 run up, b.fresh s.threads s.stamps x t m.1 (running_within s x c run) (inl (refl, run, up)));
      send_waits = λ s d named m run e. (p.send_waits s d named m.0 run e, b.quiet s.threads s.stamps x _ m.1 (running_within s x c run) (inl (refl, run, inr (λ k f. cc))) refl);
      send_meets = λ s d r rest named m run e.
          let there : state_at s r ≡ Receiving d = first_receives m.0.waiting d r rest e in
          let ne : r ≢ x = λ same. differs (sym run ∙ ap (state_at s) (sym same) ∙ there) in
          let mid = with_state s x (Replying r) in
          let big = with_state (record s { triples = record { server = r; client = x; channel = d } ∷ s.triples; channels = slice_set s.channels d (record (channel_at s d) { receivers = rest }) }) x (Replying r) in
          let n : N mid.threads s.stamps = b.quiet s.threads s.stamps x _ m.1 (running_within s x c run) (inl (refl, run, inr (λ k f. cc))) refl in
          let at : state_at mid r ≡ Receiving d = ap (λ (z : ThreadNow). z.state) (set_other s.threads x r _ ne) ∙ there in (
            p.send_meets s d r rest named m.0 run e,
            goes_on scenario c x N b big r now (within mid.threads r (λ g. cc)) (subst IsAsleep (sym at) tt) n,
          );
      receive_waits = λ s d named m run free e. (p.receive_waits s d named m.0 run free e, b.quiet s.threads s.stamps x _ m.1 (running_within s x c run) (inl (refl, run, inr (λ k f. cc))) refl);
      receive_takes = λ s d msg named m run free e.
          let there : state_at s msg.sender ≡ Sending d = first_sends m.0.waiting d msg e in (
            p.receive_takes s d msg named m.0 run free e,
            b.quiet s.threads s.stamps msg.sender _ m.1 (within s.threads msg.sender (λ g. cc)) (inr (subst IsAsleep (sym there) tt, tt)) refl,
          );
      replies = λ s y m run e.
          let there : state_at s y ≡ Replying x = client_replies m.0.waiting x y e in (
            p.replies s y m.0 run e,
            goes_on scenario c x N b (record s { triples = without_server s.triples x }) y now (within s.threads y (λ g. cc)) (subst IsAsleep (sym there) tt) m.1,
          );
      leaves = λ s m run free. (p.leaves s m.0 run free, b.quiet s.threads s.stamps x _ m.1 (running_within s x c run) (inl (refl, run, inr (λ k f. cc))) refl);
    }
  where
    differs : {a b : ℕ} → ◌≡◌ {A = State} (Running a) (Receiving b) → ⊥
    differs e = cc

-- ---- who runs

pub alike_state : {t u : ThreadNow} → IsAlike t u → u.state ≡ t.state
alike_state a = a.state

pub alike_at : {t u v : ThreadNow} → v ≡ u → IsAlike t u → IsAlike t v
alike_at {t} e a = subst (IsAlike t) (sym e) a

pub alike_trans : {t u v : ThreadNow} → IsAlike t u → IsAlike u v → IsAlike t v
alike_trans a b = record { state = b.state ∙ a.state; place = b.place ∙ a.place; left = b.left ∙ a.left; stamp = b.stamp ∙ a.stamp; since = b.since ∙ a.since }

pub alike_same : (t : ThreadNow) → IsAlike t t
alike_same t = record { state = refl; place = refl; left = refl; stamp = refl; since = refl }

pub alike_own : (t : ThreadNow) (own : Facts) → IsAlike t (record t { own = own })
alike_own t own = record { state = refl; place = refl; left = refl; stamp = refl; since = refl }

-- of the threads beside x those that ran are as they were, and no other one runs
pub record IsSpared (x : ℕ) (before : List ThreadNow) (after : List ThreadNow) : Type 0 where
  pub as_before : (y d : ℕ) → y ≢ x → state_of before y ≡ Running d → IsAlike (slice_index_or before y no_thread) (slice_index_or after y no_thread)
  pub no_more : (y d : ℕ) → y ≢ x → state_of after y ≡ Running d → state_of before y ≡ Running d
  pub count : length after ≡ length before

-- an update of x, or of one that doesn't run before or after
spared_set : (x : ℕ) (before ts : List ThreadNow) (z : ℕ) (t : ThreadNow) → IsSpared x before ts → z < length ts
    → (z ≡ x) ⊎ (IsOff (state_of ts z) × IsOff t.state) → IsSpared x before (slice_set ts z t)
spared_set x before ts z t p below (inl same) = record {
  as_before = λ y d ne e. alike_at (set_other ts z y t (λ k. ne (k ∙ same))) (p.as_before y d ne e);
  no_more = λ y d ne e. p.no_more y d ne (sym (ap (λ (u : ThreadNow). u.state) (set_other ts z y t (λ k. ne (k ∙ same)))) ∙ e);
  count = length-set ts z t ∙ p.count;
}
spared_set x before ts z t p below (inr off) = record {
  as_before = λ y d ne e.
      let still = p.as_before y d ne e in
      let ne' : y ≢ z = λ k. off.0 d (ap (state_of ts) (sym k) ∙ alike_state still ∙ e) in
      alike_at (set_other ts z y t ne') still;
  no_more = λ y d ne e. elim (cases_eq y z) [
    | inl k ↦ absurd (off.1 d (sym (ap (λ (u : ThreadNow). u.state) (set_same ts z t below)) ∙ ap (state_of (slice_set ts z t)) (sym k) ∙ e))
    | inr nk ↦ p.no_more y d ne (sym (ap (λ (u : ThreadNow). u.state) (set_other ts z y t nk)) ∙ e)
  ];
  count = length-set ts z t ∙ p.count;
}

asleep_off : (st : State) → IsAsleep st → IsOff st
asleep_off (Running c) a = absurd a
asleep_off Ready a = absurd a
asleep_off Gone a = absurd a
asleep_off (Sleeping until) a = λ d e. cc
asleep_off (Sending k) a = λ d e. cc
asleep_off (Receiving k) a = λ d e. cc
asleep_off (Replying k) a = λ d e. cc

quiet_spares : (c x z : ℕ) (a b : State) → IsQuiet c x z a b → (z ≡ x) ⊎ (IsOff a × IsOff b)
quiet_spares c x z a b (inl q) = inl q.0
quiet_spares c x z a b (inr q) = inr (asleep_off a q.0, asleep_off b q.1)

fresh_spares : (c x z : ℕ) (a b : State) → IsFresh c x z a b → (z ≡ x) ⊎ (IsOff a × IsOff b)
fresh_spares c x z a b (inl q) = inl q.0
fresh_spares c x z a b (inr q) = inr (asleep_off a q.0, subst IsOff (sym q.1) (λ d e. cc))

spared_own : (x : ℕ) (before ts : List ThreadNow) (z : ℕ) (own : Facts) → IsSpared x before ts → z < length ts → IsSpared x before (slice_set ts z (record (slice_index_or ts z no_thread) { own = own }))
spared_own x before ts z own p below = record {
  as_before = λ y d ne e. alike_trans (p.as_before y d ne e) (same y);
  no_more = λ y d ne e. p.no_more y d ne (sym (alike_state (same y)) ∙ e);
  count = length-set ts z _ ∙ p.count;
}
  where
    same : (y : ℕ) → IsAlike (slice_index_or ts y no_thread) (slice_index_or (slice_set ts z (record (slice_index_or ts z no_thread) { own = own })) y no_thread)
    same y = elim (cases_eq y z) [
      | inl k ↦
          subst (λ n. IsAlike (slice_index_or ts n no_thread) (slice_index_or (slice_set ts z (record (slice_index_or ts z no_thread) { own = own })) n no_thread)) (sym k)
          (alike_at (set_same ts z (record (slice_index_or ts z no_thread) { own = own }) below) (alike_own (slice_index_or ts z no_thread) own))
      | inr nk ↦ alike_at (set_other ts z y (record (slice_index_or ts z no_thread) { own = own }) nk) (alike_same (slice_index_or ts y no_thread))
    ]

pub spared_bears : (c x : ℕ) (before : List ThreadNow) → ThreadsBear c x (λ ts n. IsSpared x before ts)
spared_bears c x before = record {
  quiet = λ ts n z t p below q st. spared_set x before ts z t p below (quiet_spares c x z (state_of ts z) t.state q);
  fresh = λ ts n z t p below q. spared_set x before ts z _ p below (fresh_spares c x z (state_of ts z) t.state q);
  owned = λ ts n z own p below. spared_own x before ts z own p below;
}

pub spared_same : (x : ℕ) (ts : List ThreadNow) → IsSpared x ts ts
spared_same x ts = record { as_before = λ y d ne e. alike_same (slice_index_or ts y no_thread); no_more = λ y d ne e. e; count = refl }
