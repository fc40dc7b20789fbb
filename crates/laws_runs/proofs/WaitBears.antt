-- Where threads stand is kept by each move.
use Rattle.std.proofs.Common.{◌≡◌, ◌≢◌, ℕ, ◌<◌, ◌≤◌, List, [], ◌∷◌, ◌++◌, length, refl, sym, ◌∙◌, ap, subst, Bool, true, false, cond, nat_lt, Some, None, slice_index_or, slice_set, arith, inl, inr, ◌⊎◌, length-set}
use Rattle.std.specs.List.{fold}
use Rattle.std.proofs.lemmas.List.{get_or-set_same, get_or-set_other}
use Rattle.std.proofs.lemmas.Bool.{cases_eq}
use Rattle.aps_model.specs.declared.state.State.{State}
use Rattle.aps_model.specs.declared.state.State.TheVariants.{Ready, Running, Sleeping, Sending, Receiving, Replying, Gone}
use Rattle.aps_model.specs.declared.state.ThreadNow.{ThreadNow}
use Rattle.laws_runs.specs.Waits.{times, times_sent, IsWaiting, IsPlaced, IsPlain, state_at}
use Rattle.laws_runs.specs.Bears.{Bears, IsLoose, IsUp}
use Rattle.laws_runs.proofs.ThreadFacts.{within, set_same, set_other, running_within, go_on_by}
use Rattle.laws_runs.proofs.WaitFacts.{first_receives, first_sends, first_stands, client_replies}
use Rattle.laws_runs.proofs.WaitMoves.{IsUnlisted, nowhere, placed_unlisted, placed_gone, added_same, added_other, channel_changed, channel_lessened, channel_same, times-append, times_sent-append, times_sent-without, free_from, made_without, client_without, client_added, paired_without}
use Rattle.aps_model.specs.After.{after}
use Rattle.aps_model.specs.Inherit.{client_of, facts_of, without_server}
use Rattle.aps_model.specs.Messages.{first_message, higher, without_sender}
use Rattle.aps_model.specs.Operation.{go_on}
use Rattle.aps_model.specs.Scenario.{Scenario}
use Rattle.aps_model.specs.SchedulerState.{ChannelNow, Message, SchedulerState, Triple, channel_at, no_channel, no_thread}

abbrev pub state_of : List ThreadNow → ℕ → State
state_of threads y = (slice_index_or threads y no_thread).state

abbrev pub channel_of : List ChannelNow → ℕ → ChannelNow
channel_of cs d = slice_index_or cs d no_channel

-- what holds of the thread that is set, and of every other one, holds of each
pub by_thread : (threads : List ThreadNow) (x : ℕ) (t : ThreadNow) (P : ℕ → State → Type 0) → x < length threads
    → P x t.state → ((y : ℕ) → y ≢ x → P y (state_of threads y)) → (y : ℕ) → P y (state_of (slice_set threads x t) y)
by_thread threads x t P below here others y = elim (cases_eq y x) [
  | inl e ↦ subst (λ k. P k (state_of (slice_set threads x t) k)) (sym e) (subst (λ (z : ThreadNow). P x z.state) (sym (set_same threads x t below)) here)
  | inr ne ↦ subst (λ (z : ThreadNow). P y z.state) (sym (set_other threads x y t ne)) (others y ne)
]

-- what holds of the channel that is set, and of every other one, holds of each
by_channel : (cs : List ChannelNow) (d : ℕ) (new : ChannelNow) (P : ChannelNow → Type 0) → d < length cs → P new → ((e : ℕ) → P (channel_of cs e)) → (e : ℕ) → P (channel_of (slice_set cs d new) e)
by_channel cs d new P below here others e = elim (cases_eq e d) [
  | inl same ↦ subst (λ k. P (channel_of (slice_set cs d new) k)) (sym same) (subst P (sym (get_or-set_same cs d new no_channel below)) here)
  | inr ne ↦ subst P (sym (get_or-set_other cs d e new no_channel ne)) (others e)
]

-- a channel has no message, or no receiver
abbrev IsOneSided : ChannelNow → Type 0
IsOneSided ch = (ch.messages ≡ []) ⊎ (ch.receivers ≡ [])

no_message : (ms : List Message) → first_message ms ≡ None → ms ≡ []
no_message [] e = refl
no_message (m ∷ ms) e = absurd (some_first ms m e)
  where
    by_test : (t : Bool) (a b : Message) (ms : List Message) → ((m : Message) → fold higher (Some m) ms ≡ None → ⊥) → fold higher (Some (cond t a b)) ms ≡ None → ⊥
    by_test true a b ms f e = f a e
    by_test false a b ms f e = f b e

    some_first : (ms : List Message) (m : Message) → fold higher (Some m) ms ≡ None → ⊥
    some_first [] m e = cc
    some_first (x ∷ ms) m e = by_test (nat_lt m.priority x.priority) x m ms (some_first ms) e

pub waiting_put : (threads : List ThreadNow) (x : ℕ) (t : ThreadNow) (cs : ℕ → ChannelNow) (ps : List Triple) → x < length threads
    → IsUnlisted (state_of threads x) → IsUnlisted t.state → IsWaiting (state_of threads) cs ps → IsWaiting (state_of (slice_set threads x t)) cs ps
waiting_put threads x t cs ps below before after w = record {
  at = by_thread threads x t (λ y st. IsPlaced st cs ps y) below (placed_unlisted (state_of threads x) t.state cs ps x before after (w.at x)) (λ y ne. w.at y);
  made = w.made;
  either = w.either;
}

loose_unlisted : (c : ℕ) (st : State) → IsLoose c st → IsUnlisted st
loose_unlisted c Ready l = tt
loose_unlisted c (Running d) l = tt
loose_unlisted c (Sleeping until) l = tt
loose_unlisted c (Sending d) l = l
loose_unlisted c (Receiving d) l = l
loose_unlisted c (Replying x) l = l
loose_unlisted c Gone l = l

up_unlisted : (c : ℕ) (st : State) → IsUp c st → IsUnlisted st
up_unlisted c Ready l = tt
up_unlisted c (Running d) l = tt
up_unlisted c (Sleeping until) l = absurd l
up_unlisted c (Sending d) l = l
up_unlisted c (Receiving d) l = l
up_unlisted c (Replying x) l = l
up_unlisted c Gone l = l

-- a thread in no list goes on
waiting_go_on : (scenario : Scenario) (s : SchedulerState) (y now : ℕ) → y < length s.threads → IsUnlisted (state_at s y) → IsPlain scenario s → IsPlain scenario (go_on scenario s y now)
waiting_go_on scenario s y now below before p =
    go_on_by scenario s y now (IsPlain scenario)
    (λ t e o. record { waiting = waiting_put s.threads y _ (channel_at s) s.triples below before (subst IsUnlisted (sym e) tt) p.waiting; channels = p.channels })
    (λ t u e o st l. record { waiting = waiting_put s.threads y _ (channel_at s) s.triples below before (subst IsUnlisted (sym e) tt) p.waiting; channels = p.channels })

-- ---- a send

sends_waits : (threads : List ThreadNow) (x d c n : ℕ) (t : ThreadNow) (cs : List ChannelNow) (ps : List Triple) → d < length cs → x < length threads
    → state_of threads x ≡ Running c → t.state ≡ Sending d → (channel_of cs d).receivers ≡ []
    → IsWaiting (state_of threads) (channel_of cs) ps
    → IsWaiting (state_of (slice_set threads x t)) (channel_of (slice_set cs d (record (channel_of cs d) { messages = (channel_of cs d).messages ++ record { sender = x; priority = n } ∷ [] }))) ps
sends_waits threads x d c n t cs ps named below run is empty w =
    let new : ChannelNow = record (channel_of cs d) { messages = (channel_of cs d).messages ++ record { sender = x; priority = n } ∷ [] } in
    let px : IsPlaced (Running c) (channel_of cs) ps x = subst (λ z. IsPlaced z (channel_of cs) ps x) run (w.at x) in
    let more = channel_changed cs d x new (λ y (ch : ChannelNow). times_sent y ch.messages) named (λ y. times_sent-append y (record { sender = x; priority = n }) (channel_of cs d).messages) in
    let same = channel_same cs d new (λ y (ch : ChannelNow). times y ch.receivers) named (λ y. refl) in
    record {
      at = by_thread threads x t (λ y st. IsPlaced st (channel_of (slice_set cs d new)) ps y) below
          (subst (λ z. IsPlaced z (channel_of (slice_set cs d new)) ps x) (sym is) (record {
            sends = λ e. omega (arith, more e x, px.sends e, added_same d x e);
            receives = λ e. same e x ∙ px.receives e;
            waits = px.waits;
            receiver_free = λ e k. absurd (differs k);
            gone_free = λ k. absurd (ends k);
          }))
          (λ y ne. record {
            sends = λ e. omega (arith, more e y, (w.at y).sends e, added_other d x e y ne);
            receives = λ e. same e y ∙ (w.at y).receives e;
            waits = (w.at y).waits;
            receiver_free = (w.at y).receiver_free;
            gone_free = (w.at y).gone_free;
          });
      made = w.made;
      either = by_channel cs d new IsOneSided named (inr empty) w.either;
    }
  where
    differs : {a b : ℕ} → ◌≡◌ {A = State} (Sending a) (Receiving b) → ⊥
    differs e = cc

    ends : {a : ℕ} → ◌≡◌ {A = State} (Sending a) Gone → ⊥
    ends e = cc

sends_meets : (threads : List ThreadNow) (x r d c : ℕ) (rest : List ℕ) (t u : ThreadNow) (cs : List ChannelNow) (ps : List Triple) → d < length cs → x < length threads → r < length threads
    → state_of threads x ≡ Running c → state_of threads r ≡ Receiving d → t.state ≡ Replying r → IsUnlisted u.state → (channel_of cs d).receivers ≡ r ∷ rest
    → IsWaiting (state_of threads) (channel_of cs) ps
    → IsWaiting (state_of (slice_set (slice_set threads x t) r u)) (channel_of (slice_set cs d (record (channel_of cs d) { receivers = rest }))) (record { server = r; client = x; channel = d } ∷ ps)
sends_meets threads x r d c rest t u cs ps named below below_r run there is un front w =
    let new : ChannelNow = record (channel_of cs d) { receivers = rest } in
    let px : IsPlaced (Running c) (channel_of cs) ps x = subst (λ z. IsPlaced z (channel_of cs) ps x) run (w.at x) in
    let pr : IsPlaced (Receiving d) (channel_of cs) ps r = subst (λ z. IsPlaced z (channel_of cs) ps r) there (w.at r) in
    let nu = nowhere u.state un in
    let apart : r ≢ x = λ e. differs (sym run ∙ ap (state_of threads) (sym e) ∙ there) in
    let apart' : x ≢ r = λ e. apart (sym e) in
    let less = channel_lessened cs d r new (λ y (ch : ChannelNow). times y ch.receivers) named (λ y. ap (times y) front ∙ omega arith) in
    let same = channel_same cs d new (λ y (ch : ChannelNow). times_sent y ch.messages) named (λ y. refl) in
    let ps' : List Triple = record { server = r; client = x; channel = d } ∷ ps in
    let threads' = slice_set threads x t in
    record {
      at = by_thread threads' r u (λ y st. IsPlaced st (channel_of (slice_set cs d new)) ps' y) (rw length-set below_r)
          (record {
            sends = λ e. same e r ∙ pr.sends e ∙ sym (nu.sends e);
            receives = λ e. omega (arith, less e r, pr.receives e, added_same d r e, nu.receives e);
            waits = λ z. omega (arith, added_other r x z r apart, pr.waits z, nu.waits z);
            receiver_free = λ e k. absurd (nu.not_receiving e k);
            gone_free = λ k. absurd (nu.not_gone k);
          })
          (λ y ne.
          by_thread threads x t (λ z st. z ≢ r → IsPlaced st (channel_of (slice_set cs d new)) ps' z) below
          (λ nr. subst (λ z. IsPlaced z (channel_of (slice_set cs d new)) ps' x) (sym is) (record {
            sends = λ e. same e x ∙ px.sends e;
            receives = λ e. omega (arith, less e x, px.receives e, added_other d r e x apart');
            waits = λ z. omega (arith, added_same r x z, px.waits z);
            receiver_free = λ e k. absurd (replies k);
            gone_free = λ k. absurd (ends k);
          }))
          (λ z nx nr. record {
            sends = λ e. same e z ∙ (w.at z).sends e;
            receives = λ e. omega (arith, less e z, (w.at z).receives e, added_other d r e z nr);
            waits = λ k. omega (arith, added_other r x k z nx, (w.at z).waits k);
            receiver_free = λ e k. client_added ps r x d z nr ((w.at z).receiver_free e k);
            gone_free = λ k. client_added ps r x d z nr ((w.at z).gone_free k);
          })
          y ne);
      either = by_channel cs d new IsOneSided named (elim (w.either d) [ inl none ↦ inl none | inr none ↦ absurd (some_receiver (sym front ∙ none)) ]) w.either;
      made = (free_from ps r (pr.receiver_free d refl) pr.waits, apart, w.made);
    }
  where
    some_receiver : ◌≡◌ {A = List ℕ} (r ∷ rest) [] → ⊥
    some_receiver e = cc

    differs : {a b : ℕ} → ◌≡◌ {A = State} (Running a) (Receiving b) → ⊥
    differs e = cc

    replies : {a b : ℕ} → ◌≡◌ {A = State} (Replying a) (Receiving b) → ⊥
    replies e = cc

    ends : {a : ℕ} → ◌≡◌ {A = State} (Replying a) Gone → ⊥
    ends e = cc

-- ---- a receive

receives_waits : (threads : List ThreadNow) (x d c : ℕ) (t : ThreadNow) (cs : List ChannelNow) (ps : List Triple) → d < length cs → x < length threads
    → state_of threads x ≡ Running c → t.state ≡ Receiving d → client_of ps x ≡ None → (channel_of cs d).messages ≡ []
    → IsWaiting (state_of threads) (channel_of cs) ps
    → IsWaiting (state_of (slice_set threads x t)) (channel_of (slice_set cs d (record (channel_of cs d) { receivers = (channel_of cs d).receivers ++ x ∷ [] }))) ps
receives_waits threads x d c t cs ps named below run is free empty w =
    let new : ChannelNow = record (channel_of cs d) { receivers = (channel_of cs d).receivers ++ x ∷ [] } in
    let px : IsPlaced (Running c) (channel_of cs) ps x = subst (λ z. IsPlaced z (channel_of cs) ps x) run (w.at x) in
    let more = channel_changed cs d x new (λ y (ch : ChannelNow). times y ch.receivers) named (λ y. times-append y x (channel_of cs d).receivers) in
    let same = channel_same cs d new (λ y (ch : ChannelNow). times_sent y ch.messages) named (λ y. refl) in
    record {
      at = by_thread threads x t (λ y st. IsPlaced st (channel_of (slice_set cs d new)) ps y) below
          (subst (λ z. IsPlaced z (channel_of (slice_set cs d new)) ps x) (sym is) (record {
            sends = λ e. same e x ∙ px.sends e;
            receives = λ e. omega (arith, more e x, px.receives e, added_same d x e);
            waits = px.waits;
            receiver_free = λ e k. free;
            gone_free = λ k. free;
          }))
          (λ y ne. record {
            sends = λ e. same e y ∙ (w.at y).sends e;
            receives = λ e. omega (arith, more e y, (w.at y).receives e, added_other d x e y ne);
            waits = (w.at y).waits;
            receiver_free = (w.at y).receiver_free;
            gone_free = (w.at y).gone_free;
          });
      made = w.made;
      either = by_channel cs d new IsOneSided named (inl empty) w.either;
    }

receives_takes : (threads : List ThreadNow) (x m d c : ℕ) (t : ThreadNow) (cs : List ChannelNow) (ps : List Triple) → d < length cs → m < length threads
    → state_of threads x ≡ Running c → state_of threads m ≡ Sending d → t.state ≡ Replying x → client_of ps x ≡ None → 1 ≤ times_sent m (channel_of cs d).messages
    → IsWaiting (state_of threads) (channel_of cs) ps
    → IsWaiting (state_of (slice_set threads m t)) (channel_of (slice_set cs d (record (channel_of cs d) { messages = without_sender m (channel_of cs d).messages }))) (record { server = x; client = m; channel = d } ∷ ps)
receives_takes threads x m d c t cs ps named below run there is free stands w =
    let new : ChannelNow = record (channel_of cs d) { messages = without_sender m (channel_of cs d).messages } in
    let px : IsPlaced (Running c) (channel_of cs) ps x = subst (λ z. IsPlaced z (channel_of cs) ps x) run (w.at x) in
    let pm : IsPlaced (Sending d) (channel_of cs) ps m = subst (λ z. IsPlaced z (channel_of cs) ps m) there (w.at m) in
    let apart : x ≢ m = λ e. differs (sym run ∙ ap (state_of threads) e ∙ there) in
    let less = channel_lessened cs d m new (λ y (ch : ChannelNow). times_sent y ch.messages) named (λ y. times_sent-without y m (channel_of cs d).messages stands) in
    let same = channel_same cs d new (λ y (ch : ChannelNow). times y ch.receivers) named (λ y. refl) in
    let ps' : List Triple = record { server = x; client = m; channel = d } ∷ ps in
    record {
      at = by_thread threads m t (λ y st. IsPlaced st (channel_of (slice_set cs d new)) ps' y) below
          (subst (λ z. IsPlaced z (channel_of (slice_set cs d new)) ps' m) (sym is) (record {
            sends = λ e. omega (arith, less e m, pm.sends e, added_same d m e);
            receives = λ e. same e m ∙ pm.receives e;
            waits = λ z. omega (arith, added_same x m z, pm.waits z);
            receiver_free = λ e k. absurd (replies k);
            gone_free = λ k. absurd (ends k);
          }))
          (λ y ne. record {
            sends = λ e. omega (arith, less e y, (w.at y).sends e, added_other d m e y ne);
            receives = λ e. same e y ∙ (w.at y).receives e;
            waits = λ k. omega (arith, added_other x m k y ne, (w.at y).waits k);
            receiver_free = λ e k. client_added ps x m d y (λ s. up (sym k ∙ ap (state_of threads) s ∙ run)) ((w.at y).receiver_free e k);
            gone_free = λ k. client_added ps x m d y (λ s. over (sym k ∙ ap (state_of threads) s ∙ run)) ((w.at y).gone_free k);
          });
      either = by_channel cs d new IsOneSided named (elim (w.either d) [ inl none ↦ absurd (no_sender (subst (λ ms. 1 ≤ times_sent m ms) none stands)) | inr none ↦ inr none ]) w.either;
      made = (free_from ps x free px.waits, apart, w.made);
    }
  where
    no_sender : 1 ≤ times_sent m [] → ⊥
    no_sender l = omega arith

    differs : {a b : ℕ} → ◌≡◌ {A = State} (Running a) (Sending b) → ⊥
    differs e = cc

    replies : {a b : ℕ} → ◌≡◌ {A = State} (Replying a) (Receiving b) → ⊥
    replies e = cc

    up : {a b : ℕ} → ◌≡◌ {A = State} (Receiving a) (Running b) → ⊥
    up e = cc

    over : {a : ℕ} → ◌≡◌ {A = State} Gone (Running a) → ⊥
    over e = cc

    ends : {a : ℕ} → ◌≡◌ {A = State} (Replying a) Gone → ⊥
    ends e = cc

-- ---- a reply

frees : (threads : List ThreadNow) (x y : ℕ) (u : ThreadNow) (cs : ℕ → ChannelNow) (ps : List Triple) → y < length threads
    → state_of threads y ≡ Replying x → IsUnlisted u.state → client_of ps x ≡ Some y
    → IsWaiting (state_of threads) cs ps
    → IsWaiting (state_of (slice_set threads y u)) cs (without_server ps x)
frees threads x y u cs ps below there un client w =
    let py : IsPlaced (Replying x) cs ps y = subst (λ z. IsPlaced z cs ps y) there (w.at y) in
    let nu = nowhere u.state un in
    record {
      at = by_thread threads y u (λ z st. IsPlaced st cs (without_server ps x) z) below
          (record {
            sends = λ e. py.sends e ∙ sym (nu.sends e);
            receives = λ e. py.receives e ∙ sym (nu.receives e);
            waits = λ z. omega (arith, paired_without ps x y z y client, added_same x y z, py.waits z, nu.waits z);
            receiver_free = λ e k. absurd (nu.not_receiving e k);
            gone_free = λ k. absurd (nu.not_gone k);
          })
          (λ z ne. record {
            sends = (w.at z).sends;
            receives = (w.at z).receives;
            waits = λ k. omega (arith, paired_without ps x y k z client, added_other x y k z ne, (w.at z).waits k);
            receiver_free = λ e k. client_without ps x z ((w.at z).receiver_free e k);
            gone_free = λ k. client_without ps x z ((w.at z).gone_free k);
          });
      made = made_without ps x w.made;
      either = w.either;
    }

running_unlisted : (st : State) (c : ℕ) → st ≡ Running c → IsUnlisted st
running_unlisted st c e = subst IsUnlisted (sym e) tt

pub plain_bears : (scenario : Scenario) (now c x : ℕ) → Bears scenario now c x (IsPlain scenario)
plain_bears scenario now c x = record {
  waiting = λ s m. m.waiting;
  woken = λ s y u m e. waiting_go_on scenario s y now (within s.threads y (λ g. cc)) (subst IsUnlisted (sym e) tt) m;
  put = λ s t m run loose p. record {
    waiting = waiting_put s.threads x t (channel_at s) s.triples (running_within s x c run) (running_unlisted (state_at s x) c run) (loose_unlisted c t.state loose) m.waiting;
    channels = m.channels;
  };
  stamped = λ s t m run up. record {
    waiting = waiting_put s.threads x _ (channel_at s) s.triples (running_within s x c run) (running_unlisted (state_at s x) c run) (up_unlisted c t.state up) m.waiting;
    channels = m.channels;
  };
  send_waits = λ s d named m run e. record {
    waiting = sends_waits s.threads x d c (facts_of s x).priority _ s.channels s.triples (rw m.channels named) (running_within s x c run) run refl e m.waiting;
    channels = length-set s.channels d _ ∙ m.channels;
  };
  send_meets = λ s d r rest named m run e.
      let there : state_at s r ≡ Receiving d = first_receives m.waiting d r rest e in
      let below : r < length s.threads = within s.threads r (λ g. cc) in
      go_on_by scenario _ r now (IsPlain scenario)
      (λ t is o. record {
        waiting = sends_meets s.threads x r d c rest _ _ s.channels s.triples (rw m.channels named) (running_within s x c run) below run there refl (subst IsUnlisted (sym is) tt) e m.waiting;
        channels = length-set s.channels d _ ∙ m.channels;
      })
      (λ t u is o st l. record {
        waiting = sends_meets s.threads x r d c rest _ _ s.channels s.triples (rw m.channels named) (running_within s x c run) below run there refl (subst IsUnlisted (sym is) tt) e m.waiting;
        channels = length-set s.channels d _ ∙ m.channels;
      });
  receive_waits = λ s d named m run free e. record {
    waiting = receives_waits s.threads x d c _ s.channels s.triples (rw m.channels named) (running_within s x c run) run refl free (no_message (channel_at s d).messages e) m.waiting;
    channels = length-set s.channels d _ ∙ m.channels;
  };
  receive_takes = λ s d msg named m run free e.
      let there : state_at s msg.sender ≡ Sending d = first_sends m.waiting d msg e in
      let below : msg.sender < length s.threads = within s.threads msg.sender (λ g. cc) in
      record {
        waiting = receives_takes s.threads x msg.sender d c _ s.channels s.triples (rw m.channels named) below run there refl free (first_stands (channel_at s d).messages msg e) m.waiting;
        channels = length-set s.channels d _ ∙ m.channels;
      };
  replies = λ s y m run e.
      let there : state_at s y ≡ Replying x = client_replies m.waiting x y e in
      let below : y < length s.threads = within s.threads y (λ g. cc) in
      go_on_by scenario _ y now (IsPlain scenario)
      (λ t is o. record {
        waiting = frees s.threads x y _ (channel_at s) s.triples below there (subst IsUnlisted (sym is) tt) e m.waiting;
        channels = m.channels;
      })
      (λ t u is o st l. record {
        waiting = frees s.threads x y _ (channel_at s) s.triples below there (subst IsUnlisted (sym is) tt) e m.waiting;
        channels = m.channels;
      });
  leaves = λ s m run free. record {
    waiting = record {
      at = by_thread s.threads x _ (λ y st. IsPlaced st (channel_at s) s.triples y) (running_within s x c run)
          (placed_gone (state_at s x) (channel_at s) s.triples x (running_unlisted (state_at s x) c run) free (m.waiting.at x)) (λ y ne. m.waiting.at y);
      made = m.waiting.made;
      either = m.waiting.either;
    };
    channels = m.channels;
  };
}
