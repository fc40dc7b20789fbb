-- Each move leaves every thread where its state says that it stands.
use Rattle.std.proofs.Common.{◌≡◌, ◌≢◌, ℕ, ◌+◌, ◌<◌, ◌≤◌, List, [], ◌∷◌, ◌++◌, length, refl, sym, ◌∙◌, ap, subst, Bool, true, false, cond, nat_eq, ◌&&◌, Some, None, slice_index_or, slice_set, arith, inl, inr}
use Rattle.std.specs.Bool.{⊤}
use Rattle.std.proofs.lemmas.List.{get_or-set_same, get_or-set_other}
use Rattle.std.proofs.lemmas.Bool.{cases_eq}
use Rattle.aps_model.specs.declared.state.State.{State}
use Rattle.aps_model.specs.declared.state.State.TheVariants.{Ready, Running, Sleeping, Sending, Receiving, Replying, Gone}
use Rattle.laws_runs.specs.Waits.{one_if, times, times_sent, times_paired, is_sending, is_receiving, is_replying, IsPlaced}
use Rattle.laws_runs.proofs.WaitFacts.{test_ne, test_eq}
use Rattle.aps_model.specs.Inherit.{IsFree, IsMade, client_of, without_server}
use Rattle.aps_model.specs.Messages.{without_sender}
use Rattle.aps_model.specs.SchedulerState.{ChannelNow, Message, Triple, no_channel}

-- a state that stands nowhere
abbrev pub IsUnlisted : State → Type 0
IsUnlisted Ready = ⊤
IsUnlisted (Running c) = ⊤
IsUnlisted (Sleeping until) = ⊤
IsUnlisted (Sending d) = ⊥
IsUnlisted (Receiving d) = ⊥
IsUnlisted (Replying x) = ⊥
IsUnlisted Gone = ⊥

-- what such a state says
pub record IsNowhere (st : State) : Type 0 where
  pub sends : (d : ℕ) → is_sending d st ≡ 0
  pub receives : (d : ℕ) → is_receiving d st ≡ 0
  pub waits : (z : ℕ) → is_replying z st ≡ 0
  pub not_receiving : (d : ℕ) → st ≡ Receiving d → ⊥
  pub not_gone : st ≡ Gone → ⊥

pub nowhere : (st : State) → IsUnlisted st → IsNowhere st
nowhere Ready u = record { sends = λ d. refl; receives = λ d. refl; waits = λ d. refl; not_receiving = λ d e. cc; not_gone = λ e. cc }
nowhere (Running c) u = record { sends = λ d. refl; receives = λ d. refl; waits = λ d. refl; not_receiving = λ d e. cc; not_gone = λ e. cc }
nowhere (Sleeping until) u = record { sends = λ d. refl; receives = λ d. refl; waits = λ d. refl; not_receiving = λ d e. cc; not_gone = λ e. cc }
nowhere (Sending d) u = absurd u
nowhere (Receiving d) u = absurd u
nowhere (Replying x) u = absurd u
nowhere Gone u = absurd u

-- from one such state to another
pub placed_unlisted : (a b : State) (cs : ℕ → ChannelNow) (ps : List Triple) (y : ℕ) → IsUnlisted a → IsUnlisted b → IsPlaced a cs ps y → IsPlaced b cs ps y
placed_unlisted a b cs ps y ua ub p =
    let na = nowhere a ua in
    let nb = nowhere b ub in
    record {
      sends = λ d. p.sends d ∙ na.sends d ∙ sym (nb.sends d);
      receives = λ d. p.receives d ∙ na.receives d ∙ sym (nb.receives d);
      waits = λ z. p.waits z ∙ na.waits z ∙ sym (nb.waits z);
      receiver_free = λ d e. absurd (nb.not_receiving d e);
      gone_free = λ e. absurd (nb.not_gone e);
    }

-- from such a state to the end
pub placed_gone : (a : State) (cs : ℕ → ChannelNow) (ps : List Triple) (y : ℕ) → IsUnlisted a → client_of ps y ≡ None → IsPlaced a cs ps y → IsPlaced Gone cs ps y
placed_gone a cs ps y ua free p =
    let na = nowhere a ua in
    record {
      sends = λ d. p.sends d ∙ na.sends d;
      receives = λ d. p.receives d ∙ na.receives d;
      waits = λ z. p.waits z ∙ na.waits z;
      receiver_free = λ d e. free;
      gone_free = λ e. free;
    }

-- ---- changes of channels

-- the thread x is added to what stands at channel d, or taken from it
abbrev pub added : ℕ → ℕ → ℕ → ℕ → ℕ
added d x e y = one_if (nat_eq d e && nat_eq x y)

pub added_same : (d x e : ℕ) → added d x e x ≡ one_if (nat_eq d e)
added_same d x e = by_test (nat_eq d e) (nat_eq x x) (test_eq x x refl)
  where
    by_test : (a b : Bool) → b ≡ true → one_if (a && b) ≡ one_if a
    by_test true true e = refl
    by_test false b e = refl
    by_test true false e = absurd cc

pub added_other : (d x e y : ℕ) → y ≢ x → added d x e y ≡ 0
added_other d x e y ne = by_test (nat_eq d e) (nat_eq x y) (test_ne x y (λ same. ne (sym same)))
  where
    by_test : (a b : Bool) → b ≡ false → one_if (a && b) ≡ 0
    by_test true true e = absurd cc
    by_test false b e = refl
    by_test true false e = refl

-- one channel is changed: what is counted of it changes by so much, and nothing of the others
pub channel_changed : (cs : List ChannelNow) (d x : ℕ) (new : ChannelNow) (count : ℕ → ChannelNow → ℕ) → d < length cs
    → ((y : ℕ) → count y new ≡ count y (slice_index_or cs d no_channel) + one_if (nat_eq x y))
    → (e y : ℕ) → count y (slice_index_or (slice_set cs d new) e no_channel) ≡ count y (slice_index_or cs e no_channel) + added d x e y
channel_changed cs d x new count below more e y = elim (cases_eq d e) [
  | inl same ↦
      let P : ℕ → Type 0 = λ k. count y (slice_index_or (slice_set cs d new) k no_channel) ≡ count y (slice_index_or cs k no_channel) + added d x k y in
      let here : P d = rw (get_or-set_same cs d new no_channel below) (more y ∙ ap (λ t. count y (slice_index_or cs d no_channel) + one_if (t && nat_eq x y)) (sym (test_eq d d refl))) in
      subst P same here
  | inr ne ↦
      ap (count y) (get_or-set_other cs d e new no_channel (λ s. ne (sym s)))
      ∙ omega (arith, ap (λ t. one_if (t && nat_eq x y)) (test_ne d e ne))
]

pub channel_lessened : (cs : List ChannelNow) (d x : ℕ) (new : ChannelNow) (count : ℕ → ChannelNow → ℕ) → d < length cs
    → ((y : ℕ) → count y (slice_index_or cs d no_channel) ≡ count y new + one_if (nat_eq x y))
    → (e y : ℕ) → count y (slice_index_or cs e no_channel) ≡ count y (slice_index_or (slice_set cs d new) e no_channel) + added d x e y
channel_lessened cs d x new count below more e y = elim (cases_eq d e) [
  | inl same ↦
      let P : ℕ → Type 0 = λ k. count y (slice_index_or cs k no_channel) ≡ count y (slice_index_or (slice_set cs d new) k no_channel) + added d x k y in
      let here : P d = rw (get_or-set_same cs d new no_channel below) (more y ∙ ap (λ t. count y new + one_if (t && nat_eq x y)) (sym (test_eq d d refl))) in
      subst P same here
  | inr ne ↦
      sym (ap (count y) (get_or-set_other cs d e new no_channel (λ s. ne (sym s))))
      ∙ omega (arith, ap (λ t. one_if (t && nat_eq x y)) (test_ne d e ne))
]

pub channel_same : (cs : List ChannelNow) (d : ℕ) (new : ChannelNow) (count : ℕ → ChannelNow → ℕ) → d < length cs
    → ((y : ℕ) → count y new ≡ count y (slice_index_or cs d no_channel))
    → (e y : ℕ) → count y (slice_index_or (slice_set cs d new) e no_channel) ≡ count y (slice_index_or cs e no_channel)
channel_same cs d new count below same e y = elim (cases_eq d e) [
  | inl is ↦
      let P : ℕ → Type 0 = λ k. count y (slice_index_or (slice_set cs d new) k no_channel) ≡ count y (slice_index_or cs k no_channel) in
      let here : P d = rw (get_or-set_same cs d new no_channel below) (same y) in
      subst P is here
  | inr ne ↦ ap (count y) (get_or-set_other cs d e new no_channel (λ s. ne (sym s)))
]

pub times-append : (y x : ℕ) (xs : List ℕ) → times y (xs ++ x ∷ []) ≡ times y xs + one_if (nat_eq x y)
times-append y x [] = omega arith
times-append y x (z ∷ zs) = omega (arith, times-append y x zs)

pub times_sent-append : (y : ℕ) (m : Message) (ms : List Message) → times_sent y (ms ++ m ∷ []) ≡ times_sent y ms + one_if (nat_eq m.sender y)
times_sent-append y m [] = omega arith
times_sent-append y m (z ∷ zs) = omega (arith, times_sent-append y m zs)

pub times_sent-without : (y x : ℕ) (ms : List Message) → 1 ≤ times_sent x ms → times_sent y ms ≡ times_sent y (without_sender x ms) + one_if (nat_eq x y)
times_sent-without y x [] h = absurd (omega arith)
times_sent-without y x (m ∷ ms) h = elim (cases_eq m.sender x) [
  | inl e ↦
      subst (λ t. one_if (nat_eq m.sender y) + times_sent y ms ≡ times_sent y (cond t ms (m ∷ without_sender x ms)) + one_if (nat_eq x y)) (sym (test_eq m.sender x e))
      (omega (arith, ap (λ k. one_if (nat_eq k y)) e))
  | inr ne ↦
      let more : 1 ≤ times_sent x ms = omega (arith, ap one_if (test_ne m.sender x ne)) in
      subst (λ t. one_if (nat_eq m.sender y) + times_sent y ms ≡ times_sent y (cond t ms (m ∷ without_sender x ms)) + one_if (nat_eq x y)) (sym (test_ne m.sender x ne))
      (omega (arith, times_sent-without y x ms more))
]

-- ---- changes of pairs

pub free_from : (ps : List Triple) (x : ℕ) → client_of ps x ≡ None → ((z : ℕ) → times_paired z x ps ≡ 0) → IsFree ps x
free_from [] x unserving unserved = tt
free_from (pair ∷ older) x unserving unserved =
    let not_server : x ≢ pair.server = λ e. clash (nat_eq pair.server x) (test_eq pair.server x (sym e)) (unserving) in
    let not_client : x ≢ pair.client = λ e. counted pair.client x pair.server (times_paired pair.server x older) (sym e) (unserved pair.server) in
    (not_server, not_client, free_from older x (rest (nat_eq pair.server x) (test_ne pair.server x (λ e. not_server (sym e))) (unserving)) (λ z. omega (arith, unserved z)))
  where
    clash : (t : Bool) → t ≡ true → cond t (Some pair.client) (client_of older x) ≡ None → ⊥
    clash true e n = cc
    clash false e n = cc

    rest : (t : Bool) → t ≡ false → cond t (Some pair.client) (client_of older x) ≡ None → client_of older x ≡ None
    rest true e n = absurd cc
    rest false e n = n

    both : (k : ℕ) (a b : Bool) → a ≡ true → b ≡ true → one_if (a && b) + k ≡ 0 → ⊥
    both k true true p q n = omega arith
    both k true false p q n = cc
    both k false b p q n = cc

    counted : (c x s k : ℕ) → c ≡ x → one_if (nat_eq s s && nat_eq c x) + k ≡ 0 → ⊥
    counted c x s k e n = both k (nat_eq s s) (nat_eq c x) (test_eq s s refl) (test_eq c x e) n

pub free_without : (ps : List Triple) (z x : ℕ) → IsFree ps x → IsFree (without_server ps z) x
free_without [] z x f = f
free_without (pair ∷ older) z x f = by_test (nat_eq pair.server z) (free_without older z x f.2)
  where
    by_test : (t : Bool) → IsFree (without_server older z) x → IsFree (cond t older (pair ∷ without_server older z)) x
    by_test true g = f.2
    by_test false g = (f.0, f.1, g)

pub made_without : (ps : List Triple) (z : ℕ) → IsMade ps → IsMade (without_server ps z)
made_without [] z m = m
made_without (pair ∷ older) z m = by_test (nat_eq pair.server z) (made_without older z m.2)
  where
    by_test : (t : Bool) → IsMade (without_server older z) → IsMade (cond t older (pair ∷ without_server older z))
    by_test true g = m.2
    by_test false g = (free_without older z pair.server m.0, m.1, g)

pub client_without : (ps : List Triple) (z x : ℕ) → client_of ps x ≡ None → client_of (without_server ps z) x ≡ None
client_without [] z x e = e
client_without (pair ∷ older) z x e = by_server (nat_eq pair.server x) (nat_eq pair.server z) refl (client_without older z x) (e)
  where
    by_server : (t u : Bool) → nat_eq pair.server x ≡ t → (client_of older x ≡ None → client_of (without_server older z) x ≡ None)
        → cond t (Some pair.client) (client_of older x) ≡ None
        → client_of (cond u older (pair ∷ without_server older z)) x ≡ None
    by_server true u is f n = absurd cc
    by_server false true is f n = n
    by_server false false is f n = subst (λ t. cond t (Some pair.client) (client_of (without_server older z) x) ≡ None) (sym is) (f n)

pub client_added : (ps : List Triple) (s c k x : ℕ) → x ≢ s → client_of ps x ≡ None → client_of (record { server = s; client = c; channel = k } ∷ ps) x ≡ None
client_added ps s c k x ne e = ap (λ t. cond t (Some c) (client_of ps x)) (test_ne s x (λ z. ne (sym z))) ∙ e

pub paired_without : (ps : List Triple) (x y z w : ℕ) → client_of ps x ≡ Some y → times_paired z w ps ≡ times_paired z w (without_server ps x) + added x y z w
paired_without [] x y z w e = absurd cc
paired_without (pair ∷ older) x y z w e = elim (cases_eq pair.server x) [
  | inl is ↦
      let t = test_eq pair.server x is in
      let client : pair.client ≡ y = some_same pair.client y (sym (ap (λ b. cond b (Some pair.client) (client_of older x)) t) ∙ e) in
      subst (λ b. added pair.server pair.client z w + times_paired z w older ≡ times_paired z w (cond b older (pair ∷ without_server older x)) + added x y z w) (sym t)
      (omega (arith, ap (λ k. added k pair.client z w) is, ap (λ k. added x k z w) client))
  | inr ne ↦
      let t = test_ne pair.server x ne in
      let rest : client_of older x ≡ Some y = sym (ap (λ b. cond b (Some pair.client) (client_of older x)) t) ∙ e in
      subst (λ b. added pair.server pair.client z w + times_paired z w older ≡ times_paired z w (cond b older (pair ∷ without_server older x)) + added x y z w) (sym t)
      (omega (arith, paired_without older x y z w rest))
]
  where
    some_same : (a b : ℕ) → Some a ≡ Some b → a ≡ b
    some_same a b e = cc
