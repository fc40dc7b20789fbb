-- From the counts of who waits where: everybody who stands there is one of the threads.
use Rattle.std.proofs.Common.{◌≡◌, ◌≢◌, ℕ, ◌+◌, ◌<◌, ◌≤◌, List, [], ◌∷◌, length, refl, ◌∙◌, ap, Bool, true, false, cond, nat_eq, ◌&&◌, Some, None, arith}
use Rattle.std.specs.Prelude.{All}
use Rattle.std.proofs.lemmas.List.Elements.{All-cons, All-nil}
use Rattle.aps_model.specs.declared.state.State.TheVariants.{Sending, Receiving, Replying}
use Rattle.laws_runs.specs.Waits.{IsWaiting, is_replying, one_if, state_at, times, times_paired, times_sent}
use Rattle.laws_runs.proofs.ThreadFacts.{within}
use Rattle.laws_runs.proofs.WaitFacts.{receiving_from, replying_from, sending_from, test_eq}
use Rattle.aps_model.specs.Inherit.{client_of}
use Rattle.aps_model.specs.SchedulerState.{Message, SchedulerState, Triple, channel_at}

each_sender : (P : ℕ → Type 0) (ms : List Message) → ((y : ℕ) → 1 ≤ times_sent y ms → P y) → All (λ (m : Message). P m.sender) ms
each_sender P [] f = All-nil (λ (m : Message). P m.sender)
each_sender P (m ∷ ms) f =
    All-cons (λ (m : Message). P m.sender) m ms
    (f m.sender (omega (arith, ap one_if (test_eq m.sender m.sender refl))))
    (each_sender P ms (λ y l. f y (omega (arith, l))))

each_receiver : (P : ℕ → Type 0) (ys : List ℕ) → ((y : ℕ) → 1 ≤ times y ys → P y) → All P ys
each_receiver P [] f = All-nil P
each_receiver P (x ∷ xs) f =
    All-cons P x xs
    (f x (omega (arith, ap one_if (test_eq x x refl))))
    (each_receiver P xs (λ y l. f y (omega (arith, l))))

each_pair : (P : ℕ → ℕ → Type 0) (ts : List Triple) → ((y z : ℕ) → 1 ≤ times_paired y z ts → P y z) → All (λ (t : Triple). P t.server t.client) ts
each_pair P [] f = All-nil (λ (t : Triple). P t.server t.client)
each_pair P (t ∷ ts) f =
    All-cons (λ (t : Triple). P t.server t.client) t ts
    (f t.server t.client (omega (arith, both (nat_eq t.server t.server) (nat_eq t.client t.client) (test_eq t.server t.server refl) (test_eq t.client t.client refl))))
    (each_pair P ts (λ y z l. f y z (omega (arith, l))))
  where
    both : (a b : Bool) → a ≡ true → b ≡ true → one_if (a && b) ≡ 1
    both true true p q = refl
    both true false p q = absurd cc
    both false b p q = absurd cc

pub senders_within : (s : SchedulerState) → IsWaiting (state_at s) (channel_at s) s.triples → (d : ℕ) → All (λ (m : Message). m.sender < length s.threads) (channel_at s d).messages
senders_within s w d =
    each_sender (λ y. y < length s.threads) (channel_at s d).messages (λ y l.
    let st : state_at s y ≡ Sending d = sending_from (state_at s y) d (let e = (w.at y).sends d in omega (arith, l, e)) in
    within s.threads y (λ g. cc))

pub receivers_within : (s : SchedulerState) → IsWaiting (state_at s) (channel_at s) s.triples → (d : ℕ) → All (λ y. y < length s.threads) (channel_at s d).receivers
receivers_within s w d =
    each_receiver (λ y. y < length s.threads) (channel_at s d).receivers (λ y l.
    let st : state_at s y ≡ Receiving d = receiving_from (state_at s y) d (let e = (w.at y).receives d in omega (arith, l, e)) in
    within s.threads y (λ g. cc))

-- who serves somebody has a client
has_client : (ts : List Triple) (x y : ℕ) → 1 ≤ times_paired x y ts → client_of ts x ≢ None
has_client [] x y l e = absurd (omega arith)
has_client (t ∷ ts) x y l e = by_test (nat_eq t.server x) (λ more f. has_client ts x y more f) l e
  where
    by_test : (is : Bool) → (1 ≤ times_paired x y ts → client_of ts x ≢ None) → 1 ≤ one_if (is && nat_eq t.client y) + times_paired x y ts → cond is (Some t.client) (client_of ts x) ≡ None → ⊥
    by_test true f k m = cc
    by_test false f k m = f (omega (arith, k)) m

pub pairs_within : (s : SchedulerState) → IsWaiting (state_at s) (channel_at s) s.triples → All (λ (t : Triple). (t.server < length s.threads) × (t.client < length s.threads)) s.triples
pairs_within s w =
    each_pair (λ y z. (y < length s.threads) × (z < length s.threads)) s.triples (λ y z l.
    let st : state_at s z ≡ Replying y = replying_from (state_at s z) y (let e = (w.at z).waits y in omega (arith, l, e)) in
    (within s.threads y (λ g. has_client s.triples y z l ((w.at y).gone_free g)), within s.threads z (λ g. cc)))

-- the server of a reply that is waited for is one of the threads
pub server_within : (s : SchedulerState) → IsWaiting (state_at s) (channel_at s) s.triples → (x y : ℕ) → state_at s x ≡ Replying y → y < length s.threads
server_within s w x y st =
    let e = (w.at x).waits y in
    let one : times_paired y x s.triples ≡ 1 = e ∙ replies in
    within s.threads y (λ g. has_client s.triples y x (omega (arith, one)) ((w.at y).gone_free g))
  where
    replies : is_replying y (state_at s x) ≡ 1
    replies = ap (is_replying y) st ∙ ap one_if (test_eq y y refl)
