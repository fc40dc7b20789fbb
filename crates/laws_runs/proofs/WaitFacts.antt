-- What follows for a thread from where it stands.
use Rattle.std.proofs.Common.{◌≡◌, ◌≢◌, ℕ, ◌+◌, ◌≤◌, List, [], ◌∷◌, refl, sym, ◌∙◌, ap, subst, Bool, true, false, cond, nat_eq, nat_lt, ◌&&◌, Option, Some, None, arith, inl, inr, ◌⊎◌}
use Rattle.std.specs.List.{fold}
use Rattle.std.proofs.lemmas.Bool.{cases_eq}
use Rattle.std.proofs.lemmas.Bool.Decides.{nat_tests}
use Rattle.aps_model.specs.declared.state.State.{State}
use Rattle.aps_model.specs.declared.state.State.TheVariants.{Ready, Running, Sleeping, Sending, Receiving, Replying, Gone}
use Rattle.laws_runs.specs.Waits.{one_if, times, times_sent, times_paired, is_sending, is_receiving, is_replying, IsWaiting}
use Rattle.aps_model.specs.Inherit.{IsFree, IsMade, client_of, without_server}
use Rattle.aps_model.specs.Messages.{first_message, higher}
use Rattle.aps_model.specs.SchedulerState.{ChannelNow, Message, Triple}

pub test_ne : (a b : ℕ) → a ≢ b → nat_eq a b ≡ false
test_ne a b ne = grind (arith, nat_tests)

pub test_eq : (a b : ℕ) → a ≡ b → nat_eq a b ≡ true
test_eq a b e = grind (arith, nat_tests)

one_same : (a : ℕ) → one_if (nat_eq a a) ≡ 1
one_same a = ap one_if (test_eq a a refl)

one_from : (a b : ℕ) → 1 ≤ one_if (nat_eq a b) → a ≡ b
one_from a b h = elim (cases_eq a b) [
  | inl e ↦ e
  | inr ne ↦ absurd (none (nat_eq a b) (test_ne a b ne) h)
]
  where
    none : (t : Bool) → t ≡ false → 1 ≤ one_if t → ⊥
    none true e k = cc
    none false e k = omega arith

pub sending_from : (st : State) (d : ℕ) → 1 ≤ is_sending d st → st ≡ Sending d
sending_from (Sending c) d h = ap (λ (e : ℕ). Sending e) (one_from c d h)
sending_from Ready d h = absurd (omega arith)
sending_from (Running c) d h = absurd (omega arith)
sending_from (Sleeping until) d h = absurd (omega arith)
sending_from (Receiving c) d h = absurd (omega arith)
sending_from (Replying x) d h = absurd (omega arith)
sending_from Gone d h = absurd (omega arith)

pub receiving_from : (st : State) (d : ℕ) → 1 ≤ is_receiving d st → st ≡ Receiving d
receiving_from (Receiving c) d h = ap (λ (e : ℕ). Receiving e) (one_from c d h)
receiving_from Ready d h = absurd (omega arith)
receiving_from (Running c) d h = absurd (omega arith)
receiving_from (Sleeping until) d h = absurd (omega arith)
receiving_from (Sending c) d h = absurd (omega arith)
receiving_from (Replying x) d h = absurd (omega arith)
receiving_from Gone d h = absurd (omega arith)

pub replying_from : (st : State) (d : ℕ) → 1 ≤ is_replying d st → st ≡ Replying d
replying_from (Replying c) d h = ap (λ (e : ℕ). Replying e) (one_from c d h)
replying_from Ready d h = absurd (omega arith)
replying_from (Running c) d h = absurd (omega arith)
replying_from (Sleeping until) d h = absurd (omega arith)
replying_from (Sending c) d h = absurd (omega arith)
replying_from (Receiving x) d h = absurd (omega arith)
replying_from Gone d h = absurd (omega arith)

-- the first receiver of a channel is receiving there
pub first_receives : {states : ℕ → State} {channels : ℕ → ChannelNow} {pairs : List Triple} → (w : IsWaiting states channels pairs) (d r : ℕ) (rest : List ℕ) → (channels d).receivers ≡ r ∷ rest → states r ≡ Receiving d
first_receives {states} {channels} w d r rest e =
    let n : one_if (nat_eq r r) + times r rest ≡ is_receiving d (states r) = sym (ap (times r) e) ∙ (w.at r).receives d in
    receiving_from (states r) d (omega (arith, n, one_same r))

first_in : (ms : List Message) (best : Option Message) (m : Message) → fold higher best ms ≡ Some m → (best ≡ Some m) ⊎ (1 ≤ times_sent m.sender ms)
first_in [] best m e = inl e
first_in (x ∷ ms) best m e = elim (first_in ms (higher best x) m e) [
  | inl same ↦ by_best best same
  | inr here ↦ inr (omega arith)
]
  where
    some_same : (a b : Message) → Some a ≡ Some b → a ≡ b
    some_same a b e = cc

    counts : x ≡ m → 1 ≤ one_if (nat_eq x.sender m.sender) + times_sent m.sender ms
    counts e = omega (arith, ap one_if (test_eq x.sender m.sender (ap (λ (z : Message). z.sender) e)))

    by_test : (t : Bool) (b : Message) → Some (cond t x b) ≡ Some m → (◌≡◌ {A = Option Message} (Some b) (Some m)) ⊎ (1 ≤ one_if (nat_eq x.sender m.sender) + times_sent m.sender ms)
    by_test true b e = inr (counts (some_same x m e))
    by_test false b e = inl e

    by_best : (o : Option Message) → higher o x ≡ Some m → (o ≡ Some m) ⊎ (1 ≤ one_if (nat_eq x.sender m.sender) + times_sent m.sender ms)
    by_best None e = inr (counts (some_same x m e))
    by_best (Some b) e = by_test (nat_lt b.priority x.priority) b e

-- the sender of the first message of a channel is sending there
pub first_stands : (ms : List Message) (m : Message) → first_message ms ≡ Some m → 1 ≤ times_sent m.sender ms
first_stands ms m e = elim (first_in ms None m e) [
  | inl never ↦ absurd cc
  | inr here ↦ here
]

pub first_sends : {states : ℕ → State} {channels : ℕ → ChannelNow} {pairs : List Triple} → (w : IsWaiting states channels pairs) (d : ℕ) (m : Message) → first_message (channels d).messages ≡ Some m → states m.sender ≡ Sending d
first_sends {states} {channels} w d m e =
    sending_from (states m.sender) d (omega (arith, first_stands (channels d).messages m e, (w.at m.sender).sends d))

pub client_paired : (pairs : List Triple) (x y : ℕ) → client_of pairs x ≡ Some y → 1 ≤ times_paired x y pairs
client_paired [] x y e = absurd cc
client_paired (pair ∷ older) x y e = by_test (nat_eq pair.server x) (client_paired older x y) (e)
  where
    some_same : (a b : ℕ) → Some a ≡ Some b → a ≡ b
    some_same a b e = cc

    by_test : (t : Bool) → (client_of older x ≡ Some y → 1 ≤ times_paired x y older) → cond t (Some pair.client) (client_of older x) ≡ Some y → 1 ≤ one_if (t && nat_eq pair.client y) + times_paired x y older
    by_test true f e = omega (arith, ap one_if (test_eq pair.client y (some_same pair.client y e)))
    by_test false f e = omega (arith, f e)

-- the client of a thread waits for its reply
pub client_replies : {states : ℕ → State} {channels : ℕ → ChannelNow} {pairs : List Triple} → (w : IsWaiting states channels pairs) (x y : ℕ) → client_of pairs x ≡ Some y → states y ≡ Replying x
client_replies {states} {channels} {pairs} w x y e = replying_from (states y) x (omega (arith, client_paired pairs x y e, (w.at y).waits x))

free_serves_nobody : (pairs : List Triple) (x : ℕ) → IsFree pairs x → client_of pairs x ≡ None
free_serves_nobody [] x free = refl
free_serves_nobody (pair ∷ older) x free =
    let ne : pair.server ≢ x = λ e. free.0 (sym e) in
    ap (λ b. cond b (Some pair.client) (client_of older x)) (test_ne pair.server x ne) ∙ free_serves_nobody older x free.2

-- a server whose pair is gone serves nobody
pub served_none : (pairs : List Triple) (x : ℕ) → IsMade pairs → client_of (without_server pairs x) x ≡ None
served_none [] x made = refl
served_none (pair ∷ older) x made = elim (cases_eq pair.server x) [
  | inl e ↦
      subst (λ b. client_of (cond b older (pair ∷ without_server older x)) x ≡ None) (sym (test_eq pair.server x e))
      (free_serves_nobody older x (subst (IsFree older) e made.0))
  | inr ne ↦
      subst (λ b. client_of (cond b older (pair ∷ without_server older x)) x ≡ None) (sym (test_ne pair.server x ne))
      (ap (λ b. cond b (Some pair.client) (client_of (without_server older x) x)) (test_ne pair.server x ne) ∙ served_none older x made.2)
]
