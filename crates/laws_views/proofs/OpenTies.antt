-- Who waits for an answer, by what ties threads.
use Rattle.std.proofs.Common.{◌≡◌, ◌≢◌, ℕ, zero, suc, ◌+◌, ◌<◌, ◌≤◌, List, [], ◌∷◌, ◌++◌, length, map, get_or, set, Bool, true, false, ◌&&◌, cond, nat_eq, ◌⊎◌, Some, None, inl, inr, refl, sym, ap, subst, ◌∙◌, arith}
use Rattle.std.specs.Prelude.{slice_index_or}
use Rattle.std.proofs.lemmas.Bool.{cases_eq, cases_lt, eqb-true}
use Rattle.std.proofs.lemmas.List.{get_or-set_other, get_or-set_same, get_or_past, length-set}
use Rattle.aps_model.specs.declared.entry.Done.{Done}
use Rattle.aps_model.specs.declared.entry.Done.TheVariants.{SendBlocked, SendTo, ReceiveGot, ReplyFreed, Exit}
use Rattle.aps_model.specs.declared.state.State.{State}
use Rattle.aps_model.specs.declared.state.State.TheVariants.{Ready, Running, Sleeping, Sending, Receiving, Replying, Gone}
use Rattle.aps_model.specs.Inherit.{client_of, without_server}
use Rattle.aps_model.specs.Messages.{without_sender}
use Rattle.aps_model.specs.SchedulerState.{ChannelNow, Message, SchedulerState, Triple, channel_at, no_channel}
use Rattle.laws_runs.specs.Waits.{IsPlaced, IsWaiting, one_if, state_at, times_paired, times_sent}
use Rattle.laws_runs.proofs.WaitFacts.{replying_from, sending_from, test_eq, test_ne}
use Rattle.laws_runs.proofs.WaitMoves.{times_sent-append}
use Rattle.view_latency.specs.News.{is_send}
use Rattle.view_explain.specs.Ties.{Ties, after_done, tied_messages_at, ties_of}

-- ---- who waits for an answer

abbrev pub is_open : State → Bool
is_open (Sending c) = true
is_open (Replying y) = true
is_open Ready = false
is_open (Running c) = false
is_open (Sleeping until) = false
is_open (Receiving c) = false
is_open Gone = false

-- a message of the thread waits at a channel, or a server holds it
abbrev pub Sends : Ties → ℕ → Type 0
Sends ties x = (d : ℕ) × (1 ≤ times_sent x (tied_messages_at ties d))

abbrev pub IsHeld : Ties → ℕ → Type 0
IsHeld ties x = (z : ℕ) × (1 ≤ times_paired z x ties.triples)

abbrev pub IsOpen : Ties → ℕ → Type 0
IsOpen ties x = Sends ties x ⊎ IsHeld ties x

read_from : (cs : List ChannelNow) (d : ℕ) → slice_index_or (map (λ (c : ChannelNow). c.messages) cs) d [] ≡ (slice_index_or cs d no_channel).messages
read_from [] d = refl
read_from (c ∷ cs) zero = refl
read_from (c ∷ cs) (suc d) = read_from cs d

pub read : (s : SchedulerState) (d : ℕ) → tied_messages_at (ties_of s) d ≡ (channel_at s d).messages
read s d = read_from s.channels d

by_state : (st : State) (s : SchedulerState) (x : ℕ) → IsPlaced st (channel_at s) s.triples x → is_open st ≡ true → IsOpen (ties_of s) x
by_state (Sending c) s x placed is =
    let count = placed.sends c ∙ ap one_if (test_eq c c refl) in
    let same = ap (times_sent x) (read s c) in
    inl (c, omega (arith, count, same))
by_state (Replying y) s x placed is = let count = placed.waits y ∙ ap one_if (test_eq y y refl) in inr (y, omega (arith, count))
by_state Ready s x placed is = absurd cc
by_state (Running c) s x placed is = absurd cc
by_state (Sleeping until) s x placed is = absurd cc
by_state (Receiving c) s x placed is = absurd cc
by_state Gone s x placed is = absurd cc

pub open_from : (s : SchedulerState) (x : ℕ) → IsWaiting (state_at s) (channel_at s) s.triples → is_open (state_at s x) ≡ true → IsOpen (ties_of s) x
open_from s x w is = by_state (state_at s x) s x (w.at x) is

pub open_to : (s : SchedulerState) (x : ℕ) → IsWaiting (state_at s) (channel_at s) s.triples → IsOpen (ties_of s) x → is_open (state_at s x) ≡ true
open_to s x w (inl found) =
    let same = ap (times_sent x) (read s found.0) in
    let count = (w.at x).sends found.0 in
    let one = found.1 in
    ap is_open (sending_from (state_at s x) found.0 (omega (arith, one, same, count)))
open_to s x w (inr found) =
    let count = (w.at x).waits found.0 in
    let one = found.1 in
    ap is_open (replying_from (state_at s x) found.0 (omega (arith, one, count)))

-- ---- messages and triples that go

less_sent : (x y : ℕ) (ms : List Message) → times_sent x (without_sender y ms) ≤ times_sent x ms
less_sent x y [] = omega arith
less_sent x y (m ∷ ms) = by_test (nat_eq m.sender y) (less_sent x y ms)
  where
    by_test : (t : Bool) → times_sent x (without_sender y ms) ≤ times_sent x ms → times_sent x (cond t ms (m ∷ without_sender y ms)) ≤ one_if (nat_eq m.sender x) + times_sent x ms
    by_test true rest = omega arith
    by_test false rest = omega (arith, rest)

same_sent : (x y : ℕ) (ms : List Message) → y ≢ x → times_sent x ms ≤ times_sent x (without_sender y ms)
same_sent x y [] ne = omega arith
same_sent x y (m ∷ ms) ne = by_test (nat_eq m.sender y) refl (same_sent x y ms ne)
  where
    other : (t : Bool) → nat_eq m.sender y ≡ true → nat_eq m.sender x ≡ t → one_if t ≡ 0
    other false is x_is = refl
    other true is x_is = absurd (ne (sym (same_number m.sender y is) ∙ same_number m.sender x x_is))
      where
        same_number : (a b : ℕ) → nat_eq a b ≡ true → a ≡ b
        same_number a b is = eqb-true a b is

    by_test : (t : Bool) → nat_eq m.sender y ≡ t → times_sent x ms ≤ times_sent x (without_sender y ms) → one_if (nat_eq m.sender x) + times_sent x ms ≤ times_sent x (cond t ms (m ∷ without_sender y ms))
    by_test true is rest = let none = other (nat_eq m.sender x) is refl in omega (arith, none)
    by_test false is rest = omega (arith, rest)

less_paired : (z x y : ℕ) (ts : List Triple) → times_paired z x (without_server ts y) ≤ times_paired z x ts
less_paired z x y [] = omega arith
less_paired z x y (t ∷ ts) = by_test (nat_eq t.server y) (less_paired z x y ts)
  where
    by_test : (b : Bool) → times_paired z x (without_server ts y) ≤ times_paired z x ts → times_paired z x (cond b ts (t ∷ without_server ts y)) ≤ one_if (nat_eq t.server z && nat_eq t.client x) + times_paired z x ts
    by_test true rest = omega arith
    by_test false rest = omega (arith, rest)

same_paired : (z x y : ℕ) (ts : List Triple) → y ≢ z → times_paired z x ts ≤ times_paired z x (without_server ts y)
same_paired z x y [] ne = omega arith
same_paired z x y (t ∷ ts) ne = by_test (nat_eq t.server y) refl (same_paired z x y ts ne)
  where
    other : (b : Bool) → nat_eq t.server y ≡ true → nat_eq t.server z ≡ b → one_if (b && nat_eq t.client x) ≡ 0
    other false is z_is = refl
    other true is z_is = absurd (ne (sym (eqb-true t.server y is) ∙ eqb-true t.server z z_is))

    by_test : (b : Bool) → nat_eq t.server y ≡ b → times_paired z x ts ≤ times_paired z x (without_server ts y)
        → one_if (nat_eq t.server z && nat_eq t.client x) + times_paired z x ts ≤ times_paired z x (cond b ts (t ∷ without_server ts y))
    by_test true is rest = let none = other (nat_eq t.server z) is refl in omega (arith, none)
    by_test false is rest = omega (arith, rest)

-- whoever serves nobody is in no pair as a server
unpaired : (z x : ℕ) (ts : List Triple) → client_of ts z ≡ None → times_paired z x ts ≡ 0
unpaired z x [] none = refl
unpaired z x (t ∷ ts) none = by_test (nat_eq t.server z) none (unpaired z x ts)
  where
    by_test : (b : Bool) → cond b (Some t.client) (client_of ts z) ≡ None → (client_of ts z ≡ None → times_paired z x ts ≡ 0) → one_if (b && nat_eq t.client x) + times_paired z x ts ≡ 0
    by_test true e rest = absurd cc
    by_test false e rest = let none_there = rest e in omega (arith, none_there)

-- ---- other messages at one channel

-- what is read of them has a place
below : (l : List (List Message)) (x d : ℕ) → 1 ≤ times_sent x (get_or l d []) → d < length l
below l x d one = elim (cases_lt d (length l)) [
  | inl less ↦ less
  | inr past ↦ let none = ap (times_sent x) (get_or_past l d [] past) in absurd (omega (arith, one, none))
]

-- whoever sends then did so before, or is among the new ones
from_set : (l : List (List Message)) (x c d : ℕ) (new : List Message) → 1 ≤ times_sent x (get_or (set l c new) d []) → (1 ≤ times_sent x (get_or l d [])) ⊎ ((d ≡ c) × (1 ≤ times_sent x new))
from_set l x c d new one = elim (cases_eq d c) [
  | inl same ↦
      let long : d < length l = subst (λ n. d < n) (length-set l c new) (below (set l c new) x d one) in
      let at : get_or (set l c new) d [] ≡ new = ap (λ k. get_or (set l c new) k []) same ∙ get_or-set_same l c new [] (subst (λ k. k < length l) same long) in
      inr (same, subst (λ ms. 1 ≤ times_sent x ms) at one)
  | inr ne ↦ inl (subst (λ ms. 1 ≤ times_sent x ms) (get_or-set_other l c d new [] ne) one)
]

-- and whoever did so still does, where the new ones have it too
to_set : (l : List (List Message)) (x c d : ℕ) (new : List Message) → 1 ≤ times_sent x (get_or l d []) → (d ≡ c → 1 ≤ times_sent x new) → 1 ≤ times_sent x (get_or (set l c new) d [])
to_set l x c d new one kept = elim (cases_eq d c) [
  | inl same ↦
      let at : get_or (set l c new) d [] ≡ new = ap (λ k. get_or (set l c new) k []) same ∙ get_or-set_same l c new [] (subst (λ k. k < length l) same (below l x d one)) in
      subst (λ ms. 1 ≤ times_sent x ms) (sym at) (kept same)
  | inr ne ↦ subst (λ ms. 1 ≤ times_sent x ms) (sym (get_or-set_other l c d new [] ne)) one
]

-- ---- an operation

module _ (ties : Ties) (x y c priority : ℕ) where
  abbrev message : Message
  message = record { sender = y; priority = priority }

  abbrev old : List Message
  old = tied_messages_at ties c

  unmatched : (a : Bool) (k : ℕ) → k ≢ x → one_if (a && nat_eq k x) ≡ 0
  unmatched true k ne = ap one_if (test_ne k x ne)
  unmatched false k ne = refl

  -- whoever is open after it was open before, or has sent
  pub was_open : (done : Done) → (done ≡ ReceiveGot x → IsOpen ties x) → IsOpen (after_done ties y c priority done) x → IsOpen ties x ⊎ ((y ≡ x) × (is_send done ≡ true))
  was_open SendBlocked got (inl found) =
      elim (from_set ties.messages x c found.0 (old ++ message ∷ []) found.1) [
        | inl before ↦ inl (inl (found.0, before))
        | inr new ↦ elim (cases_eq y x) [
          | inl same ↦ inr (same, refl)
          | inr ne ↦
              let more = times_sent-append x message old in
              let none = ap one_if (test_ne y x ne) in
              let one = new.1 in
              inl (inl (c, omega (arith, one, more, none)))
        ]
      ]
  was_open SendBlocked got (inr found) = inl (inr found)
  was_open (SendTo z) got (inl found) = inl (inl found)
  was_open (SendTo z) got (inr found) = elim (cases_eq y x) [
    | inl same ↦ inr (same, refl)
    | inr ne ↦
        let none = unmatched (nat_eq z found.0) y ne in
        let one = found.1 in
        inl (inr (found.0, omega (arith, one, none)))
  ]
  was_open (ReceiveGot w) got (inl found) =
      elim (from_set ties.messages x c found.0 (without_sender w old) found.1) [
        | inl before ↦ inl (inl (found.0, before))
        | inr new ↦
            let less = less_sent x w old in
            let one = new.1 in
            inl (inl (c, omega (arith, one, less)))
      ]
  was_open (ReceiveGot w) got (inr found) = elim (cases_eq w x) [
    | inl same ↦ inl (got (ap (λ (k : ℕ). ReceiveGot k) same))
    | inr ne ↦
        let none = unmatched (nat_eq y found.0) w ne in
        let one = found.1 in
        inl (inr (found.0, omega (arith, one, none)))
  ]
  was_open (ReplyFreed w) got (inl found) = inl (inl found)
  was_open (ReplyFreed w) got (inr found) = let less = less_paired found.0 x y ties.triples in let one = found.1 in inl (inr (found.0, omega (arith, one, less)))
  was_open Exit got (inl found) = inl (inl found)
  was_open Exit got (inr found) = let less = less_paired found.0 x y ties.triples in let one = found.1 in inl (inr (found.0, omega (arith, one, less)))
  was_open done got goes = inl goes

  -- whoever has sent is open
  pub opens : (done : Done) → y ≡ x → is_send done ≡ true → c < length ties.messages → IsOpen (after_done ties y c priority done) x
  opens SendBlocked same is below_c =
      let more = times_sent-append x message old in
      let one = ap one_if (test_eq y x same) in
      let at = ap (times_sent x) (get_or-set_same ties.messages c (old ++ message ∷ []) [] below_c) in
      inl (c, omega (arith, more, one, at))
  opens (SendTo z) same is below_c =
      let one : one_if (nat_eq z z && nat_eq y x) ≡ 1 = ap (λ b. one_if (b && nat_eq y x)) (test_eq z z refl) ∙ ap one_if (test_eq y x same) in
      inr (z, omega (arith, one))
  opens done same is below_c = absurd cc

  -- whose message waits stays open
  pub sends_on : (done : Done) → Sends ties x → IsOpen (after_done ties y c priority done) x
  sends_on SendBlocked found = inl (found.0, to_set ties.messages x c found.0 (old ++ message ∷ []) found.1 kept)
    where
      kept : found.0 ≡ c → 1 ≤ times_sent x (old ++ message ∷ [])
      kept same =
          let more = times_sent-append x message old in
          let one : 1 ≤ times_sent x old = subst (λ d. 1 ≤ times_sent x (tied_messages_at ties d)) same found.1 in
          omega (arith, more, one)
  sends_on (SendTo z) found = inl found
  sends_on (ReceiveGot w) found = elim (cases_eq w x) [
    | inl same ↦
        let one : one_if (nat_eq y y && nat_eq w x) ≡ 1 = ap (λ b. one_if (b && nat_eq w x)) (test_eq y y refl) ∙ ap one_if (test_eq w x same) in
        inr (y, omega (arith, one))
    | inr ne ↦ inl (found.0, to_set ties.messages x c found.0 (without_sender w old) found.1 (λ same. kept_other ne same))
  ]
    where
      kept_other : w ≢ x → found.0 ≡ c → 1 ≤ times_sent x (without_sender w old)
      kept_other ne same =
          let all = same_sent x w old ne in
          let one : 1 ≤ times_sent x old = subst (λ d. 1 ≤ times_sent x (tied_messages_at ties d)) same found.1 in
          omega (arith, all, one)
  sends_on (ReplyFreed w) found = inl found
  sends_on Exit found = inl found
  sends_on done found = inl found

-- ---- an answer

-- the thread frees whom it holds
abbrev pub frees : Done → Bool
frees (ReplyFreed w) = true
frees Exit = true
frees done = false

module _ (ties : Ties) (x y c priority : ℕ) where
  -- whoever is held stays so, unless its server frees it
  pub held_on : (done : Done) (z : ℕ) → 1 ≤ times_paired z x ties.triples → (frees done ≡ true → y ≢ z) → IsOpen (after_done ties y c priority done) x
  held_on SendBlocked z one other = inr (z, one)
  held_on (SendTo w) z one other = inr (z, omega (arith, one))
  held_on (ReceiveGot w) z one other = inr (z, omega (arith, one))
  held_on (ReplyFreed w) z one other = let all = same_paired z x y ties.triples (other refl) in inr (z, omega (arith, one, all))
  held_on Exit z one other = let all = same_paired z x y ties.triples (other refl) in inr (z, omega (arith, one, all))
  held_on done z one other = inr (z, one)

  -- whoever is freed by its only server isn't open any more
  pub freed : (done : Done) → frees done ≡ true → client_of (without_server ties.triples y) y ≡ None → ((d : ℕ) → times_sent x (tied_messages_at ties d) ≡ 0) → ((z : ℕ) → 1 ≤ times_paired z x ties.triples → z ≡ y)
      → IsOpen (after_done ties y c priority done) x → ⊥
  freed (ReplyFreed w) is none silent only (inl found) = let one = found.1 in let zero' = silent found.0 in omega (arith, one, zero')
  freed (ReplyFreed w) is none silent only (inr found) = gone found.0 found.1
    where
      gone : (z : ℕ) → 1 ≤ times_paired z x (without_server ties.triples y) → ⊥
      gone z one =
          let less = less_paired z x y ties.triples in
          let same = only z (omega (arith, one, less)) in
          let zero' : times_paired z x (without_server ties.triples y) ≡ 0 = ap (λ k. times_paired k x (without_server ties.triples y)) same ∙ unpaired y x (without_server ties.triples y) none in
          omega (arith, one, zero')
  freed Exit is none silent only (inl found) = let one = found.1 in let zero' = silent found.0 in omega (arith, one, zero')
  freed Exit is none silent only (inr found) = gone found.0 found.1
    where
      gone : (z : ℕ) → 1 ≤ times_paired z x (without_server ties.triples y) → ⊥
      gone z one =
          let less = less_paired z x y ties.triples in
          let same = only z (omega (arith, one, less)) in
          let zero' : times_paired z x (without_server ties.triples y) ≡ 0 = ap (λ k. times_paired k x (without_server ties.triples y)) same ∙ unpaired y x (without_server ties.triples y) none in
          omega (arith, one, zero')
  freed done is none silent only goes = absurd cc
