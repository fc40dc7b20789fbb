-- What a call of a running thread at the channels rests on, and what the machine keeps after it.
use Rattle.std.proofs.Common.{◌≡◌, ◌≢◌, ℕ, ◌+◌, ◌<◌, List, [], ◌∷◌, ◌++◌, length, get_or, set, refl, sym, ◌∙◌, ap, subst, Bool, true, false, cond, nat_eq, ◌&&◌, Option, Some, None, arith, inl, inr, get_or-set_same}
use Rattle.std.specs.Option.{option_map}
use Rattle.std.proofs.lemmas.Bool.{cases_eq}
use Rattle.std.proofs.lemmas.List.{map-set}
use Rattle.aps_model.specs.declared.state.State.{State}
use Rattle.aps_model.specs.declared.state.State.TheVariants.{Running, Receiving, Sending}
use Rattle.aps_model.specs.Inherit.{Inheritance, IsFree, client_of, facts_of, inheritance_of, top_of, without_server}
use Rattle.aps_model.specs.Messages.{first_message, without_sender}
use Rattle.aps_model.specs.SchedulerState.{ChannelNow, Message, SchedulerState, Triple, channel_at, no_channel}
use Rattle.laws_runs.specs.Waits.{IsWaiting, is_receiving, is_replying, is_sending, one_if, state_at, times_paired}
use Rattle.laws_runs.proofs.WaitFacts.{first_receives, first_sends, test_eq, test_ne}
use Rattle.laws_runs.proofs.WaitMoves.{free_from}
use Rattle.aps_channel.specs.Channels as calls
use Rattle.aps_channel.specs.Channels.{Channels, WaitsNowhere, after_receive, received_from, after_reply, after_send, channels_with, channels_with_triple}
use Rattle.aps_channel.specs.declared.outcome.Received.TheVariants as took
use Rattle.aps_channel.specs.declared.outcome.Replied.TheVariants.{Freed}
use Rattle.aps_channel.specs.declared.outcome.Sent.TheVariants.{Delivered, Blocked}
use Rattle.aps_channel.specs.Waiting.{first_sender}
use Rattle.aps_inherit.specs.Serving.{server_of}
use Rattle.aps_tasks.specs.Table.{Table}
use Rattle.aps_core.specs.Conversation.{channels_of_state, received_in, replied_in, sent_in, with_channels}
use Rattle.aps_core.specs.Machine.{IsCoreMachine}
use Rattle.aps_core.specs.Room.{HasRoomForOperation}
use Rattle.aps_core.proofs.SeatsStay.{tops_stay}
use Rattle.aps_core.proofs.Threads.{with_tasks}

-- ---- who runs waits nowhere, and who waits at a channel waits for no reply

unreplied : (s : SchedulerState) (x z : ℕ) (st : State) → IsWaiting (state_at s) (channel_at s) s.triples → state_at s x ≡ st → is_replying z st ≡ 0 → times_paired z x s.triples ≡ 0
unreplied s x z st w is none = (w.at x).waits z ∙ ap (is_replying z) is ∙ none

pub idle_there : (s : SchedulerState) (x : ℕ) → HasRoomForOperation s x → WaitsNowhere (channels_of_state s) x
idle_there s x room = record {
  messages = λ d. (room.waiting.at x).sends d ∙ ap (is_sending d) room.runs;
  receivers = λ d. (room.waiting.at x).receives d ∙ ap (is_receiving d) room.runs;
  replies = λ z. unreplied s x z (Running room.cpu) room.waiting room.runs refl;
}

-- nobody serves a thread that waits for no reply
unserved_by : (ts : List Triple) (x : ℕ) → ((z : ℕ) → times_paired z x ts ≡ 0) → server_of ts x ≡ None
unserved_by [] x none = refl
unserved_by (t ∷ older) x none = elim (cases_eq t.client x) [
  | inl same ↦ absurd (both (nat_eq t.server t.server) (nat_eq t.client x) (test_eq t.server t.server refl) (test_eq t.client x same) (times_paired t.server x older) (none t.server))
  | inr other ↦ ap (λ b. cond b (Some t.server) (server_of older x)) (test_ne t.client x other) ∙ unserved_by older x (λ z. let a = none z in omega (arith, a))
]
  where
    both : (a b : Bool) → a ≡ true → b ≡ true → (k : ℕ) → one_if (a && b) + k ≡ 0 → ⊥
    both true true p q k e = omega arith
    both true false p q k e = cc
    both false b p q k e = cc

-- what it takes that one thread begins to serve another
pub record MayServe (ts : List Triple) (server client : ℕ) : Type 0 where
  pub free : IsFree ts server
  pub alone : server_of ts client ≡ None
  pub other : server ≢ client

-- the receiver of a message that is delivered
pub delivered_to : (s : SchedulerState) (x c r : ℕ) → HasRoomForOperation s x → Delivered r ≡ (sent_in s x c).answer → MayServe s.triples r x
delivered_to s x c r room is = by_receivers (channel_at s c).receivers refl is
  where
    same_one : (a b : ℕ) → Delivered a ≡ Delivered b → a ≡ b
    same_one a b e = cc

    clash : (a b : ℕ) → Running a ≡ Receiving b → ⊥
    clash a b e = cc

    by_receivers : (rs : List ℕ) → (channel_at s c).receivers ≡ rs → Delivered r ≡ (after_send (channels_of_state s) c x (facts_of s x).priority rs).answer → MayServe s.triples r x
    by_receivers [] e is = absurd cc
    by_receivers (q ∷ rest) e is =
        let state : state_at s r ≡ Receiving c = first_receives room.waiting c r rest (e ∙ ap (λ k. k ∷ rest) (sym (same_one r q is))) in
        record {
          free = free_from s.triples r ((room.waiting.at r).receiver_free c state) (λ z. unreplied s r z (Receiving c) room.waiting state refl);
          alone = unserved_by s.triples x (λ z. unreplied s x z (Running room.cpu) room.waiting room.runs refl);
          other = λ same. clash room.cpu c (sym room.runs ∙ ap (state_at s) (sym same) ∙ state);
        }

-- the sender of a message that is received
pub got_from : (s : SchedulerState) (x c client : ℕ) → HasRoomForOperation s x → took.Got client ≡ (received_in s x c).answer → MayServe s.triples x client
got_from s x c client room is = by_client (client_of s.triples x) refl is
  where
    same_one : (a b : ℕ) → took.Got a ≡ took.Got b → a ≡ b
    same_one a b e = cc

    clash : (a b : ℕ) → Running a ≡ Sending b → ⊥
    clash a b e = cc

    by_message : (o : Option Message) → client_of s.triples x ≡ None → first_message (channel_at s c).messages ≡ o
        → took.Got client ≡ (received_from (channels_of_state s) c x (option_map (λ (m : Message). m.sender) o)).answer → MayServe s.triples x client
    by_message None free e is = absurd cc
    by_message (Some m) free e is =
        let state : state_at s client ≡ Sending c = ap (state_at s) (same_one client m.sender is) ∙ first_sends room.waiting c m e in
        record {
          free = free_from s.triples x free (λ z. unreplied s x z (Running room.cpu) room.waiting room.runs refl);
          alone = unserved_by s.triples client (λ z. unreplied s client z (Sending c) room.waiting state refl);
          other = λ same. clash room.cpu c (sym room.runs ∙ ap (state_at s) same ∙ state);
        }

    by_client : (o : Option ℕ) → client_of s.triples x ≡ o → took.Got client ≡ (after_receive (channels_of_state s) c x o).answer → MayServe s.triples x client
    by_client (Some held) e is = absurd cc
    by_client None e is = by_message (first_message (channel_at s c).messages) e refl is

-- ---- what the machine keeps

-- the channels and the values that are kept beside threads stand for one state
pub record AreTied (s : SchedulerState) (k : Channels) (i : Inheritance) : Type 0 where
  pub waiters : k.threads ≡ length s.threads
  pub inherits : i ≡ inheritance_of (with_channels s k)

-- the values that are kept then are the threads' own ones still
own_still : (s : SchedulerState) (n : ℕ) (j : Inheritance) (k : Channels) (i : Inheritance) (parts replies changes : ℕ) → IsCoreMachine s n j parts replies changes → AreTied s k i → i.own ≡ j.own
own_still s n j k i parts replies changes m tied = ap (λ (a : Inheritance). a.own) tied.inherits ∙ sym (ap (λ (a : Inheritance). a.own) m.inherits)

pub tied_machine : (s : SchedulerState) (t : Table) (n : ℕ) (j : Inheritance) (k : Channels) (i : Inheritance) (parts replies changes : ℕ)
    → IsCoreMachine (with_tasks s t j.own) n j parts replies changes → AreTied (with_tasks s t j.own) k i → IsCoreMachine (with_channels (with_tasks s t i.own) k) k.threads i parts replies changes
tied_machine s t n j k i parts replies changes m tied =
    subst (λ own. IsCoreMachine (with_channels (with_tasks s t own) k) k.threads i parts replies changes) (sym (own_still (with_tasks s t j.own) n j k i parts replies changes m tied))
    (record {
      shape = m.shape;
      few_threads = m.few_threads;
      cpus = m.cpus;
      waiters = tied.waiters;
      inherits = tied.inherits;
      parts = m.parts;
      reply_room = m.reply_room;
      change_room = m.change_room;
    })

-- the channels of a machine are those of its state
pub channels_are : (s : SchedulerState) (k : Channels) → k.channels ≡ s.channels → k.triples ≡ s.triples → k.threads ≡ length s.threads → k ≡ channels_of_state s
channels_are s k channels triples threads = λ i. record { channels = channels i; triples = triples i; threads = threads i }

-- other messages wait at a channel, and what is told of them
raised_there : (s : SchedulerState) (c : ℕ) (channel : ChannelNow) → c < length s.channels
    → record (inheritance_of s) { tops = set (inheritance_of s).tops c (top_of (get_or (set s.channels c channel) c no_channel).messages) }
    ≡ inheritance_of (with_channels s (channels_with (channels_of_state s) c channel))
raised_there s c channel lt =
    ap (λ (tops : List (Option ℕ)). record (inheritance_of s) { tops = tops })
    (ap (λ (d : ChannelNow). set (inheritance_of s).tops c (top_of d.messages)) (get_or-set_same s.channels c channel no_channel lt)
    ∙ sym (map-set (λ (d : ChannelNow). top_of d.messages) s.channels c channel))

-- other receivers wait at a channel
same_there : (s : SchedulerState) (c : ℕ) (receivers : List ℕ)
    → inheritance_of s ≡ inheritance_of (with_channels s (channels_with (channels_of_state s) c (record (channel_at s c) { receivers = receivers })))
same_there s c receivers = ap (λ (tops : List (Option ℕ)). record (inheritance_of s) { tops = tops }) (sym (tops_stay s.channels c receivers))

pub sent_blocked : (s : SchedulerState) (x c : ℕ) (k : Channels) (i j : Inheritance) (top : Option ℕ) → c < length s.channels → k ≡ (sent_in s x c).state → Blocked ≡ (sent_in s x c).answer
    → i ≡ inheritance_of s → top ≡ top_of (calls.channel_in_place k c).messages → j ≡ record i { tops = set i.tops c top } → AreTied s k j
sent_blocked s x c k i j top lt leaves is before highest raised = by_receivers (channel_at s c).receivers leaves is
  where
    by_receivers : (rs : List ℕ) → k ≡ (after_send (channels_of_state s) c x (facts_of s x).priority rs).state → Blocked ≡ (after_send (channels_of_state s) c x (facts_of s x).priority rs).answer → AreTied s k j
    by_receivers (r ∷ rest) leaves is = absurd cc
    by_receivers [] leaves is =
        let channel = record (channel_at s c) { messages = (channel_at s c).messages ++ (record { sender = x; priority = (facts_of s x).priority }) ∷ [] } in
        record {
          waiters = ap (λ (h : Channels). h.threads) leaves;
          inherits =
              raised
              ∙ ap (λ (t : Option ℕ). record i { tops = set i.tops c t }) (highest ∙ ap (λ (h : Channels). top_of (calls.channel_in_place h c).messages) leaves)
              ∙ ap (λ (m : Inheritance). record m { tops = set m.tops c (top_of (get_or (set s.channels c channel) c no_channel).messages) }) before
              ∙ raised_there s c channel lt
              ∙ sym (ap (λ (h : Channels). inheritance_of (with_channels s h)) leaves);
        }

pub sent_delivered : (s : SchedulerState) (x c r : ℕ) (k : Channels) (i j : Inheritance) → k ≡ (sent_in s x c).state → Delivered r ≡ (sent_in s x c).answer
    → i ≡ inheritance_of s → j ≡ record i { triples = (record { server = r; client = x; channel = c }) ∷ i.triples } → AreTied s k j
sent_delivered s x c r k i j leaves is before served = by_receivers (channel_at s c).receivers leaves is
  where
    same_one : (a b : ℕ) → Delivered a ≡ Delivered b → a ≡ b
    same_one a b e = cc

    by_receivers : (rs : List ℕ) → k ≡ (after_send (channels_of_state s) c x (facts_of s x).priority rs).state → Delivered r ≡ (after_send (channels_of_state s) c x (facts_of s x).priority rs).answer → AreTied s k j
    by_receivers [] leaves is = absurd cc
    by_receivers (q ∷ rest) leaves is = record {
      waiters = ap (λ (h : Channels). h.threads) leaves;
      inherits =
          served
          ∙ ap (λ (m : Inheritance). record m { triples = (record { server = r; client = x; channel = c }) ∷ m.triples }) (before ∙ same_there s c rest)
          ∙ ap (λ (y : ℕ). inheritance_of (with_channels s (channels_with_triple (channels_with (channels_of_state s) c (record (channel_at s c) { receivers = rest })) y x c))) (same_one r q is)
          ∙ sym (ap (λ (h : Channels). inheritance_of (with_channels s h)) leaves);
    }

pub received_got : (s : SchedulerState) (x c client : ℕ) (k : Channels) (i j l : Inheritance) (top : Option ℕ) → c < length s.channels → k ≡ (received_in s x c).state → took.Got client ≡ (received_in s x c).answer
    → i ≡ inheritance_of s → top ≡ top_of (calls.channel_in_place k c).messages → j ≡ record i { tops = set i.tops c top }
    → l ≡ record j { triples = (record { server = x; client = client; channel = c }) ∷ j.triples } → AreTied s k l
received_got s x c client k i j l top lt leaves is before highest raised served = by_client (client_of s.triples x) leaves is
  where
    same_one : (a b : ℕ) → took.Got a ≡ took.Got b → a ≡ b
    same_one a b e = cc

    by_sender : (o : Option ℕ) → k ≡ (received_from (channels_of_state s) c x o).state → took.Got client ≡ (received_from (channels_of_state s) c x o).answer → AreTied s k l
    by_sender None leaves is = absurd cc
    by_sender (Some y) leaves is =
        let channel = record (channel_at s c) { messages = without_sender y (channel_at s c).messages } in
        record {
          waiters = ap (λ (h : Channels). h.threads) leaves;
          inherits =
              served
              ∙ ap (λ (m : Inheritance). record m { triples = (record { server = x; client = client; channel = c }) ∷ m.triples })
              (raised
              ∙ ap (λ (t : Option ℕ). record i { tops = set i.tops c t }) (highest ∙ ap (λ (h : Channels). top_of (calls.channel_in_place h c).messages) leaves)
              ∙ ap (λ (m : Inheritance). record m { tops = set m.tops c (top_of (get_or (set s.channels c channel) c no_channel).messages) }) before
              ∙ raised_there s c channel lt)
              ∙ ap (λ (z : ℕ). inheritance_of (with_channels s (channels_with_triple (channels_with (channels_of_state s) c channel) x z c))) (same_one client y is)
              ∙ sym (ap (λ (h : Channels). inheritance_of (with_channels s h)) leaves);
        }

    by_client : (o : Option ℕ) → k ≡ (after_receive (channels_of_state s) c x o).state → took.Got client ≡ (after_receive (channels_of_state s) c x o).answer → AreTied s k l
    by_client (Some held) leaves is = absurd cc
    by_client None leaves is = by_sender (first_sender (channel_at s c).messages) leaves is

pub received_none : (s : SchedulerState) (x c : ℕ) (k : Channels) (i : Inheritance) → k ≡ (received_in s x c).state → ((y : ℕ) → (received_in s x c).answer ≢ took.Got y)
    → i ≡ inheritance_of s → AreTied s k i
received_none s x c k i leaves not before = by_client (client_of s.triples x) leaves not
  where
    by_sender : (o : Option ℕ) → k ≡ (received_from (channels_of_state s) c x o).state → ((y : ℕ) → (received_from (channels_of_state s) c x o).answer ≢ took.Got y) → AreTied s k i
    by_sender (Some y) leaves not = absurd (not y refl)
    by_sender None leaves not = record {
      waiters = ap (λ (h : Channels). h.threads) leaves;
      inherits = before ∙ same_there s c ((channel_at s c).receivers ++ x ∷ []) ∙ sym (ap (λ (h : Channels). inheritance_of (with_channels s h)) leaves);
    }

    by_client : (o : Option ℕ) → k ≡ (after_receive (channels_of_state s) c x o).state → ((y : ℕ) → (after_receive (channels_of_state s) c x o).answer ≢ took.Got y) → AreTied s k i
    by_client (Some held) leaves not = record {
      waiters = ap (λ (h : Channels). h.threads) leaves;
      inherits = before ∙ sym (ap (λ (h : Channels). inheritance_of (with_channels s h)) leaves);
    }
    by_client None leaves not = by_sender (first_sender (channel_at s c).messages) leaves not

pub replied_freed : (s : SchedulerState) (x y : ℕ) (k : Channels) (i j : Inheritance) → k ≡ (replied_in s x).state → Freed y ≡ (replied_in s x).answer
    → i ≡ inheritance_of s → j ≡ record i { triples = without_server i.triples x } → AreTied s k j
replied_freed s x y k i j leaves is before ended = by_client (client_of s.triples x) leaves is
  where
    by_client : (o : Option ℕ) → k ≡ (after_reply (channels_of_state s) x o).state → Freed y ≡ (after_reply (channels_of_state s) x o).answer → AreTied s k j
    by_client None leaves is = absurd cc
    by_client (Some client) leaves is = record {
      waiters = ap (λ (h : Channels). h.threads) leaves;
      inherits =
          ended
          ∙ ap (λ (m : Inheritance). record m { triples = without_server m.triples x }) before
          ∙ sym (ap (λ (h : Channels). inheritance_of (with_channels s h)) leaves);
    }

pub replied_none : (s : SchedulerState) (x : ℕ) (k : Channels) (i : Inheritance) → k ≡ (replied_in s x).state → ((y : ℕ) → (replied_in s x).answer ≢ Freed y) → i ≡ inheritance_of s → AreTied s k i
replied_none s x k i leaves not before = by_client (client_of s.triples x) leaves not
  where
    by_client : (o : Option ℕ) → k ≡ (after_reply (channels_of_state s) x o).state → ((y : ℕ) → (after_reply (channels_of_state s) x o).answer ≢ Freed y) → AreTied s k i
    by_client None leaves not = record {
      waiters = ap (λ (h : Channels). h.threads) leaves;
      inherits = before ∙ sym (ap (λ (h : Channels). inheritance_of (with_channels s h)) leaves);
    }
    by_client (Some client) leaves not = absurd (not client refl)
