-- How far an operation and a wake raise places and stamps.
use Rattle.std.proofs.Common.{◌≡◌, ℕ, zero, suc, ◌+◌, ◌≤◌, List, [], ◌∷◌, length, refl, sym, ◌∙◌, ap, subst, Option, Some, None, arith, inl, inr, slice_index_or, slice_set}
use Rattle.std.proofs.lemmas.Bool.{cases_eq, cases_lt}
use Rattle.std.proofs.lemmas.List.{set_past, get_or-set_same, get_or-set_other}
use Rattle.aps_model.specs.declared.program.Op.{Op}
use Rattle.aps_model.specs.declared.program.Op.TheVariants.{Run, Forever, Sleep, Yield, Send, Receive, Reply, Join, Priority, CriticalOn, CriticalOff, Repeat, Exit}
use Rattle.aps_model.specs.declared.state.State.{State}
use Rattle.aps_model.specs.declared.state.State.TheVariants.{Ready, Running, Sleeping, Sending, Receiving, Replying, Gone}
use Rattle.aps_model.specs.declared.state.ThreadNow.{ThreadNow}
use Rattle.aps_model.specs.Effect.{effect, joined}
use Rattle.aps_model.specs.Inherit.{client_of}
use Rattle.aps_model.specs.Messages.{first_message, received, received_message, replied, sent}
use Rattle.aps_model.specs.Operation.{enter, go_on, with_ready, with_stamped}
use Rattle.aps_model.specs.Partition.{partition_named}
use Rattle.aps_model.specs.Scenario.{Scenario, op_at}
use Rattle.aps_model.specs.SchedulerState.{Message, SchedulerState, channel_at, no_thread, thread_at, with_state, with_thread}
use Rattle.aps_model.specs.Step.{finish_op}
use Rattle.aps_core.specs.Room.{HasRoomToWake}
use Rattle.laws_runs.proofs.StampCounts.{entered_stamps}

-- the places of these threads are at most so far
abbrev Places : ℕ → List ThreadNow → Type 0
Places p threads = (y : ℕ) → (slice_index_or threads y no_thread).place ≤ p

places_set : (p : ℕ) (threads : List ThreadNow) (x : ℕ) (t : ThreadNow) → Places p threads → t.place ≤ p → Places p (slice_set threads x t)
places_set p threads x t all here y =
    elim (cases_eq x y) [
      | inl same ↦ elim (cases_lt x (length threads)) [
        | inl lt ↦ subst (λ (z : ThreadNow). z.place ≤ p) (sym (ap (λ k. slice_index_or (slice_set threads x t) k no_thread) (sym same) ∙ get_or-set_same threads x t no_thread lt)) here
        | inr ge ↦ subst (λ (ts : List ThreadNow). (slice_index_or ts y no_thread).place ≤ p) (sym (set_past threads x t ge)) (all y)
      ]
      | inr other ↦ subst (λ (z : ThreadNow). z.place ≤ p) (sym (get_or-set_other threads x y t no_thread (λ e. other (sym e)))) (all y)
    ]

places_more : (p : ℕ) (threads : List ThreadNow) → Places p threads → Places (p + 1) threads
places_more p threads all y = let here = all y in omega (arith, here)

-- ---- a wake

pub more_room : (p n : ℕ) (s : SchedulerState) → HasRoomToWake p n s → HasRoomToWake (p + 1) (n + 1) s
more_room p n s r = record { places = places_more p s.threads r.places; stamps = let here = r.stamps in omega (arith, here) }

pub state_room : (p n : ℕ) (s : SchedulerState) (x : ℕ) (st : State) → HasRoomToWake p n s → HasRoomToWake p n (with_state s x st)
state_room p n s x st r = record { places = places_set p s.threads x _ r.places (r.places x); stamps = r.stamps }

ready_room : (p n : ℕ) (s : SchedulerState) (x : ℕ) (t : ThreadNow) (st : State) → HasRoomToWake p n s → t.place ≤ p + 1 → HasRoomToWake (p + 1) (n + 1) (with_ready s x t st)
ready_room p n s x t st r here = by_state st
  where
    quiet : HasRoomToWake (p + 1) (n + 1) (with_thread s x t)
    quiet = record { places = places_set (p + 1) s.threads x t (places_more p s.threads r.places) here; stamps = let a = r.stamps in omega (arith, a) }

    by_state : (st : State) → HasRoomToWake (p + 1) (n + 1) (with_ready s x t st)
    by_state Ready = record { places = places_set (p + 1) s.threads x _ (places_more p s.threads r.places) here; stamps = let a = r.stamps in omega (arith, a) }
    by_state (Running c) = quiet
    by_state (Sleeping until) = quiet
    by_state (Sending d) = quiet
    by_state (Receiving d) = quiet
    by_state (Replying y) = quiet
    by_state Gone = quiet

pub woken_room : (scenario : Scenario) (p n : ℕ) (s : SchedulerState) (x now : ℕ) → HasRoomToWake p n s → HasRoomToWake (p + 1) (n + 1) (go_on scenario s x now)
woken_room scenario p n s x now r =
    ready_room p n s x (enter scenario s.shape x ((thread_at s x).place + 1) now Ready (thread_at s x)) _ r (let a = r.places x in omega (arith, a))

-- ---- an operation

stamped_room : (p n : ℕ) (s : SchedulerState) (x : ℕ) (t : ThreadNow) → HasRoomToWake p n s → t.place ≤ p → HasRoomToWake (p + 1) (n + 1) (with_stamped s x t)
stamped_room p n s x t r here = record {
  places = places_set (p + 1) s.threads x _ (places_more p s.threads r.places) (omega (arith, here));
  stamps = let a = r.stamps in omega (arith, a);
}

-- one thread was written, and it stands no further
other_room : (p n : ℕ) (s t : SchedulerState) (x : ℕ) (thread : ThreadNow) → t.threads ≡ slice_set s.threads x thread → t.stamps ≡ s.stamps → HasRoomToWake p n s → thread.place ≤ p → HasRoomToWake (p + 1) (n + 1) t
other_room p n s t x thread threads stamps r here = record {
  places = subst (Places (p + 1)) (sym threads) (places_more p _ (places_set p s.threads x thread r.places here));
  stamps = let a = r.stamps in omega (arith, stamps, a);
}

own_room : (p n : ℕ) (s : SchedulerState) (x : ℕ) (t : ThreadNow) → HasRoomToWake p n s → t.place ≤ p → HasRoomToWake (p + 1) (n + 1) (with_thread s x t)
own_room p n s x t r here = more_room p n _ (record { places = places_set p s.threads x t r.places here; stamps = r.stamps })

sent_room : (scenario : Scenario) (p n : ℕ) (s : SchedulerState) (x c now : ℕ) (rs : List ℕ) → HasRoomToWake p n s → HasRoomToWake (p + 1) (n + 1) (sent scenario s x c now rs).state
sent_room scenario p n s x c now [] r = other_room p n s _ x (record (thread_at s x) { state = Sending c }) refl refl r (r.places x)
sent_room scenario p n s x c now (y ∷ rest) r = woken_room scenario p n _ y now (record { places = places_set p s.threads x (record (thread_at s x) { state = Replying y }) r.places (r.places x); stamps = r.stamps })

received_room : (p n : ℕ) (s : SchedulerState) (x c : ℕ) (o : Option ℕ) → HasRoomToWake p n s → HasRoomToWake (p + 1) (n + 1) (received s x c o).state
received_room p n s x c (Some client) r = more_room p n s r
received_room p n s x c None r = by_message (first_message (channel_at s c).messages)
  where
    by_message : (o : Option Message) → HasRoomToWake (p + 1) (n + 1) (received_message s x c o).state
    by_message None = other_room p n s _ x (record (thread_at s x) { state = Receiving c }) refl refl r (r.places x)
    by_message (Some m) = other_room p n s _ m.sender (record (thread_at s m.sender) { state = Replying x }) refl refl r (r.places m.sender)

replied_room : (scenario : Scenario) (p n : ℕ) (s : SchedulerState) (x now : ℕ) (o : Option ℕ) → HasRoomToWake p n s → HasRoomToWake (p + 1) (n + 1) (replied scenario s x now o).state
replied_room scenario p n s x now None r = more_room p n s r
replied_room scenario p n s x now (Some client) r = woken_room scenario p n _ client now (record { places = r.places; stamps = r.stamps })

joined_room : (p n : ℕ) (s : SchedulerState) (x : ℕ) (o : Option ℕ) → HasRoomToWake p n s → HasRoomToWake (p + 1) (n + 1) (joined s x o).state
joined_room p n s x None r = more_room p n s r
joined_room p n s x (Some q) r = own_room p n s x _ r (r.places x)

pub effect_room : (scenario : Scenario) (p n : ℕ) (s : SchedulerState) (x now : ℕ) (op : Op) → HasRoomToWake p n s → HasRoomToWake (p + 1) (n + 1) (effect scenario s x now op).state
effect_room scenario p n s x now (Run ns) r = more_room p n s r
effect_room scenario p n s x now Forever r = more_room p n s r
effect_room scenario p n s x now (Sleep ns) r = more_room p n s r
effect_room scenario p n s x now Yield r = stamped_room p n s x (thread_at s x) r (r.places x)
effect_room scenario p n s x now (Send c) r = sent_room scenario p n s x c now (channel_at s c).receivers r
effect_room scenario p n s x now (Receive c) r = received_room p n s x c (client_of s.triples x) r
effect_room scenario p n s x now Reply r = replied_room scenario p n s x now (client_of s.triples x) r
effect_room scenario p n s x now (Join name) r = joined_room p n s x (partition_named s.rows name) r
effect_room scenario p n s x now (Priority k) r = stamped_room p n s x (record (thread_at s x) { own = record (thread_at s x).own { priority = k } }) r (r.places x)
effect_room scenario p n s x now CriticalOn r = own_room p n s x _ r (r.places x)
effect_room scenario p n s x now CriticalOff r = own_room p n s x _ r (r.places x)
effect_room scenario p n s x now Repeat r = more_room p n s r
effect_room scenario p n s x now Exit r = state_room (p + 1) (n + 1) _ x Gone (replied_room scenario p n s x now (client_of s.triples x) r)

pub finished_stamps : (scenario : Scenario) (p n : ℕ) (s : SchedulerState) (x now : ℕ) (left : Option ℕ) → HasRoomToWake p n s → (finish_op scenario s x now left).state.stamps ≤ n + 1
finished_stamps scenario p n s x now None r = let a = r.stamps in omega (arith, a)
finished_stamps scenario p n s x now (Some (suc k)) r = let a = r.stamps in omega (arith, a)
finished_stamps scenario p n s x now (Some zero) r =
    let op = op_at scenario x (thread_at s x).place in
    let did = (effect scenario s x now op).state in
    let e = entered_stamps scenario did x now op (thread_at did x).state in
    let a = (effect_room scenario p n s x now op r).stamps in
    omega (arith, e, a)
