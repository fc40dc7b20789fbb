-- Whose seat an operation may change.
use Rattle.std.specs.Prelude.{◌≡◌, ◌≢◌, ◌⊎◌, ℕ, Bool, true, false, ◌||◌, nat_eq, List, [], ◌∷◌, Option, Some, None}
use Rattle.aps_model.specs.declared.entry.Done.{Done}
use Rattle.aps_model.specs.declared.entry.Done.TheVariants.{SendBlocked, SendTo, ReceiveGot, ReplyFreed, Exit}
use Rattle.aps_model.specs.Inherit.{client_of}
use Rattle.aps_model.specs.SchedulerState.{Triple}

-- the other thread with whose wait or values the operation had to do
abbrev pub peer_of : Done → Option ℕ
peer_of (SendTo y) = Some y
peer_of (ReceiveGot y) = Some y
peer_of (ReplyFreed y) = Some y
peer_of done = None

-- the operation may change what waits at a channel, and so what busy servers inherit
abbrev pub is_at_channel : Done → Bool
is_at_channel SendBlocked = true
is_at_channel (ReceiveGot y) = true
is_at_channel done = false

-- the operation doesn't tell whom it freed
abbrev pub is_exit : Done → Bool
is_exit Exit = true
is_exit done = false

-- the operation had to do with no other thread's wait or values, nor with a message that waits at a channel; of an exit that
-- isn't known
abbrev pub is_alone : Done → Bool
is_alone SendBlocked = false
is_alone (SendTo y) = false
is_alone (ReceiveGot y) = false
is_alone (ReplyFreed y) = false
is_alone Exit = false
is_alone done = true

-- the thread is one of those who woke
abbrev pub woke : List ℕ → ℕ → Bool
woke [] x = false
woke (y ∷ woken) x = nat_eq y x || woke woken x

-- the thread woke; or it is the own one or the other one; or all servers count, and it is one
abbrev pub IsTouched : List ℕ → Option ℕ → Option ℕ → Bool → List Triple → ℕ → Type 0
IsTouched woken own peer servers triples x =
    (woke woken x ≡ true) ⊎ (own ≡ Some x) ⊎ (peer ≡ Some x) ⊎ ((servers ≡ true) × (client_of triples x ≢ None))
