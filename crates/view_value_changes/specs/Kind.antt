-- What is told of a thread's state.
use lib.Chars.{codes}
use Rattle.std.specs.Prelude.{ℕ, List}
use Rattle.aps_model.specs.declared.state.State.{State}
use Rattle.aps_model.specs.declared.state.State.TheVariants as state
use Rattle.view_value_changes.specs.declared.kind.Kind.{Kind}
use Rattle.view_value_changes.specs.declared.kind.Kind.TheVariants.{Ready, Running, Sleeping, Sending, Receiving, Replying, Gone}

abbrev pub kind_of_state : State → Kind
kind_of_state state.Ready = Ready
kind_of_state (state.Running c) = Running
kind_of_state (state.Sleeping until) = Sleeping
kind_of_state (state.Sending c) = Sending
kind_of_state (state.Receiving c) = Receiving
kind_of_state (state.Replying x) = Replying
kind_of_state state.Gone = Gone

abbrev pub state_kind_word : Kind → List ℕ
state_kind_word Ready = codes "ready"
state_kind_word Running = codes "running"
state_kind_word Sleeping = codes "sleeping"
state_kind_word Sending = codes "sending"
state_kind_word Receiving = codes "receiving"
state_kind_word Replying = codes "replying"
state_kind_word Gone = codes "gone"
