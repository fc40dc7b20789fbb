use Rattle.aps_live.specs.declared.machine.LiveMachine.TheInside.{Inside}
use Rattle.aps_live.specs.LiveState.{LiveState}

-- the state that the fields stand for
abbrev pub state_of : Inside → LiveState
state_of m = record { threads = m.threads.items; stamps = m.stamps; cpus = m.cpus.items }
