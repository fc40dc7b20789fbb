use Rattle.std.specs.Prelude.{ℕ, List, codes}
use Rattle.aps_scenario.specs.declared.key.Key.{Key}
use Rattle.aps_scenario.specs.declared.key.Key.TheVariants.{Version, Cpus, Tick, Window, Ticks, CallNs, Free, Limit, Bankruptcy, Partition, Channel, Thread, Command, Demand, Name, Parent, Budget, Critical, Max, Priority, Policy, Program, Do, Need}

-- a key as it is written
abbrev pub key_text : Key → List ℕ
key_text Version = codes "version"
key_text Cpus = codes "cpus"
key_text Tick = codes "tick"
key_text Window = codes "window"
key_text Ticks = codes "ticks"
key_text CallNs = codes "call_ns"
key_text Free = codes "free"
key_text Limit = codes "limit"
key_text Bankruptcy = codes "bankruptcy"
key_text Partition = codes "partition"
key_text Channel = codes "channel"
key_text Thread = codes "thread"
key_text Command = codes "command"
key_text Demand = codes "demand"
key_text Name = codes "name"
key_text Parent = codes "parent"
key_text Budget = codes "budget"
key_text Critical = codes "critical"
key_text Max = codes "max"
key_text Priority = codes "priority"
key_text Policy = codes "policy"
key_text Program = codes "program"
key_text Do = codes "do"
key_text Need = codes "need"
