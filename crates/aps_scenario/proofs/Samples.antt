-- Small tables, read.
use lib.Chars.{codes}
use Rattle.std.proofs.Common.{◌≡◌, ℕ, List, [], ◌∷◌, pos, Some, None, Ok, Err, refl, map, Result, Option}
use Rattle.toml.specs.Data.{Data, Items, no_items, item, Members, no_members, member, integer, string, array, table}
use Rattle.std.specs.Fmt.{digits}
use Rattle.aps_model.specs.Scenario.{Scenario}
use Rattle.aps_model.specs.declared.scenario.ThreadRow.{ThreadRow}
use Rattle.aps_model.specs.declared.program.Op.{Op}
use Rattle.aps_model.specs.declared.program.Op.TheVariants.{Run, Send, Repeat, Join}
use Rattle.aps_scenario.specs.declared.kind.Kind.TheVariants.{UnknownName}
use Rattle.aps_scenario.specs.declared.refusal.Finding.{Finding}
use Rattle.aps_scenario.specs.Reading.{scenario_at}
use Rattle.aps_scenario.specs.Elements.{read_each}
use Rattle.aps_scenario.specs.Sizes.{shape_at}
use Rattle.aps_scenario.specs.Partitions.{partitions_at, partition_at, partition_values}
use Rattle.aps_scenario.specs.Channels.{channels_at, channel_read_at}
use Rattle.aps_scenario.specs.Threads.{threads_at, thread_read_at, thread_values}
use Rattle.aps_scenario.specs.Program.{program_at}
use Rattle.aps_scenario.specs.Commands.{commands_at, command_read_at}
use Rattle.aps_scenario.specs.Calls.{create_at}
use Rattle.aps_scenario.specs.Refusal.{refusal_of_finding, Refusal}

abbrev thread : List ℕ → Items → Data
thread name ops = table (member (codes "name") (string name) (member (codes "program") (array ops) no_members))

abbrev top : Items → Items → Members
top threads commands =
    member (codes "channel") (array (item (table (member (codes "name") (string (codes "c")) no_members)) no_items))
    (member (codes "command") (array commands)
    (member (codes "cpus") (integer (pos 1))
    (member (codes "partition") (array (item (table (member (codes "budget") (integer (pos 50)) (member (codes "name") (string (codes "A")) no_members))) no_items))
    (member (codes "thread") (array threads)
    (member (codes "ticks") (integer (pos 20))
    (member (codes "version") (integer (pos 1)) no_members))))))

abbrev programs : Result Scenario Finding → List (List Op)
programs (Ok s) = map (λ (row : ThreadRow). row.program) s.threads
programs (Err e) = []

abbrev refusal_of : Result Scenario Finding → Option Refusal
refusal_of (Ok s) = None
refusal_of (Err e) = Some (refusal_of_finding e)

abbrev create : Data
create = table (member (codes "budget") (integer (pos 5)) (member (codes "do") (string (codes "create")) (member (codes "name") (string (codes "B")) (member (codes "tick") (integer (pos 3)) no_members))))

one : programs (scenario_at (top (item (thread (codes "s") (item (string (codes "run 12")) (item (string (codes "send c")) (item (string (codes "join B")) (item (string (codes "repeat")) no_items))))) no_items) (item create no_items)))
    ≡ (Run 12 ∷ Send 0 ∷ Join (codes "B") ∷ Repeat ∷ []) ∷ []
unfolding scenario_at shape_at partitions_at partition_at partition_values channels_at channel_read_at threads_at thread_read_at thread_values program_at read_each commands_at command_read_at create_at digits
one = refl

two : refusal_of (scenario_at (top (item (thread (codes "s") (item (string (codes "run 12")) (item (string (codes "send d")) no_items))) no_items) no_items))
    ≡ Some (record { kind = UnknownName; path = codes "thread[0].program[1]" })
unfolding scenario_at shape_at partitions_at partition_at partition_values channels_at channel_read_at threads_at thread_read_at thread_values program_at read_each commands_at command_read_at create_at digits
two = refl
