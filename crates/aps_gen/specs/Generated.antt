-- The generated scenario: in each partition endless threads and a worker, and clients of one server.
use Rattle.std.specs.Prelude.{ℕ, zero, suc, ◌+◌, ◌-◌, ◌*◌, ◌/◌, nat_eq, false, List, [], ◌∷◌, ◌++◌, map, codes, if◌then◌else◌}
use Rattle.std.specs.List.{range_with_len}
use Rattle.aps_model.specs.declared.shape.Free.TheVariants as free
use Rattle.aps_model.specs.declared.shape.Bankruptcy.TheVariants.{Basic}
use Rattle.aps_model.specs.declared.partition.PartitionRow.{PartitionRow}
use Rattle.aps_model.specs.declared.scenario.ThreadRow.{ThreadRow}
use Rattle.aps_model.specs.declared.scenario.Policy.{Policy}
use Rattle.aps_model.specs.declared.scenario.Policy.TheVariants.{Fifo, Rr}
use Rattle.aps_model.specs.declared.program.Op.{Op}
use Rattle.aps_model.specs.declared.program.Op.TheVariants.{Run, Forever, Sleep, Send, Receive, Reply, Repeat}
use Rattle.aps_model.specs.Limits.{percent}
use Rattle.aps_model.specs.Scenario.{Scenario}
use Rattle.aps_gen.specs.Draws.{next, drawn}
use Rattle.aps_gen.specs.Names.{partition_name, endless_name, worker_name, client_name}

-- ---- threads

abbrev pub thread : List ℕ → ℕ → ℕ → Policy → List Op → ThreadRow
thread name partition priority policy program = record {
  name = name;
  partition = partition;
  priority = priority;
  policy = policy;
  critical = false;
  program = program;
}

abbrev pub server : ThreadRow
server = thread (codes "srv") 0 20 Fifo (Receive 0 ∷ Run 50000 ∷ Reply ∷ Repeat ∷ [])

abbrev pub drawn_policy : ℕ → Policy
drawn_policy state = if nat_eq (drawn 2 state) 1 then Rr else Fifo

-- endless thread j of partition i: a draw for the priority, then one for the policy
abbrev pub endless : ℕ → ℕ → ℕ → ThreadRow
endless i j state = thread (endless_name i j) i (8 + drawn 8 (next state)) (drawn_policy (next (next state))) (Forever ∷ [])

-- so many endless threads of partition i, from number j on
unfoldable pub endless_from : ℕ → ℕ → ℕ → ℕ → List ThreadRow
endless_from i j zero state = []
endless_from i j (suc left) state = endless i j state ∷ endless_from i (j + 1) left (next (next state))

-- the state after so many endless threads
unfoldable pub after_endless : ℕ → ℕ → ℕ
after_endless zero state = state
after_endless (suc left) state = after_endless left (next (next state))

-- the worker of partition i: a draw for its run, then one for its sleep
abbrev pub worker : ℕ → ℕ → ThreadRow
worker i state =
    thread (worker_name i) i 18 Fifo
    (Run (100000 + drawn 900000 (next state)) ∷ Sleep (1 + drawn 5000000 (next (next state))) ∷ Repeat ∷ [])

-- the client of partition i: a draw for its sleep
abbrev pub client : ℕ → ℕ → ThreadRow
client i state = thread (client_name i) i 16 Fifo (Send 0 ∷ Sleep (1 + drawn 9000000 (next state)) ∷ Repeat ∷ [])

-- every partition but the root has a client
abbrev pub clients : ℕ → ℕ → List ThreadRow
clients zero state = []
clients (suc i) state = client (suc i) state ∷ []

abbrev pub after_clients : ℕ → ℕ → ℕ
after_clients zero state = state
after_clients (suc i) state = next state

abbrev pub after_worker : ℕ → ℕ
after_worker state = next (next state)

-- the threads of partition i on m processors
abbrev pub partition_threads : ℕ → ℕ → ℕ → List ThreadRow
partition_threads m i state =
    endless_from i 0 m state ++ worker i (after_endless m state) ∷ clients i (after_worker (after_endless m state))

abbrev pub after_partition : ℕ → ℕ → ℕ → ℕ
after_partition m i state = after_clients i (after_worker (after_endless m state))

-- the threads of so many partitions, from partition i on
unfoldable pub generated_threads : ℕ → ℕ → ℕ → ℕ → List ThreadRow
generated_threads m i zero state = []
generated_threads m i (suc left) state = partition_threads m i state ++ generated_threads m (i + 1) left (after_partition m i state)

-- ---- partitions

-- the budget of each partition but the root
abbrev pub share : ℕ → ℕ
share k = percent / k

abbrev pub row : List ℕ → ℕ → PartitionRow
row name budget = record { name = name; parent = 0; budget = budget; critical = 0; max = percent }

-- k partitions: the root has what the others leave
abbrev pub rows : ℕ → List PartitionRow
rows k =
    row (codes "System") (percent - (k - 1) * share k)
    ∷ map (λ i. row (partition_name i) (share k)) (range_with_len 1 (k - 1))

-- ---- the whole

-- for m processors, k partitions and so many ticks
abbrev pub generated : ℕ → ℕ → ℕ → ℕ → Scenario
generated seed m k ticks = record {
  shape = record {
    parts = percent;
    cpus = m;
    tick = 1000000;
    window = 100;
    ticks = ticks;
    call_ns = 1000;
    free = free.Priority;
    limit = false;
    bankruptcy = Basic;
  };
  partitions = rows k;
  channels = codes "c" ∷ [];
  threads = server ∷ generated_threads m 0 k seed;
  commands = [];
}
