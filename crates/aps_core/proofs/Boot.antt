-- The state at the start of a scenario.
use Rattle.std.proofs.Common.{◌≡◌, ℕ, zero, suc, ◌+◌, ◌≤◌, List, [], ◌∷◌, length, map, min, refl, ◌∙◌, ap, subst, replicate, arith}
use Rattle.aps_model.specs.declared.command.Change.{Change}
use Rattle.aps_model.specs.declared.command.Reply.{Reply}
use Rattle.aps_model.specs.declared.entry.Order.{Order}
use Rattle.aps_model.specs.declared.partition.PartitionRow.{PartitionRow}
use Rattle.aps_model.specs.declared.scenario.ThreadRow.{ThreadRow}
use Rattle.aps_model.specs.declared.shape.Shape.{Shape}
use Rattle.aps_model.specs.declared.state.CpuNow.{CpuNow}
use Rattle.aps_model.specs.After.{After}
use Rattle.aps_model.specs.Inherit.{Inheritance, inheritance_of}
use Rattle.aps_model.specs.Limits.{most_commands, most_threads}
use Rattle.aps_model.specs.Opening.{first_state, opening, stamp_after, start_stamps, start_threads}
use Rattle.aps_model.specs.Scenario.{Scenario}
use Rattle.aps_model.specs.SchedulerState.{ChannelNow, SchedulerState, Triple, idle, no_channel}
use Rattle.aps_model.specs.Valid.{IsScenario}
use Rattle.aps_model.proofs.AfterLaws.{after_none, legal_none}
use Rattle.laws_runs.specs.Stamps.{IsStamped}
use Rattle.laws_runs.proofs.ThreadLaws.{stamps_law}
use Rattle.aps_core.specs.Room.{changes_of_a_run}
use Rattle.aps_tasks.specs.Start.{start_table}
use Rattle.aps_tasks.specs.Table.{Table}
use Rattle.aps_core.specs.Machine.{IsCoreMachine}
use Rattle.aps_core.specs.Threads.{threads_of}
use Rattle.aps_core.proofs.Threads.{threads_joined}

threads_length : (shape : Shape) (number next : ℕ) (rows : List ThreadRow) → length (start_threads shape number next rows) ≡ length rows
threads_length shape number next [] = refl
threads_length shape number next (row ∷ rows) = ap suc (threads_length shape (number + 1) (stamp_after (first_state row) next) rows)

idle_length : (n : ℕ) → length (replicate n idle) ≡ n
idle_length zero = refl
idle_length (suc n) = ap suc (idle_length n)

no_channels : (names : List (List ℕ)) → replicate (length names) no_channel ≡ map (λ (name : List ℕ). no_channel) names
no_channels [] = refl
no_channels (name ∷ names) = ap (λ cs. no_channel ∷ cs) (no_channels names)

-- all of its threads can wait
pub all_threads : (scenario : Scenario) (n : ℕ) → IsScenario scenario → n ≡ min (length scenario.threads) most_threads → n ≡ length (opening scenario).threads
all_threads scenario n valid is = omega (arith, is, valid.few_threads, threads_length scenario.shape 0 0 scenario.threads)

-- it is one of a machine
pub machine_opening : (scenario : Scenario) (waiters : ℕ) (inherit : Inheritance) (parts replies changes : ℕ) → IsScenario scenario → waiters ≡ length (opening scenario).threads → inherit ≡ inheritance_of (opening scenario)
    → parts ≡ scenario.shape.parts → most_commands ≤ replies → changes_of_a_run ≤ changes → IsCoreMachine (opening scenario) waiters inherit parts replies changes
machine_opening scenario waiters inherit parts replies changes valid all inherits same room more = record {
  shape = valid.shape;
  few_threads = omega (arith, threads_length scenario.shape 0 0 scenario.threads, valid.few_threads);
  cpus = idle_length scenario.shape.cpus;
  waiters = all;
  inherits = inherits;
  parts = same;
  reply_room = room;
  change_room = more;
}

-- what the code makes of the parts of a scenario
pub opening_by_parts : (scenario : Scenario) (rows : List PartitionRow) (shape : Shape) (t : Table) (i : Inheritance) (channels : List ChannelNow) (triples : List Triple) (cpus : List CpuNow)
    (replies : List Reply) (changes : List Change)
    → rows ≡ scenario.partitions → shape ≡ scenario.shape → t ≡ start_table scenario → i ≡ inheritance_of (opening scenario) → channels ≡ replicate (length scenario.channels) no_channel → triples ≡ [] → cpus ≡ replicate shape.cpus idle
    → replies ≡ [] → changes ≡ []
    → let s : SchedulerState = record {
      rows = rows;
      shape = shape;
      threads = threads_of t.tasks i.own;
      stamps = t.stamps;
      channels = channels;
      triples = triples;
      cpus = cpus;
      replies = replies;
      changes = changes;
    } in s ≡ opening scenario
opening_by_parts scenario rows shape t i channels triples cpus replies changes e1 e2 e3 e4 e5 e6 e7 e8 e9 =
    let empty : channels ≡ map (λ (name : List ℕ). no_channel) scenario.channels = e5 ∙ no_channels scenario.channels in
    let idles : cpus ≡ replicate scenario.shape.cpus idle = e7 ∙ ap (λ (z : Shape). replicate z.cpus idle) e2 in
    let joined : threads_of t.tasks i.own ≡ (opening scenario).threads =
    ap (λ (u : Table). threads_of u.tasks i.own) e3 ∙ ap (λ (j : Inheritance). threads_of (start_table scenario).tasks j.own) e4 ∙ threads_joined (opening scenario).threads in
    let stamps : t.stamps ≡ start_stamps 0 scenario.threads = ap (λ (u : Table). u.stamps) e3 in
    rw (e1, e2, joined, stamps, empty, e6, idles, e8, e9) refl

-- stamps differ there
pub opening_stamped : (scenario : Scenario) (order : Order) → IsScenario scenario → IsStamped (opening scenario).threads (opening scenario).stamps
opening_stamped scenario order valid =
    subst (λ (a : After). IsStamped a.state.threads a.state.stamps) (after_none scenario)
    (stamps_law scenario order valid [] (legal_none scenario order))
