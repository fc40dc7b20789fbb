-- The generated scenario is a scenario.
use lib.Chars.{codes}
use Rattle.std.proofs.Common.{◌≡◌, [], ◌∷◌, length, inl, refl, arith}
use Rattle.std.proofs.lemmas.List.Elements.{All-nil, All-from_recursion}
use Rattle.std.specs.List.{IsDistinct}
use Rattle.aps_model.specs.Limits.{percent}
use Rattle.aps_model.specs.Name.{IsName}
use Rattle.aps_model.specs.Valid.{IsCommand, joinable}
use Rattle.aps_gen.specs.Generated.{generated, rows}
use Rattle.aps_gen.specs.Laws.{GeneratedIsValid}
use Rattle.aps_gen.proofs.ThreadFacts.{threads-valid}
use Rattle.aps_gen.proofs.TreeFacts.{rows-tree, rows-count}

pub generated_valid : GeneratedIsValid
unfolding IsDistinct
generated_valid seed m k ticks some_cpu few_cpus some_partition few_partitions some_tick few_ticks =
    let channel : IsName (codes "c") = record { some = omega arith; few = omega arith; bytes = refl } in
    let count : length (rows k) ≡ k = rows-count k some_partition few_partitions in
    let threads = threads-valid k few_partitions (joinable (generated seed m k ticks)) m seed few_cpus some_partition in
    record {
      shape = record {
        parts = inl refl;
        some_cpu = some_cpu;
        few_cpus = few_cpus;
        tick_long = omega arith;
        tick_short = omega arith;
        tick_whole = refl;
        window_long = omega arith;
        window_short = omega arith;
        some_tick = some_tick;
        few_ticks = few_ticks;
        some_call = omega arith;
        short_call = omega arith;
      };
      tree = rows-tree k some_partition few_partitions;
      few_channels = omega arith;
      channels = All-from_recursion IsName (codes "c" ∷ []) (channel, tt);
      channel_names = (tt, tt);
      few_threads = threads.count;
      threads = rw count threads.each;
      thread_names = threads.distinct;
      few_commands = omega arith;
      commands = All-nil (IsCommand percent ticks (length (generated seed m k ticks).threads));
    }
