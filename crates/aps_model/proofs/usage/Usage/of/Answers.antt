use Rattle.std.proofs.Common.{arith}
use Rattle.aps_model.specs.Limits.{most_partitions}
use Rattle.aps_model.proofs.Zeros.{nothing_used, zeros_at}
use Rattle.aps_model.proofs.usage.Usage.of.Goals as goal

pub loop-e-init : goal.loop-e-init
loop-e-init c = record {
  same = nothing_used c.args.tick c.args.a c.args.b;
  small = record {
    used = λ p inside. let zero' = zeros_at most_partitions p in omega (arith, zero');
    critical = λ p inside. let zero' = zeros_at most_partitions p in omega (arith, zero');
  };
}
