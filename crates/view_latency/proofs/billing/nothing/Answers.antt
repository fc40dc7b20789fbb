use Rattle.std.proofs.Common.{◌≡◌, ◌∙◌, ap, replicate, arith}
use Rattle.aps_model.specs.Limits.{most_threads}
use Rattle.view_latency.specs.Bills.{no_bills}
use Rattle.view_latency.proofs.billing.nothing.Goals as goal

pub returns : goal.returns
returns c =
    let all : c.loop.counter ≡ most_threads = omega arith in
    c.loop.invariant ∙ ap (λ n. replicate n no_bills) all
