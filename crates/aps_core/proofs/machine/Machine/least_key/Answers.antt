use Rattle.std.proofs.Common.{◌≡◌, ap, arith, length, min, refl, subst, sym}
use Rattle.aps_model.specs.Limits.{most_cpus}
use Rattle.aps_model.specs.SchedulerState.{SchedulerState}
use Rattle.aps_core.specs.Lowest.{IsLeastKey, key_past_all, lowest}
use Rattle.aps_core.proofs.machine.Machine.least_key.Goals as goal

pub least_among-near-requires-clause-so_far : goal.least_among-near-requires-clause-so_far
least_among-near-requires-clause-so_far c =
    let s = c.args.self.now in
    let none : min 0 (length s.cpus) ≡ 0 = omega arith in
    subst (λ k. IsLeastKey (lowest s c.args.entries.now c.args.parts.now c.args.c c.args.now k) k key_past_all) (sym none) refl

pub returns-then-len-le-HALF-clause-least : goal.returns-then-len-le-HALF-clause-least
returns-then-len-le-HALF-clause-least c =
    let s = c.args.self.now in
    let all : min 8 (length s.cpus) ≡ s.shape.cpus =
    omega (arith, c.if-len-le-HALF.true, c.len.ensures, c.self.invariant.cpus, ap (λ (s : SchedulerState). length s.cpus) c.self.view_is, ap (λ (s : SchedulerState). s.shape.cpus) c.self.view_is) in
    subst (λ k. IsLeastKey (lowest s c.args.entries.now c.args.parts.now c.args.c c.args.now k) k c.least_among-near.result) all c.least_among-near.ensures

pub returns-clause-least : goal.returns-clause-least
returns-clause-least c =
    let s = c.args.self.now in
    let few = c.self.invariant.shape.few_cpus in
    let all : min most_cpus (length s.cpus) ≡ s.shape.cpus =
    omega (arith, few, c.self.invariant.cpus, ap (λ (s : SchedulerState). length s.cpus) c.self.view_is, ap (λ (s : SchedulerState). s.shape.cpus) c.self.view_is) in
    subst (λ k. IsLeastKey (lowest s c.args.entries.now c.args.parts.now c.args.c c.args.now k) k c.least_among.result) all c.least_among.ensures
