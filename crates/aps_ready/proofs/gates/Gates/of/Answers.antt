use Rattle.std.proofs.Common.{◌≡◌, ℕ, ◌+◌, [], cond, nat_eq, ap, ◌∙◌, arith}
use Rattle.aps_model.specs.Budget.{part_at}
use Rattle.aps_model.specs.Limits.{most_partitions}
use Rattle.aps_ready.proofs.GateLaws.{gates_same, told, told_none, told_more, told_all}
use Rattle.aps_ready.proofs.gates.Gates.of.Goals as goal

pub loop-p-init : goal.loop-p-init
loop-p-init c = gates_same (part_at []) (told c.args.parts.now 0) c.none-gates.result (λ q _. told_none c.args.parts.now q) c.none-gates.ensures

pub loop-p-preserved : goal.loop-p-preserved
loop-p-preserved c =
    let parts = c.args.parts.now in
    let p = c.loop-p.p in
    gates_same (λ (q : ℕ). cond (nat_eq q p) c.part_at.result (told parts p q)) (told parts (p + 1)) c.put.new.self
    (λ q _. told_more parts p q c.part_at.result c.part_at.ensures.same)
    (c.put.ensures (told parts p) c.loop-p.invariant)

pub returns : goal.returns
returns c =
    let parts = c.args.parts.now in
    let all : c.loop-p.p ≡ most_partitions = omega arith in
    gates_same (told parts c.loop-p.p) (part_at parts) c.loop-p.gates
    (λ q below. ap (λ (n : ℕ). told parts n q) all ∙ told_all parts q below) c.loop-p.invariant
