use Rattle.std.proofs.Common.{◌+◌, Bool, cond, nat_eq, ap, ◌∙◌}
use Rattle.aps_model.specs.declared.merit.PartFacts.{PartFacts}
use Rattle.aps_model.specs.Limits.{most_partitions}
use Rattle.aps_levels.specs.Bits.{set_has}
use Rattle.aps_ready.specs.Gates.{is_open_first, is_open_second}
use Rattle.aps_ready.proofs.GateLaws.{gate_set, budget_set}
use Rattle.aps_ready.proofs.gates.Gates.put.Goals as goal

pub returns : goal.returns
returns c stands are =
    let p = c.args.p in
    let part = c.args.part.now in
    let old = c.args.self.now in
    record {
      first = gate_set (λ (q : PartFacts) (critical : Bool). is_open_first q critical) stands p part old.first c.put.result c.put-self.result
          c.requires
          (λ k. c.put.ensures k ∙ ap (λ (t : Bool). cond (nat_eq k p) t (set_has old.first k)) c.is_open_first.ensures)
          (λ k. c.put-self.ensures k ∙ ap (λ (t : Bool). cond (nat_eq k (p + most_partitions)) t (set_has c.put.result k)) c.is_open_first-2.ensures)
          are.first;
      second = gate_set (λ (q : PartFacts) (critical : Bool). is_open_second q critical) stands p part old.second c.put-2.result c.put-self-2.result
          c.requires
          (λ k. c.put-2.ensures k ∙ ap (λ (t : Bool). cond (nat_eq k p) t (set_has old.second k)) c.is_open_second.ensures)
          (λ k. c.put-self-2.ensures k ∙ ap (λ (t : Bool). cond (nat_eq k (p + most_partitions)) t (set_has c.put-2.result k)) c.is_open_second-2.ensures)
          are.second;
      budgeted = budget_set stands p part old.budgeted c.put-self-3.result c.requires c.put-self-3.ensures are.budgeted;
    }
