use Rattle.std.proofs.Common.{ℕ, [], ◌∷◌, ◌++◌, cond, nat_eq, set, ap, ◌∙◌}
use Rattle.aps_model.specs.Budget.{part_at}
use Rattle.aps_ready.proofs.GateLaws.{gates_same, set_in_list, added_to_list}
use Rattle.aps_ready.proofs.gates.Gates.set.Goals as goal

pub returns-clause-changed : goal.returns-clause-changed
returns-clause-changed c parts are within =
    let p = c.args.p in
    let part = c.args.part.now in
    gates_same (λ (q : ℕ). cond (nat_eq q c.index.result) part (part_at parts q)) (part_at (set parts p part)) c.put.new.self
    (λ q _. ap (λ (j : ℕ). cond (nat_eq q j) part (part_at parts q)) c.index.ensures.same ∙ set_in_list parts p q part within)
    (c.put.ensures (part_at parts) are)

pub returns-clause-added : goal.returns-clause-added
returns-clause-added c parts are end =
    let p = c.args.p in
    let part = c.args.part.now in
    gates_same (λ (q : ℕ). cond (nat_eq q c.index.result) part (part_at parts q)) (part_at (parts ++ part ∷ [])) c.put.new.self
    (λ q _. ap (λ (j : ℕ). cond (nat_eq q j) part (part_at parts q)) c.index.ensures.same ∙ added_to_list parts p q part end)
    (c.put.ensures (part_at parts) are)
