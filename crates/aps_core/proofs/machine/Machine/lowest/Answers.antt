use Rattle.std.proofs.Common.{◌<◌, ◌/◌, ◌∙◌, ℕ, arith, length, subst, sym}
use Rattle.aps_model.specs.Limits.{most_cpus}
use Rattle.aps_core.specs.Lowest.{IsFoundLowest, lowest}
use Rattle.aps_core.proofs.FlagAfter.{least_told, least_within}
use Rattle.aps_core.proofs.machine.Machine.lowest.Goals as goal

pub returns-clause-same : goal.returns-clause-same
returns-clause-same c =
    let s = c.args.self.now in
    let found = lowest s c.args.entries.now c.args.parts.now c.args.c c.args.now s.shape.cpus in
    subst (λ (k : ℕ). IsFoundLowest found k (c.least_key-least.result / most_cpus)) (sym (c.at.ensures ∙ c.from.ensures))
    (least_told found s.shape.cpus c.least_key-least.result c.least_key-least.ensures.few c.least_key-least.ensures.least)

pub returns-clause-within : goal.returns-clause-within
returns-clause-within c low =
    let s = c.args.self.now in
    let found = lowest s c.args.entries.now c.args.parts.now c.args.c c.args.now s.shape.cpus in
    let inside = least_within found s.shape.cpus c.least_key-least.result c.least_key-least.ensures.few c.least_key-least.ensures.least low in
    let count = c.least_key-least.ensures.count in
    subst (λ (k : ℕ). k < length s.cpus) (sym (c.at.ensures ∙ c.from.ensures)) (omega (arith, inside, count))
