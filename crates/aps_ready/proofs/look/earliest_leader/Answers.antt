use Rattle.std.proofs.Common.{rules, ◌≡◌, ℕ, ◌<◌, List, Bool, true, false, ◌&&◌, not, sym, ◌∙◌, arith}
use Rattle.aps_levels.specs.declared.bits.Bits64.{Bits64}
use Rattle.aps_levels.specs.Bits.{set_has}
use Rattle.aps_model.specs.declared.merit.PartFacts.{PartFacts}
use Rattle.aps_ready.specs.declared.leaders.Leaders.{Leaders}
use Rattle.aps_ready.specs.Firsts.{firsts_of}
use Rattle.aps_ready.specs.Leaders.{is_less_than, AreLeaders}
use Rattle.aps_ready.proofs.Among.{best_of_leaders, best_of_nobody, least_at_level}
use Rattle.aps_ready.proofs.Tops.{kept}
use Rattle.aps_ready.proofs.look.earliest_leader.Goals as goal
use Rattle.aps_ready.specs.Group.{group_count}

first : (a b : Bool) → (a && b) ≡ true → a ≡ true
first true b h = cc
first false b h = absurd cc

clash : (t : Bool) → t ≡ true → t ≡ false → ⊥
clash t p q = cc

-- the leaders are of these groups
leads_among : (parts : List PartFacts) (groups : Bits64) (leaders : Leaders) (g : ℕ) → AreLeaders parts (set_has groups) leaders → g < group_count
    → set_has leaders.groups g ≡ true → set_has groups g ≡ true
leads_among parts groups leaders g are below h =
    first (set_has groups g) (not (is_less_than parts leaders.used leaders.budget g)) (sym (are.these g below) ∙ h)

pub returns-then-is_empty : goal.returns-then-is_empty
returns-then-is_empty c =
    let row = c.args.lists.now in
    let leaders = c.least_used-leaders.result in
    best_of_nobody c.args.parts.now row (firsts_of row) (set_has c.args.groups) leaders c.vacant.result c.vacant.ensures c.least_used-leaders.ensures
    (λ g below h. omega (arith, c.requires.level.same g below h, c.requires.level.below))
    (λ g below h. absurd (clash (set_has leaders.groups g) h (c.if-is_empty.ensures.empty (search rules) g)))

pub earliest-requires : goal.earliest-requires
earliest-requires c = record {
  below = c.requires.level.below;
  same = λ g below h.
      c.requires.level.same g below (leads_among c.args.parts.now c.args.groups c.least_used-leaders.result g c.least_used-leaders.ensures below h);
}

pub returns-else-is_empty : goal.returns-else-is_empty
returns-else-is_empty c =
    let row = c.args.lists.now in
    let parts = c.args.parts.now in
    let leaders = c.least_used-leaders.result in
    let some = c.if-is_empty.ensures.some (search rules) in
    let inside : (g : ℕ) → g < group_count → set_has leaders.groups g ≡ true → set_has c.args.groups g ≡ true =
    λ g below h. leads_among parts c.args.groups leaders g c.least_used-leaders.ensures below h in
    best_of_leaders parts row (firsts_of row) (set_has c.args.groups) (set_has leaders.groups) leaders
    c.earliest.result (kept row c.requires.queued) c.least_used-leaders.ensures
    (least_at_level (firsts_of row) (set_has c.args.groups) (set_has leaders.groups) c.args.level some.0 c.requires.level inside some.1 some.2)
    (c.earliest.ensures.some some.0 some.1 some.2)
