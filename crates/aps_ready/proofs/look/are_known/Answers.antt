use Rattle.std.proofs.Common.{◌≡◌, ◌⊎◌, inl, inr, ℕ, ◌%◌, ◌<◌, ◌≤◌, Bool, true, false, ◌&&◌, not, nat_lt, length, arith}
use Rattle.std.proofs.lemmas.Bool.Decides.{nat_tests}
use Rattle.aps_model.specs.Limits.{most_partitions}
use Rattle.aps_levels.specs.Bits.{set_has}
use Rattle.aps_ready.proofs.look.are_known.Goals as goal

below_or_not : (a b : ℕ) → (a < b) ⊎ (b ≤ a)
below_or_not a b = search arith

not_less : (a b : ℕ) → b ≤ a → nat_lt a b ≡ false
not_less a b h = grind (arith, nat_tests)

-- a number of the set that is below no end is left without those below the end
left_over : (a l m h : Bool) → a ≡ true → l ≡ false → m ≡ (l && a) → h ≡ (a && not m) → h ≡ false → ⊥
left_over a l m h p q r s t = cc

pub returns : goal.returns
returns c is g below among =
    let all = set_has c.partitions_of-all.result in
    let end = length c.args.parts.now in
    let here = c.partitions_of-all.ensures.all g below among in
    let low : g % most_partitions < 64 = omega arith in
    elim (below_or_not (g % most_partitions) end) [
      | inl inside ↦ inside
      | inr past ↦ absurd (left_over (all (g % most_partitions)) (nat_lt (g % most_partitions) end) (set_has c.below.result (g % most_partitions)) (set_has c.minus.result (g % most_partitions)) here
          (not_less (g % most_partitions) end past) (c.below.ensures (g % most_partitions)) (c.minus.ensures (g % most_partitions) low) (c.is_empty.ensures.empty (is) (g % most_partitions)))
    ]
