use Rattle.std.proofs.Common.{◌≡◌, ℕ, ◌%◌, ◌<◌, length, true, ◌||◌}
use Rattle.aps_model.specs.Limits.{most_partitions}
use Rattle.aps_levels.specs.Bits.{set_has}
use Rattle.aps_ready.proofs.Fewer.{was_in, fewer}
use Rattle.aps_ready.proofs.Leading.{cut_of, kept_in, none_leading, leading_same, leaders_of, more_of, seen_of, none_seen, one_more, all_seen}
use Rattle.aps_ready.proofs.leaders.least_used.Goals as goal

pub partitions-init : goal.partitions-init
partitions-init c =
    let parts = c.args.parts.now in
    let wanted = set_has c.args.groups in
    let all = set_has c.partitions_of.result in
    let left = set_has c.below-left.result in
    let cut : (p : ℕ) → left p ≡ true → (p < length parts) × (all p ≡ true) = λ p h. cut_of all left (length parts) p c.below-left.ensures h in
    record {
      some = λ p h. c.partitions_of.ensures.some p (cut p h).1;
      known = λ p h. (cut p h).0;
      are = none_leading parts (seen_of wanted left) c.nobody-leaders.result
          (λ g below. none_seen (wanted g) (left (g % most_partitions))
          (λ h. kept_in all left (length parts) (g % most_partitions) c.below-left.ensures (c.requires.known g below h)
          (c.partitions_of.ensures.all g below h)))
          c.nobody-leaders.ensures.groups c.nobody-leaders.ensures.used c.nobody-leaders.ensures.budget;
    }

pub partitions-preserved : goal.partitions-preserved
partitions-preserved c =
    let parts = c.args.parts.now in
    let wanted = set_has c.args.groups in
    let left = set_has c.partitions.left in
    let after = set_has c.without_least-left.result in
    let p = c.in-Some.p in
    record {
      some = λ k h. c.partitions.invariant.some k (was_in left after p k (c.without_least-left.ensures p c.in-Some.ensures.some) h);
      known = λ k h. c.partitions.invariant.known k (was_in left after p k (c.without_least-left.ensures p c.in-Some.ensures.some) h);
      are = leading_same parts (λ (g : ℕ). seen_of wanted left g || more_of wanted p g) (seen_of wanted after)
          c.with_partition-leaders.result
          (λ g _. one_more wanted left after p (c.without_least-left.ensures p c.in-Some.ensures.some) g)
          (c.with_partition-leaders.ensures (seen_of wanted left) c.partitions.invariant.are);
    }

pub partitions-smaller : goal.partitions-smaller
partitions-smaller c =
    fewer (set_has c.partitions.left) (set_has c.without_least-left.result) c.in-Some.p 64 (c.without_least-left.ensures c.in-Some.p c.in-Some.ensures.some) c.in-Some.ensures.some.here c.in-Some.ensures.some.below

pub returns : goal.returns
returns c =
    let parts = c.args.parts.now in
    let wanted = set_has c.args.groups in
    leaders_of parts wanted c.partitions.leaders c.meet.result
    (leading_same parts (seen_of wanted (set_has c.partitions.left)) wanted c.partitions.leaders
    (λ g _. all_seen (wanted g) (set_has c.partitions.left (g % most_partitions)) (c.in_default.ensures.none (g % most_partitions))) c.partitions.invariant.are)
    c.meet.ensures
