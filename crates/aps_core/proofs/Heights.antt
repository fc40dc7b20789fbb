-- How high a processor stands, by what is kept of it.
use Rattle.std.proofs.Common.{◌≡◌, ℕ, ◌+◌, ◌≤◌, nat_eq, nat_lt, List, ◌∙◌, ap, cond, Bool, true, false, Option, Some, None, arith}
use Rattle.aps_model.specs.declared.merit.PartFacts.{PartFacts}
use Rattle.aps_model.specs.declared.state.Facts.{Facts}
use Rattle.aps_model.specs.declared.state.Pick.{Pick}
use Rattle.aps_model.specs.Budget.{part_at}
use Rattle.aps_model.specs.Inherit.{facts_of}
use Rattle.aps_model.specs.Limits.{last_partition}
use Rattle.aps_model.specs.SchedulerState.{SchedulerState}
use Rattle.aps_levels.specs.Bits.{set_has}
use Rattle.aps_ready.specs.Gates.{is_first}
use Rattle.aps_core.specs.declared.classes.Classes.{Classes}
use Rattle.aps_core.specs.declared.posts.Post.{Post}
use Rattle.aps_core.specs.Classes.{AreClasses}
use Rattle.aps_core.specs.Lowest.{IsRank, height, height_of, rank_now}
use Rattle.aps_core.specs.Posts.{IsHigh, IsPost, IsSmallPost, facts_now}

pub small_post : (o : Option Facts) (post : Post) → IsPost o post → IsSmallPost post
small_post None post is = record {
  group = let same = is.group in omega (arith, same);
  base = let same = is.base in omega (arith, same);
  more = let same = is.more in omega (arith, same);
}
small_post (Some f) post is = record {
  group = is.below;
  base = let same = is.base in let few = is.few in omega (arith, same, few);
  more = let same = is.more in omega (arith, same);
}

-- and no key is greater than this
pub key_few : (classes : Classes) (d : ℕ) (post : Post) → IsHigh classes d post → post.key ≤ 8207
key_few classes d post is =
    let same = is.same in
    let few = by_test (set_has classes.first post.group) in
    omega (arith, same, few)
  where
    by_test : (t : Bool) → cond t (post.base + post.more) post.base ≤ 512
    by_test true = let base = is.small.base in let more = is.small.more in omega (arith, base, more)
    by_test false = let base = is.small.base in omega (arith, base)

pub post_height : (s : SchedulerState) (parts : List PartFacts) (classes : Classes) (o : Option Pick) (post : Post) → AreClasses parts classes → IsPost (facts_now s o) post
    → cond (set_has classes.first post.group) (post.base + post.more) post.base ≡ height (rank_now s parts o)
post_height s parts classes None post are is = by_test (set_has classes.first post.group)
  where
    by_test : (t : Bool) → cond t (post.base + post.more) post.base ≡ 0
    by_test true = let base = is.base in let more = is.more in omega (arith, base, more)
    by_test false = is.base
post_height s parts classes (Some p) post are is =
    ap (λ t. cond t (post.base + post.more) post.base) (are post.group is.below ∙ ap (λ q. is_first (part_at parts q) (nat_lt last_partition post.group)) is.partition ∙ ap (is_first (part_at parts facts.partition)) is.critical)
    ∙ by_test (is_first (part_at parts facts.partition) facts.critical)
  where
    facts : Facts
    facts = facts_of s p.thread

    by_test : (t : Bool) → cond t (post.base + post.more) post.base ≡ height_of (nat_eq (cond t 1 0) 1) (facts_of s p.thread).priority
    by_test true = let base = is.base in let more = is.more in omega (arith, base, more)
    by_test false = is.base

pub post_rank : (s : SchedulerState) (parts : List PartFacts) (o : Option Pick) (post : Post) → IsPost (facts_now s o) post → IsRank (Some (rank_now s parts o))
post_rank s parts None post is = tt
post_rank s parts (Some p) post is =
    (by_test (is_first (part_at parts (facts_of s p.thread).partition) (facts_of s p.thread).critical), is.few)
  where
    by_test : (t : Bool) → cond t 1 0 ≤ 1
    by_test true = omega arith
    by_test false = omega arith
