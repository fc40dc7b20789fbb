use Rattle.std.proofs.Common.{◌≡◌, ◌<◌, ◌≤◌, ℕ, Option, length}
use Rattle.aps_model.specs.declared.state.Facts.{Facts}
use Rattle.aps_model.specs.Limits.{most_cpus}
use Rattle.aps_core.specs.Posts.{IsHigh, IsPost, post_at}
use Rattle.aps_core.proofs.posts.stand.Given as goal

abbrev pub invariant-loop-d : goal.invariant-loop-d
invariant-loop-d l = record {
  count : length l.row ≡ most_cpus;
  high : (e : ℕ) → e < l.d → IsHigh l.classes e (post_at l.row e);
  rest : (e : ℕ) → l.d ≤ e → post_at l.row e ≡ post_at l.fn.posts e;
  same : (e : ℕ) (o : Option Facts) → IsPost o (post_at l.fn.posts e) → IsPost o (post_at l.row e);
}
