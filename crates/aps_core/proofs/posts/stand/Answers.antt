use Rattle.std.proofs.Common.{◌≡◌, ◌<◌, ◌∙◌, ap, arith, inl, inr, length, length-set, slice_set, subst, sym}
use Rattle.std.proofs.lemmas.Bool.{cases_eq}
use Rattle.std.proofs.lemmas.List.{get_or-set_other, get_or-set_same}
use Rattle.aps_core.specs.declared.posts.Post.{Post}
use Rattle.aps_core.specs.Posts.{IsHigh, IsPost, no_post, post_at}
use Rattle.aps_core.proofs.posts.stand.Goals as goal

pub loop-d-preserved : goal.loop-d-preserved
loop-d-preserved c =
    let l = c.loop-d in
    let row = slice_set l.row l.d c.by.result in
    let inside : l.d < length l.row = omega (arith, c.loop-d-test.true, l.invariant.count) in
    let here : post_at row l.d ≡ c.by.result = get_or-set_same l.row l.d c.by.result no_post inside in
    record {
      count = length-set l.row l.d c.by.result ∙ l.invariant.count;
      high = λ e below. elim (cases_eq e l.d) [
        | inl same ↦ subst (λ k. IsHigh c.args.classes k (post_at row k)) (sym same) (subst (IsHigh c.args.classes l.d) (sym here) c.by.ensures.high)
        | inr other ↦
            subst (IsHigh c.args.classes e) (sym (get_or-set_other l.row l.d e c.by.result no_post other))
            (l.invariant.high e (omega (arith, below, other)))
      ];
      rest = λ e past.
          get_or-set_other l.row l.d e c.by.result no_post (λ same. let one = same in omega (arith, past, one)) ∙ l.invariant.rest e (omega (arith, past));
      same = λ e o is. elim (cases_eq e l.d) [
        | inl same ↦
            subst (λ (p : Post). IsPost o p) (sym (ap (post_at row) same ∙ here))
            (c.by.ensures.same o (subst (λ k. IsPost o (post_at l.row k)) same (l.invariant.same e o is)))
        | inr other ↦ subst (λ (p : Post). IsPost o p) (sym (get_or-set_other l.row l.d e c.by.result no_post other)) (l.invariant.same e o is)
      ];
    }
