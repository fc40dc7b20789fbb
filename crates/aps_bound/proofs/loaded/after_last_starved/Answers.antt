use Rattle.std.proofs.Common.{◌≡◌, ◌-◌, ◌+◌, ◌<◌, length, get_or, true, sym, ap, ◌∙◌, subst, arith}
use Rattle.std.proofs.lemmas.List.{get_or_read}
use Rattle.aps_bound.proofs.Steadiness.{AreNotStarvedFrom, is_starved_before, last_starved, never_starved}
use Rattle.aps_bound.proofs.loaded.after_last_starved.Goals as goal

pub returns-then-is_starved_before-clause-same : goal.returns-then-is_starved_before-clause-same
returns-then-is_starved_before-clause-same c s =
    let h = c.args.entries.now in
    let n = c.loop-left.left - 1 in
    let inside : n < length h = omega (arith, c.loop-left-test.true, c.loop-left.invariant.within) in
    let found = c.index-entries-left-then-is_starved_before in
    let e = get_or h n found.result in
    let here : is_starved_before c.args.tick c.args.count e ≡ true =
    ap (is_starved_before c.args.tick c.args.count) (sym (get_or_read h n c.index-entries-left.result inside c.index-entries-left.is found.result))
    ∙ sym c.is_starved_before.ensures
    ∙ c.if-is_starved_before.true in
    let next : c.loop-left.left ≡ n + 1 = omega (arith, c.loop-left-test.true) in
    last_starved n c.args.tick c.args.count s h e inside (sym found.is ∙ get_or_read h n found.result inside found.is e) c.requires.tick c.requires.order here
    (subst (λ k. AreNotStarvedFrom k c.args.tick h c.args.count) next c.loop-left.invariant.none)

pub returns-clause-same : goal.returns-clause-same
returns-clause-same c s =
    let first : c.loop-left.left ≡ 0 = omega (arith, c.loop-left-test.false) in
    never_starved c.args.tick c.args.count s c.args.entries.now (subst (λ k. AreNotStarvedFrom k c.args.tick c.args.entries.now c.args.count) first c.loop-left.invariant.none)
