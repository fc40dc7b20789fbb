-- Whose inherited values a change can touch: of a thread's own values, those of the threads whose chain ends at it; of what
-- waits at a channel, those whose chain passes a triple by the channel.
use Rattle.std.proofs.Common.{◌≡◌, ◌≢◌, ℕ, max, List, [], ◌∷◌, ◌∙◌, ap, refl, Bool, true, false, cond, nat_eq, ◌&&◌, Option, None, unwrap_or, slice_set}
use Rattle.std.proofs.lemmas.Bool.{or_parts}
use Rattle.std.proofs.lemmas.List.{get_or-set_other}
use Rattle.aps_model.specs.declared.state.Facts.{Facts}
use Rattle.aps_model.specs.SchedulerState.{Triple, no_facts}
use Rattle.aps_model.specs.Inherit.{Inheritance, follow, inherited, raised, top_at}
use Rattle.aps_inherit.specs.Chains.{end_of_chain, passes}
use Rattle.aps_inherit.proofs.Ordering.{ne_from_test}

follow-own : (i : Inheritance) (ts : List Triple) (x y priority : ℕ) (own : Facts) → end_of_chain ts y ≢ x
    → follow (record i { own = slice_set i.own x own }) ts y priority ≡ follow i ts y priority
follow-own i [] x y priority own ne = ap (raised priority) (get_or-set_other i.own x y own no_facts ne)
follow-own i (t ∷ older) x y priority own ne =
    follow-own i older x (cond (nat_eq t.server y) t.client y)
    (cond (nat_eq t.server y) (max priority (top_at i.tops t.channel)) priority) own ne

-- a thread whose chain doesn't end at x
pub inherited-own_other : (i : Inheritance) (x y : ℕ) (own : Facts) → end_of_chain i.triples y ≢ x
    → inherited (record i { own = slice_set i.own x own }) y ≡ inherited i y
inherited-own_other i x y own ne = follow-own i i.triples x y 0 own ne

follow-top : (i : Inheritance) (ts : List Triple) (c y priority : ℕ) (top : Option ℕ) → passes ts c y ≡ false
    → follow (record i { tops = slice_set i.tops c top }) ts y priority ≡ follow i ts y priority
follow-top i [] c y priority top off = refl
follow-top i (t ∷ older) c y priority top off =
    ap (λ n. follow (record i { tops = slice_set i.tops c top }) older (cond (nat_eq t.server y) t.client y) n)
    (same (nat_eq t.server y)
    (or_parts (nat_eq t.server y && nat_eq t.channel c) (passes older c (cond (nat_eq t.server y) t.client y)) off).0)
    ∙ follow-top i older c (cond (nat_eq t.server y) t.client y)
    (cond (nat_eq t.server y) (max priority (top_at i.tops t.channel)) priority) top
    (or_parts (nat_eq t.server y && nat_eq t.channel c) (passes older c (cond (nat_eq t.server y) t.client y)) off).1
  where
    same : (b : Bool) → (b && nat_eq t.channel c) ≡ false
        → cond b (max priority (top_at (slice_set i.tops c top) t.channel)) priority
        ≡ cond b (max priority (top_at i.tops t.channel)) priority
    same false h = refl
    same true h =
        ap (λ (o : Option ℕ). max priority (unwrap_or o 0)) (get_or-set_other i.tops c t.channel top None (ne_from_test t.channel c h))

-- a thread whose chain passes no triple by the channel
pub inherited-top_other : (i : Inheritance) (c y : ℕ) (top : Option ℕ) → passes i.triples c y ≡ false
    → inherited (record i { tops = slice_set i.tops c top }) y ≡ inherited i y
inherited-top_other i c y top off = follow-top i i.triples c y 0 top off
