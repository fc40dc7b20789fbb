-- A chain leads to the values that a thread inherits.
use Rattle.std.proofs.Common.{◌≡◌, ℕ, zero, suc, List, [], ◌∷◌, map, max, cond, nat_eq, refl, sym, ap, ◌∙◌, slice_index_or, None}
use Rattle.std.specs.Prelude.{unwrap_or}
use Rattle.aps_model.specs.Inherit.{facts_of, follow, inheritance_of, raised, top_of}
use Rattle.aps_model.specs.SchedulerState.{ChannelNow, SchedulerState, Triple, thread_at}
use Rattle.laws_runs.proofs.Chains.{own_at}
use Rattle.view_explain.specs.Leads.{lead}
use Rattle.view_explain.specs.Ties.{Ties, ties_of}

tops_same : (cs : List ChannelNow) (d : ℕ) → top_of (slice_index_or (map (λ (c : ChannelNow). c.messages) cs) d []) ≡ slice_index_or (map (λ (c : ChannelNow). top_of c.messages) cs) d None
tops_same [] d = refl
tops_same (c ∷ cs) zero = refl
tops_same (c ∷ cs) (suc d) = tops_same cs d

led : (s : SchedulerState) (ts : List Triple) (x priority : ℕ) → follow (inheritance_of s) ts x priority ≡ raised (lead (ties_of s) ts x priority).1 (thread_at s (lead (ties_of s) ts x priority).0).own
led s [] x priority = ap (raised priority) (own_at s.threads x)
led s (t ∷ older) x priority =
    ap (λ top. follow (inheritance_of s) older (cond (nat_eq t.server x) t.client x) (cond (nat_eq t.server x) (max priority top) priority)) (sym (ap (λ o. unwrap_or o 0) (tops_same s.channels t.channel)))
    ∙ led s older _ _

pub leads : (s : SchedulerState) (ties : Ties) (x : ℕ) → ties ≡ ties_of s → raised (lead ties ties.triples x 0).1 (thread_at s (lead ties ties.triples x 0).0).own ≡ facts_of s x
leads s ties x same = ap (λ (u : Ties). raised (lead u u.triples x 0).1 (thread_at s (lead u u.triples x 0).0).own) same ∙ sym (led s s.triples x 0)
