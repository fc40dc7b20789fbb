-- What a scene keeps.
use Rattle.std.proofs.Common.{◌≡◌, ℕ, ◌+◌, ◌-◌, ◌<◌, ◌≤◌, List, [], ◌∷◌, length, ap, ◌∙◌, cond, nat_eq, true, false, Bool, Some, slice_index, map, arith}
use Rattle.std.specs.Prelude.{All, IfSome}
use Rattle.std.specs.List.{range_with_len}
use Rattle.aps_model.specs.declared.merit.PartFacts.{PartFacts}
use Rattle.aps_model.specs.declared.usage.Usage.{Usage}
use Rattle.aps_model.specs.Budget.{all_parts, has_standing, in_budget, is_shut, part_facts}
use Rattle.aps_model.specs.Limits.{most_partitions}
use Rattle.aps_model.specs.Partition.{row_or_none}
use Rattle.aps_model.specs.SchedulerState.{Triple}
use Rattle.aps_model.specs.Sums.{IsUsage}
use Rattle.aps_model.specs.Usage.{window_critical, window_used}
use Rattle.laws_runs.specs.Ids.{IsTripleFit}
use Rattle.laws_runs.proofs.Inherits.{all_head, all_tail}
use Rattle.view_explain.specs.Past.{IsSceneOfPast, Past, parts_of_past, state_of_past, tick_in}
use Rattle.view_explain.specs.Parts.{part_by}
use Rattle.view_explain.specs.Ties.{Ties, newest_server}
use Rattle.view_explain.proofs.Ranges.{map_range}

pub used_is : (past : Past) (knots : Ties) (j : ℕ) (billed : Usage) (facts : List PartFacts) (p : ℕ) → IsSceneOfPast past knots j billed facts → p < most_partitions
    → slice_index billed.used p ≡ window_used (state_of_past past).shape past.entries (tick_in past) p
used_is past knots j billed facts p scene small =
    scene.usage.used p small ∙ ap (λ k. window_used (state_of_past past).shape past.entries k p) scene.tick

pub critical_is : (past : Past) (knots : Ties) (j : ℕ) (billed : Usage) (facts : List PartFacts) (p : ℕ) → IsSceneOfPast past knots j billed facts → p < most_partitions
    → slice_index billed.critical p ≡ window_critical (state_of_past past).shape past.entries (tick_in past) p
critical_is past knots j billed facts p scene small =
    scene.usage.critical p small ∙ ap (λ k. window_critical (state_of_past past).shape past.entries k p) scene.tick

-- a server is a thread of the scenario
pub server_known : (threads channels : ℕ) (ts : List Triple) (c : ℕ) → All (IsTripleFit threads channels) ts → IfSome (newest_server ts c) (λ y. y < threads)
server_known threads channels [] c fit = tt
server_known threads channels (t ∷ ts) c fit = by_test (nat_eq t.channel c) (all_head (IsTripleFit threads channels) t ts fit).server (server_known threads channels ts c (all_tail (IsTripleFit threads channels) t ts fit))
  where
    by_test : (is : Bool) → t.server < threads → IfSome (newest_server ts c) (λ y. y < threads) → IfSome (cond is (Some t.server) (newest_server ts c)) (λ y. y < threads)
    by_test true here rest = here
    by_test false here rest = rest

-- the parts by what was used
pub parts_are : (past : Past) (j : ℕ) (billed : Usage) (facts : List PartFacts)
    → facts ≡ map (part_by (state_of_past past).shape (state_of_past past).rows billed) (range_with_len 0 (length (state_of_past past).rows))
    → IsUsage (state_of_past past).shape.tick (j + 1 - (state_of_past past).shape.window) (j + 1) past.entries billed
    → length (state_of_past past).rows ≤ most_partitions → j ≡ tick_in past → facts ≡ parts_of_past past
parts_are past j billed facts is usage few at =
    let s = state_of_past past in
    let made : ℕ → ℕ → ℕ → PartFacts = λ k used critical. record {
      funded = in_budget s.shape used (row_or_none s.rows k).budget;
      standing = has_standing critical (row_or_none s.rows k).critical;
      shut = is_shut s.shape used (row_or_none s.rows k).max;
      used = used;
      budget = (row_or_none s.rows k).budget;
    } in
    is
    ∙ map_range (part_by s.shape s.rows billed) (part_facts s.shape s.rows past.entries j) (length s.rows) (λ k below.
    ap (λ u. made k u (slice_index billed.critical k)) (usage.used k (omega (arith, below, few)))
    ∙ ap (λ v. made k (window_used s.shape past.entries j k) v) (usage.critical k (omega (arith, below, few))))
    ∙ ap (λ k. all_parts s.shape s.rows past.entries k) at
