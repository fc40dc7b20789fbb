-- Ten times the parts change no pick and no flag.
use Rattle.std.proofs.Common.{◌≡◌, ℕ, ◌*◌, List, length, map, refl, sym, ◌∙◌, ap, Bool, if◌then◌else◌, ◌&&◌, not, nat_lt, nat_le, nat_eq, Option, Some, None}
use Rattle.std.specs.List.{find, fold, list_any, range_with_len}
use Rattle.std.specs.Option.{option_map}
use Rattle.std.proofs.Math.ListN.{get_or-map}
use Rattle.std.proofs.lemmas.List.{length-map}
use Rattle.std.proofs.lemmas.Simd.{map-map}
use Rattle.aps_model.specs.declared.entry.Entry.{Entry}
use Rattle.aps_model.specs.declared.merit.Contender.{Contender}
use Rattle.aps_model.specs.declared.merit.Merit.{Merit}
use Rattle.aps_model.specs.declared.merit.PartFacts.{PartFacts}
use Rattle.aps_model.specs.declared.merit.Rank.{Rank}
use Rattle.aps_model.specs.declared.merit.Rank.TheVariants.{Running}
use Rattle.aps_model.specs.declared.partition.PartitionRow.{PartitionRow}
use Rattle.aps_model.specs.declared.shape.Free.{Free}
use Rattle.aps_model.specs.declared.shape.Shape.{Shape}
use Rattle.aps_model.specs.declared.state.Pick.{Pick}
use Rattle.aps_model.specs.Budget.{all_parts, has_standing, in_budget, is_shut, no_part, part_at, part_facts}
use Rattle.aps_model.specs.Due.{due}
use Rattle.aps_model.specs.Flag.{flag_for, looked_at, lower_ranked, merit_now, rank_of}
use Rattle.aps_model.specs.Merit.{is_below, is_candidate, is_greater, merit_of}
use Rattle.aps_model.specs.Partition.{no_row, row_or_none}
use Rattle.aps_model.specs.Pick.{better, candidates, greatest, merit_among, missing}
use Rattle.aps_model.specs.SchedulerState.{SchedulerState, cpu_at, thread_at}
use Rattle.aps_model.specs.Shape.{whole}
use Rattle.aps_model.specs.Inherit.{facts_of}
use Rattle.aps_model.specs.Upgrade.{row_times_ten, times_ten}
use Rattle.aps_model.specs.Usage.{window_critical, window_used}
use Rattle.laws_upgrade.specs.TimesTen.{shape_times_ten, state_times_ten}
use Rattle.laws_upgrade.proofs.Alike.{filter_alike, find_alike, fold_alike, map_alike}
use Rattle.laws_upgrade.proofs.Merits.{below_ten, greater_ten, le_ten, lt_ten, merit_times_ten, out_left, some_ten}

-- ---- the partitions at a pick

abbrev pub part_times_ten : PartFacts → PartFacts
part_times_ten part = record part { budget = times_ten part.budget }

-- a partition's facts, from its usage, its critical usage and its row
abbrev pub facts_by : Shape → ℕ → ℕ → PartitionRow → PartFacts
facts_by shape spent critical row = record {
  funded = in_budget shape spent row.budget;
  standing = has_standing critical row.critical;
  shut = is_shut shape spent row.max;
  used = spent;
  budget = row.budget;
}

budget_ten : (shape : Shape) (spent budget : ℕ) → in_budget (shape_times_ten shape) spent (times_ten budget) ≡ in_budget shape spent budget
budget_ten shape spent budget =
    ap (λ n. nat_lt n ((budget * 10) * whole shape)) (out_left shape.parts spent)
    ∙ ap (λ n. nat_lt ((shape.parts * spent) * 10) n) (out_left budget (whole shape))
    ∙ lt_ten (shape.parts * spent) (budget * whole shape)

shut_ten : (shape : Shape) (spent max : ℕ) → is_shut (shape_times_ten shape) spent (times_ten max) ≡ is_shut shape spent max
shut_ten shape spent max =
    ap (λ n. shape.limit && nat_le ((max * 10) * whole shape) n) (out_left shape.parts spent)
    ∙ ap (λ n. shape.limit && nat_le n ((shape.parts * spent) * 10)) (out_left max (whole shape))
    ∙ ap (λ t. shape.limit && t) (le_ten (max * whole shape) (shape.parts * spent))

facts_ten : (shape : Shape) (spent critical : ℕ) (row : PartitionRow)
    → facts_by (shape_times_ten shape) spent critical (row_times_ten row) ≡ part_times_ten (facts_by shape spent critical row)
facts_ten shape spent critical row =
    ap (λ t. record (part_times_ten (facts_by shape spent critical row)) { funded = t; shut = is_shut (shape_times_ten shape) spent (times_ten row.max) })
    (budget_ten shape spent row.budget)
    ∙ ap (λ t. record (part_times_ten (facts_by shape spent critical row)) { shut = t }) (shut_ten shape spent row.max)

pub row_ten : (rows : List PartitionRow) (p : ℕ) → row_or_none (map row_times_ten rows) p ≡ row_times_ten (row_or_none rows p)
row_ten rows p = get_or-map row_times_ten rows p no_row

part_ten : (shape : Shape) (rows : List PartitionRow) (h : List Entry) (j p : ℕ)
    → part_facts (shape_times_ten shape) (map row_times_ten rows) h j p ≡ part_times_ten (part_facts shape rows h j p)
part_ten shape rows h j p =
    ap (facts_by (shape_times_ten shape) (window_used shape h j p) (window_critical shape h j p)) (row_ten rows p)
    ∙ facts_ten shape (window_used shape h j p) (window_critical shape h j p) (row_or_none rows p)

pub parts_ten : (shape : Shape) (rows : List PartitionRow) (h : List Entry) (j : ℕ)
    → all_parts (shape_times_ten shape) (map row_times_ten rows) h j ≡ map part_times_ten (all_parts shape rows h j)
parts_ten shape rows h j =
    ap (λ n. map (part_facts (shape_times_ten shape) (map row_times_ten rows) h j) (range_with_len 0 n)) (length-map rows row_times_ten)
    ∙ map_alike (part_facts (shape_times_ten shape) (map row_times_ten rows) h j) (λ p. part_times_ten (part_facts shape rows h j p)) (part_ten shape rows h j) (range_with_len 0 (length rows))
    ∙ sym (map-map part_times_ten (part_facts shape rows h j) (range_with_len 0 (length rows)))

pub part_at_ten : (parts : List PartFacts) (p : ℕ) → part_at (map part_times_ten parts) p ≡ part_times_ten (part_at parts p)
part_at_ten parts p = get_or-map part_times_ten parts p no_part

-- ---- the pick

pub candidates_ten : (parts : List PartFacts) (cs : List Contender) → candidates (map part_times_ten parts) cs ≡ candidates parts cs
candidates_ten parts cs =
    filter_alike (λ (c : Contender). is_candidate c.facts (part_at (map part_times_ten parts) c.facts.partition))
    (λ (c : Contender). is_candidate c.facts (part_at parts c.facts.partition))
    (λ c. ap (is_candidate c.facts) (part_at_ten parts c.facts.partition)) cs

pub merit_ten : (parts : List PartFacts) (c : Contender) → merit_among (map part_times_ten parts) c ≡ merit_times_ten (merit_among parts c)
merit_ten parts c = ap (merit_of c.facts c.stamp) (part_at_ten parts c.facts.partition)

better_ten : (free : Free) (parts : List PartFacts) (best : Option Contender) (c : Contender)
    → better free (map part_times_ten parts) best c ≡ better free parts best c
better_ten free parts None c = refl
better_ten free parts (Some best) c =
    ap (λ t. Some (if t then c else best))
    (ap (λ m. is_greater free m (merit_among (map part_times_ten parts) best)) (merit_ten parts c)
    ∙ ap (is_greater free (merit_times_ten (merit_among parts c))) (merit_ten parts best)
    ∙ greater_ten free (merit_among parts c) (merit_among parts best))

pub greatest_ten : (free : Free) (parts : List PartFacts) (cs : List Contender) → greatest free (map part_times_ten parts) cs ≡ greatest free parts cs
greatest_ten free parts cs =
    ap (fold (better free (map part_times_ten parts)) None) (candidates_ten parts cs)
    ∙ fold_alike (better free (map part_times_ten parts)) (better free parts) (better_ten free parts) None (candidates parts cs)

-- whether the partition has a budget and no candidate
abbrev is_missing : List PartFacts → List Contender → ℕ → Bool
is_missing parts cs p =
    nat_lt 0 (part_at parts p).budget && not (list_any (λ (c : Contender). nat_eq c.facts.partition p) (candidates parts cs))

is_missing_ten : (parts : List PartFacts) (cs : List Contender) (p : ℕ) → is_missing (map part_times_ten parts) cs p ≡ is_missing parts cs p
is_missing_ten parts cs p =
    ap (λ (part : PartFacts). nat_lt 0 part.budget && not (list_any (λ (c : Contender). nat_eq c.facts.partition p) (candidates (map part_times_ten parts) cs))) (part_at_ten parts p)
    ∙ ap (λ t. t && not (list_any (λ (c : Contender). nat_eq c.facts.partition p) (candidates (map part_times_ten parts) cs))) (some_ten (part_at parts p).budget)
    ∙ ap (λ found. nat_lt 0 (part_at parts p).budget && not (list_any (λ (c : Contender). nat_eq c.facts.partition p) found)) (candidates_ten parts cs)

pub missing_ten : (parts : List PartFacts) (cs : List Contender) → missing (map part_times_ten parts) cs ≡ missing parts cs
missing_ten parts cs =
    ap (λ n. find (is_missing (map part_times_ten parts) cs) (range_with_len 0 n)) (length-map parts part_times_ten)
    ∙ find_alike (is_missing (map part_times_ten parts) cs) (is_missing parts cs) (is_missing_ten parts cs) (range_with_len 0 (length parts))

-- ---- the flag

now_ten : (s : SchedulerState) (parts : List PartFacts) (x : ℕ)
    → merit_now (state_times_ten s) (map part_times_ten parts) x ≡ merit_times_ten (merit_now s parts x)
now_ten s parts x = ap (merit_of (facts_of s x) (thread_at s x).stamp) (part_at_ten parts (facts_of s x).partition)

rank_ten : (s : SchedulerState) (parts : List PartFacts) (left : Merit) (running : Option Pick)
    → rank_of (state_times_ten s) (map part_times_ten parts) (merit_times_ten left) running ≡ rank_of s parts left running
rank_ten s parts left None = refl
rank_ten s parts left (Some pick) =
    ap (λ (m : Merit). if is_below s.shape.free m (merit_times_ten left) then Some (Running m.class m.priority) else None) (now_ten s parts pick.thread)
    ∙ ap (λ t. if t then Some (Running (merit_now s parts pick.thread).class (merit_now s parts pick.thread).priority) else None)
    (below_ten s.shape.free (merit_now s parts pick.thread) left)

looked_ten : (s : SchedulerState) (h : List Entry) (parts : List PartFacts) (left : Contender) (c now d : ℕ)
    → looked_at (state_times_ten s) h (map part_times_ten parts) (merit_among (map part_times_ten parts) left) c now d
    ≡ looked_at s h parts (merit_among parts left) c now d
looked_ten s h parts left c now d =
    ap (λ m. looked_at (state_times_ten s) h (map part_times_ten parts) m c now d) (merit_ten parts left)
    ∙ ap (λ r. if not (nat_eq d c) && nat_lt now (due s h d) then r else None) (rank_ten s parts (merit_among parts left) (cpu_at s d).running)

pub flag_ten : (s : SchedulerState) (h : List Entry) (parts : List PartFacts) (c now : ℕ) (left : Option Contender)
    → flag_for (state_times_ten s) h (map part_times_ten parts) c now left ≡ flag_for s h parts c now left
flag_ten s h parts c now None = refl
flag_ten s h parts c now (Some left) =
    ap (option_map (λ (best : ℕ × Rank). best.0))
    (fold_alike
    (λ best d. lower_ranked d (looked_at (state_times_ten s) h (map part_times_ten parts) (merit_among (map part_times_ten parts) left) c now d) best)
    (λ best d. lower_ranked d (looked_at s h parts (merit_among parts left) c now d) best)
    (λ best d. ap (λ r. lower_ranked d r best) (looked_ten s h parts left c now d)) None (range_with_len 0 s.shape.cpus))
