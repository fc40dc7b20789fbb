-- Items that are known by their numbers.
use Rattle.std.proofs.Common.{◌≡◌, ℕ, suc, ◌+◌, ◌<◌, List, [], ◌∷◌, length, get_or, refl, ap, ◌∙◌, arith}
use Rattle.std.specs.List.{flat_map, enumerate_from, range_with_len}
use Rattle.aps_model.specs.declared.entry.Entry.{Entry}
use Rattle.aps_model.specs.declared.partition.PartitionRow.{PartitionRow}
use Rattle.aps_model.specs.Scenario.{Scenario}
use Rattle.view_marks.specs.declared.bar.Bar.{Bar}
use Rattle.view_marks.specs.Bar.{AreLanes, lane_of}
use Rattle.view_lives.specs.declared.life.Segment.{Segment}
use Rattle.view_lives.specs.Life.{AreLives, life_of}
use Rattle.view_trace_events.specs.Slices.{lane_events, life_events}
use Rattle.view_trace_events.specs.Trace.{lane_part, life_part}

by_number : {A : Type 0} (f : ℕ × A → List ℕ) (d : A) (of : ℕ → A) (n : ℕ) (xs : List A) → ((c : ℕ) → c < length xs → get_or xs c d ≡ of (n + c))
    → flat_map f (enumerate_from n xs) ≡ flat_map (λ c. f (c, of c)) (range_with_len n (length xs))
by_number f d of n [] each = refl
by_number f d of n (x ∷ xs) each =
    let here : x ≡ of n = each 0 (omega arith) ∙ ap of (omega arith) in
    let rest = by_number f d of (n + 1) xs (λ c less. each (suc c) (omega (arith, less)) ∙ ap of (omega arith)) in
    rw (here, rest) refl

plain : (i : ℕ) → i ≡ 0 + i
plain i = omega arith

pub lanes_same : (scenario : Scenario) (h : List Entry) (rows : List PartitionRow) (lanes : List (List Bar)) → AreLanes scenario h lanes
    → flat_map (lane_events scenario.threads rows) (enumerate_from 0 lanes) ≡ flat_map (lane_part scenario h rows) (range_with_len 0 scenario.shape.cpus)
lanes_same scenario h rows lanes are =
    by_number (lane_events scenario.threads rows) [] (lane_of scenario h) 0 lanes
    (λ c less. are.each c (let count = are.count in omega (arith, less, count)) ∙ ap (lane_of scenario h) (plain c))
    ∙ ap (λ n. flat_map (lane_part scenario h rows) (range_with_len 0 n)) are.count

pub lives_same : (scenario : Scenario) (h : List Entry) (rows : List PartitionRow) (lives : List (List Segment)) → AreLives scenario h lives
    → flat_map (life_events scenario rows) (enumerate_from 0 lives) ≡ flat_map (life_part scenario h rows) (range_with_len 0 (length scenario.threads))
lives_same scenario h rows lives are =
    by_number (life_events scenario rows) [] (life_of scenario h) 0 lives
    (λ x less. are.each x (let count = are.count in omega (arith, less, count)) ∙ ap (life_of scenario h) (plain x))
    ∙ ap (λ n. flat_map (life_part scenario h rows) (range_with_len 0 n)) are.count
