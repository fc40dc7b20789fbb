-- Whom some pick of a window found out of budget had had its whole share.
use Rattle.std.proofs.Common.{◌≡◌, ℕ, ◌+◌, ◌-◌, ◌*◌, ◌/◌, ◌<◌, ◌≤◌, List, [], ◌∷◌, ◌++◌, refl, sym, ◌∙◌, subst, append_assoc, Bool, true, false, ◌&&◌, nat_lt, arith, inl, inr}
use Rattle.std.proofs.Math.Nat.{le_of_mul-le-mul_left, mul-le-mul_left}
use Rattle.std.proofs.lemmas.Bool.{and_parts, leb-true, ltb-true, not-true, or_cases}
use Rattle.std.proofs.lemmas.Bool.Decides.{nat_tests}
use Rattle.aps_model.specs.declared.entry.Entry.{Entry}
use Rattle.aps_model.specs.declared.entry.Order.{Order}
use Rattle.aps_model.specs.declared.partition.PartitionRow.{PartitionRow}
use Rattle.aps_model.specs.declared.shape.Shape.{Shape}
use Rattle.aps_model.specs.After.{state_after}
use Rattle.aps_model.specs.Budget.{part_facts}
use Rattle.aps_model.specs.Legal.{IsLegal}
use Rattle.aps_model.specs.Loaded.{finished_ticks, is_among}
use Rattle.aps_model.specs.Partition.{row_or_none}
use Rattle.aps_model.specs.Scenario.{Scenario}
use Rattle.aps_model.specs.SchedulerState.{SchedulerState}
use Rattle.aps_model.specs.Shape.{whole}
use Rattle.aps_model.specs.Usage.{window_used}
use Rattle.aps_model.specs.Valid.{IsScenario}
use Rattle.laws_runs.specs.Moments.{moment}
use Rattle.laws_bounds.specs.Lanes.{in_window}
use Rattle.laws_bounds.specs.Kinds.{is_funded}
use Rattle.laws_load.proofs.Classes.{funded_is}
use Rattle.laws_load.proofs.OwnShares.{used_longer}
use Rattle.laws_bounds.proofs.Inside.{inside_window}
use Rattle.laws_bounds.proofs.Spans.{funded_there}
use Rattle.view_samples.specs.Along.{any_along}
use Rattle.view_samples.specs.Picks.{out_test, was_out}
use Rattle.view_samples.specs.Sample.{allowance_at, had_share, is_full, is_unchanged}
use Rattle.laws_views.specs.Shares.{HadItsShare}
use Rattle.laws_views.proofs.Told.{a, exact, positive, s, same, span}

-- ---- some entry passes

record Passes (test : List Entry → Entry → Bool) (tick a b : ℕ) (h : List Entry) : Type 0 where
  before : List Entry
  later : List Entry
  e : Entry
  split : h ≡ before ++ e ∷ later
  passes : test before e ≡ true
  among : is_among a b (e.to / tick) ≡ true

abbrev in_place : (List Entry → Entry → Bool) → ℕ → ℕ → ℕ → List Entry → Entry → Bool
in_place test tick a b before e = test before e && is_among a b (e.to / tick)

passing : (test : List Entry → Entry → Bool) (tick a b : ℕ) (h front es : List Entry) → h ≡ front ++ es → any_along (in_place test tick a b) front es ≡ true → Passes test tick a b h
passing test tick a b h front [] split any = absurd cc
passing test tick a b h front (e ∷ es) split any = elim (or_cases (in_place test tick a b front e) (any_along (in_place test tick a b) (front ++ e ∷ []) es) any) [
  | inl here ↦
      let both = and_parts (test front e) (is_among a b (e.to / tick)) here in
      record { before = front; later = es; e = e; split = split; passes = both.0; among = both.1 }
  | inr later ↦ passing test tick a b h (front ++ e ∷ []) es (split ∙ sym (append_assoc front (e ∷ []) es)) later
]

found_out : (scenario : Scenario) (h : List Entry) (p a b : ℕ) → was_out scenario h p a b ≡ true → Passes (out_test scenario p) scenario.shape.tick a b h
unfolding was_out
found_out scenario h p a b out = passing (out_test scenario p) scenario.shape.tick a b h [] h refl out

-- ---- its share

not_funded : (scenario : Scenario) (g : List Entry) (p : ℕ) (e : Entry) → out_test scenario p g e ≡ true → is_funded scenario (g ++ e ∷ []) p ≡ false
not_funded scenario g p e out =
    let t = state_after scenario (g ++ e ∷ []) in
    sym (funded_is t.shape t.rows (g ++ e ∷ []) (moment (g ++ e ∷ []) / t.shape.tick) p) ∙ not-true _ out

whole_share : (shape : Shape) (rows : List PartitionRow) (h : List Entry) (i p : ℕ) → (part_facts shape rows h i p).funded ≡ false → (row_or_none rows p).budget * whole shape ≤ shape.parts * window_used shape h i p
whole_share shape rows h i p out =
    let n : ℕ = shape.parts * window_used shape h i p in
    let test : nat_lt n ((row_or_none rows p).budget * whole shape) ≡ false = out in
    grind (arith, nat_tests)

among_ends : (a b k : ℕ) → is_among a b k ≡ true → (a ≤ k) × (k < b)
among_ends a b k among = let both = and_parts _ _ among in (leb-true a k both.0, ltb-true k b both.1)

tick_ends : (a b tick now : ℕ) → 0 < tick → a ≤ now / tick → now / tick < b → (a * tick ≤ now) × (now < b * tick)
tick_ends a b tick now some low high = (search (arith), search (arith))

module _ (scenario : Scenario) (order : Order) (h : List Entry) (r : IsScenario scenario) (legal : IsLegal scenario order h) (j : ℕ) (finished : j < finished_ticks scenario.shape h)
    (calm : (is_full scenario h j && is_unchanged scenario h j) ≡ true) (p : ℕ) (had : had_share scenario h j p ≡ true) where
  abbrev first : ℕ
  first = a scenario order h r legal j finished calm

  abbrev rows_there : SchedulerState
  rows_there = s scenario order h r legal j finished calm

  found : Passes (out_test scenario p) scenario.shape.tick first (j + 1) h
  found = found_out scenario h p first (j + 1) had

  long : 0 < scenario.shape.tick
  long = let tick = r.shape.tick_long in omega (arith, tick)

  share_then : allowance_at scenario h j p ≤ window_used rows_there.shape h (found.e.to / rows_there.shape.tick) p
  share_then =
      let t = rows_there in
      let w = span scenario order h r legal j finished calm in
      let g = found.before ++ found.e ∷ [] in
      let i : ℕ = found.e.to / t.shape.tick in
      let ends = among_ends first (j + 1) (found.e.to / scenario.shape.tick) found.among in
      let bounds = tick_ends first (j + 1) scenario.shape.tick found.e.to long ends.0 ends.1 in
      let inside : in_window t.shape.tick first (j + 1) found.e.to ≡ true =
      subst (λ n. in_window n first (j + 1) found.e.to ≡ true) (sym w.sizes.tick) (inside_window scenario.shape.tick first (j + 1) found.e.to bounds.0 bounds.1) in
      let held = w.holds found.before found.later found.e found.split inside in
      let seen = whole_share t.shape t.rows g i p (sym (funded_there scenario found.before found.e p t held) ∙ not_funded scenario found.before p found.e found.passes) in
      let split : h ≡ g ++ found.later = found.split ∙ sym (append_assoc found.before (found.e ∷ []) found.later) in
      let more : window_used t.shape g i p ≤ window_used t.shape h i p =
      subst (λ (l : List Entry). window_used t.shape g i p ≤ window_used t.shape l i p) (sym split) (used_longer t.shape.tick p (i + 1 - t.shape.window) (i + 1) g found.later) in
      let is = exact scenario order h r legal j finished calm p in
      let line : t.shape.parts * allowance_at scenario h j p ≤ t.shape.parts * window_used t.shape h i p = omega (arith, is, seen, mul-le-mul_left t.shape.parts more) in
      le_of_mul-le-mul_left line (positive scenario order h r legal j finished calm)

  pub had_its_share : HadItsShare scenario h j p
  had_its_share =
      let t = rows_there in
      let w = span scenario order h r legal j finished calm in
      let ends = among_ends first (j + 1) (found.e.to / scenario.shape.tick) found.among in
      let last = ends.1 in
      record {
        tick = found.e.to / scenario.shape.tick;
        from = ends.0;
        up = omega (arith, last);
        share = subst (λ (x : Shape). allowance_at scenario h j p ≤ window_used x h (found.e.to / scenario.shape.tick) p) (sym (same scenario order h r legal j finished calm).1)
            (subst (λ n. allowance_at scenario h j p ≤ window_used t.shape h (found.e.to / n) p) w.sizes.tick share_then);
      }
