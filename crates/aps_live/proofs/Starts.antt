-- The threads at the start.
use Rattle.std.proofs.Common.{◌≡◌, ◌≢◌, ℕ, zero, suc, ◌+◌, ◌^◌, ◌<◌, ◌≤◌, ◌⊎◌, List, [], ◌∷◌, length, map, slice_index_or, replicate, Option, Some, None, refl, sym, ◌∙◌, ap, subst, arith, inl, inr}
use Rattle.std.specs.List.{range_with_len}
use Rattle.std.proofs.lemmas.List.FromFn.{get_or-map-range_with_len, length-map-range_with_len}
use Rattle.std.proofs.lemmas.List.{length-replicate}
use Rattle.aps_model.specs.declared.merit.Contender.{Contender}
use Rattle.aps_model.specs.declared.state.Pick.{Pick}
use Rattle.aps_model.specs.Limits.{most_cpus, most_threads}
use Rattle.aps_model.specs.Scenario.{Scenario}
use Rattle.aps_live.specs.declared.thread.LiveThread.{LiveThread}
use Rattle.aps_live.specs.LiveState.{live_cpu_at, live_opening, live_start, no_live_thread}
use Rattle.aps_live.specs.Machine.{AreNumbered, IsMachine, Runs, row_of}
use Rattle.aps_live.proofs.Rows.{row_empty}

abbrev nobody : Option Contender
nobody = None

all_empty : (n a : ℕ) → map (λ (x : ℕ). nobody) (range_with_len a n) ≡ replicate n nobody
all_empty zero a = refl
all_empty (suc n) a = ap (λ r. nobody ∷ r) (all_empty n (a + 1))

abbrev idle : Option Pick
idle = None

nothing_in : (n c : ℕ) (pick : Pick) → slice_index_or (replicate n idle) c None ≡ Some pick → ⊥
nothing_in zero c pick e = cc
nothing_in (suc n) zero pick e = cc
nothing_in (suc n) (suc c) pick e = nothing_in n c pick e

numbered_start : (scenario : Scenario) (n : ℕ) → AreNumbered (map (live_start scenario) (range_with_len 0 n)) 0
numbered_start scenario n =
    let len = length-map-range_with_len (live_start scenario) 0 n in
    record {
      numbered = λ x inside. ap (λ (t : LiveThread). t.contender.thread) (at x (omega (arith, inside, len)));
      stamped = λ x inside. inr (ap (λ (t : LiveThread). t.contender.stamp) (at x (omega (arith, inside, len))));
      distinct = λ x y first second e.
          let a = ap (λ (t : LiveThread). t.contender.stamp) (at x (omega (arith, first, len))) in
          let b = ap (λ (t : LiveThread). t.contender.stamp) (at y (omega (arith, second, len))) in
          omega (arith, a, b, e);
    }
  where
    at : (x : ℕ) → x < n → slice_index_or (map (live_start scenario) (range_with_len 0 n)) x no_live_thread ≡ live_start scenario x
    at x inside = get_or-map-range_with_len (live_start scenario) 0 n x x no_live_thread inside (omega arith)

-- all of it, where nobody is ready
pub machine_start : (scenario : Scenario) (seats : List (Option Contender)) → length scenario.threads ≤ most_threads → scenario.shape.cpus ≤ most_cpus → seats ≡ replicate (length scenario.threads) None → IsMachine (live_opening scenario) seats
machine_start scenario seats few few_cpus is =
    let n = length scenario.threads in record {
      row = is ∙ sym (row_empty (live_start scenario) (range_with_len 0 n) (λ x. refl) ∙ all_empty n 0);
      few = omega (arith, few, length-map-range_with_len (live_start scenario) 0 n);
      few_cpus = let l = length-replicate scenario.shape.cpus idle in omega (arith, few_cpus, l);
      numbered = numbered_start scenario n;
      runs = λ c pick has. absurd (nothing_in scenario.shape.cpus c pick has);
    }
