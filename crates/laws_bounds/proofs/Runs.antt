-- The pick that an entry runs.
use Rattle.std.proofs.Common.{◌≡◌, ℕ, ◌<◌, ◌≤◌, List, [], ◌∷◌, ◌++◌, length, refl, sym, ◌∙◌, ap, subst, append_assoc, Bool, true, Option, Some, None, arith, inl, inr}
use Rattle.std.specs.Prelude.{unwrap_or}
use Rattle.aps_model.specs.declared.entry.Entry.{Entry}
use Rattle.aps_model.specs.declared.entry.Order.{Order}
use Rattle.aps_model.specs.declared.state.Pick.{Pick}
use Rattle.aps_model.specs.After.{state_after}
use Rattle.aps_model.specs.Due.{next_boundary}
use Rattle.aps_model.specs.Legal.{IsLegal}
use Rattle.aps_model.specs.Scenario.{Scenario}
use Rattle.aps_model.specs.SchedulerState.{SchedulerState, cpu_at}
use Rattle.aps_model.specs.Usage.{overlap}
use Rattle.aps_model.specs.Valid.{IsScenario}
use Rattle.laws_runs.specs.Window.{bill_with_mark, kept_if, pair_kept}
use Rattle.laws_runs.proofs.IdsLaw.{in_range}
use Rattle.laws_runs.proofs.Sound.{legal_last, next_law, sound}
use Rattle.laws_runs.proofs.Words.{up_to}
use Rattle.laws_bounds.specs.Lanes.{in_window}
use Rattle.laws_bounds.proofs.Debts.{began}
use Rattle.laws_bounds.proofs.LastPick.{IsLastOf, last_of}
use Rattle.laws_bounds.proofs.Marked.{Along, BillsLast, along_at, walks_marked}
use Rattle.laws_bounds.proofs.MarkedSums.{is_unfunded}
use Rattle.laws_runs.proofs.Windows.{walks}
use Rattle.laws_bounds.proofs.Inside.{inside_window}
use Rattle.laws_bounds.proofs.Spans.{IsSpan}
use Rattle.laws_bounds.proofs.Times.{IsKnown}

-- the entry runs what its processor picked in ticks a to b-1
pub record RunsPick (scenario : Scenario) (tick a b : ℕ) (h before later : List Entry) (e : Entry) : Type 0 where
  pub last : IsLastOf scenario before e.cpu
  pub split : h ≡ last.before ++ last.e ∷ (last.later ++ e ∷ later)
  pub inside : in_window tick a b last.e.to ≡ true

pub kept_pick : (o : Option ℕ) (running : Option Pick) (k : ℕ × Bool) → kept_if o (pair_kept running) ≡ Some k → (p : Pick) × (running ≡ Some p) × (p.partition ≡ k.0) × (p.critical ≡ k.1)
kept_pick None running k is = absurd cc
kept_pick (Some x) None k is = absurd cc
kept_pick (Some x) (Some p) k is =
    let pair : (p.partition, p.critical) ≡ k = some_same (p.partition, p.critical) k is in
    (p, refl, ap (λ (k : ℕ × Bool). k.0) pair, ap (λ (k : ℕ × Bool). k.1) pair)
  where
    some_same : (k l : ℕ × Bool) → Some k ≡ Some l → k ≡ l
    some_same k l e = cc

module _ (scenario : Scenario) (order : Order) (h : List Entry) (r : IsScenario scenario) (legal : IsLegal scenario order h) (a b : ℕ) where
  -- an entry that reaches into ticks a to b-1 runs what was picked in them
  pub runs_pick : (before later : List Entry) (e : Entry) → h ≡ before ++ e ∷ later → 0 < overlap scenario.shape.tick a b e.from e.to
      → RunsPick scenario scenario.shape.tick a b h before later e
  runs_pick before later e same some =
      let tick : ℕ = scenario.shape.tick in
      let front = up_to scenario order h before later e same legal in
      let next = next_law scenario order before e r front in
      let sizes = (sound scenario order r before (legal_last scenario order before e front).0).grounded.sizes in
      let pos : 0 < tick = let l = r.shape.tick_long in omega (arith, l) in
      let reached = began tick a b e.from e.to pos (subst (λ n. e.to ≤ next_boundary n e.from) sizes.tick next.short) some in
      elim (last_of scenario before e.cpu) [
        | inl none ↦ absurd (never_first e.from e.to (next.opens none) some)
        | inr last ↦
            let from : e.from ≡ last.e.to = next.joins ∙ ap (λ o. unwrap_or o 0) last.to in
            record {
              last = last;
              split = same ∙ ap (λ g. g ++ e ∷ later) last.same ∙ append_assoc last.before (last.e ∷ last.later) (e ∷ later);
              inside = subst (λ n. in_window tick a b n ≡ true) from (inside_window tick a b e.from reached.0 reached.1);
            }
      ]
    where
      never_first : (from to : ℕ) → to ≡ 0 → 0 < overlap scenario.shape.tick a b from to → ⊥
      never_first from to is some = omega arith

  -- each entry bills what its processor's last pick fixed
  pub bills_last : (before later : List Entry) (e : Entry) → h ≡ before ++ e ∷ later → BillsLast scenario before e
  bills_last before later e same =
      let walk = walks_marked is_unfunded scenario scenario.shape.tick h (walks scenario order h r legal).0 in
      along_at (BillsLast scenario) [] before later e (subst (Along (BillsLast scenario) []) same walk.1)

  -- what an entry that reaches into a span bills is one of its rows
  pub bills_known : (s : SchedulerState) → IsSpan scenario h a b s → (before later : List Entry) (e : Entry) → h ≡ before ++ e ∷ later
      → 0 < overlap s.shape.tick a b e.from e.to → IsKnown (length s.rows) (bill_with_mark e)
  bills_known s w before later e same some k is =
      let runs = runs_pick before later e same (subst (λ n. 0 < overlap n a b e.from e.to) w.sizes.tick some) in
      let last = runs.last in
      let t = state_after scenario (last.before ++ last.e ∷ []) in
      let found = kept_pick last.e.picked (cpu_at t last.e.cpu).running k (sym last.keeps ∙ sym (bills_last before later e same) ∙ is) in
      let inside = subst (λ n. in_window n a b last.e.to ≡ true) (sym w.sizes.tick) runs.inside in
      let held = w.holds last.before (last.later ++ e ∷ later) last.e runs.split inside in
      let front = up_to scenario order h last.before (last.later ++ e ∷ later) last.e runs.split legal in
      let fit = (in_range scenario order (last.before ++ last.e ∷ []) r front).kept last.e.cpu found.0 found.1 in
      subst (λ n. n < length s.rows) found.2 (subst (λ rows. found.0.partition < length rows) held.0 fit.partition)
