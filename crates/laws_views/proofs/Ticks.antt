-- Where no change stands in some ticks, the rows and the shape of the last of them are those of the first.
use Rattle.std.proofs.Common.{◌≡◌, ℕ, ◌+◌, ◌*◌, ◌<◌, ◌≤◌, List, [], ◌∷◌, ◌++◌, refl, sym, ◌∙◌, ap, subst, Bool, true, false, cond, ◌||◌, ◌&&◌, nat_eq, nat_le, Option, Some, None, arith}
use Rattle.std.specs.Prelude.{unwrap_or}
use Rattle.std.proofs.Math.Nat.{mul-le-mul_right}
use Rattle.std.specs.List.{AllByRecursion}
use Rattle.std.proofs.lemmas.Bool.{and_parts, eqb-true, le-leb, leb-true}
use Rattle.std.proofs.lemmas.List.Elements.{recursion_from_All}
use Rattle.aps_model.specs.declared.entry.Entry.{Entry}
use Rattle.aps_model.specs.declared.entry.Order.{Order}
use Rattle.aps_model.specs.After.{state_after}
use Rattle.aps_model.specs.Due.{last_end, last_to}
use Rattle.aps_model.specs.Legal.{IsLegal}
use Rattle.aps_model.specs.Loaded.{finished_ticks, has_change, state_of_tick, through_moment}
use Rattle.aps_model.specs.Scenario.{Scenario}
use Rattle.aps_model.specs.SchedulerState.{SchedulerState}
use Rattle.aps_model.specs.Valid.{IsScenario}
use Rattle.laws_runs.specs.Boundaries.{steps_at}
use Rattle.laws_runs.proofs.BoundaryLaws.{boundaries, latest}
use Rattle.laws_runs.proofs.HeldRows.{rows_held}
use Rattle.laws_runs.proofs.Sound.{legal_last, next_law, sound}
use Rattle.laws_runs.proofs.Words.{up_to}
use Rattle.laws_bounds.proofs.Finished.{finished_end}

-- ---- an entry that ends at a moment

record EndsAt (m : ℕ) (h : List Entry) : Type 0 where
  before : List Entry
  later : List Entry
  e : Entry
  same : h ≡ before ++ e ∷ later
  to : e.to ≡ m

ends_first : (m : ℕ) (x : Entry) (h : List Entry) (b : Bool) → (nat_eq x.cpu 0 && nat_eq x.to m) ≡ b → (steps_at h 0 m ≡ true → EndsAt m h) → (b || steps_at h 0 m) ≡ true → EndsAt m (x ∷ h)
ends_first m x h true is later any =
    record { before = []; later = h; e = x; same = refl; to = eqb-true x.to m (and_parts (nat_eq x.cpu 0) (nat_eq x.to m) is).1 }
ends_first m x h false is later any =
    let found = later any in
    record { before = x ∷ found.before; later = found.later; e = found.e; same = ap (λ l. x ∷ l) found.same; to = found.to }

ends_at : (m : ℕ) (h : List Entry) → steps_at h 0 m ≡ true → EndsAt m h
ends_at m [] any = absurd cc
ends_at m (x ∷ h) any = ends_first m x h (nat_eq x.cpu 0 && nat_eq x.to m) refl (ends_at m h) any

-- ---- the first that does

record Reaches (m : ℕ) (h : List Entry) : Type 0 where
  before : List Entry
  later : List Entry
  e : Entry
  same : h ≡ before ++ e ∷ later
  through : through_moment m h ≡ before ++ e ∷ []
  to : e.to ≡ m

reaches_first : (m : ℕ) (x : Entry) (h : List Entry) (b : Bool) → nat_le m x.to ≡ b → x.to ≤ m → Reaches m h → Reaches m (x ∷ h)
reaches_first m x h true is early rest =
    let at = leb-true m x.to is in
    record {
      before = [];
      later = h;
      e = x;
      same = refl;
      through = ap (λ t. cond t (x ∷ []) (x ∷ through_moment m h)) is;
      to = omega (arith, early, at);
    }
reaches_first m x h false is early rest = record {
  before = x ∷ rest.before;
  later = rest.later;
  e = rest.e;
  same = ap (λ l. x ∷ l) rest.same;
  through = ap (λ t. cond t (x ∷ []) (x ∷ through_moment m h)) is ∙ ap (λ l. x ∷ l) rest.through;
  to = rest.to;
}

reaches : (m : ℕ) (h more : List Entry) (e : Entry) → AllByRecursion (λ (x : Entry). x.to ≤ m) h → e.to ≡ m → Reaches m (h ++ e ∷ more)
reaches m [] more e all at = record {
  before = [];
  later = more;
  e = e;
  same = refl;
  through = ap (λ t. cond t (e ∷ []) (e ∷ through_moment m more)) (le-leb m e.to (omega (arith, at)));
  to = at;
}
reaches m (x ∷ h) more e all at = reaches_first m x (h ++ e ∷ more) (nat_le m x.to) refl all.0 (reaches m h more e all.1 at)

-- ---- the first entry of a tick

module _ (scenario : Scenario) (order : Order) (h : List Entry) (r : IsScenario scenario) (legal : IsLegal scenario order h) (j : ℕ) (finished : j < finished_ticks scenario.shape h) where
  abbrev tick : ℕ
  tick = scenario.shape.tick

  exists : 0 < scenario.shape.cpus
  exists = let cpu = r.shape.some_cpu in omega (arith, cpu)

  stepped : (o : Option ℕ) → last_to h 0 ≡ o → steps_at h 0 (j * tick) ≡ true
  stepped None is =
      let end : last_end h 0 ≡ 0 = ap (λ o. unwrap_or o 0) is in
      let past = finished_end scenario.shape h 1 0 (omega (arith, finished)) exists in
      let long = r.shape.tick_long in
      absurd (omega (arith, end, past, long))
  stepped (Some z) is =
      let end : last_end h 0 ≡ z = ap (λ o. unwrap_or o 0) is in
      let past = finished_end scenario.shape h j 0 (omega (arith, finished)) exists in
      let same = (sound scenario order r h legal).grounded.sizes.tick in
      subst (λ n. steps_at h 0 (j * n) ≡ true) same ((boundaries scenario order h r legal).own 0 j z is (subst (λ n. j * n ≤ z) (sym same) (omega (arith, end, past))))

  first_entry : Reaches (j * tick) h
  first_entry =
      let found = ends_at (j * tick) h (stepped (last_to h 0) refl) in
      let front = up_to scenario order h found.before found.later found.e found.same legal in
      let before = (legal_last scenario order found.before found.e front).0 in
      let rises = (next_law scenario order found.before found.e r front).rises in
      let all = latest scenario order found.before r before in
      let to = found.to in
      subst (Reaches (j * tick)) (sym found.same)
      (reaches (j * tick) found.before found.later found.e
      (recursion_from_All (λ (x : Entry). x.to ≤ j * tick) found.before (λ k d less. let at = all k d less in omega (arith, at, rises, to))) to)

  -- the tick has the rows and the shape of an earlier one, with no change at either or in between
  pub tick_held : (a : ℕ) → a ≤ j → has_change (state_after scenario h).changes a (j + 1) ≡ false
      → ((state_of_tick scenario h j).rows ≡ (state_of_tick scenario h a).rows) × ((state_of_tick scenario h j).shape ≡ (state_of_tick scenario h a).shape)
  tick_held a up none =
      let found = first_entry in
      let long = r.shape.tick_long in
      let to = found.to in
      let low : a * tick ≤ found.e.to = subst (λ n. a * tick ≤ n) (sym to) (mul-le-mul_right tick up) in
      let high : found.e.to < (j + 1) * tick = subst (λ n. n < (j + 1) * tick) (sym to) (omega (arith, long)) in
      let held = rows_held scenario order h a (j + 1) r legal none found.before found.later found.e found.same low high in
      let through = ap (state_after scenario) found.through in
      (ap (λ (s : SchedulerState). s.rows) through ∙ held.0, ap (λ (s : SchedulerState). s.shape) through ∙ held.1)
