-- What the numbers of an audit inherit from the bound.
use Rattle.std.proofs.Common.{◌≡◌, ℕ, zero, suc, ◌+◌, ◌-◌, ◌*◌, ◌/◌, ◌<◌, ◌≤◌, List, [], ◌∷◌, length, refl, sym, ◌∙◌, ap, subst, Bool, true, false, cond, ◌&&◌, ◌||◌, nat_eq, nat_le, nat_lt, Option, Some, None, min, arith, ◌⊎◌, inl, inr}
use Rattle.std.specs.Prelude.{IfSome, unwrap_or}
use Rattle.std.specs.List.{Contains, fold, list_any, range_with_len}
use Rattle.std.proofs.lemmas.List.FromFn.{get_or-range_with_len, length-range_with_len}
use Rattle.std.proofs.lemmas.Bool.{cases_lt}
use Rattle.std.proofs.lemmas.Bool.Decides.{nat_tests}
use Rattle.std.proofs.Math.Nat.{mul-le-mul_left, mul-add, mul_comm, le-div_iff_mul-le}
use Rattle.aps_model.specs.declared.audit.Worst.{Worst}
use Rattle.aps_model.specs.declared.command.Change.{Change}
use Rattle.aps_model.specs.declared.entry.Entry.{Entry}
use Rattle.aps_model.specs.declared.entry.Order.{Order}
use Rattle.aps_model.specs.declared.partition.PartitionRow.{PartitionRow}
use Rattle.aps_model.specs.declared.shape.Shape.{Shape}
use Rattle.aps_model.specs.After.{state_after}
use Rattle.aps_model.specs.Audit.{audit_of, critical_over_from, over_from, worse, worst_of}
use Rattle.aps_model.specs.Bound.{IsWithinBudget, IsWithinCritical, slack}
use Rattle.aps_model.specs.Due.{last_end, last_to}
use Rattle.aps_model.specs.History.{Rooms}
use Rattle.aps_model.specs.Legal.{IsLegal}
use Rattle.aps_model.specs.Limits.{shortest_tick}
use Rattle.aps_model.specs.Loaded.{finished_ticks, has_change, is_among, is_steady, loaded_tick, state_of_tick}
use Rattle.aps_model.specs.Partition.{row_or_none}
use Rattle.aps_model.specs.Recorded.{recorded}
use Rattle.aps_model.specs.Scenario.{Scenario}
use Rattle.aps_model.specs.Shape.{IsShape, whole}
use Rattle.aps_model.specs.Usage.{critical_used, used}
use Rattle.aps_model.specs.Valid.{IsScenario}
use Rattle.laws_runs.specs.Moments.{moment}
use Rattle.laws_runs.specs.Sizes.{IsSameSizes}
use Rattle.laws_runs.proofs.BoundaryLaws.{last_split}
use Rattle.laws_runs.proofs.HeldRows.{rows_held}
use Rattle.laws_runs.proofs.MomentLaws.{moment-append}
use Rattle.laws_runs.proofs.RowLaws.{in_order}
use Rattle.laws_runs.proofs.Sound.{sound}
use Rattle.laws_bounds.specs.Loaded.{IsLoaded, IsSettled, IsUncritical, KeepsLast}
use Rattle.laws_bounds.proofs.Finished.{finished_end}
use Rattle.laws_bounds.proofs.BoundLaws.{critical_bound, window_bound}
use Rattle.laws_bounds.proofs.SteadyTicks.{loaded_steady, steady_part, steady_parts}

-- ---- rows and shape from a tick on

-- the rows and the shape of a tick from which on no change stands are the last ones
last_rows : (scenario : Scenario) (order : Order) (h : List Entry) (a : ℕ) → IsScenario scenario → IsLegal scenario order h → ((b : ℕ) → has_change (state_after scenario h).changes a b ≡ false)
    → a * scenario.shape.tick ≤ moment h
    → ((state_after scenario h).rows ≡ (state_of_tick scenario h a).rows) × ((state_after scenario h).shape ≡ (state_of_tick scenario h a).shape)
last_rows scenario order h a r legal none reached = elim (last_split h) [
  | inl empty ↦
      subst (λ (g : List Entry). ((state_after scenario g).rows ≡ (state_of_tick scenario g a).rows) × ((state_after scenario g).shape ≡ (state_of_tick scenario g a).shape)) (sym empty) (refl, refl)
  | inr more ↦
      let front = more.0 in
      let e = more.1 in
      let to : moment h ≡ e.to = ap moment more.2 ∙ moment-append front e in
      let held = rows_held scenario order h a (e.to + 1) r legal (none (e.to + 1)) front [] e more.2 (omega (arith, reached, to)) (tick_after scenario.shape.tick e.to r.shape.tick_long) in
      (ap (λ g. (state_after scenario g).rows) more.2 ∙ held.0, ap (λ g. (state_after scenario g).shape) more.2 ∙ held.1)
]
  where
    tick_after : (tick n : ℕ) → shortest_tick ≤ tick → n < (n + 1) * tick
    tick_after tick n long =
        let some : 1 ≤ tick = omega arith in
        omega (arith, mul-le-mul_left (n + 1) some)

-- ---- changes

none_either : (p q t : Change → Bool) → ((x : Change) → t x ≡ true → (p x ≡ true) ⊎ (q x ≡ true)) → (xs : List Change) → list_any p xs ≡ false → list_any q xs ≡ false → list_any t xs ≡ false
none_either p q t either [] one two = refl
none_either p q t either (x ∷ xs) one two = by_tests (p x) (q x) (t x) refl refl refl one two (none_either p q t either xs)
  where
    clash : false ≡ true → ⊥
    clash e = cc

    by_tests : (a b c : Bool) → p x ≡ a → q x ≡ b → t x ≡ c → (a || list_any p xs) ≡ false → (b || list_any q xs) ≡ false
        → (list_any p xs ≡ false → list_any q xs ≡ false → list_any t xs ≡ false) → (c || list_any t xs) ≡ false
    by_tests true b c i j k one two later = absurd cc
    by_tests false true c i j k one two later = absurd cc
    by_tests false false false i j k one two later = later one two
    by_tests false false true i j k one two later = elim (either x k) [
      | inl here ↦ absurd (clash (sym i ∙ here))
      | inr here ↦ absurd (clash (sym j ∙ here))
    ]

-- in steady ticks and after them, no change stands
none_from : (changes : List Change) (s c a b : ℕ) → s ≤ a → has_change changes s c ≡ false → list_any (λ (change : Change). nat_le c change.tick) changes ≡ false → has_change changes a b ≡ false
none_from changes s c a b low steady settled =
    none_either (λ (change : Change). is_among s c change.tick) (λ (change : Change). nat_le c change.tick) (λ (change : Change). is_among a b change.tick) (λ change. either change.tick) changes steady settled
  where
    from_test : (j : ℕ) (one two : Bool) → nat_le a j ≡ one → (one && two) ≡ true → a ≤ j
    from_test j true two is e = grind (arith, nat_tests)
    from_test j false two is e = absurd cc

    either : (j : ℕ) → is_among a b j ≡ true → (is_among s c j ≡ true) ⊎ (nat_le c j ≡ true)
    either j among =
        let from : a ≤ j = from_test j (nat_le a j) (nat_lt j b) refl among in
        elim (cases_lt j c) [
          | inl before ↦ inl (grind (arith, nat_tests))
          | inr after' ↦ inr (grind (arith, nat_tests))
        ]

-- ---- the loaded windows

pub in_range : (s n a : ℕ) → s ≤ a → a < s + n → Contains (range_with_len s n) a
in_range s n a from below =
    let inside : a - s < n = omega (arith, from, below) in
    let there : s + (a - s) ≡ a = omega (arith, from) in
    (a - s, rw (length-range_with_len s n) inside, get_or-range_with_len s n (a - s) a inside ∙ there)

-- a window among these begins at the first tick or later, and is finished
record IsBetween (s count w a : ℕ) : Type 0 where
  from : s ≤ a
  finished : a + w ≤ count

range_between : (s count w a : ℕ) → Contains (range_with_len s (count + 1 - (s + w))) a → IsBetween s count w a
range_between s count w a (k, inside, is) =
    let below : k < count + 1 - (s + w) = rw (← length-range_with_len s (count + 1 - (s + w))) inside in
    let at : s + k ≡ a = sym (get_or-range_with_len s (count + 1 - (s + w)) k a below) ∙ is in
    record { from = omega (arith, at); finished = omega (arith, at, below) }

finished_same : (x y : Shape) (h : List Entry) → IsSameSizes x y → finished_ticks y h ≡ finished_ticks x h
finished_same x y h sizes =
    ap (λ n. fold (λ least c. min least (last_end h c)) (last_end h 0) (range_with_len 0 n) / y.tick) sizes.cpus
    ∙ ap (λ t. fold (λ least c. min least (last_end h c)) (last_end h 0) (range_with_len 0 x.cpus) / t) sizes.tick

last_end_before : (scenario : Scenario) (order : Order) (h : List Entry) → IsScenario scenario → IsLegal scenario order h → last_end h 0 ≤ moment h
last_end_before scenario order h r legal = by_last (last_to h 0) refl
  where
    by_last : (o : Option ℕ) → last_to h 0 ≡ o → unwrap_or o 0 ≤ moment h
    by_last None is = omega arith
    by_last (Some z) is = (sound scenario order r h legal).timely.behind 0 z is

within_budget : (x y : Shape) (p q : List PartitionRow) (h : List Entry) (a k : ℕ) → y ≡ x → q ≡ p → IsWithinBudget x p h a k → IsWithinBudget y q h a k
within_budget x y p q h a k shape rows m = subst (λ z. IsWithinBudget z q h a k) (sym shape) (subst (λ rs. IsWithinBudget x rs h a k) (sym rows) m)

within_critical : (x y : Shape) (p q : List PartitionRow) (h : List Entry) (a k : ℕ) → y ≡ x → q ≡ p → IsWithinCritical x p h a k → IsWithinCritical y q h a k
within_critical x y p q h a k shape rows m = subst (λ z. IsWithinCritical z q h a k) (sym shape) (subst (λ rs. IsWithinCritical x rs h a k) (sym rows) m)

-- ---- the greatest amount

-- the greatest of amounts that are at most so much is at most that
abbrev IsSmall : ℕ → Option Worst → Type 0
IsSmall k found = IfSome found (λ (w : Worst). w.amount ≤ k)

worse_small : (k : ℕ) (best : Option Worst) (one : Worst) → IsSmall k best → one.amount ≤ k → IsSmall k (worse best one)
worse_small k None one small own = own
worse_small k (Some best) one small own = by_test (nat_lt best.amount one.amount)
  where
    by_test : (t : Bool) → (cond t one best).amount ≤ k
    by_test true = own
    by_test false = small

rows_small : (amount : ℕ → ℕ → ℕ) (a k i n : ℕ) (found : Option Worst) → IsSmall k found → ((p : ℕ) → p < i + n → amount a p ≤ k)
    → IsSmall k (fold (λ best p. worse best (record { amount = amount a p; partition = p; window = a })) found (range_with_len i n))
rows_small amount a k i zero found small each = small
rows_small amount a k i (suc n) found small each =
    rows_small amount a k (i + 1) n (worse found (record { amount = amount a i; partition = i; window = a }))
    (worse_small k found (record { amount = amount a i; partition = i; window = a }) small (each i (omega arith))) (λ p inside. each p (omega arith))

windows_small : (amount : ℕ → ℕ → ℕ) (s n rows k : ℕ) (found : Option Worst) → IsSmall k found → ((a p : ℕ) → s ≤ a → a < s + n → p < rows → amount a p ≤ k)
    → IsSmall k (fold (λ found a. fold (λ best p. worse best (record { amount = amount a p; partition = p; window = a })) found (range_with_len 0 rows)) found (range_with_len s n))
windows_small amount s zero rows k found small each = small
windows_small amount s (suc n) rows k found small each =
    windows_small amount (s + 1) n rows k (fold (λ best p. worse best (record { amount = amount s p; partition = p; window = s })) found (range_with_len 0 rows))
    (rows_small amount s k 0 rows found small (λ p inside. each s p (omega arith) (omega arith) (omega (arith, inside))))
    (λ a p from below inside. each a p (omega (arith, from)) (omega (arith, below)) inside)

worst_small : (amount : ℕ → ℕ → ℕ) (s n rows k : ℕ) → ((a p : ℕ) → s ≤ a → a < s + n → p < rows → amount a p ≤ k) → IsSmall k (worst_of amount (range_with_len s n) rows)
worst_small amount s n rows k each = windows_small amount s n rows k None tt each

-- ---- by how much a budget is exceeded

parts_pos : (x : Shape) → IsShape x → 0 < x.parts
parts_pos x m = elim m.parts [
  | inl is ↦ omega (arith, is)
  | inr is ↦ omega (arith, is)
]

slack_small : (x : Shape) (rows : List PartitionRow) (h : List Entry) (a p : ℕ) → critical_used x.tick h p a (a + x.window) ≡ 0 → slack x rows h a p ≤ x.cpus * x.tick
slack_small x rows h a p none = by_test (nat_eq (row_or_none rows p).budget 0)
  where
    by_test : (t : Bool) → critical_used x.tick h p a (a + x.window) + cond t 0 (x.cpus * x.tick) ≤ x.cpus * x.tick
    by_test true = omega (arith, none)
    by_test false = omega (arith, none)

over_allowance : (parts limit spent slack k : ℕ) → 0 < parts → parts * spent ≤ limit + parts * slack → slack ≤ k → spent - limit / parts ≤ k
over_allowance parts limit spent slack k pos above small = elim (cases_lt spent k) [
  | inl less ↦ omega (arith, less)
  | inr more ↦
      let rest : ℕ = spent - k in
      let whole' : parts * rest + parts * k ≡ parts * spent = sym (mul-add parts rest k) ∙ ap (λ n. parts * n) (omega (arith, more)) in
      let part : parts * rest ≤ limit = omega (arith, whole', above, mul-le-mul_left parts small) in
      let part' : rest * parts ≤ limit = subst (λ n. n ≤ limit) (mul_comm parts rest) part in
      let share : rest ≤ limit / parts = (le-div_iff_mul-le pos).1 part' in
      omega (arith, share)
]

-- ---- of a legal history

module _ (scenario : Scenario) (order : Order) (h : List Entry) (limit : ℕ) (rooms : Rooms) (r : IsScenario scenario) (legal : IsLegal scenario order h) (settled : IsSettled (recorded scenario limit rooms h)) where
  pub loaded_keeps : (a : ℕ) → IsLoaded (recorded scenario limit rooms h) a → KeepsLast (recorded scenario limit rooms h) a
  loaded_keeps a loaded_window =
      let last = state_after scenario h in
      let m = range_between (loaded_tick last.shape h last.changes) (finished_ticks last.shape h) last.shape.window a loaded_window in
      let s = state_of_tick scenario h a in
      let sizes = (in_order scenario order h r legal).sizes in
      let count = finished_ticks last.shape h in
      let counts : count ≡ finished_ticks scenario.shape h = finished_same scenario.shape last.shape h sizes in
      let ends : a + last.shape.window ≤ finished_ticks scenario.shape h = subst (λ n. a + last.shape.window ≤ n) counts m.finished in
      let loaded = loaded_steady last.shape h last.changes in
      let none : (b : ℕ) → has_change last.changes a b ≡ false = λ b.
      none_from last.changes (loaded_tick last.shape h last.changes) count a b m.from (steady_parts last.shape.tick h last.changes (loaded_tick last.shape h last.changes) count loaded).0 settled in
      let some : a ≤ finished_ticks scenario.shape h = omega (arith, ends) in
      let reached = finished_end scenario.shape h a 0 some r.shape.some_cpu in
      let held = last_rows scenario order h a r legal none (omega (arith, reached, last_end_before scenario order h r legal)) in
      let finished : a + s.shape.window ≤ finished_ticks scenario.shape h = subst (λ (z : Shape). a + z.window ≤ finished_ticks scenario.shape h) held.1 ends in
      let steady : is_steady scenario.shape.tick h last.changes a (a + s.shape.window) ≡ true =
      subst (λ (z : Shape). is_steady scenario.shape.tick h last.changes a (a + z.window) ≡ true) held.1
      (subst (λ t. is_steady t h last.changes a (a + last.shape.window) ≡ true) sizes.tick
      (steady_part last.shape.tick h last.changes a (a + last.shape.window) (loaded_tick last.shape h last.changes) count m.from m.finished loaded)) in
      record {
        budget = λ p inside. within_budget s.shape last.shape s.rows last.rows h a p held.1 held.0
            (window_bound scenario order h r legal a p finished steady (subst (λ (rs : List PartitionRow). p < length rs) held.0 inside));
        critical = λ p inside. within_critical s.shape last.shape s.rows last.rows h a p held.1 held.0
            (critical_bound scenario order h r legal a p finished (steady_parts scenario.shape.tick h last.changes a (a + s.shape.window) steady).0 (subst (λ (rs : List PartitionRow). p < length rs) held.0 inside));
      }

  -- ---- the numbers

  pub critical_small : IfSome (audit_of (recorded scenario limit rooms h)).critical_worst (λ (w : Worst). w.amount ≤ (recorded scenario limit rooms h).shape.cpus * (recorded scenario limit rooms h).shape.tick)
  critical_small =
      let last = state_after scenario h in
      worst_small (critical_over_from (recorded scenario limit rooms h)) (loaded_tick last.shape h last.changes) _ (length last.rows) (last.shape.cpus * last.shape.tick)
      (λ a p from below inside.
      let m = (loaded_keeps a (in_range (loaded_tick last.shape h last.changes) _ a from below)).critical p inside in
      let above = m.above in
      omega (arith, above))

  pub over_small : IsUncritical (recorded scenario limit rooms h)
      → IfSome (audit_of (recorded scenario limit rooms h)).worst_over (λ (w : Worst). w.amount ≤ (recorded scenario limit rooms h).shape.cpus * (recorded scenario limit rooms h).shape.tick)
  over_small uncritical =
      let last = state_after scenario h in
      let x = last.shape in
      worst_small (over_from (recorded scenario limit rooms h)) (loaded_tick x h last.changes) _ (length last.rows) (x.cpus * x.tick)
      (λ a p from below inside.
      let loaded = in_range (loaded_tick x h last.changes) _ a from below in
      let m = (loaded_keeps a loaded).budget p inside in
      over_allowance x.parts ((row_or_none last.rows p).budget * whole x) (used x.tick h p a (a + x.window)) (slack x last.rows h a p) (x.cpus * x.tick)
      (parts_pos x (in_order scenario order h r legal).shape) m.above (slack_small x last.rows h a p (uncritical a p loaded inside)))
