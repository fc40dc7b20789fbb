-- Where no change stands at some ticks, rows and shape are those of the first of them.
use Rattle.std.proofs.Common.{◌≡◌, ℕ, ◌*◌, ◌/◌, ◌<◌, ◌≤◌, List, [], ◌∷◌, ◌++◌, All, refl, sym, ◌∙◌, ap, subst, append_assoc, Bool, true, false, cond, ◌||◌, nat_le, arith, inl, inr}
use Rattle.std.proofs.lemmas.Bool.{cases_lt, or_parts, le-leb, lt-leb}
use Rattle.std.proofs.lemmas.List.Elements.{All-head, All-tail, All-weaker}
use Rattle.std.proofs.lemmas.List.Folds.{list_any-append}
use Rattle.aps_model.specs.declared.command.Change.{Change}
use Rattle.aps_model.specs.declared.entry.Entry.{Entry}
use Rattle.aps_model.specs.declared.entry.Order.{Order}
use Rattle.laws_runs.specs.Grown.{AllAt}
use Rattle.laws_runs.specs.Held.{HasRowsOfTick, HoldsRows}
use Rattle.laws_runs.specs.Rows.{AreInOrder, AreRowsKept}
use Rattle.laws_runs.specs.Moments.{moment}
use Rattle.laws_runs.proofs.BoundaryLaws.{last_split, latest}
use Rattle.laws_runs.proofs.MomentLaws.{moment-append}
use Rattle.laws_runs.proofs.RowLaws.{in_order, rows_stay}
use Rattle.laws_runs.proofs.Prefixes.{by_entries, by_more, legal_up_to}
use Rattle.laws_runs.proofs.Sound.{legal_last, next_law}
use Rattle.laws_runs.proofs.StepGrown.{change_or_same}
use Rattle.laws_runs.proofs.Words.{prefix_legal}
use Rattle.aps_model.specs.After.{state_after}
use Rattle.aps_model.specs.Legal.{IsLegal}
use Rattle.aps_model.specs.Loaded.{has_change, is_among, rows_of_tick, state_of_tick, through_moment}
use Rattle.aps_model.specs.Scenario.{Scenario}
use Rattle.aps_model.specs.SchedulerState.{SchedulerState}
use Rattle.aps_model.specs.Valid.{IsScenario}

not_empty : (front : List Entry) (x : Entry) → front ++ x ∷ [] ≡ [] → ⊥
not_empty [] x k = cc
not_empty (y ∷ front) x k = cc

-- ---- the entries up to a moment

-- only the first entry that ends there or later counts
through_more : (now : ℕ) (h later : List Entry) (e : Entry) → now ≤ e.to → through_moment now (h ++ e ∷ later) ≡ through_moment now (h ++ e ∷ [])
through_more now [] later e at = ap (λ t. cond t (e ∷ []) (e ∷ through_moment now later)) (le-leb now e.to at) ∙ sym (ap (λ t. cond t (e ∷ []) (e ∷ [])) (le-leb now e.to at))
through_more now (x ∷ h) later e at = ap (λ l. cond (nat_le now x.to) (x ∷ []) (x ∷ l)) (through_more now h later e at)

through_all : (now : ℕ) (h : List Entry) (e : Entry) → All (λ (x : Entry). x.to < now) h → through_moment now (h ++ e ∷ []) ≡ h ++ e ∷ []
through_all now [] e before = by_test (nat_le now e.to)
  where
    by_test : (t : Bool) → cond t (e ∷ []) (e ∷ []) ≡ e ∷ []
    by_test true = refl
    by_test false = refl
through_all now (x ∷ h) e before =
    ap (λ t. cond t (x ∷ []) (x ∷ through_moment now (h ++ e ∷ []))) (lt-leb now x.to (All-head (λ (y : Entry). y.to < now) x h before))
    ∙ ap (λ l. x ∷ l) (through_all now h e (All-tail (λ (y : Entry). y.to < now) x h before))

-- where the moment has come, later entries don't count
through_past : (now : ℕ) (h : List Entry) (e : Entry) → (h ≡ [] → ⊥) → now ≤ moment h → through_moment now (h ++ e ∷ []) ≡ through_moment now h
through_past now h e some at = elim (last_split h) [
  | inl none ↦ absurd (some none)
  | inr more ↦
      let front = more.0 in
      let x = more.1 in
      let to : moment h ≡ x.to = ap moment more.2 ∙ moment-append front x in
      ap (λ l. through_moment now (l ++ e ∷ [])) more.2
      ∙ ap (through_moment now) (append_assoc front (x ∷ []) (e ∷ []))
      ∙ through_more now front (e ∷ []) x (omega (arith, to, at))
      ∙ ap (through_moment now) (sym more.2)
]

-- ---- changes

any_more : (a b : ℕ) (xs ys : List Change) → has_change (xs ++ ys) a b ≡ (has_change xs a b || has_change ys a b)
any_more a b xs ys = list_any-append (λ (change : Change). is_among a b change.tick) xs ys

-- changes at a tick among these are changes there
none_added : (a b j : ℕ) (more : List Change) → is_among a b j ≡ true → AllAt j more → has_change more a b ≡ false → more ≡ []
none_added a b j [] among at none = refl
none_added a b j (x ∷ more) among at none = absurd (clash (sym (ap (is_among a b) at.0 ∙ among) ∙ (or_parts (is_among a b x.tick) (has_change more a b) none').0))
  where
    clash : ◌≡◌ {A = Bool} true false → ⊥
    clash e = cc

    none' : (is_among a b x.tick || has_change more a b) ≡ false
    none' = none

-- no change of a history among these ticks is one of a prefix
pub none_before : (scenario : Scenario) (order : Order) (h later : List Entry) (a b : ℕ) → IsScenario scenario → IsLegal scenario order (h ++ later)
    → has_change (state_after scenario (h ++ later)).changes a b ≡ false → has_change (state_after scenario h).changes a b ≡ false
none_before scenario order h later a b r legal =
    by_more scenario order (λ g. has_change (state_after scenario g).changes a b ≡ false → has_change (state_after scenario h).changes a b ≡ false)
    (λ g e l m none.
    let grown = change_or_same scenario order g e r l in
    m (or_parts (has_change (state_after scenario g).changes a b) (has_change grown.more a b) (sym (any_more a b (state_after scenario g).changes grown.more) ∙ ap (λ l. has_change l a b) (sym grown.is) ∙ none)).0)
    h later legal (λ none. none)

-- ---- rows

among_from : (a b t now : ℕ) → 0 < t → a * t ≤ now → now < b * t → is_among a b (now / t) ≡ true
among_from a b t now pos from to = search (arith)

held_step : (scenario : Scenario) (order : Order) (h : List Entry) (e : Entry) (a b : ℕ) → IsScenario scenario → IsLegal scenario order (h ++ e ∷ [])
    → ((h ≡ [] → ⊥) → a * scenario.shape.tick ≤ moment h → moment h < b * scenario.shape.tick → has_change (state_after scenario h).changes a b ≡ false → HasRowsOfTick scenario h h a)
    → a * scenario.shape.tick ≤ e.to → e.to < b * scenario.shape.tick → has_change (state_after scenario (h ++ e ∷ [])).changes a b ≡ false → HasRowsOfTick scenario (h ++ e ∷ []) (h ++ e ∷ []) a
held_step scenario order h e a b r legal held from to none =
    let t = scenario.shape.tick in
    let rises = (next_law scenario order h e r legal).rises in
    let before = (legal_last scenario order h e legal).0 in
    let all = latest scenario order h r before in
    elim (cases_lt (moment h) (a * t)) [
      | inl early ↦
          first (through_all (a * t) h e (All-weaker (λ (x : Entry). x.to ≤ moment h) (λ (x : Entry). x.to < a * t) (λ x l. omega (arith, l, early)) h all))
      | inr late ↦ elim (last_split h) [
        | inl empty ↦ first (ap (λ l. through_moment (a * t) (l ++ e ∷ [])) empty ∙ through_all (a * t) [] e (λ k d below. absurd (omega (arith, below))) ∙ ap (λ l. l ++ e ∷ []) (sym empty))
        | inr more ↦
            let some : h ≡ [] → ⊥ = λ k. not_empty more.0 more.1 (sym more.2 ∙ k) in
            let grown = change_or_same scenario order h e r legal in
            let now_none = any_more a b (state_after scenario h).changes grown.more in
            let parts = or_parts (has_change (state_after scenario h).changes a b) (has_change grown.more a b) (sym now_none ∙ ap (λ l. has_change l a b) (sym grown.is) ∙ none) in
            let pos : 0 < t = let l = r.shape.tick_long in omega (arith, l) in
            let same = grown.same (none_added a b (e.to / t) grown.more (among_from a b t e.to pos from to) grown.ticks parts.1) in
            let old = held some late (omega (arith, rises, to)) parts.0 in
            let through : state_of_tick scenario (h ++ e ∷ []) a ≡ state_of_tick scenario h a = ap (state_after scenario) (through_past (a * t) h e some late) in
            (same.0 ∙ old.0 ∙ sym (ap (λ (s : SchedulerState). s.rows) through), same.1 ∙ old.1 ∙ sym (ap (λ (s : SchedulerState). s.shape) through))
      ]
    ]
  where
    first : through_moment (a * scenario.shape.tick) (h ++ e ∷ []) ≡ h ++ e ∷ [] → HasRowsOfTick scenario (h ++ e ∷ []) (h ++ e ∷ []) a
    first whole = (ap (λ l. (state_after scenario l).rows) (sym whole), ap (λ l. (state_after scenario l).shape) (sym whole))

pub held : (scenario : Scenario) (order : Order) (h : List Entry) (a b : ℕ) → IsScenario scenario → IsLegal scenario order h
    → (h ≡ [] → ⊥) → a * scenario.shape.tick ≤ moment h → moment h < b * scenario.shape.tick → has_change (state_after scenario h).changes a b ≡ false → HasRowsOfTick scenario h h a
held scenario order h a b r legal =
    by_entries scenario order
    (λ g. (g ≡ [] → ⊥) → a * scenario.shape.tick ≤ moment g → moment g < b * scenario.shape.tick → has_change (state_after scenario g).changes a b ≡ false → HasRowsOfTick scenario g g a)
    (λ g e l m some from to none.
    let now = moment-append g e in
    held_step scenario order g e a b r l m (omega (arith, from, now)) (omega (arith, to, now)) none)
    h legal (λ some. absurd (some refl))

pub rows_held : (scenario : Scenario) (order : Order) (h : List Entry) (a b : ℕ) → IsScenario scenario → IsLegal scenario order h → has_change (state_after scenario h).changes a b ≡ false → HoldsRows scenario h a b
rows_held scenario order h a b r legal none = λ before later e split from to.
    let t = scenario.shape.tick in
    let whole : IsLegal scenario order (before ++ e ∷ later) = subst (IsLegal scenario order) split legal in
    let front = legal_up_to scenario order before later e whole in
    let cut : before ++ e ∷ later ≡ (before ++ e ∷ []) ++ later = sym (append_assoc before (e ∷ []) later) in
    let none' = none_before scenario order (before ++ e ∷ []) later a b r (subst (IsLegal scenario order) cut whole) (ap (λ l. has_change (state_after scenario l).changes a b) (sym (split ∙ cut)) ∙ none) in
    let now = moment-append before e in
    let m = held scenario order (before ++ e ∷ []) a b r front (not_empty before e) (omega (arith, from, now)) (omega (arith, to, now)) none' in
    let same : state_of_tick scenario (before ++ e ∷ []) a ≡ state_of_tick scenario h a =
    ap (state_after scenario) (sym (ap (through_moment (a * t)) split ∙ through_more (a * t) before later e from)) in
    (m.0 ∙ ap (λ (s : SchedulerState). s.rows) same, m.1 ∙ ap (λ (s : SchedulerState). s.shape) same)

-- ---- the rows of a tick

-- the entries up to a moment are a prefix
through_split : (now : ℕ) (h : List Entry) → (rest : List Entry) × (h ≡ through_moment now h ++ rest)
through_split now [] = ([], refl)
through_split now (x ∷ h) = by_test (nat_le now x.to) (through_split now h)
  where
    by_test : (t : Bool) → (rest : List Entry) × (h ≡ through_moment now h ++ rest) → (rest : List Entry) × (x ∷ h ≡ cond t (x ∷ []) (x ∷ through_moment now h) ++ rest)
    by_test true m = (h, refl)
    by_test false m = (m.0, ap (λ l. x ∷ l) m.1)

pub tick_in_order : (scenario : Scenario) (order : Order) (h : List Entry) (a : ℕ) → IsScenario scenario → IsLegal scenario order h → AreInOrder scenario (state_of_tick scenario h a)
tick_in_order scenario order h a r legal =
    let now = a * scenario.shape.tick in
    let split = through_split now h in
    in_order scenario order (through_moment now h) r (prefix_legal scenario order (through_moment now h) split.0 (subst (IsLegal scenario order) split.1 legal))

pub tick_kept : (scenario : Scenario) (order : Order) (h : List Entry) (a : ℕ) → IsScenario scenario → IsLegal scenario order h → AreRowsKept (rows_of_tick scenario h a) (state_after scenario h).rows
tick_kept scenario order h a r legal =
    let now = a * scenario.shape.tick in
    let split = through_split now h in
    subst (λ g. AreRowsKept (rows_of_tick scenario h a) (state_after scenario g).rows) (sym split.1)
    (rows_stay scenario order (through_moment now h) split.0 r (subst (IsLegal scenario order) split.1 legal))
