-- What stands at the test of bankruptcy.
use Rattle.std.proofs.Common.{◌≡◌, ℕ, ◌/◌, ◌%◌, ◌<◌, ◌≤◌, List, [], ◌∷◌, ◌++◌, refl, sym, ◌∙◌, ap, subst, Bool, true, false, not, ◌&&◌, cond, nat_eq, nat_lt, Option, Some, None, inl, inr, arith}
use Rattle.std.specs.Option.{option_map}
use Rattle.std.proofs.lemmas.Bool.{lt-ltb, ltb-true}
use Rattle.std.proofs.lemmas.Bool.Decides.{nat_tests}
use Rattle.aps_model.specs.declared.entry.Entry.{Entry}
use Rattle.aps_model.specs.declared.entry.Order.{Order}
use Rattle.aps_model.specs.declared.shape.Shape.{Shape}
use Rattle.aps_model.specs.declared.state.Pick.{Pick}
use Rattle.aps_model.specs.After.{After, state_after}
use Rattle.aps_model.specs.Due.{due}
use Rattle.aps_model.specs.Legal.{IsLegal}
use Rattle.aps_model.specs.Scenario.{Scenario}
use Rattle.aps_model.specs.SchedulerState.{SchedulerState, cpu_at}
use Rattle.aps_model.specs.Shape.{IsShape, horizon}
use Rattle.aps_model.specs.Step.{begun}
use Rattle.aps_model.specs.TickWork.{do_commands, has_tick_work, wake_all}
use Rattle.aps_model.specs.Valid.{IsScenario}
use Rattle.aps_model.proofs.AfterLaws.{after-append}
use Rattle.laws_runs.specs.Boundaries.{is_met}
use Rattle.laws_runs.specs.Moments.{moment}
use Rattle.laws_runs.specs.Sizes.{IsSameSizes}
use Rattle.laws_runs.specs.Untouched.{mark_kept, partition_kept}
use Rattle.laws_runs.proofs.Books.{step_books}
use Rattle.laws_runs.proofs.BoundaryLaws.{in_tick}
use Rattle.laws_runs.proofs.Channels.{names_channels}
use Rattle.laws_runs.proofs.Mid.{unflagged}
use Rattle.laws_runs.proofs.RowLaws.{in_order}
use Rattle.laws_runs.proofs.Sound.{legal_last, sound, step_law}
use Rattle.aps_core.proofs.Frame.{wake_kept}
use Rattle.view_shares.specs.declared.critical_budget.CriticalBudget.{CriticalBudget}
use Rattle.view_shares.specs.CriticalBudget.{begins_tick, budget_at, budget_by, critical_on, if_lasts, tested_by}
use Rattle.view_shares.specs.Spent.{state_tested}
use Rattle.view_shares.specs.Standing.{Standing, all_commanded, standing_of}
use Rattle.view_shares.proofs.Commands.{commands_stand}

-- ---- rows and shape

-- whether the step of the entry begins its tick, where the last one ended at this moment
abbrev pub begins : Shape → ℕ → ℕ → Bool
begins shape last now = nat_lt last now && begins_tick shape now

worked : (scenario : Scenario) (s : SchedulerState) (h : List Entry) (now : ℕ) (t : Bool)
    → standing_of (elim t as (λ _. SchedulerState) [ true ↦ wake_all scenario now (do_commands scenario h (now / s.shape.tick) s) | false ↦ s ])
    ≡ cond t (all_commanded (now / s.shape.tick) scenario.commands (standing_of s)) (standing_of s)
worked scenario s h now true =
    let j = now / s.shape.tick in
    let kept = wake_kept scenario now (do_commands scenario h j s) in
    (λ i. record { rows = kept.rows i; shape = kept.shape i }) ∙ commands_stand scenario h j s
worked scenario s h now false = refl

-- an entry that takes time is the first to meet its end exactly where that lies after the last one's
first_to : (scenario : Scenario) (order : Order) (h : List Entry) (e : Entry) → IsScenario scenario → IsLegal scenario order (h ++ e ∷ []) → e.from < e.to → not (is_met h e.to) ≡ nat_lt (moment h) e.to
first_to scenario order h e valid legal some = by_met (is_met h e.to) refl
  where
    by_met : (t : Bool) → is_met h e.to ≡ t → not t ≡ nat_lt (moment h) e.to
    by_met true met =
        let at = (in_tick scenario order h e valid legal).again met in
        let same = at.0 in
        none (moment h) e.to same
      where
        none : (a b : ℕ) → b ≡ a → false ≡ nat_lt a b
        none a b same = grind (arith, nat_tests)
    by_met false apart = elim ((in_tick scenario order h e valid legal).later apart) [
      | inl first ↦ absurd (let zero = first.1 in omega (arith, zero, some))
      | inr less ↦ past (moment h) e.to less
    ]
      where
        past : (a b : ℕ) → a < b → true ≡ nat_lt a b
        past a b less = grind (arith, nat_tests)

-- tests in another order
reordered : (a b c : Bool) → (a && b && c) ≡ (c && (a && b))
reordered true true true = refl
reordered true true false = refl
reordered true false true = refl
reordered true false false = refl
reordered false b true = refl
reordered false b false = refl

pub tested_stands : (scenario : Scenario) (order : Order) (h : List Entry) (e : Entry) → IsScenario scenario → IsLegal scenario order (h ++ e ∷ []) → e.from < e.to
    → standing_of (state_tested scenario h e)
    ≡ cond (begins (state_after scenario h).shape (moment h) e.to) (all_commanded (e.to / (state_after scenario h).shape.tick) scenario.commands (standing_of (state_after scenario h))) (standing_of (state_after scenario h))
tested_stands scenario order h e valid legal some =
    let s = state_after scenario h in
    let c = e.cpu in
    let to : e.to ≡ due s h c = (step_law scenario order h e valid legal).to in
    let z = standing_of s in
    let test : has_tick_work (unflagged s c) h e.to ≡ begins s.shape (moment h) e.to =
    ap (λ t. nat_eq (e.to % s.shape.tick) 0 && nat_lt e.to (horizon s.shape) && t) (first_to scenario order h e valid legal some)
    ∙ reordered (nat_eq (e.to % s.shape.tick) 0) (nat_lt e.to (horizon s.shape)) (nat_lt (moment h) e.to) in
    ap (λ now. standing_of (begun scenario s h c now)) (sym to)
    ∙ worked scenario (unflagged s c) h e.to (has_tick_work (unflagged s c) h e.to)
    ∙ ap (λ t. cond t (all_commanded (e.to / s.shape.tick) scenario.commands z) z) test

-- the shape at the test is the one that the step leaves
shape_left : (scenario : Scenario) (order : Order) (h : List Entry) (e : Entry) → IsScenario scenario → IsLegal scenario order (h ++ e ∷ []) → (state_after scenario (h ++ e ∷ [])).shape ≡ (state_tested scenario h e).shape
shape_left scenario order h e valid legal =
    let last = legal_last scenario order h e legal in
    let ground = (sound scenario order valid h last.0).grounded in
    let s = state_after scenario h in
    let shape = (state_tested scenario h e).shape in
    ap (λ (a : After). a.state.shape) (after-append scenario h e)
    ∙ step_books (λ rows (x : Shape) replies changes. x ≡ shape) (λ t j p same. same) scenario s h e.cpu (names_channels scenario valid) ground.plain ground.kept refl

-- so it has its ranges, and the scenario's sizes
pub tested_shape : (scenario : Scenario) (order : Order) (h : List Entry) (e : Entry) → IsScenario scenario → IsLegal scenario order (h ++ e ∷ [])
    → IsShape (state_tested scenario h e).shape × IsSameSizes scenario.shape (state_tested scenario h e).shape
tested_shape scenario order h e valid legal =
    let m = in_order scenario order (h ++ e ∷ []) valid legal in
    subst (λ (x : Shape). IsShape x × IsSameSizes scenario.shape x) (shape_left scenario order h e valid legal) (m.shape, m.sizes)

-- ---- the critical budget

-- what is tested takes time
some_time : (e : Entry) (p : ℕ) → tested_by e ≡ Some p → e.from < e.to
some_time e p is = by_tests e.critical (nat_lt e.from e.to) refl is
  where
    by_tests : (a b : Bool) → nat_lt e.from e.to ≡ b → cond (a && b) e.billed None ≡ Some p → e.from < e.to
    by_tests true true test some = ltb-true e.from e.to test
    by_tests true false test some = absurd cc
    by_tests false b test some = absurd cc

pub budget_told : (scenario : Scenario) (order : Order) (h : List Entry) (e : Entry) (p : ℕ) (b : CriticalBudget) (z : Standing) → IsScenario scenario → IsLegal scenario order (h ++ e ∷ []) → tested_by e ≡ Some p → b ≡ budget_by z p
    → z ≡ cond (begins (state_after scenario h).shape (moment h) e.to) (all_commanded (e.to / (state_after scenario h).shape.tick) scenario.commands (standing_of (state_after scenario h))) (standing_of (state_after scenario h))
    → ◌≡◌ {A = Option CriticalBudget} (Some b) (budget_at scenario h e)
budget_told scenario order h e p b z valid legal names is same =
    let there : z ≡ standing_of (state_tested scenario h e) = same ∙ sym (tested_stands scenario order h e valid legal (some_time e p names)) in
    ap (λ (c : CriticalBudget). Some c) (is ∙ ap (λ w. budget_by w p) there)
    ∙ sym (ap (option_map (budget_by (standing_of (state_tested scenario h e)))) names)

-- whether the tick begins, by the tests of the code
pub first_begins : (shape : Shape) (last now : ℕ) → last < now → begins_tick shape now ≡ true → begins shape last now ≡ true
first_begins shape last now less is = let test : nat_lt last now ≡ true = lt-ltb last now less in λ i. test i && is i

pub late_begins : (shape : Shape) (last now : ℕ) → now ≤ last → begins shape last now ≡ false
late_begins shape last now past = ap (λ t. t && begins_tick shape now) (none last now past)
  where
    none : (a b : ℕ) → b ≤ a → nat_lt a b ≡ false
    none a b past = grind (arith, nat_tests)

pub other_begins : (shape : Shape) (last now : ℕ) → begins_tick shape now ≡ false → begins shape last now ≡ false
other_begins shape last now is = ap (λ t. nat_lt last now && t) is ∙ none (nat_lt last now)
  where
    none : (t : Bool) → (t && false) ≡ false
    none true = refl
    none false = refl

-- ---- the budget that is found before the step

-- who may be tested bills for critical time
names_of : (o : Option Pick) (p : ℕ) → critical_on o ≡ Some p → (mark_kept o ≡ true) × (partition_kept o ≡ Some p)
names_of (Some pick) p is = by_mark pick.critical refl is
  where
    by_mark : (t : Bool) → pick.critical ≡ t → cond t (Some pick.partition) None ≡ Some p → (pick.critical ≡ true) × (Some pick.partition ≡ Some p)
    by_mark true mark some = (mark, some)
    by_mark false mark some = absurd cc
names_of None p is = absurd cc

nobody : (o : Option Pick) → critical_on o ≡ None → mark_kept o ≡ false
nobody (Some pick) is = by_mark pick.critical refl is
  where
    by_mark : (t : Bool) → pick.critical ≡ t → cond t (Some pick.partition) None ≡ None → pick.critical ≡ false
    by_mark true mark none = absurd cc
    by_mark false mark none = mark
nobody None is = refl

-- what the entry of the step says of who ran
pub record IsOfWhoRan (e : Entry) (o : Option Pick) : Type 0 where
  pub billed : e.billed ≡ partition_kept o
  pub critical : e.critical ≡ mark_kept o

pub who_ran : (scenario : Scenario) (order : Order) (h : List Entry) (e : Entry) (c : ℕ) → IsScenario scenario → IsLegal scenario order (h ++ e ∷ []) → e.cpu ≡ c → IsOfWhoRan e (cpu_at (state_after scenario h) c).running
who_ran scenario order h e c valid legal own =
    let law = step_law scenario order h e valid legal in
    subst (λ d. IsOfWhoRan e (cpu_at (state_after scenario h) d).running) own (record { billed = law.billed; critical = law.critical })

-- it is that of the test, where the entry takes time
pub budget_foretold : (scenario : Scenario) (order : Order) (h : List Entry) (e : Entry) (o : Option Pick) (p : ℕ) (b : CriticalBudget) (z : Standing) (now : ℕ) → IsScenario scenario → IsLegal scenario order (h ++ e ∷ []) → IsOfWhoRan e o
    → critical_on o ≡ Some p → b ≡ budget_by z p → now ≡ e.to
    → z ≡ cond (begins (state_after scenario h).shape (moment h) now) (all_commanded (now / (state_after scenario h).shape.tick) scenario.commands (standing_of (state_after scenario h))) (standing_of (state_after scenario h))
    → if_lasts e (Some b) ≡ budget_at scenario h e
budget_foretold scenario order h e o p b z now valid legal ran some is at same = by_test (nat_lt e.from e.to) refl
  where
    names : (mark_kept o ≡ true) × (partition_kept o ≡ Some p)
    names = names_of o p some

    by_test : (t : Bool) → nat_lt e.from e.to ≡ t → if_lasts e (Some b) ≡ budget_at scenario h e
    by_test true lasts =
        ap (λ t. cond t (Some b) None) lasts
        ∙ budget_told scenario order h e p b z valid legal (λ i. cond ((ran.critical ∙ names.0) i && lasts i) ((ran.billed ∙ names.1) i) None) is
        (same ∙ ap (λ m. cond (begins (state_after scenario h).shape (moment h) m) (all_commanded (m / (state_after scenario h).shape.tick) scenario.commands (standing_of (state_after scenario h))) (standing_of (state_after scenario h))) at)
    by_test false short =
        ap (λ t. cond t (Some b) None) short
        ∙ sym (ap (λ t. option_map (budget_by (standing_of (state_tested scenario h e))) (cond (e.critical && t) e.billed None)) short ∙ none e.critical)
      where
        none : (t : Bool) → option_map (budget_by (standing_of (state_tested scenario h e))) (cond (t && false) e.billed None) ≡ None
        none true = refl
        none false = refl

-- and there is none, where nobody may be tested
pub none_foretold : (scenario : Scenario) (h : List Entry) (e : Entry) (o : Option Pick) → IsOfWhoRan e o → critical_on o ≡ None → if_lasts e None ≡ budget_at scenario h e
none_foretold scenario h e o ran none =
    either (nat_lt e.from e.to)
    ∙ sym (ap (λ t. option_map (budget_by (standing_of (state_tested scenario h e))) (cond (t && nat_lt e.from e.to) e.billed None)) (ran.critical ∙ nobody o none))
  where
    either : (t : Bool) → ◌≡◌ {A = Option CriticalBudget} (cond t None None) None
    either true = refl
    either false = refl
