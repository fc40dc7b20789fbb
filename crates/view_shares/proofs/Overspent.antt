-- What a pass notes of overspending, entry by entry.
use Rattle.std.proofs.Common.{◌≡◌, ℕ, ◌+◌, ◌-◌, ◌/◌, ◌<◌, ◌≤◌, List, [], ◌∷◌, ◌++◌, length, get_or, replicate, refl, sym, ap, subst, ◌∙◌, Bool, true, false, ◌&&◌, cond, nat_eq, nat_lt, Option, Some, None, option_and_then, IfSome, arith, append_assoc}
use Rattle.std.specs.Option.{option_map}
use Rattle.std.proofs.lemmas.Bool.{eqb-true}
use Rattle.std.proofs.lemmas.List.{append-nil, get_or-replicate}
use Rattle.aps_model.specs.declared.entry.Entry.{Entry}
use Rattle.aps_model.specs.declared.entry.Order.{Order}
use Rattle.aps_model.specs.Bill.{exceeding}
use Rattle.aps_model.specs.Legal.{IsLegal}
use Rattle.aps_model.specs.Limits.{longest_window, most_entries, most_partitions, shortest_window}
use Rattle.aps_model.specs.Scenario.{Scenario}
use Rattle.aps_model.specs.SchedulerState.{SchedulerState, row_at}
use Rattle.aps_model.specs.Usage.{names, window_critical}
use Rattle.aps_model.specs.Valid.{IsScenario}
use Rattle.laws_runs.specs.Moments.{moment}
use Rattle.laws_runs.proofs.MomentLaws.{moment-append}
use Rattle.aps_window.specs.Window.{opened, resized}
use Rattle.aps_core.specs.Run.{Run}
use Rattle.aps_core.specs.Turn.{with_entry}
use Rattle.aps_core.proofs.Counting.{counts_resized, total_critical}
use Rattle.view_replay.specs.Retraced.{order_of_run, scenario_of_run}
use Rattle.view_replay.specs.Shape.{shape_with}
use Rattle.view_shares.specs.declared.critical_budget.CriticalBudget.{CriticalBudget}
use Rattle.view_shares.specs.declared.usages.Usages.{Usages}
use Rattle.view_shares.specs.declared.overspending.Pass.{Pass}
use Rattle.view_shares.specs.declared.spent.Spent.{Spent}
use Rattle.view_shares.specs.CriticalBudget.{budget_at, budget_by}
use Rattle.view_shares.specs.Usages.{AreUsagesCounted, for_span}
use Rattle.view_shares.specs.Overspending.{AreFewOverspent, PassFollowsCore, excess_by, most_overspent, used_by}
use Rattle.view_samples.specs.declared.overspent.Overspent.{Overspent}
use Rattle.view_shares.specs.Spent.{AreSpent, excess_at, excess_of, overspent_listed, overspent_as, overspent_by, overspent_from, overspent_of, spent_from, spent_of, spent_with, state_tested}
use Rattle.view_shares.specs.Standing.{standing_of}
use Rattle.view_shares.proofs.Counted.{counted_none}
use Rattle.view_shares.proofs.Tested.{tested_shape}

-- ---- by how much an entry exceeds a critical budget

-- the critical budget that was found is that of the partition which the entry bills
pub record IsFound (s : SchedulerState) (e : Entry) (b : CriticalBudget) : Type 0 where
  pub test : (e.critical && nat_lt e.from e.to) ≡ true
  pub billed : e.billed ≡ Some b.partition
  pub is : b ≡ budget_by (standing_of s) b.partition

found_by : (s : SchedulerState) (e : Entry) (b : CriticalBudget) (t : Bool) (o : Option ℕ) → (e.critical && nat_lt e.from e.to) ≡ t → e.billed ≡ o → option_map (budget_by (standing_of s)) (cond t o None) ≡ Some b → IsFound s e b
found_by s e b true (Some p) test billed is =
    let same : budget_by (standing_of s) p ≡ b = cc in
    record {
      test = test;
      billed = billed ∙ ap (λ (c : CriticalBudget). Some c.partition) same;
      is = sym same ∙ ap (λ (c : CriticalBudget). budget_by (standing_of s) c.partition) same;
    }
found_by s e b true None test billed is = absurd cc
found_by s e b false o test billed is = absurd cc

pub found : (scenario : Scenario) (h : List Entry) (e : Entry) (b : CriticalBudget) → budget_at scenario h e ≡ Some b → IsFound (state_tested scenario h e) e b
found scenario h e b is = found_by (state_tested scenario h e) e b (e.critical && nat_lt e.from e.to) e.billed refl refl is

none_by : (s : SchedulerState) (h : List Entry) (e : Entry) (p n : ℕ) (t : Bool) (o : Option ℕ) → ◌≡◌ {A = Option CriticalBudget} (option_map (budget_by (standing_of s)) (cond t o None)) None
    → cond (names (cond t (exceeding s h (e.to / s.shape.tick) o) None) p) (Some n) None ≡ None
none_by s h e p n true (Some q) is = absurd cc
none_by s h e p n true None is = refl
none_by s h e p n false o is = refl

-- where none was found there is no excess
pub excess_none : (scenario : Scenario) (h : List Entry) (e : Entry) (p : ℕ) → budget_at scenario h e ≡ None → excess_of scenario p h e ≡ None
excess_none scenario h e p is = none_by (state_tested scenario h e) (h ++ e ∷ []) e p _ (e.critical && nat_lt e.from e.to) e.billed is

-- one number over another, for each partition, at partition q
excess_same : (used budget : ℕ → ℕ) (q p : ℕ) (same more : Bool) → nat_eq q p ≡ same → nat_lt (budget q) (used q) ≡ more
    → cond (nat_eq q p && nat_lt (budget q) (used q)) (Some (used q - budget q)) None ≡ cond (names (cond (nat_lt (budget q) (used q)) (Some q) None) p) (Some (used p - budget p)) None
excess_same used budget q p true true is test =
    (λ i. cond (is i && test i) (Some (used q - budget q)) None)
    ∙ ap (λ n. Some (used n - budget n)) (eqb-true q p is)
    ∙ sym ((λ i. cond (names (cond (test i) (Some q) None) p) (Some (used p - budget p)) None) ∙ ap (λ b. cond b (Some (used p - budget p)) None) is)
excess_same used budget q p true false is test =
    (λ i. cond (is i && test i) (Some (used q - budget q)) None)
    ∙ sym (λ i. cond (names (cond (test i) (Some q) None) p) (Some (used p - budget p)) None)
excess_same used budget q p false true is test =
    ap (λ b. cond (b && nat_lt (budget q) (used q)) (Some (used q - budget q)) None) is
    ∙ sym ((λ i. cond (names (cond (test i) (Some q) None) p) (Some (used p - budget p)) None) ∙ ap (λ b. cond b (Some (used p - budget p)) None) is)
excess_same used budget q p false false is test =
    ap (λ b. cond (b && nat_lt (budget q) (used q)) (Some (used q - budget q)) None) is
    ∙ sym (λ i. cond (names (cond (test i) (Some q) None) p) (Some (used p - budget p)) None)

-- else it is what was used beyond the budget
excess_found : (s : SchedulerState) (h : List Entry) (e : Entry) (b : CriticalBudget) (n p : ℕ) → IsFound s e b → n ≡ window_critical s.shape h (e.to / s.shape.tick) b.partition
    → excess_by b n p ≡ excess_at s h e p
excess_found s h e b n p f used_is =
    let j = e.to / s.shape.tick in
    let q = b.partition in
    let used : ℕ → ℕ = window_critical s.shape h j in
    let budget : ℕ → ℕ = λ r. (row_at s r).critical in
    let ns : b.ns ≡ budget q = ap (λ (c : CriticalBudget). c.ns) f.is in
    (λ i. cond (nat_eq q p && nat_lt (ns i) (used_is i)) (Some (used_is i - ns i)) None)
    ∙ excess_same used budget q p (nat_eq q p) (nat_lt (budget q) (used q)) refl refl
    ∙ sym (λ i. cond (names (cond (f.test i) (exceeding s h j (f.billed i)) None) p) (Some (used p - budget p)) None)

pub excess_some : (scenario : Scenario) (order : Order) (h : List Entry) (e : Entry) (b : CriticalBudget) (time : Usages) (p : ℕ) → IsScenario scenario → IsLegal scenario order (h ++ e ∷ []) → budget_at scenario h e ≡ Some b
    → b.partition < most_partitions → AreUsagesCounted scenario (h ++ e ∷ []) (for_span b.window time) → excess_by b (used_by b time) p ≡ excess_of scenario p h e
excess_some scenario order h e b time p valid legal is small counted =
    let s = state_tested scenario h e in
    let f = found scenario h e b is in
    let g = h ++ e ∷ [] in
    let tick : s.shape.tick ≡ scenario.shape.tick = (tested_shape scenario order h e valid legal).1.tick in
    let window : b.window ≡ s.shape.window = ap (λ (c : CriticalBudget). c.window) f.is in
    let at : moment g / scenario.shape.tick ≡ e.to / s.shape.tick = λ i. moment-append h e i / sym tick i in
    excess_found s g e b (used_by b time) p f
    (total_critical (shape_with scenario b.window) g (moment g / scenario.shape.tick) (resized b.window time.window) b.partition counted small
    ∙ (λ i. window_critical (record s.shape { tick = sym tick i; window = window i }) g (at i) b.partition))

-- the budget's window has its range
pub budget_window : (scenario : Scenario) (order : Order) (h : List Entry) (e : Entry) (b : CriticalBudget) → IsScenario scenario → IsLegal scenario order (h ++ e ∷ [])
    → budget_at scenario h e ≡ Some b → (shortest_window ≤ b.window) × (b.window ≤ longest_window)
budget_window scenario order h e b valid legal is =
    let f = found scenario h e b is in
    let sized = (tested_shape scenario order h e valid legal).0 in
    let window : b.window ≡ (state_tested scenario h e).shape.window = ap (λ (c : CriticalBudget). c.window) f.is in
    let long = sized.window_long in
    let short = sized.window_short in
    (omega (arith, window, long), omega (arith, window, short))

-- what it overspends
pub overspent_found : (scenario : Scenario) (order : Order) (h : List Entry) (e : Entry) (b : CriticalBudget) (time : Usages) → IsScenario scenario → IsLegal scenario order (h ++ e ∷ []) → budget_at scenario h e ≡ Some b
    → b.partition < most_partitions → AreUsagesCounted scenario (h ++ e ∷ []) time → overspent_as e.to b.partition (excess_by b (used_by b time) b.partition) ≡ overspent_by scenario h e
overspent_found scenario order h e b time valid legal is small counted =
    let g = h ++ e ∷ [] in
    let short = (budget_window scenario order h e b valid legal is).1 in
    let there : AreUsagesCounted scenario g (for_span b.window time) = counts_resized (shape_with scenario time.span) (shape_with scenario b.window) g (moment g / scenario.shape.tick) time.window counted refl short in
    ap (overspent_as e.to b.partition) (excess_some scenario order h e b time b.partition valid legal is small there)
    ∙ sym (ap (λ o. option_and_then (λ p. overspent_as e.to p (excess_of scenario p h e)) o) (found scenario h e b is).billed)

-- nothing, where no critical budget was found
pub overspent_none : (scenario : Scenario) (h : List Entry) (e : Entry) → budget_at scenario h e ≡ None → ◌≡◌ {A = Option Overspent} None (overspent_by scenario h e)
overspent_none scenario h e is = by_billed e.billed
  where
    by_billed : (o : Option ℕ) → ◌≡◌ {A = Option Overspent} None (option_and_then (λ p. overspent_as e.to p (excess_of scenario p h e)) o)
    by_billed None = refl
    by_billed (Some p) = sym (ap (overspent_as e.to p) (excess_none scenario h e p is))

-- ---- all of them

overspent_more_from : (scenario : Scenario) (before es : List Entry) (e : Entry)
    → overspent_from scenario before (es ++ e ∷ []) ≡ overspent_from scenario before es ++ overspent_listed (overspent_by scenario (before ++ es) e)
overspent_more_from scenario before [] e =
    append-nil (overspent_listed (overspent_by scenario before e)) ∙ ap (λ g. overspent_listed (overspent_by scenario g e)) (sym (append-nil before))
overspent_more_from scenario before (x ∷ es) e =
    let first = overspent_listed (overspent_by scenario before x) in
    let others = overspent_from scenario (before ++ x ∷ []) es in
    ap (λ l. first ++ l) (overspent_more_from scenario (before ++ x ∷ []) es e
    ∙ ap (λ g. others ++ overspent_listed (overspent_by scenario g e)) (append_assoc before (x ∷ []) es))
    ∙ sym (append_assoc first others (overspent_listed (overspent_by scenario (before ++ x ∷ es) e)))

pub overspent_more : (scenario : Scenario) (h : List Entry) (e : Entry) → overspent_of scenario (h ++ e ∷ []) ≡ overspent_of scenario h ++ overspent_listed (overspent_by scenario h e)
unfolding overspent_of
overspent_more scenario h e = overspent_more_from scenario [] h e

pub overspent_begins : (scenario : Scenario) → overspent_of scenario [] ≡ []
unfolding overspent_of
overspent_begins scenario = refl

-- ---- how often

spent_more_from : (scenario : Scenario) (p : ℕ) (spent : Option Spent) (before es : List Entry) (e : Entry)
    → spent_from scenario p spent before (es ++ e ∷ []) ≡ spent_with (spent_from scenario p spent before es) e.to (excess_of scenario p (before ++ es) e)
spent_more_from scenario p spent before [] e = ap (λ g. spent_with spent e.to (excess_of scenario p g e)) (sym (append-nil before))
spent_more_from scenario p spent before (x ∷ es) e =
    let next = spent_with spent x.to (excess_of scenario p before x) in
    spent_more_from scenario p next (before ++ x ∷ []) es e
    ∙ ap (λ g. spent_with (spent_from scenario p next (before ++ x ∷ []) es) e.to (excess_of scenario p g e)) (append_assoc before (x ∷ []) es)

pub spent_more : (scenario : Scenario) (h : List Entry) (e : Entry) (p : ℕ) → spent_of scenario (h ++ e ∷ []) p ≡ spent_with (spent_of scenario h p) e.to (excess_of scenario p h e)
unfolding spent_of
spent_more scenario h e p = spent_more_from scenario p None [] h e

IsUpTo : ℕ → Option Spent → Type 0
IsUpTo n spent = IfSome spent (λ (s : Spent). s.count ≤ n)

with_few : (n m : ℕ) (spent : Option Spent) (moment : ℕ) (excess : Option ℕ) → m ≡ n + 1 → IsUpTo n spent → IsUpTo m (spent_with spent moment excess)
unfolding IsUpTo
with_few n m None moment None next few = tt
with_few n m None moment (Some x) next few = omega (arith, next)
with_few n m (Some s) moment None next few = omega (arith, next, few)
with_few n m (Some s) moment (Some x) next few = omega (arith, next, few)

few_from : (scenario : Scenario) (p n : ℕ) (spent : Option Spent) (before es : List Entry) → IsUpTo n spent → IsUpTo (n + length es) (spent_from scenario p spent before es)
few_from scenario p n spent before [] few = subst (λ m. IsUpTo m spent) (omega arith) few
few_from scenario p n spent before (x ∷ es) few =
    let next = spent_with spent x.to (excess_of scenario p before x) in
    subst (λ m. IsUpTo m (spent_from scenario p next (before ++ x ∷ []) es)) (omega arith)
    (few_from scenario p (n + 1) next (before ++ x ∷ []) es (with_few n (n + 1) spent x.to (excess_of scenario p before x) refl few))

weaker : (n m : ℕ) (spent : Option Spent) → n ≤ m → IsUpTo n spent → IfSome spent (λ (s : Spent). s.count ≤ m)
unfolding IsUpTo
weaker n m None le few = tt
weaker n m (Some s) le few = omega (arith, le, few)

pub spent_few : (scenario : Scenario) (h : List Entry) (spent : List (Option Spent)) → length h < most_entries → AreSpent scenario h spent → AreFewOverspent spent
unfolding spent_of IsUpTo
spent_few scenario h spent short are = λ p less.
    subst (λ (o : Option Spent). IfSome o (λ (s : Spent). s.count ≤ most_overspent)) (sym (are p less))
    (weaker (0 + length h) most_overspent (spent_of scenario h p) (omega (arith, short)) (few_from scenario p 0 None [] h tt))

-- ---- the pass

-- at the start
pub at_begin : (core start : Run) (time : Usages) (window : ℕ) → core ≡ start → IsScenario start.setup.scenario → start.entries ≡ [] → time ≡ record { window = opened window; span = window } → window ≡ start.setup.scenario.shape.window
    → PassFollowsCore (record { core = core; moment = 0; time = time; spent = replicate most_partitions None })
unfolding spent_of
at_begin core start time window is valid begins new wide =
    let scenario = start.setup.scenario in
    let At : Run → Usages → Type 0 = λ r t. PassFollowsCore (record { core = r; moment = 0; time = t; spent = replicate most_partitions None }) in
    let none : Run = record { setup = start.setup; entries = [] } in
    let short : window ≤ longest_window = let s = valid.shape.window_short in omega (arith, s, wide) in
    let at_none : At none (record { window = opened window; span = window }) = record {
      valid = valid;
      moment = refl;
      counted = counted_none scenario window short;
      spent = λ p less. get_or-replicate most_partitions p None None less;
    } in
    let whole : start ≡ none = ap (λ es. record start { entries = es }) begins in
    subst (At core) (sym new) (subst (λ r. At r (record { window = opened window; span = window })) (sym (is ∙ whole)) at_none)

-- after the next entry
pub at_more : (pass after : Pass) (e : Entry) → PassFollowsCore pass → after.core ≡ with_entry pass.core e → after.moment ≡ e.to → AreUsagesCounted (scenario_of_run pass.core) (pass.core.entries ++ e ∷ []) after.time
    → ((p : ℕ) → p < most_partitions → get_or after.spent p None ≡ spent_with (get_or pass.spent p None) e.to (excess_of (scenario_of_run pass.core) p pass.core.entries e)) → PassFollowsCore after
at_more pass after e at core now counted spent =
    let scenario = scenario_of_run pass.core in
    let h = pass.core.entries in
    let entries : after.core.entries ≡ h ++ e ∷ [] = ap (λ (r : Run). r.entries) core in
    let same : scenario_of_run after.core ≡ scenario = ap (λ (r : Run). r.setup.scenario) core in
    record {
      valid = subst IsScenario (sym same) at.valid;
      moment = now ∙ sym (moment-append h e) ∙ ap moment (sym entries);
      counted = subst (λ (r : Run). AreUsagesCounted r.setup.scenario r.entries after.time) (sym core) counted;
      spent = λ p less.
          spent p less ∙ ap (λ o. spent_with o e.to (excess_of scenario p h e)) (at.spent p less) ∙ sym (spent_more scenario h e p)
          ∙ ap (λ (r : Run). spent_of r.setup.scenario r.entries p) (sym core);
    }

pub at_quiet : (pass after : Pass) (e : Entry) → PassFollowsCore pass → after.core ≡ with_entry pass.core e → after.moment ≡ e.to → AreUsagesCounted (scenario_of_run pass.core) (pass.core.entries ++ e ∷ []) after.time
    → budget_at (scenario_of_run pass.core) pass.core.entries e ≡ None → after.spent ≡ pass.spent → PassFollowsCore after
at_quiet pass after e at core now counted none spent =
    at_more pass after e at core now counted
    (λ p less. ap (λ (l : List (Option Spent)). get_or l p None) spent
    ∙ sym (ap (spent_with (get_or pass.spent p None) e.to) (excess_none (scenario_of_run pass.core) pass.core.entries e p none)))

pub at_compared : (pass after : Pass) (e : Entry) (b : CriticalBudget) (time : Usages) → PassFollowsCore pass → IsLegal (scenario_of_run pass.core) (order_of_run pass.core) (pass.core.entries ++ e ∷ []) → after.core ≡ with_entry pass.core e → after.moment ≡ e.to
    → AreUsagesCounted (scenario_of_run pass.core) (pass.core.entries ++ e ∷ []) time → after.time ≡ for_span b.window time
    → budget_at (scenario_of_run pass.core) pass.core.entries e ≡ Some b → b.partition < most_partitions
    → ((p : ℕ) → p < most_partitions → get_or after.spent p None ≡ spent_with (get_or pass.spent p None) e.to (excess_by b (used_by b time) p)) → PassFollowsCore after
at_compared pass after e b time at legal core now counted resized_is is small spent =
    let scenario = scenario_of_run pass.core in
    let h = pass.core.entries in
    let g = h ++ e ∷ [] in
    let short = (budget_window scenario (order_of_run pass.core) h e b at.valid legal is).1 in
    let there : AreUsagesCounted scenario g (for_span b.window time) = counts_resized (shape_with scenario time.span) (shape_with scenario b.window) g (moment g / scenario.shape.tick) time.window counted refl short in
    at_more pass after e at core now (subst (AreUsagesCounted scenario g) (sym resized_is) there)
    (λ p less. spent p less ∙ ap (spent_with (get_or pass.spent p None) e.to) (excess_some scenario (order_of_run pass.core) h e b time p at.valid legal is small there))
