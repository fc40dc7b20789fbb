-- A pick is of class 1 exactly where some ready thread is.
use Rattle.std.proofs.Common.{◌≡◌, ℕ, ◌/◌, ◌<◌, List, [], ◌∷◌, ◌++◌, length, refl, sym, ◌∙◌, ap, subst, Bool, true, false, not, ◌&&◌, if◌then◌else◌, nat_eq, Option, Some, None, arith, ◌⊎◌, inl, inr}
use Rattle.std.specs.Prelude.{IsTrue}
use Rattle.std.specs.List.{AllByRecursion}
use Rattle.std.specs.Option.{option_map}
use Rattle.std.proofs.lemmas.Bool.Decides.{nat_tests}
use Rattle.aps_model.specs.declared.entry.Entry.{Entry}
use Rattle.aps_model.specs.declared.entry.Order.{Order}
use Rattle.aps_model.specs.declared.merit.Contender.{Contender}
use Rattle.aps_model.specs.declared.merit.PartFacts.{PartFacts}
use Rattle.aps_model.specs.declared.shape.Shape.{Shape}
use Rattle.aps_model.specs.declared.state.CpuNow.{CpuNow}
use Rattle.aps_model.specs.declared.state.Facts.{Facts}
use Rattle.aps_model.specs.declared.state.State.{State}
use Rattle.aps_model.specs.declared.state.State.TheVariants.{Gone, Ready}
use Rattle.aps_model.specs.After.{after, state_after}
use Rattle.aps_model.specs.Budget.{all_parts, part_at, part_facts}
use Rattle.aps_model.specs.Inherit.{facts_of}
use Rattle.aps_model.specs.Legal.{IsLegal}
use Rattle.aps_model.specs.Merit.{class_of, is_critical_pick}
use Rattle.aps_model.specs.Pick.{contender_of, contenders, greatest, is_ready, merit_among}
use Rattle.aps_model.specs.Scenario.{Scenario}
use Rattle.aps_model.specs.SchedulerState.{SchedulerState, cpu_at, thread_at}
use Rattle.aps_model.specs.Step.{chosen}
use Rattle.aps_model.specs.Valid.{IsScenario}
use Rattle.aps_model.proofs.GreatestLaws.{no_greatest}
use Rattle.laws_runs.specs.Choices.{MadeNoPick}
use Rattle.laws_runs.specs.Waits.{state_at}
use Rattle.laws_runs.specs.Window.{Kept, kept_if, pair_kept}
use Rattle.laws_runs.proofs.MomentLaws.{moment-append}
use Rattle.laws_runs.proofs.Picked.{cpu_same, flag_running, greatest_ready}
use Rattle.laws_runs.proofs.RowLaws.{in_order}
use Rattle.laws_runs.proofs.ThreadFacts.{within}
use Rattle.laws_bounds.specs.Picks.{wide_at}
use Rattle.laws_bounds.proofs.Chosen.{keeps_of}
use Rattle.laws_bounds.specs.Kinds.{Kind.funded, Kind.critical, Kind.free, is_funded, is_served, kind_by}
use Rattle.laws_bounds.specs.Served.{IsServedPick}
use Rattle.laws_load.specs.Work.{HasClassOne, HasWork, ServesClassOne, chosen_from, class_at}
use Rattle.laws_load.proofs.Classes.{class_cases, class_first, class_runs, funded_class, funded_is, funded_open}
use Rattle.laws_load.proofs.Flags.{each_filtered}
use Rattle.laws_load.proofs.Greatest.{may_run, ready_unbeaten}
use Rattle.laws_load.proofs.OpenPick.{IsOpenPick, open_pick}

-- ---- candidates

clash_gone : ◌≡◌ {A = State} Ready Gone → ⊥
clash_gone e = cc

-- where a ready thread is a candidate there is a greatest one
pub some_greatest : (s : SchedulerState) (ps : List PartFacts) (x : ℕ) → greatest s.shape.free ps (contenders s) ≡ None → state_at s x ≡ Ready → may_run ps (contender_of s x) ≡ true → ⊥
some_greatest s ps x none ready runs =
    let below : x < length s.threads = within s.threads x (λ g. clash_gone (sym ready ∙ g)) in
    each_filtered (contender_of s) (λ (c : Contender). is_ready (thread_at s c.thread).state) (may_run ps) (λ (c : Contender). ⊥) 0 (length s.threads) x
    (subst (AllByRecursion (λ (c : Contender). ⊥)) (sym (no_greatest s.shape.free ps (contenders s) none)) tt) (omega arith) (omega (arith, below)) (ap is_ready ready) runs

-- ---- kinds

-- a thread of class 1 makes a served pick
served_by : (facts : Facts) (part : PartFacts) (t : Bool) → part.funded ≡ t → class_of facts part ≡ 1
    → IsTrue (is_served (if t then funded else if is_critical_pick facts part then critical else free))
served_by facts part true is class = refl
served_by facts part false is class = critical_served (is_critical_pick facts part) (marked facts part is class)
  where
    critical_served : (t : Bool) → t ≡ true → IsTrue (is_served (if t then critical else free))
    critical_served true e = refl
    critical_served false e = absurd cc

    marked : (facts : Facts) (part : PartFacts) → part.funded ≡ false → class_of facts part ≡ 1 → is_critical_pick facts part ≡ true
    marked facts part is class = ap (λ t. nat_eq (class_of facts part) 1 && not t) is ∙ ap (λ n. nat_eq n 1 && true) class

-- and only such a thread does
only_by : (facts : Facts) (part : PartFacts) (t : Bool) → part.funded ≡ t
    → IsTrue (is_served (if t then funded else if is_critical_pick facts part then critical else free)) → class_of facts part ≡ 1
only_by facts part true is served = funded_class facts part is
only_by facts part false is served = by_mark (nat_eq (class_of facts part) 1) (not part.funded) refl served
  where
    clash : false ≡ true → ⊥
    clash e = cc

    by_mark : (one two : Bool) → nat_eq (class_of facts part) 1 ≡ one → IsTrue (is_served (if one && two then critical else free)) → class_of facts part ≡ 1
    by_mark true two x s = grind (arith, nat_tests, x)
    by_mark false two x s = absurd (clash s)

chosen_kept : (r : SchedulerState) (ps : List PartFacts) (c : ℕ) (best : Option Contender) → c < length r.cpus
    → kept_if (option_map (λ (b : Contender). b.thread) best) (pair_kept (cpu_at (chosen r ps c best) c).running) ≡ keeps_of ps best
chosen_kept r ps c None below = refl
chosen_kept r ps c (Some b) below = ap (λ (z : CpuNow). pair_kept z.running) (cpu_same r.cpus c _ below)

module _ (scenario : Scenario) (order : Order) (h : List Entry) (e : Entry) (r : IsScenario scenario) (legal : IsLegal scenario order (h ++ e ∷ []))
    (pick : IsOpenPick (chosen_from scenario h e) h e.cpu e (state_after scenario (h ++ e ∷ []))) where
  abbrev g : List Entry
  g = h ++ e ∷ []

  abbrev t : SchedulerState
  t = state_after scenario g

  abbrev u : SchedulerState
  u = chosen_from scenario h e

  abbrev ps : List PartFacts
  ps = pick.parts

  abbrev best : Option Contender
  best = greatest u.shape.free ps (contenders u)

  parts_there : ps ≡ all_parts u.shape u.rows g (e.to / u.shape.tick)
  parts_there =
      pick.parts_are
      ∙ ap (λ (z : Shape). all_parts z t.rows g (e.to / z.tick)) pick.shape
      ∙ ap (λ rows. all_parts u.shape rows g (e.to / u.shape.tick)) pick.rows

  class_there : (x : ℕ) → class_at u g e.to x ≡ class_of (facts_of u x) (part_at ps (facts_of u x).partition)
  class_there x = ap (λ xs. class_of (facts_of u x) (part_at xs (facts_of u x).partition)) (sym parts_there)

  -- whether a partition is in budget
  pub tested : (p : ℕ) → is_funded scenario g p ≡ (part_at ps p).funded
  tested p =
      ap (λ n. (part_facts t.shape t.rows g (n / t.shape.tick) p).funded) (moment-append h e)
      ∙ sym (funded_is t.shape t.rows g (e.to / t.shape.tick) p)
      ∙ ap (λ xs. (part_at xs p).funded) (sym pick.parts_are)

  not_shut : (p : ℕ) → (part_at ps p).funded ≡ true → (part_at ps p).shut ≡ false
  not_shut p =
      subst (λ xs. (part_at xs p).funded ≡ true → (part_at xs p).shut ≡ false) (sym pick.parts_are)
      (funded_open t.shape t.rows g (e.to / t.shape.tick) p scenario.shape.parts (in_order scenario order g r legal).funded)

  keeps_best : (wide_at scenario h e).keeps ≡ keeps_of ps best
  keeps_best =
      ap (λ o. kept_if o (pair_kept (cpu_at t e.cpu).running)) pick.picked
      ∙ ap (λ (z : SchedulerState). kept_if (option_map (λ (b : Contender). b.thread) best) (pair_kept (cpu_at z e.cpu).running)) pick.leaves
      ∙ ap (λ o. kept_if (option_map (λ (b : Contender). b.thread) best) (pair_kept o)) (flag_running (chosen u ps e.cpu best) e.to _ e.cpu)
      ∙ chosen_kept u ps e.cpu best pick.below

  abbrev served_of : Option Contender → Type 0
  served_of o = IsTrue (is_served (kind_by (is_funded scenario g) (keeps_of ps o)))

  pub class_one : (x : ℕ) → state_at u x ≡ Ready → class_of (facts_of u x) (part_at ps (facts_of u x).partition) ≡ 1 → (o : Option Contender) → best ≡ o → served_of o
  class_one x ready class None is = absurd (some_greatest u ps x is ready (class_runs (facts_of u x) (part_at ps (facts_of u x).partition) (not_shut (facts_of u x).partition) class))
  class_one x ready class (Some b) is =
      let part = part_at ps b.facts.partition in
      let runs = class_runs (facts_of u x) (part_at ps (facts_of u x).partition) (not_shut (facts_of u x).partition) class in
      let unbeaten = ready_unbeaten u u.shape.free ps b x is ready runs in
      let one = class_first u.shape.free (merit_among ps (contender_of u x)) (merit_among ps b) unbeaten class (class_cases b.facts part) in
      served_by b.facts part (is_funded scenario g b.facts.partition) (sym (tested b.facts.partition)) one

  serves : HasClassOne scenario h e → IsServedPick scenario h e
  serves one =
      subst (λ (kept : Kept). IsTrue (is_served (kind_by (is_funded scenario g) kept))) (sym keeps_best)
      (class_one one.thread one.ready (sym (class_there one.thread) ∙ one.class) best refl)

  only_best : (o : Option Contender) → best ≡ o → served_of o → HasClassOne scenario h e
  only_best None is served = absurd (clash served)
    where
      clash : false ≡ true → ⊥
      clash e = cc
  only_best (Some b) is served =
      let found = greatest_ready u u.shape.free ps b is in
      let facts : b.facts ≡ facts_of u b.thread = ap (λ (k : Contender). k.facts) found.same in
      let class = only_by b.facts (part_at ps b.facts.partition) (is_funded scenario g b.facts.partition) (sym (tested b.facts.partition)) served in
      record {
        thread = b.thread;
        ready = found.ready;
        class = class_there b.thread ∙ sym (ap (λ (f : Facts). class_of f (part_at ps f.partition)) facts) ∙ class;
      }

  only : IsServedPick scenario h e → HasClassOne scenario h e
  only served = only_best best refl (subst (λ (kept : Kept). IsTrue (is_served (kind_by (is_funded scenario g) kept))) keeps_best served)

  work : (p : ℕ) → is_funded scenario g p ≡ true → HasWork scenario h e p → IsServedPick scenario h e
  work p in_it has =
      let in_budget : (part_at ps (facts_of u has.thread).partition).funded ≡ true = ap (λ q. (part_at ps q).funded) has.partition ∙ sym (tested p) ∙ in_it in
      serves (record {
        thread = has.thread;
        ready = has.ready;
        class = class_there has.thread ∙ funded_class (facts_of u has.thread) (part_at ps (facts_of u has.thread).partition) in_budget;
      })

  pub serves_one : ServesClassOne scenario h e
  serves_one = record { serves = serves; only = only; work = work }

pub class_one_is_served : (scenario : Scenario) (order : Order) (h : List Entry) (e : Entry) → IsScenario scenario → IsLegal scenario order (h ++ e ∷ [])
    → MadeNoPick (state_after scenario h) e (after scenario (h ++ e ∷ [])).reboot ⊎ ServesClassOne scenario h e
class_one_is_served scenario order h e r legal = elim (open_pick scenario order h e r legal) [
  | inl no_pick ↦ inl no_pick
  | inr pick ↦ inr (serves_one scenario order h e r legal pick)
]
