-- Which partitions had a candidate at the pick of an entry that tells of nobody who is starved.
use Rattle.std.proofs.Common.{◌≡◌, ℕ, ◌/◌, ◌<◌, ◌≤◌, List, [], ◌∷◌, ◌++◌, length, Bool, true, false, not, ◌||◌, nat_eq, nat_le, nat_lt, Option, Some, None, inl, inr, refl, sym, ap, subst, ◌∙◌, arith, length-set}
use Rattle.std.specs.Option.{option_map}
use Rattle.std.proofs.lemmas.Bool.{cases_lt}
use Rattle.std.proofs.lemmas.Bool.Decides.{nat_tests}
use Rattle.std.proofs.lemmas.List.Folds.{list_all_at}
use Rattle.aps_model.specs.declared.entry.Entry.{Entry}
use Rattle.aps_model.specs.declared.entry.Order.{Order}
use Rattle.aps_model.specs.declared.merit.Contender.{Contender}
use Rattle.aps_model.specs.declared.merit.PartFacts.{PartFacts}
use Rattle.aps_model.specs.declared.shape.Shape.{Shape}
use Rattle.aps_model.specs.declared.state.CpuNow.{CpuNow}
use Rattle.aps_model.specs.declared.state.Pick.{Pick}
use Rattle.aps_model.specs.declared.state.State.TheVariants.{Running}
use Rattle.aps_model.specs.declared.state.ThreadNow.{ThreadNow}
use Rattle.aps_model.specs.After.{state_after}
use Rattle.aps_model.specs.Budget.{all_parts, no_part, part_at}
use Rattle.aps_model.specs.Flag.{flag_for, with_flag}
use Rattle.aps_model.specs.Inherit.{facts_of}
use Rattle.aps_model.specs.Legal.{IsLegal}
use Rattle.aps_model.specs.Pick.{contenders, greatest, missing}
use Rattle.aps_model.specs.Scenario.{Scenario}
use Rattle.aps_model.specs.SchedulerState.{SchedulerState, cpu_at, thread_at}
use Rattle.aps_model.specs.Step.{chosen}
use Rattle.aps_model.specs.Valid.{IsScenario}
use Rattle.aps_core.specs.Scan.{has_candidate, ready_below}
use Rattle.laws_runs.specs.Choices.{state_to_pick}
use Rattle.laws_runs.specs.Moments.{moment}
use Rattle.laws_runs.proofs.ChoiceLaws.{picks_law}
use Rattle.laws_runs.proofs.IdsLaw.{in_range}
use Rattle.laws_runs.proofs.MomentLaws.{moment-append}
use Rattle.laws_runs.proofs.Picked.{IsReadyBest, cpu_same, flag_running, flag_threads, greatest_ready}
use Rattle.laws_runs.proofs.PickSays.{facts_picked}
use Rattle.laws_runs.proofs.ThreadFacts.{set_other}
use Rattle.laws_runs.proofs.WaitFacts.{test_ne}
use Rattle.laws_load.specs.Passing.{parts_now}
use Rattle.laws_load.proofs.Classes.{count_is}
use Rattle.laws_load.proofs.OpenPick.{IsOpenPick, open_pick}
use Rattle.view_samples.specs.Look.{EachHad, have_budgets}
use Rattle.view_samples.specs.Picks.{bills, had_candidate}
use Rattle.view_samples.proofs.Candidates.{IsLeft, left_or_picked, none_missing, none_past}

-- ---- what a pick leaves

facts_flagged : (s : SchedulerState) (now : ℕ) (o : Option ℕ) (x : ℕ) → facts_of (with_flag s now o) x ≡ facts_of s x
facts_flagged s now None x = refl
facts_flagged s now (Some d) x = refl

left_by : (r : SchedulerState) (ps : List PartFacts) (c : ℕ) (b : Contender) (now : ℕ) (o : Option ℕ) → IsReadyBest r b → IsLeft r (with_flag (chosen r ps c (Some b)) now o) b
left_by r ps c b now o best =
    let q = chosen r ps c (Some b) in
    let new = record (thread_at r b.thread) { state = Running c } in
    let threads : (with_flag q now o).threads ≡ q.threads = flag_threads q now o in
    record {
      facts = λ x. facts_flagged q now o x ∙ facts_picked r ps c (Some b) x;
      states = λ x ne.
          ap (λ (l : List ThreadNow). (thread_at (record r { threads = l }) x).state) threads
          ∙ ap (λ (t : ThreadNow). t.state) (set_other r.threads b.thread x new ne);
      count = ap (λ (l : List ThreadNow). length l) threads ∙ length-set r.threads b.thread new;
      same = ap (λ (k : Contender). k.facts) best.same;
    }

runs_by : (r : SchedulerState) (ps : List PartFacts) (c : ℕ) (b : Contender) (now : ℕ) (o : Option ℕ) (p : ℕ) → c < length r.cpus → bills (cpu_at (with_flag (chosen r ps c (Some b)) now o) c).running p ≡ nat_eq b.facts.partition p
runs_by r ps c b now o p below =
    ap (λ (k : Option Pick). bills k p)
    (flag_running (chosen r ps c (Some b)) now o c ∙ ap (λ (z : CpuNow). z.running) (cpu_same r.cpus c _ below))

or_true : (a : Bool) → (a || true) ≡ true
or_true true = refl
or_true false = refl

-- whoever was a candidate is picked, or left
picked_or_left : (r : SchedulerState) (ps qs : List PartFacts) (c : ℕ) (b : Contender) (now : ℕ) (o : Option ℕ) (p : ℕ) (t : SchedulerState) → t ≡ with_flag (chosen r qs c (Some b)) now o → c < length r.cpus → IsReadyBest r b
    → has_candidate ps p (contenders r) ≡ true → (bills (cpu_at t c).running p || has_candidate ps p (contenders t)) ≡ true
picked_or_left r ps qs c b now o p t is below best had =
    let u = with_flag (chosen r qs c (Some b)) now o in
    let left = left_by r qs c b now o best in
    subst (λ (s : SchedulerState). (bills (cpu_at s c).running p || has_candidate ps p (contenders s)) ≡ true) (sym is)
    (elim (left_or_picked ps p r u b left (length r.threads) had) [
      | inl own ↦ ap (λ k. k || has_candidate ps p (contenders u)) (runs_by r qs c b now o p below ∙ own)
      | inr others ↦
          ap (λ k. bills (cpu_at u c).running p || k) (ap (λ n. has_candidate ps p (ready_below u n)) left.count ∙ others)
          ∙ or_true (bills (cpu_at u c).running p)
    ])

-- ---- at the pick of an entry

module _ (scenario : Scenario) (order : Order) (h : List Entry) (e : Entry) (valid : IsScenario scenario) (legal : IsLegal scenario order (h ++ e ∷ [])) where
  abbrev g : List Entry
  g = h ++ e ∷ []

  abbrev t : SchedulerState
  t = state_after scenario g

  abbrev r : SchedulerState
  r = state_to_pick scenario (state_after scenario h) h e.cpu

  parts_same : IsOpenPick r h e.cpu e t → all_parts r.shape r.rows g (e.to / r.shape.tick) ≡ parts_now t g
  parts_same opened =
      ap (λ (z : Shape). all_parts z r.rows g (e.to / z.tick)) (sym opened.shape)
      ∙ ap (λ rows. all_parts t.shape rows g (e.to / t.shape.tick)) (sym opened.rows)
      ∙ ap (λ n. all_parts t.shape t.rows g (n / t.shape.tick)) (sym (moment-append h e))

  by_best : (opened : IsOpenPick r h e.cpu e t) (p x : ℕ) → e.picked ≡ Some x → has_candidate (parts_now t g) p (contenders r) ≡ true → had_candidate t g e.cpu p ≡ true
  by_best opened p x picked had = by_greatest (greatest r.shape.free opened.parts (contenders r)) refl
    where
      by_greatest : (best : Option Contender) → greatest r.shape.free opened.parts (contenders r) ≡ best → had_candidate t g e.cpu p ≡ true
      by_greatest None is = absurd (clash (sym picked ∙ opened.picked ∙ ap (option_map (λ (b : Contender). b.thread)) is))
        where
          clash : Some x ≡ None → ⊥
          clash same = cc
      by_greatest (Some b) is =
          picked_or_left r (parts_now t g) opened.parts e.cpu b e.to _ p t
          (opened.leaves ∙ ap (λ (k : Option Contender). with_flag (chosen r opened.parts e.cpu k) e.to (flag_for (chosen r opened.parts e.cpu k) h opened.parts e.cpu e.to (greatest r.shape.free opened.parts (contenders (chosen r opened.parts e.cpu k))))) is)
          opened.below (greatest_ready r r.shape.free opened.parts b is) had

  none_is : (x : ℕ) → e.picked ≡ Some x → e.picked ≡ None → ⊥
  none_is x some none = clash (sym some ∙ none)
    where
      clash : Some x ≡ None → ⊥
      clash same = cc

  -- each partition with a budget had a candidate where somebody was picked and nobody is starved
  pub had_by_pick : (p x : ℕ) → e.picked ≡ Some x → e.starved ≡ None → p < length (parts_now t g) → 0 < (part_at (parts_now t g) p).budget → had_candidate t g e.cpu p ≡ true
  had_by_pick p x picked starved inside some =
      elim (open_pick scenario order h e valid legal) [
        | inl none ↦ absurd (none_is x picked none.none)
        | inr opened ↦ elim (picks_law scenario order g valid legal h [] e refl) [
          | inr none ↦ absurd (none_is x picked none.none)
          | inl says ↦
              by_best opened p x picked
              (none_missing (parts_now t g) (contenders r) (ap (λ l. missing l (contenders r)) (sym (parts_same opened)) ∙ sym says.starved ∙ starved) p inside some)
        ]
      ]

  -- and one that doesn't exist had none
  pub had_past : (c p : ℕ) → length (parts_now t g) ≤ p → had_candidate t g c p ≡ false
  had_past c p past =
      ap (λ k. k || has_candidate (parts_now t g) p (contenders t)) (by_running (cpu_at t c).running refl)
      ∙ none_past (parts_now t g) p past (contenders t)
    where
      by_running : (o : Option Pick) → (cpu_at t c).running ≡ o → bills o p ≡ false
      by_running None is = refl
      by_running (Some k) is =
          let row = ((in_range scenario order g valid legal).kept c k is).partition in
          let count = count_is t.shape t.rows g (moment g / t.shape.tick) in
          test_ne k.partition p (λ same. omega (arith, same, row, count, past))

  -- so those that had none are those that don't exist
  pub lacking_past : (ps : List PartFacts) (x : ℕ) → ps ≡ parts_now t g → e.picked ≡ Some x → e.starved ≡ None → ((p : ℕ) → p < length ps → 0 < (part_at ps p).budget) → (p : ℕ) → nat_le (length ps) p ≡ not (had_candidate t g e.cpu p)
  lacking_past ps x is picked starved some p =
      let count : length ps ≡ length (parts_now t g) = ap (λ (l : List PartFacts). length l) is in
      elim (cases_lt p (length ps)) [
        | inl inside ↦
            let budget : 0 < (part_at (parts_now t g) p).budget = subst (λ (l : List PartFacts). 0 < (part_at l p).budget) is (some p inside) in
            above (length ps) p inside ∙ sym (ap not (had_by_pick p x picked starved (omega (arith, inside, count)) budget))
        | inr past ↦ below (length ps) p past ∙ sym (ap not (had_past e.cpu p (omega (arith, past, count))))
      ]
    where
      above : (n k : ℕ) → k < n → nat_le n k ≡ false
      above n k less = grind (arith, nat_tests)

      below : (n k : ℕ) → n ≤ k → nat_le n k ≡ true
      below n k le = grind (arith, nat_tests)

-- ---- where the entry tells so

some_budget : (ps : List PartFacts) → have_budgets ps ≡ true → (p : ℕ) → p < length ps → 0 < (part_at ps p).budget
some_budget ps all p inside = elim (cases_lt 0 (part_at ps p).budget) [
  | inl some ↦ some
  | inr none ↦ absurd (clash (sym all ∙ list_all_at (λ (part : PartFacts). nat_lt 0 part.budget) ps p no_part inside (low (part_at ps p).budget none)))
]
  where
    clash : true ≡ false → ⊥
    clash same = cc

    low : (n : ℕ) → n ≤ 0 → nat_lt 0 n ≡ false
    low n none = grind (arith, nat_tests)

pub lacking_told : (scenario : Scenario) (order : Order) (l before : List Entry) (e : Entry) (ps : List PartFacts) → l ≡ before ++ e ∷ [] → IsScenario scenario → IsLegal scenario order l
    → ps ≡ parts_now (state_after scenario l) l → EachHad ps e → (p : ℕ) → nat_le (length ps) p ≡ not (had_candidate (state_after scenario l) l e.cpu p)
lacking_told scenario order l before e ps is valid legal parts had p =
    subst (λ (k : List Entry). IsLegal scenario order k → ps ≡ parts_now (state_after scenario k) k → nat_le (length ps) p ≡ not (had_candidate (state_after scenario k) k e.cpu p)) (sym is)
    (λ there same. lacking_past scenario order before e valid there ps had.tells.thread same had.tells.picked had.tells.starved (some_budget ps had.budgets) p) legal parts
