-- Nobody is passed over while time passes.
use Rattle.std.proofs.Common.{◌≡◌, ◌≢◌, ℕ, ◌/◌, ◌<◌, List, [], ◌∷◌, ◌++◌, length, refl, sym, ◌∙◌, ap, subst, Option, Some, None, arith, inl, inr}
use Rattle.std.specs.Prelude.{IsFalse}
use Rattle.std.proofs.lemmas.Bool.{cases_eq}
use Rattle.aps_model.specs.declared.entry.Entry.{Entry}
use Rattle.aps_model.specs.declared.entry.Order.{Order}
use Rattle.aps_model.specs.declared.merit.Contender.{Contender}
use Rattle.aps_model.specs.declared.merit.PartFacts.{PartFacts}
use Rattle.aps_model.specs.declared.shape.Shape.{Shape}
use Rattle.aps_model.specs.declared.state.CpuNow.{CpuNow}
use Rattle.aps_model.specs.After.{after, state_after}
use Rattle.aps_model.specs.Budget.{all_parts}
use Rattle.aps_model.specs.Due.{due, due_at, last_to, left_running}
use Rattle.aps_model.specs.Flag.{flag_for, merit_now, with_flag}
use Rattle.aps_model.specs.Legal.{IsLegal}
use Rattle.aps_model.specs.Merit.{is_below}
use Rattle.aps_model.specs.Pick.{contenders, greatest, merit_among}
use Rattle.aps_model.specs.Scenario.{Scenario}
use Rattle.aps_model.specs.SchedulerState.{SchedulerState, cpu_at}
use Rattle.aps_model.specs.Shape.{horizon}
use Rattle.aps_model.specs.Step.{chosen}
use Rattle.aps_model.specs.Valid.{IsScenario}
use Rattle.laws_runs.specs.Choices.{MadeNoPick, state_to_pick}
use Rattle.laws_runs.proofs.MomentLaws.{last_other, moment-append}
use Rattle.laws_runs.proofs.Picked.{cpu_same, flag_count, flagged_later}
use Rattle.laws_runs.proofs.Sound.{legal_last, sound}
use Rattle.laws_runs.proofs.StepOf.{horizon_same}
use Rattle.laws_load.specs.Passing.{PassesNobodyOver, PassesTime, RunsNoLess, parts_now}
use Rattle.laws_load.proofs.Flags.{RunsNotBelow, flagged_exists, none_below}
use Rattle.laws_load.proofs.Greatest.{picked_not_below}
use Rattle.laws_load.proofs.OpenPick.{open_pick, parts_of}

-- an entry after which time passes makes a pick
pub passing_picks : (scenario : Scenario) (order : Order) (h : List Entry) (e : Entry) → IsScenario scenario → IsLegal scenario order (h ++ e ∷ []) → PassesTime scenario h e
    → MadeNoPick (state_after scenario h) e (after scenario (h ++ e ∷ [])).reboot → ⊥
passing_picks scenario order h e r legal time no_pick =
    let sizes = (sound scenario order r h (legal_last scenario order h e legal).0).grounded.sizes in
    let early = time.early in
    elim no_pick.complete [
      | inl at_end ↦ omega (arith, early, at_end, horizon_same scenario.shape (state_after scenario h).shape sizes)
      | inr reboot ↦ reboot time.calm
    ]

-- ---- the flag, and what is left

contenders_flagged : (s : SchedulerState) (now : ℕ) (o : Option ℕ) → contenders (with_flag s now o) ≡ contenders s
contenders_flagged s now None = refl
contenders_flagged s now (Some d) = refl

parts_are : (t : SchedulerState) (h : List Entry) (e : Entry) → parts_now t (h ++ e ∷ []) ≡ parts_of t h e
parts_are t h e = ap (λ n. all_parts t.shape t.rows (h ++ e ∷ []) (n / t.shape.tick)) (moment-append h e)

due_other : (s : SchedulerState) (h : List Entry) (e : Entry) (d : ℕ) → e.cpu ≢ d → due s (h ++ e ∷ []) d ≡ due s h d
due_other s h e d ne = ap (λ o. due_at s.shape.tick (horizon s.shape) (cpu_at s d).flag o (left_running s (cpu_at s d).running)) (last_other h e d ne)

-- a flagged processor is due at once
flagged_due : (tick end now : ℕ) (flag last left : Option ℕ) (o : Option ℕ) → flag ≡ Some now → now < due_at tick end o last left → due_at tick end flag last left ≡ now
flagged_due tick end now flag None left o is late = absurd (omega (arith, late))
flagged_due tick end now flag (Some z) left o is late = ap (λ f. due_at tick end f (Some z) left) is

module _ (scenario : Scenario) (order : Order) (h : List Entry) (e : Entry) (r : IsScenario scenario) (legal : IsLegal scenario order (h ++ e ∷ [])) (time : PassesTime scenario h e) where
  abbrev g : List Entry
  g = h ++ e ∷ []

  abbrev t : SchedulerState
  t = state_after scenario g

  abbrev u : SchedulerState
  u = state_to_pick scenario (state_after scenario h) h e.cpu

  later : (d : ℕ) → d < t.shape.cpus → e.to < due t g d
  later d exists =
      let sizes = (sound scenario order r g legal).grounded.sizes in
      time.later d (omega (arith, exists, sizes.cpus))

  -- nobody was flagged, for whoever is flagged is due at once
  no_flag : (q : SchedulerState) (ps : List PartFacts) (left : Option Contender) (o : Option ℕ) → t ≡ with_flag q e.to o → flag_for q h ps e.cpu e.to left ≡ o → o ≡ None
  no_flag q ps left None is flags = refl
  no_flag q ps left (Some d) is flags =
      let far = flagged_later q h ps e.cpu e.to d left flags in
      let exists = flagged_exists q h ps e.cpu e.to d left flags in
      let counts = (sound scenario order r g legal).grounded.cpu_count in
      let shape : t.shape ≡ q.shape = ap (λ (z : SchedulerState). z.shape) is in
      let count : length q.cpus ≡ q.shape.cpus =
      sym (flag_count q e.to (Some d)) ∙ sym (ap (λ (z : SchedulerState). length z.cpus) is) ∙ counts ∙ ap (λ (z : Shape). z.cpus) shape in
      let below : d < length q.cpus = omega (arith, exists, count) in
      let flag : (cpu_at t d).flag ≡ Some e.to = ap (λ (z : SchedulerState). (cpu_at z d).flag) is ∙ ap (λ (z : CpuNow). z.flag) (cpu_same q.cpus d _ below) in
      let ne : e.cpu ≢ d = λ same. far.0 (sym same) in
      let w = with_flag q e.to (Some d) in
      let flag_w : (cpu_at w d).flag ≡ Some e.to = ap (λ (z : CpuNow). z.flag) (cpu_same q.cpus d _ below) in
      let running : left_running w (cpu_at w d).running ≡ left_running q (cpu_at q d).running = ap (λ (z : CpuNow). left_running q z.running) (cpu_same q.cpus d _ below) in
      let late' : e.to < due_at q.shape.tick (horizon q.shape) (cpu_at q d).flag (last_to h d) (left_running w (cpu_at w d).running) =
      subst (λ k. e.to < due_at q.shape.tick (horizon q.shape) (cpu_at q d).flag (last_to h d) k) (sym running) far.1 in
      let at : due w h d ≡ e.to = flagged_due q.shape.tick (horizon q.shape) e.to (cpu_at w d).flag (last_to h d) (left_running w (cpu_at w d).running) (cpu_at q d).flag flag_w late' in
      let now : due t g d ≡ e.to = ap (λ (z : SchedulerState). due z g d) is ∙ due_other w h e d ne ∙ at in
      absurd (never (due t g d) e.to now (later d (subst (λ (z : Shape). d < z.cpus) (sym shape) exists)))
    where
      never : (a b : ℕ) → a ≡ b → b < a → ⊥
      never a b same less = omega (arith, same, less)

  -- over the state that the pick leaves before the flag
  none_over : (q : SchedulerState) (ps : List PartFacts) (left : Contender) (d : ℕ) → t ≡ q → parts_now t g ≡ ps → flag_for q h ps e.cpu e.to (Some left) ≡ None → d < t.shape.cpus
      → RunsNotBelow q ps (merit_among ps left) (cpu_at q e.cpu).running → RunsNoLess t g left d
  none_over q ps left d is parts flags exists own =
      let shape : t.shape ≡ q.shape = ap (λ (z : SchedulerState). z.shape) is in
      let exists' : d < q.shape.cpus = subst (λ (z : Shape). d < z.cpus) shape exists in
      let found : RunsNotBelow q ps (merit_among ps left) (cpu_at q d).running = elim (cases_eq d e.cpu) [
        | inl same ↦ subst (λ k. RunsNotBelow q ps (merit_among ps left) (cpu_at q k).running) (sym same) own
        | inr ne ↦
            let ne' : e.cpu ≢ d = λ k. ne (sym k) in
            let late : e.to < due q h d = subst (λ n. e.to < n) (ap (λ (z : SchedulerState). due z g d) is ∙ due_other q h e d ne') (later d exists) in
            none_below q h ps e.cpu e.to d left flags exists' ne late
      ] in
      let parts' : ps ≡ parts_now q g = sym parts ∙ ap (λ (z : SchedulerState). parts_now z g) is in
      subst (λ (z : SchedulerState). RunsNoLess z g left d) (sym is) (record {
        pick = found.pick;
        runs = found.runs;
        no_less = subst (λ xs. IsFalse (is_below q.shape.free (merit_now q xs found.pick.thread) (merit_among xs left))) parts' found.no_less;
      })

  by_best : (ps : List PartFacts) (best : Option Contender) (left : Contender) (d : ℕ) → greatest u.shape.free ps (contenders u) ≡ best → parts_now t g ≡ ps
      → greatest u.shape.free ps (contenders (chosen u ps e.cpu best)) ≡ Some left → e.cpu < length u.cpus → d < t.shape.cpus
      → t ≡ chosen u ps e.cpu best → flag_for (chosen u ps e.cpu best) h ps e.cpu e.to (Some left) ≡ None → RunsNoLess t g left d
  by_best ps None left d is parts left_is below exists state flags = absurd (some_none left (sym left_is ∙ is))
    where
      some_none : (x : Contender) → Some x ≡ None → ⊥
      some_none x k = cc
  by_best ps (Some b) left d is parts left_is below exists state flags =
      none_over (chosen u ps e.cpu (Some b)) ps left d state parts flags exists (picked_not_below u ps e.cpu b is left left_is below)

  pub passed : PassesNobodyOver t g
  passed left left_is d exists = elim (open_pick scenario order h e r legal) [
    | inl no_pick ↦ absurd (passing_picks scenario order h e r legal time no_pick)
    | inr pick ↦
        let ps = pick.parts in
        let best = greatest u.shape.free ps (contenders u) in
        let q = chosen u ps e.cpu best in
        let other = flag_for q h ps e.cpu e.to (greatest u.shape.free ps (contenders q)) in
        let parts : parts_now t g ≡ ps = parts_are t h e ∙ sym pick.parts_are in
        let cs : contenders t ≡ contenders q = ap contenders pick.leaves ∙ contenders_flagged q e.to other in
        let left' : greatest u.shape.free ps (contenders q) ≡ Some left =
        sym (ap (λ (z : Shape). greatest z.free (parts_now t g) (contenders t)) pick.shape
        ∙ ap (λ xs. greatest u.shape.free xs (contenders t)) parts
        ∙ ap (greatest u.shape.free ps) cs) ∙ left_is in
        let none = no_flag q ps (greatest u.shape.free ps (contenders q)) other pick.leaves refl in
        let flags : flag_for q h ps e.cpu e.to (Some left) ≡ None = ap (flag_for q h ps e.cpu e.to) (sym left') ∙ none in
        let state : t ≡ q = pick.leaves ∙ ap (with_flag q e.to) none in
        by_best ps best left d refl parts left' pick.below exists state flags
  ]
