-- The laws in the words of the definitions: tiled, and billed as inherited.
use Rattle.std.proofs.Common.{◌≡◌, ◌≢◌, ℕ, ◌<◌, ◌≤◌, List, [], ◌∷◌, ◌++◌, refl, sym, ◌∙◌, ap, subst, append_assoc, Bool, true, false, cond, nat_eq, ◌||◌, Option, Some, None, arith, inl, inr, ◌⊎◌}
use Rattle.std.specs.List.{list_any}
use Rattle.std.specs.Option.{option_map}
use Rattle.std.proofs.lemmas.List.Sums.{fold-append}
use Rattle.std.proofs.lemmas.List.Folds.{list_any-append}
use Rattle.std.proofs.lemmas.Bool.{cases_eq}
use Rattle.aps_model.specs.declared.entry.Entry.{Entry}
use Rattle.aps_model.specs.declared.entry.Order.{Order}
use Rattle.aps_model.specs.declared.state.CpuNow.{CpuNow}
use Rattle.aps_model.specs.declared.state.Pick.{Pick}
use Rattle.laws_runs.specs.Untouched.{IsStepOf, IsPickSaid, thread_kept, partition_kept}
use Rattle.laws_runs.specs.Sound.{IsSound}
use Rattle.laws_runs.proofs.Carry.{carried}
use Rattle.laws_runs.proofs.WaitFacts.{test_ne, test_eq}
use Rattle.laws_runs.proofs.Channels.{names_channels}
use Rattle.laws_runs.proofs.Opening.{idle_opening}
use Rattle.laws_runs.proofs.MomentLaws.{last_own, last_other}
use Rattle.laws_runs.proofs.StepOf.{horizon_same}
use Rattle.laws_runs.proofs.PickSays.{pick_says}
use Rattle.laws_runs.proofs.Sound.{sound, sound_step, sound_step_of, sound_opening, next_law, step_law, legal_last, running_on}
use Rattle.aps_model.specs.After.{After, after, at_start, left_by, over, state_after}
use Rattle.aps_model.specs.Due.{HasTurn, last_to, next_boundary}
use Rattle.aps_model.specs.Inherit.{facts_of}
use Rattle.aps_model.specs.Legal.{IsLegal, LegalFrom}
use Rattle.aps_model.specs.Scenario.{Scenario}
use Rattle.aps_model.specs.SchedulerState.{SchedulerState, cpu_at}
use Rattle.aps_model.specs.Shape.{horizon}
use Rattle.aps_model.specs.Step.{step}
use Rattle.aps_model.specs.Tiled.{IsBilledAsInherited, IsTiled, inherited_last, last_pick, through_last}
use Rattle.aps_model.specs.Valid.{IsScenario}
use Rattle.aps_model.proofs.AfterLaws.{after-append}

-- ---- prefixes

legal_front : (scenario : Scenario) (order : Order) (a : After) (h xs ys : List Entry) → LegalFrom scenario order a h (xs ++ ys) → LegalFrom scenario order a h xs
legal_front scenario order a h [] ys legal = tt
legal_front scenario order a h (x ∷ xs) ys legal = (legal.0, legal.1, legal.2, legal_front scenario order (left_by (step scenario a.state h x.cpu)) (h ++ x ∷ []) xs ys legal.3)

-- each prefix of a legal history is legal
pub prefix_legal : (scenario : Scenario) (order : Order) (xs ys : List Entry) → IsLegal scenario order (xs ++ ys) → IsLegal scenario order xs
unfolding IsLegal
prefix_legal scenario order xs ys legal = legal_front scenario order (at_start scenario) [] xs ys legal

pub up_to : (scenario : Scenario) (order : Order) (h before later : List Entry) (e : Entry) → h ≡ before ++ e ∷ later → IsLegal scenario order h → IsLegal scenario order (before ++ e ∷ [])
up_to scenario order h before later e same legal =
    prefix_legal scenario order (before ++ e ∷ []) later
    (subst (IsLegal scenario order) (same ∙ sym (append_assoc before (e ∷ []) later)) legal)

-- ---- tiled

pub tiled : (scenario : Scenario) (order : Order) (h : List Entry) → IsScenario scenario → IsLegal scenario order h → IsTiled scenario.shape.tick h
tiled scenario order h r legal = λ before later e same.
    let front = up_to scenario order h before later e same legal in
    let n = next_law scenario order before e r front in
    let sizes = (sound scenario order r before (legal_last scenario order before e front).0).grounded.sizes in
    record {
      from = n.joins;
      forward = n.forward;
      within = subst (λ t. e.to ≤ next_boundary t e.from) sizes.tick n.short;
    }

-- ---- billed as inherited

pick-append : (h : List Entry) (e : Entry) (c : ℕ) → last_pick (h ++ e ∷ []) c ≡ cond (nat_eq e.cpu c) e.picked (last_pick h c)
pick-append h e c = fold-append (λ (picked : Option ℕ) (e : Entry). cond (nat_eq e.cpu c) e.picked picked) None h (e ∷ [])

any_last : (h : List Entry) (e : Entry) (c : ℕ) → list_any (λ (other : Entry). nat_eq other.cpu c) (h ++ e ∷ []) ≡ (list_any (λ (other : Entry). nat_eq other.cpu c) h || nat_eq e.cpu c)
any_last h e c = list_any-append (λ (other : Entry). nat_eq other.cpu c) h (e ∷ []) ∙ ap (λ t. list_any (λ (other : Entry). nat_eq other.cpu c) h || t) (or_false (nat_eq e.cpu c))
  where
    or_false : (t : Bool) → (t || false) ≡ t
    or_false true = refl
    or_false false = refl

through_own : (h : List Entry) (e : Entry) (c : ℕ) → e.cpu ≡ c → through_last c (h ++ e ∷ []) ≡ h ++ e ∷ []
through_own [] e c same = ap (λ t. cond (t || false) (e ∷ []) []) (test_eq e.cpu c same)
through_own (x ∷ h) e c same =
    ap (λ t. cond t (x ∷ through_last c (h ++ e ∷ [])) []) (any_last (x ∷ h) e c ∙ ap (λ t. list_any (λ (other : Entry). nat_eq other.cpu c) (x ∷ h) || t) (test_eq e.cpu c same) ∙ or_true (list_any (λ (other : Entry). nat_eq other.cpu c) (x ∷ h)))
    ∙ ap (λ es. x ∷ es) (through_own h e c same)
  where
    or_true : (t : Bool) → (t || true) ≡ true
    or_true true = refl
    or_true false = refl

through_other : (h : List Entry) (e : Entry) (c : ℕ) → e.cpu ≢ c → through_last c (h ++ e ∷ []) ≡ through_last c h
through_other [] e c ne = ap (λ t. cond (t || false) (e ∷ []) []) (test_ne e.cpu c ne)
through_other (x ∷ h) e c ne =
    ap (λ t. cond t (x ∷ through_last c (h ++ e ∷ [])) []) (any_last (x ∷ h) e c ∙ ap (λ t. list_any (λ (other : Entry). nat_eq other.cpu c) (x ∷ h) || t) (test_ne e.cpu c ne) ∙ or_false (list_any (λ (other : Entry). nat_eq other.cpu c) (x ∷ h)))
    ∙ ap (λ es. cond (list_any (λ (other : Entry). nat_eq other.cpu c) (x ∷ h)) (x ∷ es) []) (through_other h e c ne)
  where
    or_false : (t : Bool) → (t || false) ≡ t
    or_false true = refl
    or_false false = refl

-- what a processor keeps is the pick of its last entry, with the partition that was inherited then
abbrev IsPickKept : Scenario → List Entry → Option Pick → ℕ → Type 0
IsPickKept scenario h running c = (thread_kept running ≡ last_pick h c) × (partition_kept running ≡ option_map (inherited_last scenario h c) (last_pick h c))

abbrev KeepsLast : Scenario → List Entry → After → ℕ → Type 0
KeepsLast scenario h a c = IsPickKept scenario h (cpu_at a.state c).running c ⊎ ((last_to h c ≡ Some (horizon a.state.shape)) ⊎ (a.reboot ≡ None → ⊥))

inherited_own : (scenario : Scenario) (h : List Entry) (e : Entry) (a : After) (c x : ℕ) → e.cpu ≡ c → a ≡ after scenario (h ++ e ∷ []) → inherited_last scenario (h ++ e ∷ []) c x ≡ (facts_of a.state x).partition
inherited_own scenario h e a c x same is =
    ap (λ g. (facts_of (state_after scenario g) x).partition) (through_own h e c same) ∙ ap (λ (z : After). (facts_of z.state x).partition) (sym is)

keeps_own : (scenario : Scenario) (s : SchedulerState) (h : List Entry) (e : Entry) (b : After) (picked : Option ℕ) → b ≡ after scenario (h ++ e ∷ []) → e.picked ≡ picked
    → IsPickSaid s h e.cpu e b.state b.reboot → IsStepOf scenario s h e.cpu e b.state → KeepsLast scenario (h ++ e ∷ []) b e.cpu
keeps_own scenario s h e b (Some x) is picked said st =
    let own : last_pick (h ++ e ∷ []) e.cpu ≡ Some x = pick-append h e e.cpu ∙ ap (λ t. cond t e.picked (last_pick h e.cpu)) (test_eq e.cpu e.cpu refl) ∙ picked in
    let kept = said.some x picked in
    inl (
      ap thread_kept kept ∙ sym own,
      ap partition_kept kept ∙ ap (λ p. Some p) (sym (inherited_own scenario h e b e.cpu x refl is)) ∙ ap (option_map (inherited_last scenario (h ++ e ∷ []) e.cpu)) (sym own),
    )
keeps_own scenario s h e b None is picked said st =
    let own : last_pick (h ++ e ∷ []) e.cpu ≡ None = pick-append h e e.cpu ∙ ap (λ t. cond t e.picked (last_pick h e.cpu)) (test_eq e.cpu e.cpu refl) ∙ picked in
    elim (said.none picked) [
      | inl nobody ↦ inl (ap thread_kept nobody ∙ sym own, ap partition_kept nobody ∙ ap (option_map (inherited_last scenario (h ++ e ∷ []) e.cpu)) (sym own))
      | inr why ↦ elim why [
        | inl at_end ↦ inr (inl (last_own h e e.cpu refl ∙ ap (λ z. Some z) (at_end ∙ sym (horizon_same s.shape b.state.shape st.sizes))))
        | inr reboot ↦ inr (inr reboot)
      ]
    ]

keeps_other : (scenario : Scenario) (a : After) (h : List Entry) (e : Entry) (b : After) (d : ℕ) → d ≢ e.cpu → a.reboot ≡ None → IsStepOf scenario a.state h e.cpu e b.state → KeepsLast scenario h a d → KeepsLast scenario (h ++ e ∷ []) b d
keeps_other scenario a h e b d ne calm st (inl kept) =
    let ne' : e.cpu ≢ d = λ k. ne (sym k) in
    let same : last_pick (h ++ e ∷ []) d ≡ last_pick h d = pick-append h e d ∙ ap (λ t. cond t e.picked (last_pick h d)) (test_ne e.cpu d ne') in
    let run = st.others_running d ne in
    inl (
      ap thread_kept run ∙ kept.0 ∙ sym same,
      ap partition_kept run ∙ kept.1
          ∙ ap (λ g. option_map (λ x. (facts_of (state_after scenario g) x).partition) (last_pick h d)) (sym (through_other h e d ne'))
          ∙ ap (option_map (inherited_last scenario (h ++ e ∷ []) d)) (sym same),
    )
keeps_other scenario a h e b d ne calm st (inr (inl at_end)) =
    inr (inl (last_other h e d (λ k. ne (sym k)) ∙ at_end ∙ ap (λ z. Some z) (sym (horizon_same a.state.shape b.state.shape st.sizes))))
keeps_other scenario a h e b d ne calm st (inr (inr reboot)) = absurd (reboot calm)

record IsFollowed (scenario : Scenario) (h : List Entry) (a : After) : Type 0 where
  sound : IsSound scenario a.state h
  is : a ≡ after scenario h
  keeps : (c : ℕ) → KeepsLast scenario h a c

followed_step : (scenario : Scenario) (order : Order) (h : List Entry) (a : After) (c : ℕ) → IsScenario scenario → IsFollowed scenario h a → over a h ≡ None → HasTurn order a.state h c
    → IsFollowed scenario (h ++ (step scenario a.state h c).entry ∷ []) (left_by (step scenario a.state h c))
followed_step scenario order h a c r m run turn =
    let on = running_on a h run in
    let out = step scenario a.state h c in
    let e = out.entry in
    let b = left_by out in
    let st0 = sound_step_of scenario order a.state h c r m.sound turn in
    let st : IsStepOf scenario a.state h e.cpu e b.state = subst (λ k. IsStepOf scenario a.state h k e b.state) (sym st0.cpu) st0 in
    let said0 = pick_says scenario a.state h c (names_channels scenario r) m.sound.grounded.plain m.sound.grounded.kept (subst (λ n. c < n) (sym m.sound.grounded.cpu_count) turn.exists) in
    let said : IsPickSaid a.state h e.cpu e b.state b.reboot = subst (λ k. IsPickSaid a.state h k e b.state b.reboot) (sym st0.cpu) said0 in
    let is : b ≡ after scenario (h ++ e ∷ []) =
    ap (λ k. left_by (step scenario a.state h k)) (sym st0.cpu)
    ∙ ap (λ (z : After). left_by (step scenario z.state h e.cpu)) m.is
    ∙ sym (after-append scenario h e) in
    record {
      sound = sound_step scenario order a.state h c r m.sound on.early turn;
      is = is;
      keeps = λ d. elim (cases_eq d e.cpu) [
        | inl same ↦ subst (KeepsLast scenario (h ++ e ∷ []) b) (sym same) (keeps_own scenario a.state h e b e.picked is refl said st)
        | inr ne ↦ keeps_other scenario a h e b d ne on.calm st (m.keeps d)
      ];
    }

followed_start : (scenario : Scenario) → IsFollowed scenario [] (at_start scenario)
unfolding after
followed_start scenario = record {
  sound = sound_opening scenario;
  is = refl;
  keeps = λ c. inl (ap (λ (z : CpuNow). thread_kept z.running) (idle_opening scenario c), ap (λ (z : CpuNow). partition_kept z.running) (idle_opening scenario c));
}

followed : (scenario : Scenario) (order : Order) → IsScenario scenario → (h : List Entry) → IsLegal scenario order h → IsFollowed scenario h (after scenario h)
followed scenario order r =
    carried scenario order (IsFollowed scenario) (followed_start scenario) (λ h a c m run turn. followed_step scenario order h a c r m run turn)

pub billed_as_inherited : (scenario : Scenario) (order : Order) (h : List Entry) → IsScenario scenario → IsLegal scenario order h → IsBilledAsInherited scenario h
billed_as_inherited scenario order h r legal = λ before later e same.
    let front = up_to scenario order h before later e same legal in
    let last = legal_last scenario order before e front in
    let m = followed scenario order r before last.0 in
    let st = step_law scenario order before e r front in
    let n = next_law scenario order before e r front in
    elim (m.keeps e.cpu) [
      | inl kept ↦
          let ran : e.ran ≡ last_pick before e.cpu = st.ran ∙ kept.0 in
          record { ran = ran; billed = st.billed ∙ kept.1 ∙ ap (option_map (inherited_last scenario before e.cpu)) (sym ran) }
      | inr done ↦ elim done [
        | inl at_end ↦ absurd (past (n.not_over (horizon (state_after scenario before).shape) at_end))
        | inr reboot ↦ absurd (reboot (running_on (after scenario before) before last.1.running).calm)
      ]
    ]
  where
    past : {k : ℕ} → k < k → ⊥
    past l = omega arith
