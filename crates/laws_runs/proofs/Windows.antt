-- The wide entries of a legal history walk and tile.
use Rattle.std.proofs.Common.{◌≡◌, ◌≢◌, ℕ, zero, suc, ◌<◌, ◌≤◌, List, [], ◌∷◌, ◌++◌, length, refl, sym, ◌∙◌, ap, subst, Bool, false, Option, Some, None, slice_index_or, slice_get, slice_set, replicate, arith, inl, inr, ◌⊎◌, length-set}
use Rattle.std.specs.Prelude.{unwrap_or}
use Rattle.std.specs.Option.{option_map}
use Rattle.std.proofs.lemmas.Bool.{cases_eq}
use Rattle.std.proofs.lemmas.List.{get_or-set_same, get_or-set_other, length-replicate}
use Rattle.std.proofs.lemmas.Option.{slice_get-get_or}
use Rattle.aps_model.specs.declared.entry.Entry.{Entry}
use Rattle.aps_model.specs.declared.entry.Order.{Order}
use Rattle.aps_model.specs.declared.state.CpuNow.{CpuNow}
use Rattle.aps_model.specs.declared.state.Pick.{Pick}
use Rattle.laws_runs.specs.Untouched.{IsStepOf, IsPickSaid, partition_kept, mark_kept}
use Rattle.laws_runs.specs.Sound.{IsSound, IsNext}
use Rattle.laws_runs.specs.Window.{Kept, Lane, Walks, Tiles, lane_after, pair_kept, bill_with_mark, kept_if, wide_of, wides, wides_from, still, lanes_at_start}
use Rattle.laws_runs.proofs.Opening.{idle_opening}
use Rattle.laws_runs.proofs.MomentLaws.{last_own, last_other}
use Rattle.laws_runs.proofs.PickSays.{pick_says}
use Rattle.laws_runs.proofs.Channels.{names_channels}
use Rattle.laws_runs.proofs.StepOf.{horizon_same}
use Rattle.laws_runs.proofs.Sound.{running_on, sound_step, sound_step_of, sound_opening, next_of, tick_pos}
use Rattle.aps_model.specs.After.{After, at_start, is_at_horizon, left_by, over}
use Rattle.aps_model.specs.Due.{HasTurn, last_end, last_to, next_boundary}
use Rattle.aps_model.specs.Legal.{IsLegal, LegalFrom}
use Rattle.aps_model.specs.Scenario.{Scenario}
use Rattle.aps_model.specs.SchedulerState.{SchedulerState, cpu_at}
use Rattle.aps_model.specs.Shape.{horizon}
use Rattle.aps_model.specs.Step.{billed, step}
use Rattle.aps_model.specs.Valid.{IsScenario}

abbrev lane_at : List Lane → ℕ → Lane
lane_at lanes c = slice_index_or lanes c still

-- each lane stands where its processor does, and runs what it keeps, unless the processor is at the horizon or the run is over
record IsLanes (a : After) (h : List Entry) (lanes : List Lane) : Type 0 where
  count : length lanes ≡ a.state.shape.cpus
  last : (c : ℕ) → (lane_at lanes c).last ≡ last_end h c
  runs : (c : ℕ) → ((lane_at lanes c).runs ≡ pair_kept (cpu_at a.state c).running) ⊎ ((last_to h c ≡ Some (horizon a.state.shape)) ⊎ (a.reboot ≡ None → ⊥))

-- what an entry bills is what its processor kept
bills_kept : (e : Entry) (o : Option Pick) → e.billed ≡ partition_kept o → e.critical ≡ mark_kept o → bill_with_mark e ≡ pair_kept o
bills_kept e None billed critical = ap (λ (b : Option ℕ). option_map (λ (p : ℕ). (p, e.critical)) b) billed
bills_kept e (Some k) billed critical =
    let f : Bool → Kept = λ m. Some (k.partition, m) in
    ap (λ (b : Option ℕ). option_map (λ (p : ℕ). (p, e.critical)) b) billed ∙ ap f critical

lane_set : (lanes : List Lane) (c : ℕ) (l : Lane) (P : ℕ → Lane → Type 0) → c < length lanes → P c l → ((d : ℕ) → d ≢ c → P d (lane_at lanes d)) → (d : ℕ) → P d (lane_at (slice_set lanes c l) d)
lane_set lanes c l P below here others d = elim (cases_eq d c) [
  | inl e ↦ subst (λ k. P k (lane_at (slice_set lanes c l) k)) (sym e) (subst (P c) (sym (get_or-set_same lanes c l still below)) here)
  | inr ne ↦ subst (P d) (sym (get_or-set_other lanes c d l still ne)) (others d ne)
]

-- after the step the lane runs what the entry keeps, unless the processor is at the horizon
kept_runs : (scenario : Scenario) (s : SchedulerState) (h : List Entry) (e : Entry) (b : After) (picked : Option ℕ) → e.picked ≡ picked
    → IsPickSaid s h e.cpu e b.state b.reboot → IsStepOf scenario s h e.cpu e b.state
    → (kept_if picked (pair_kept (cpu_at b.state e.cpu).running) ≡ pair_kept (cpu_at b.state e.cpu).running) ⊎ ((last_to (h ++ e ∷ []) e.cpu ≡ Some (horizon b.state.shape)) ⊎ (b.reboot ≡ None → ⊥))
kept_runs scenario s h e b (Some x) is said st = inl refl
kept_runs scenario s h e b None is said st = elim (said.none is) [
  | inl nobody ↦ inl (sym (ap pair_kept nobody))
  | inr why ↦ elim why [
    | inl at_end ↦ inr (inl (last_own h e e.cpu refl ∙ ap (λ z. Some z) (at_end ∙ sym (horizon_same s.shape b.state.shape st.sizes))))
    | inr reboot ↦ inr (inr reboot)
  ]
]

lanes_step : (scenario : Scenario) (a : After) (h : List Entry) (e : Entry) (b : After) (lanes : List Lane) → e.cpu < a.state.shape.cpus → a.reboot ≡ None
    → IsPickSaid a.state h e.cpu e b.state b.reboot → IsStepOf scenario a.state h e.cpu e b.state → IsLanes a h lanes → IsLanes b (h ++ e ∷ []) (slice_set lanes e.cpu (lane_after (wide_of e b.state)))
lanes_step scenario a h e b lanes exists calm said st m =
    let below : e.cpu < length lanes = rw m.count exists in
    let l = lane_after (wide_of e b.state) in
    record {
      count = length-set lanes e.cpu l ∙ m.count ∙ sym st.sizes.cpus;
      last = lane_set lanes e.cpu l (λ d (k : Lane). k.last ≡ last_end (h ++ e ∷ []) d) below
          (sym (ap (λ o. unwrap_or o 0) (last_own h e e.cpu refl)))
          (λ d ne. m.last d ∙ ap (λ o. unwrap_or o 0) (sym (last_other h e d (λ k. ne (sym k)))));
      runs = lane_set lanes e.cpu l (λ d (k : Lane). (k.runs ≡ pair_kept (cpu_at b.state d).running) ⊎ ((last_to (h ++ e ∷ []) d ≡ Some (horizon b.state.shape)) ⊎ (b.reboot ≡ None → ⊥))) below
          (kept_runs scenario a.state h e b e.picked refl said st)
          (λ d ne. elim (m.runs d) [
            | inl same ↦ inl (same ∙ ap pair_kept (sym (st.others_running d ne)))
            | inr over' ↦ elim over' [
              | inl at_end ↦ inr (inl (last_other h e d (λ k. ne (sym k)) ∙ at_end ∙ ap (λ z. Some z) (sym (horizon_same a.state.shape b.state.shape st.sizes))))
              | inr reboot ↦ absurd (reboot calm)
            ]
          ]);
    }

-- all that is known of the next entry of a legal history
record IsGoing (scenario : Scenario) (order : Order) (s : SchedulerState) (h : List Entry) (e : Entry) (b : After) : Type 0 where
  step : IsStepOf scenario s h e.cpu e b.state
  said : IsPickSaid s h e.cpu e b.state b.reboot
  next : IsNext s h e
  sound : IsSound scenario b.state (h ++ e ∷ [])

going : (scenario : Scenario) (order : Order) (s : SchedulerState) (h : List Entry) (e : Entry) → IsScenario scenario → IsSound scenario s h → is_at_horizon s h ≡ false → HasTurn order s h e.cpu
    → e ≡ (step scenario s h e.cpu).entry → IsGoing scenario order s h e (left_by (step scenario s h e.cpu))
going scenario order s h e r m over turn same =
    let t = (step scenario s h e.cpu).state in
    let st : IsStepOf scenario s h e.cpu e t = subst (λ (x : Entry). IsStepOf scenario s h e.cpu x t) (sym same) (sound_step_of scenario order s h e.cpu r m turn) in
    record {
      step = st;
      said = subst (λ (x : Entry). IsPickSaid s h e.cpu x t (step scenario s h e.cpu).reboot) (sym same) (pick_says scenario s h e.cpu (names_channels scenario r) m.grounded.plain m.grounded.kept (subst (λ n. e.cpu < n) (sym m.grounded.cpu_count) turn.exists));
      next = next_of scenario order s h e t (tick_pos scenario s r m.grounded.sizes) m.grounded.cpu_count m.timely over turn st;
      sound = subst (λ (x : Entry). IsSound scenario t (h ++ x ∷ [])) (sym same) (sound_step scenario order s h e.cpu r m over turn);
    }

-- who has the turn isn't at the horizon
at_turn : (s : SchedulerState) (h : List Entry) (e : Entry) → IsNext s h e → last_to h e.cpu ≡ Some (horizon s.shape) → ⊥
at_turn s h e n at_end = let l = n.not_over (horizon s.shape) at_end in omega arith

walks_from : (scenario : Scenario) (order : Order) (a : After) (h es : List Entry) (lanes : List Lane) → IsScenario scenario
    → IsSound scenario a.state h → IsLanes a h lanes → LegalFrom scenario order a h es
    → Walks scenario.shape.tick lanes (wides_from scenario a.state h es) × Tiles lanes (wides_from scenario a.state h es)
walks_from scenario order a h [] lanes r m ls legal = (tt, tt)
walks_from scenario order a h (e ∷ es) lanes r m ls legal =
    let s = a.state in
    let b = left_by (step scenario s h e.cpu) in
    let run = running_on a h legal.0 in
    let g = going scenario order s h e r m run.early legal.1 legal.2 in
    let ls' = lanes_step scenario a h e b lanes legal.1.exists run.calm g.said g.step ls in
    let rest = walks_from scenario order b (h ++ e ∷ []) es (slice_set lanes e.cpu (lane_after (wide_of e b.state))) r g.sound ls' legal.3 in
    let lane = lane_at lanes e.cpu in
    let here : slice_get lanes e.cpu ≡ Some lane = slice_get-get_or lanes e.cpu still (rw ls.count legal.1.exists) in
    let from : e.from ≡ lane.last = g.step.from ∙ sym (ls.last e.cpu) in
    let bills : bill_with_mark e ≡ lane.runs = elim (ls.runs e.cpu) [
      | inl same ↦ bills_kept e (cpu_at s e.cpu).running g.step.billed g.step.critical ∙ sym same
      | inr done ↦ elim done [
        | inl at_end ↦ absurd (at_turn s h e g.next at_end)
        | inr reboot ↦ absurd (reboot run.calm)
      ]
    ] in
    let short : e.to ≤ next_boundary scenario.shape.tick e.from = subst (λ n. e.to ≤ next_boundary n e.from) m.grounded.sizes.tick g.next.short in
    ((lane, here, from, bills, short, rest.0), (lane, here, from, g.next.forward, rest.1))

lane_start : (n c : ℕ) → lane_at (replicate n still) c ≡ still
lane_start zero c = refl
lane_start (suc n) zero = refl
lane_start (suc n) (suc c) = lane_start n c

-- before the first step every lane is still
lanes_opening : (scenario : Scenario) → IsLanes (at_start scenario) [] (lanes_at_start scenario)
lanes_opening scenario = record {
  count = length-replicate scenario.shape.cpus still;
  last = λ c. ap (λ (l : Lane). l.last) (lane_start scenario.shape.cpus c);
  runs = λ c. inl (ap (λ (l : Lane). l.runs) (lane_start scenario.shape.cpus c) ∙ ap (λ (z : CpuNow). pair_kept z.running) (sym (idle_opening scenario c)));
}

pub walks : (scenario : Scenario) (order : Order) (h : List Entry) → IsScenario scenario → IsLegal scenario order h
    → Walks scenario.shape.tick (lanes_at_start scenario) (wides scenario h) × Tiles (lanes_at_start scenario) (wides scenario h)
unfolding IsLegal
walks scenario order h r legal = walks_from scenario order (at_start scenario) [] h (lanes_at_start scenario) r (sound_opening scenario) (lanes_opening scenario) legal
