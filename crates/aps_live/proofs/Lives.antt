-- What all live histories keep.
use Rattle.std.proofs.Common.{◌≡◌, ℕ, ◌+◌, ◌^◌, ◌<◌, ◌≤◌, List, [], ◌∷◌, ◌++◌, length, map, Option, Some, None, refl, sym, ◌∙◌, ap, subst, append_assoc, arith}
use Rattle.std.proofs.lemmas.List.{append-nil, length-append, length-replicate}
use Rattle.std.proofs.lemmas.List.FromFn.{length-map-range_with_len}
use Rattle.aps_model.specs.declared.entry.Entry.{Entry}
use Rattle.aps_model.specs.declared.state.Pick.{Pick}
use Rattle.aps_model.specs.Bill.{bill_of}
use Rattle.aps_model.specs.Due.{last_end}
use Rattle.aps_model.specs.Scenario.{Scenario}
use Rattle.aps_live.specs.declared.event.LiveEvent.{LiveEvent}
use Rattle.aps_live.specs.LiveHistory.{AreLiveFrom, IsLive, IsLiveStep, Taken, entries_of, latest, live_after}
use Rattle.aps_live.specs.LiveState.{LiveState, live_cpu_at, live_opening, live_start}
use Rattle.aps_live.specs.LiveStep.{live_bill, live_step}
use Rattle.aps_live.proofs.Sizes.{step_sized}
use Rattle.aps_live.proofs.Tiles.{AreTiled, last_late, tiled_more, tiled_start}

-- ---- one step more at the end

pub entries_more : (steps : List Taken) (t : Taken) → entries_of (steps ++ t ∷ []) ≡ entries_of steps ++ t.entry ∷ []
entries_more [] t = refl
entries_more (u ∷ steps) t = ap (λ (es : List Entry). u.entry ∷ es) (entries_more steps t)

pub after_more : (scenario : Scenario) (s : LiveState) (h : List Entry) (steps : List Taken) (t : Taken)
    → live_after scenario s h (steps ++ t ∷ []) ≡ (live_step scenario (live_after scenario s h steps) (h ++ entries_of steps) t.entry.cpu t.entry.to t.event).state
after_more scenario s h [] t = ap (λ (g : List Entry). (live_step scenario s g t.entry.cpu t.entry.to t.event).state) (sym (append-nil h))
after_more scenario s h (u ∷ steps) t =
    let next = (live_step scenario s h u.entry.cpu u.entry.to u.event).state in
    after_more scenario next (h ++ u.entry ∷ []) steps t
    ∙ ap (λ (g : List Entry). (live_step scenario (live_after scenario next (h ++ u.entry ∷ []) steps) g t.entry.cpu t.entry.to t.event).state) (append_assoc h (u.entry ∷ []) (entries_of steps))

live_more : (scenario : Scenario) (s : LiveState) (h : List Entry) (steps : List Taken) (t : Taken) → AreLiveFrom scenario s h steps
    → IsLiveStep scenario (live_after scenario s h steps) (h ++ entries_of steps) t → AreLiveFrom scenario s h (steps ++ t ∷ [])
live_more scenario s h [] t live m = (subst (λ (g : List Entry). IsLiveStep scenario s g t) (append-nil h) m, tt)
live_more scenario s h (u ∷ steps) t live m =
    let next = (live_step scenario s h u.entry.cpu u.entry.to u.event).state in (
      live.0,
      live_more scenario next (h ++ u.entry ∷ []) steps t live.1
          (subst (λ (g : List Entry). IsLiveStep scenario (live_after scenario next (h ++ u.entry ∷ []) steps) g t) (sym (append_assoc h (u.entry ∷ []) (entries_of steps))) m),
    )

pub is_live_more : (scenario : Scenario) (steps : List Taken) (t : Taken) → IsLive scenario steps
    → IsLiveStep scenario (live_after scenario (live_opening scenario) [] steps) (entries_of steps) t → IsLive scenario (steps ++ t ∷ [])
unfolding IsLive
is_live_more scenario steps t live m = live_more scenario (live_opening scenario) [] steps t live m

pub is_live_none : (scenario : Scenario) → IsLive scenario []
unfolding IsLive
is_live_none scenario = tt

-- ---- what each step has

pub bill_has : (c from now : ℕ) (o : Option Pick) → ((bill_of c from now o).cpu ≡ c) × ((bill_of c from now o).from ≡ from) × ((bill_of c from now o).to ≡ now)
bill_has c from now None = (refl, refl, refl)
bill_has c from now (Some pick) = (refl, refl, refl)

-- ---- what is carried from step to step

pub record IsSound (scenario : Scenario) (s : LiveState) (h : List Entry) : Type 0 where
  pub threads : length s.threads ≡ length scenario.threads
  pub cpus : length s.cpus ≡ scenario.shape.cpus
  pub stamps : s.stamps ≤ length h
  pub tiled : AreTiled scenario.shape.tick scenario.shape.cpus h

pub sound_start : (scenario : Scenario) → IsSound scenario (live_opening scenario) []
sound_start scenario = record {
  threads = length-map-range_with_len (live_start scenario) 0 (length scenario.threads);
  cpus = length-replicate scenario.shape.cpus _;
  stamps = omega arith;
  tiled = tiled_start scenario.shape.tick scenario.shape.cpus;
}

-- the entry begins where its processor's last one ended
pub entry_joins : (scenario : Scenario) (s : LiveState) (h : List Entry) (t : Taken) → IsLiveStep scenario s h t → t.entry.from ≡ last_end h t.entry.cpu
entry_joins scenario s h t m = ap (λ (e : Entry). e.from) m.stepped ∙ (bill_has t.entry.cpu (last_end h t.entry.cpu) t.entry.to (live_cpu_at s t.entry.cpu)).1

pub sound_step : (scenario : Scenario) (s : LiveState) (h : List Entry) (t : Taken) → IsSound scenario s h → IsLiveStep scenario s h t
    → IsSound scenario (live_step scenario s h t.entry.cpu t.entry.to t.event).state (h ++ t.entry ∷ [])
sound_step scenario s h t m step =
    let sized = step_sized scenario s h t.entry.cpu t.entry.to t.event in
    let joins = entry_joins scenario s h t step in
    let late = last_late h t.entry.cpu in record {
      threads = sized.threads ∙ m.threads;
      cpus = sized.cpus ∙ m.cpus;
      stamps = omega (arith, sized.stamps, m.stamps, length-append h (t.entry ∷ []));
      tiled = tiled_more scenario.shape.tick scenario.shape.cpus h t.entry step.exists joins (let l = step.later in omega (arith, joins, late, l)) m.tiled;
    }

sound_from : (scenario : Scenario) (s : LiveState) (h : List Entry) (steps : List Taken) → IsSound scenario s h → AreLiveFrom scenario s h steps → IsSound scenario (live_after scenario s h steps) (h ++ entries_of steps)
sound_from scenario s h [] m live = subst (λ (g : List Entry). IsSound scenario s g) (sym (append-nil h)) m
sound_from scenario s h (t ∷ steps) m live =
    let next = (live_step scenario s h t.entry.cpu t.entry.to t.event).state in
    subst (λ (g : List Entry). IsSound scenario (live_after scenario next (h ++ t.entry ∷ []) steps) g) (append_assoc h (t.entry ∷ []) (entries_of steps))
    (sound_from scenario next (h ++ t.entry ∷ []) steps (sound_step scenario s h t m live.0) live.1)

pub sound : (scenario : Scenario) (steps : List Taken) → IsLive scenario steps → IsSound scenario (live_after scenario (live_opening scenario) [] steps) (entries_of steps)
unfolding IsLive
sound scenario steps live = sound_from scenario (live_opening scenario) [] steps (sound_start scenario) live
