-- The step of a processor that has the turn.
use Rattle.std.proofs.Common.{◌≡◌, ℕ, ◌<◌, ◌≤◌, List, [], ◌∷◌, ◌++◌, length, sym, ap, subst, None, All, arith}
use Rattle.std.proofs.Math.Seq.{get_or-append_seam}
use Rattle.std.proofs.lemmas.List.{length-append}
use Rattle.aps_model.specs.declared.entry.Entry.{Entry}
use Rattle.aps_model.specs.declared.entry.Order.{Order}
use Rattle.aps_model.specs.After.{after, over, state_after}
use Rattle.aps_model.specs.Due.{HasTurn, due, last_end}
use Rattle.aps_model.specs.History.{IsEntry}
use Rattle.aps_model.specs.Legal.{IsLegal}
use Rattle.aps_model.specs.Scenario.{Scenario}
use Rattle.aps_model.specs.SchedulerState.{SchedulerState}
use Rattle.aps_model.specs.Shape.{horizon}
use Rattle.aps_model.specs.Step.{step}
use Rattle.aps_model.specs.Valid.{IsScenario}
use Rattle.laws_runs.specs.Runs.{GoesOn}
use Rattle.laws_runs.proofs.BoundaryLaws.{entries_fit}
use Rattle.laws_runs.proofs.Counts.{counts_law}
use Rattle.laws_runs.proofs.Prefixes.{legal_more}
use Rattle.laws_runs.proofs.SmallNumbers.{moments_small}
use Rattle.laws_runs.proofs.Sound.{next_law, sound, sound_step_of}

-- ---- what is small in each legal history

-- each entry's processor exists
pub cpus_exist : (scenario : Scenario) (order : Order) (h : List Entry) → IsScenario scenario → IsLegal scenario order h → All (λ (e : Entry). e.cpu < scenario.shape.cpus) h
cpus_exist scenario order h valid legal =
    let sizes = (counts_law scenario order h valid legal).sizes in
    let small = moments_small scenario order h valid legal in
    λ k d lt. let cpu = (small.entries k d lt).cpu in omega (arith, cpu, sizes.cpus)

-- ---- the step of who has the turn

-- its entry is the processor's, and its moments fit; the history with it is legal
pub record IsDueNow (scenario : Scenario) (order : Order) (s : SchedulerState) (h : List Entry) (c : ℕ) : Type 0 where
  pub exists : c < length s.cpus
  pub own : (step scenario s h c).entry.cpu ≡ c
  pub from : (step scenario s h c).entry.from ≡ last_end h c
  pub to : (step scenario s h c).entry.to ≡ due s h c
  pub fits : IsEntry (step scenario s h c).entry
  pub within : due s h c ≤ horizon s.shape
  pub legal : IsLegal scenario order (h ++ (step scenario s h c).entry ∷ [])

pub due_now : (scenario : Scenario) (order : Order) (h : List Entry) (c : ℕ) → IsScenario scenario → IsLegal scenario order h → over (after scenario h) h ≡ None → HasTurn order (state_after scenario h) h c
    → IsDueNow scenario order (state_after scenario h) h c
due_now scenario order h c valid legal run turn =
    let s = state_after scenario h in
    let e = (step scenario s h c).entry in
    let m = sound scenario order valid h legal in
    let st = sound_step_of scenario order s h c valid m turn in
    let goes_on : GoesOn scenario order h e =
    record { running = run; turn = subst (HasTurn order s h) (sym st.cpu) turn; same = ap (λ d. (step scenario s h d).entry) (sym st.cpu) } in
    let more = legal_more scenario order h e legal goes_on in
    let n = next_law scenario order h e valid more in
    record {
      exists = subst (λ k. c < k) (sym m.grounded.cpu_count) turn.exists;
      own = st.cpu;
      from = st.from;
      to = st.to;
      fits = subst IsEntry (get_or-append_seam h e [] e) (entries_fit scenario order (h ++ e ∷ []) valid more (length h) e (omega (arith, length-append h (e ∷ []))));
      within = omega (arith, n.within, st.to);
      legal = more;
    }
