-- Where the lanes stand after a legal history.
use Rattle.std.proofs.Common.{◌≡◌, ℕ, zero, suc, ◌*◌, ◌<◌, ◌≤◌, List, [], ◌∷◌, ◌++◌, length, refl, sym, ◌∙◌, ap, append_assoc, slice_set, slice_index_or, arith, inl, inr, replicate}
use Rattle.std.specs.List.{All, sum_by}
use Rattle.std.specs.Prelude.{unwrap_or}
use Rattle.std.proofs.lemmas.Bool.{cases_eq}
use Rattle.std.proofs.lemmas.List.{append-nil, get_or-set_same, get_or-set_other, length-replicate}
use Rattle.std.proofs.lemmas.List.Elements.{All-set, All-replicate}
use Rattle.std.proofs.lemmas.List.Folds.{sum_by-replicate}
use Rattle.aps_model.specs.declared.entry.Entry.{Entry}
use Rattle.aps_model.specs.declared.entry.Order.{Order}
use Rattle.aps_model.specs.After.{after, state_after}
use Rattle.aps_model.specs.Due.{last_end}
use Rattle.aps_model.specs.Legal.{IsLegal}
use Rattle.aps_model.specs.Scenario.{Scenario}
use Rattle.aps_model.specs.SchedulerState.{SchedulerState}
use Rattle.aps_model.specs.Step.{step}
use Rattle.aps_model.specs.Valid.{IsScenario}
use Rattle.laws_runs.specs.Window.{Lane, Wide, lane_after, lanes_at_start, still, wide_of, wides, wides_from}
use Rattle.laws_runs.proofs.MomentLaws.{last_own, last_other}
use Rattle.laws_runs.proofs.Prefixes.{by_entries}
use Rattle.laws_runs.proofs.Sound.{legal_last, sound}
use Rattle.laws_bounds.specs.Lanes.{lanes_at}
use Rattle.laws_bounds.proofs.Budget.{length_lanes}
use Rattle.laws_bounds.proofs.Prefixes.{AllBefore, state-append}

-- ---- one entry more

lanes-append : (lanes : List Lane) (xs : List Wide) (x : Wide) → lanes_at lanes (xs ++ x ∷ []) ≡ slice_set (lanes_at lanes xs) x.cpu (lane_after x)
lanes-append lanes [] x = refl
lanes-append lanes (y ∷ ys) x = lanes-append (slice_set lanes y.cpu (lane_after y)) ys x

wides_from-append : (scenario : Scenario) (h es : List Entry) (e : Entry)
    → wides_from scenario (state_after scenario h) h (es ++ e ∷ []) ≡ wides_from scenario (state_after scenario h) h es ++ wide_of e (state_after scenario (h ++ es ++ e ∷ [])) ∷ []
wides_from-append scenario h [] e =
    ap (λ (t : SchedulerState). wide_of e t ∷ []) (sym (state-append scenario h e))
    ∙ ap (λ g. wide_of e (state_after scenario (g ++ e ∷ [])) ∷ []) (sym (append-nil h))
wides_from-append scenario h (x ∷ es) e =
    let t = state_after scenario (h ++ x ∷ []) in
    ap (λ (u : SchedulerState). wide_of x u ∷ wides_from scenario u (h ++ x ∷ []) (es ++ e ∷ [])) (sym (state-append scenario h x))
    ∙ ap (λ ws. wide_of x t ∷ ws) (wides_from-append scenario (h ++ x ∷ []) es e)
    ∙ ap (λ g. wide_of x t ∷ (wides_from scenario t (h ++ x ∷ []) es ++ wide_of e (state_after scenario (g ++ e ∷ [])) ∷ [])) (append_assoc h (x ∷ []) es)
    ∙ ap (λ (u : SchedulerState). wide_of x u ∷ (wides_from scenario u (h ++ x ∷ []) es ++ wide_of e (state_after scenario (h ++ (x ∷ es) ++ e ∷ [])) ∷ [])) (state-append scenario h x)

pub wides-append : (scenario : Scenario) (h : List Entry) (e : Entry) → wides scenario (h ++ e ∷ []) ≡ wides scenario h ++ wide_of e (state_after scenario (h ++ e ∷ [])) ∷ []
unfolding after
wides-append scenario h e = wides_from-append scenario [] h e

-- the lanes after a history
abbrev pub lanes_of : Scenario → List Entry → List Lane
lanes_of scenario h = lanes_at (lanes_at_start scenario) (wides scenario h)

pub lanes_of-append : (scenario : Scenario) (h : List Entry) (e : Entry) → lanes_of scenario (h ++ e ∷ []) ≡ slice_set (lanes_of scenario h) e.cpu (lane_after (wide_of e (state_after scenario (h ++ e ∷ []))))
lanes_of-append scenario h e =
    ap (lanes_at (lanes_at_start scenario)) (wides-append scenario h e)
    ∙ lanes-append (lanes_at_start scenario) (wides scenario h) (wide_of e (state_after scenario (h ++ e ∷ [])))

pub count_of : (scenario : Scenario) (h : List Entry) → length (lanes_of scenario h) ≡ scenario.shape.cpus
count_of scenario h = length_lanes (lanes_at_start scenario) (wides scenario h) ∙ length-replicate scenario.shape.cpus still

-- ---- at the start

pub sum_at_start : (scenario : Scenario) (f : Lane → ℕ) → f still ≡ 0 → sum_by f (lanes_at_start scenario) ≡ 0
sum_at_start scenario f none = sum_by-replicate f scenario.shape.cpus still ∙ ap (λ n. scenario.shape.cpus * n) none ∙ omega arith

-- ---- no lane stands later than all entries end

late_from : (scenario : Scenario) (moment : ℕ) (s : SchedulerState) (h es : List Entry) (lanes : List Lane) → All (λ (l : Lane). l.last ≤ moment) lanes → AllBefore moment es
    → All (λ (l : Lane). l.last ≤ moment) (lanes_at lanes (wides_from scenario s h es))
late_from scenario moment s h [] lanes late before = late
late_from scenario moment s h (e ∷ es) lanes late before =
    let t = (step scenario s h e.cpu).state in
    late_from scenario moment t (h ++ e ∷ []) es (slice_set lanes e.cpu (lane_after (wide_of e t)))
    (All-set (λ (l : Lane). l.last ≤ moment) lanes e.cpu (lane_after (wide_of e t)) before.0 late) before.1

still_early : (n moment : ℕ) → All (λ (l : Lane). l.last ≤ moment) (replicate n still)
still_early n moment = All-replicate (λ (l : Lane). l.last ≤ moment) n still (omega arith)

pub lanes_late : (scenario : Scenario) (moment : ℕ) (h : List Entry) → AllBefore moment h → All (λ (l : Lane). l.last ≤ moment) (lanes_of scenario h)
lanes_late scenario moment h before = late_from scenario moment _ [] h (lanes_at_start scenario) (still_early scenario.shape.cpus moment) before

-- ---- a lane stands where its processor's last entry ended

stands_step : (lanes : List Lane) (h : List Entry) (e : Entry) (l : Lane) → l.last ≡ e.to → e.cpu < length lanes
    → ((c : ℕ) → (slice_index_or lanes c still).last ≡ last_end h c)
    → (c : ℕ) → (slice_index_or (slice_set lanes e.cpu l) c still).last ≡ last_end (h ++ e ∷ []) c
stands_step lanes h e l last exists stands c = elim (cases_eq c e.cpu) [
  | inl same ↦
      ap (λ k. (slice_index_or (slice_set lanes e.cpu l) k still).last) same
      ∙ ap (λ (z : Lane). z.last) (get_or-set_same lanes e.cpu l still exists)
      ∙ last ∙ sym (ap (λ o. unwrap_or o 0) (last_own h e c (sym same)))
  | inr ne ↦
      ap (λ (z : Lane). z.last) (get_or-set_other lanes e.cpu c l still ne)
      ∙ stands c ∙ sym (ap (λ o. unwrap_or o 0) (last_other h e c (λ k. ne (sym k))))
]

start_stands : (n c : ℕ) → (slice_index_or (replicate n still) c still).last ≡ 0
start_stands zero c = refl
start_stands (suc n) zero = refl
start_stands (suc n) (suc c) = start_stands n c

pub lanes_stand : (scenario : Scenario) (order : Order) → IsScenario scenario → (h : List Entry) → IsLegal scenario order h → (c : ℕ) → (slice_index_or (lanes_of scenario h) c still).last ≡ last_end h c
lanes_stand scenario order r h legal =
    by_entries scenario order (λ h. (c : ℕ) → (slice_index_or (lanes_of scenario h) c still).last ≡ last_end h c)
    (λ h e legal stands c.
    let last = legal_last scenario order h e legal in
    let sizes = (sound scenario order r h last.0).grounded.sizes in
    let exists : e.cpu < length (lanes_of scenario h) = rw (count_of scenario h, ← sizes.cpus) last.1.turn.exists in
    ap (λ (ls : List Lane). (slice_index_or ls c still).last) (lanes_of-append scenario h e)
    ∙ stands_step (lanes_of scenario h) h e (lane_after (wide_of e (state_after scenario (h ++ e ∷ [])))) refl exists stands c)
    h legal (λ c. start_stands scenario.shape.cpus c)
