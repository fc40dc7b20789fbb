-- Each processor steps at every boundary that it passes, so no tick is jumped.
use Rattle.std.proofs.Common.{◌≡◌, ◌≢◌, ℕ, ◌+◌, ◌*◌, ◌/◌, ◌%◌, ◌<◌, ◌≤◌, List, [], ◌∷◌, ◌++◌, All, refl, sym, ◌∙◌, ap, subst, Bool, true, false, ◌&&◌, ◌||◌, nat_eq, Option, Some, None, arith, inl, inr, ◌⊎◌, div-mul-le_self, lt_of_mul-lt-mul_right, mul-le-mul_right, mul-le-mul}
use Rattle.std.specs.Prelude.{unwrap_or}
use Rattle.std.specs.List.{list_all, range_with_len}
use Rattle.std.proofs.lemmas.Bool.{and_from, cases_eq, cases_order, eqb-true, or_left, or_right}
use Rattle.std.proofs.lemmas.List.Elements.{All-push, All-weaker}
use Rattle.std.proofs.lemmas.List.FromFn.{get_or-range_with_len, length-range_with_len}
use Rattle.std.proofs.lemmas.List.Sums.{AllPass-from_list_all}
use Rattle.std.proofs.lemmas.List.Folds.{list_any-append, Any-from_list_any}
use Rattle.aps_model.specs.declared.entry.Entry.{Entry}
use Rattle.aps_model.specs.declared.entry.Order.{Order}
use Rattle.aps_model.specs.Limits.{longest_tick, most_ticks}
use Rattle.laws_runs.specs.Boundaries.{EndsInTick, MeetsBoundaries, is_met, steps_at, ticks_begun}
use Rattle.laws_runs.specs.Moments.{moment}
use Rattle.laws_runs.specs.Sound.{IsNext}
use Rattle.laws_runs.proofs.WaitFacts.{test_eq}
use Rattle.laws_runs.proofs.MomentLaws.{first_is_due, last_own, last_other, moment-append}
use Rattle.laws_runs.proofs.Prefixes.{by_entries}
use Rattle.laws_runs.proofs.Sound.{legal_last, next_law, sound}
use Rattle.aps_model.specs.After.{stands_at, state_after}
use Rattle.aps_model.specs.Due.{due, last_to, next_boundary}
use Rattle.aps_model.specs.History.{IsEntry}
use Rattle.aps_model.specs.Legal.{IsLegal}
use Rattle.aps_model.specs.Scenario.{Scenario}
use Rattle.aps_model.specs.Shape.{horizon}
use Rattle.aps_model.specs.Valid.{IsScenario}

-- ---- numbers

-- a boundary before the next one after z is at z or before
boundary_at : (k t z : ℕ) → k * t < next_boundary t z → k * t ≤ z
boundary_at k t z below =
    let less : k < z / t + 1 = lt_of_mul-lt-mul_right t below in
    let part : k * t ≤ z / t * t = mul-le-mul_right t (omega (arith, less)) in
    let own = div-mul-le_self z t in
    omega (arith, part, own)

-- what ends by the next boundary is at most a tick long
boundary_near : (t z : ℕ) → next_boundary t z ≤ z + t
boundary_near t z = search (arith)

-- between z and the next boundary the tick is that of z
same_tick : (t y z : ℕ) → 0 < t → y ≤ z → z ≤ next_boundary t y → z % t ≢ 0 → z / t ≡ y / t
same_tick t y z pos rises short inside = search (arith)

next_tick : (t y z : ℕ) → 0 < t → y < z → z ≤ next_boundary t y → z % t ≡ 0 → z / t ≡ y / t + 1
next_tick t y z pos rises short at = search (arith)

-- ---- who ends where

met_more : (h : List Entry) (e : Entry) (now : ℕ) → is_met (h ++ e ∷ []) now ≡ (is_met h now || (nat_eq e.to now || false))
met_more h e now = list_any-append (λ (x : Entry). nat_eq x.to now) h (e ∷ [])

steps_more : (h : List Entry) (e : Entry) (c now : ℕ) → steps_at (h ++ e ∷ []) c now ≡ (steps_at h c now || ((nat_eq e.cpu c && nat_eq e.to now) || false))
steps_more h e c now = list_any-append (λ (x : Entry). nat_eq x.cpu c && nat_eq x.to now) h (e ∷ [])

steps_still : (h : List Entry) (e : Entry) (c now : ℕ) → steps_at h c now ≡ true → steps_at (h ++ e ∷ []) c now ≡ true
steps_still h e c now was = steps_more h e c now ∙ or_left (steps_at h c now) _ was

steps_now : (h : List Entry) (e : Entry) (c now : ℕ) → e.cpu ≡ c → e.to ≡ now → steps_at (h ++ e ∷ []) c now ≡ true
steps_now h e c now own at =
    steps_more h e c now
    ∙ or_right (steps_at h c now) _ (or_left (nat_eq e.cpu c && nat_eq e.to now) false (and_from (nat_eq e.cpu c) (nat_eq e.to now) (test_eq e.cpu c own) (test_eq e.to now at)))

some_same : (a b : ℕ) → Some a ≡ Some b → a ≡ b
some_same a b e = cc

-- a list is empty, or has a last entry, at whose end it stands
pub last_split : (h : List Entry) → (h ≡ []) ⊎ ((front : List Entry) × (x : Entry) × (h ≡ front ++ x ∷ []))
last_split [] = inl refl
last_split (y ∷ h) = elim (last_split h) [
  | inl none ↦ inr ([], y, ap (λ l. y ∷ l) none)
  | inr more ↦ inr (y ∷ more.0, more.1, ap (λ l. y ∷ l) more.2)
]

-- ---- nothing ends after the moment

pub latest : (scenario : Scenario) (order : Order) (h : List Entry) → IsScenario scenario → IsLegal scenario order h → All (λ (e : Entry). e.to ≤ moment h) h
latest scenario order h r legal =
    by_entries scenario order (λ g. All (λ (e : Entry). e.to ≤ moment g) g)
    (λ g e l m.
    let now = moment-append g e in
    let n = next_law scenario order g e r l in
    All-push (λ (x : Entry). x.to ≤ moment (g ++ e ∷ [])) g e
    (All-weaker (λ (x : Entry). x.to ≤ moment g) (λ (x : Entry). x.to ≤ moment (g ++ e ∷ [])) (λ x q. let rises = n.rises in omega (arith, q, now, rises)) g m)
    (omega (arith, now)))
    h legal (λ k d below. absurd (omega (arith, below)))

-- ---- the moments of entries have their bounds

pub entries_fit : (scenario : Scenario) (order : Order) (h : List Entry) → IsScenario scenario → IsLegal scenario order h → All IsEntry h
entries_fit scenario order h r legal =
    by_entries scenario order (λ g. All IsEntry g)
    (λ g e l m. All-push IsEntry g e m (fits g e l))
    h legal (λ k d below. absurd (omega (arith, below)))
  where
    fits : (g : List Entry) (e : Entry) → IsLegal scenario order (g ++ e ∷ []) → IsEntry e
    fits g e l =
        let n = next_law scenario order g e r l in
        let s = state_after scenario g in
        let sizes = (sound scenario order r g (legal_last scenario order g e l).0).grounded.sizes in
        let near = boundary_near s.shape.tick e.from in
        let short = n.short in
        let ticks : s.shape.ticks ≤ most_ticks = let a = r.shape.few_ticks in omega (arith, a, sizes.ticks) in
        let tick : s.shape.tick ≤ longest_tick = let a = r.shape.tick_short in omega (arith, a, sizes.tick) in
        let long : s.shape.ticks * s.shape.tick ≤ most_ticks * longest_tick = mul-le-mul ticks tick in
        record {
          forward = n.forward;
          to = let w = n.within in omega (arith, w, long);
          short = omega (arith, near, short, tick);
        }

-- ---- boundaries

record IsStep (scenario : Scenario) (h : List Entry) (e : Entry) : Type 0 where
  pos : 0 < scenario.shape.tick
  next : IsNext (state_after scenario h) h e
  tick : (state_after scenario h).shape.tick ≡ scenario.shape.tick
  past : (d z : ℕ) → last_to h d ≡ Some z → z ≤ moment h

step_at : (scenario : Scenario) (order : Order) (h : List Entry) (e : Entry) → IsScenario scenario → IsLegal scenario order (h ++ e ∷ []) → IsStep scenario h e
step_at scenario order h e r legal =
    let m = sound scenario order r h (legal_last scenario order h e legal).0 in
    record {
      pos = let l = r.shape.tick_long in omega (arith, l);
      next = next_law scenario order h e r legal;
      tick = m.grounded.sizes.tick;
      past = m.timely.behind;
    }

-- the processor's last end, and where the entry ends after it
record IsAfter (scenario : Scenario) (h : List Entry) (e : Entry) (y : ℕ) : Type 0 where
  from : e.from ≡ y
  past : y ≤ moment h
  rises : moment h ≤ e.to
  short : e.to ≤ next_boundary scenario.shape.tick y

after_last : (scenario : Scenario) (h : List Entry) (e : Entry) (P : Type 0) → IsStep scenario h e → (e.to ≡ 0 → P) → ((y : ℕ) → last_to h e.cpu ≡ Some y → IsAfter scenario h e y → P) → P
after_last scenario h e P m first later = by_last (last_to h e.cpu) refl
  where
    by_last : (o : Option ℕ) → last_to h e.cpu ≡ o → P
    by_last None is = first (m.next.opens is)
    by_last (Some y) is =
        let from : e.from ≡ y = m.next.joins ∙ ap (λ o. unwrap_or o 0) is in
        later y is (record {
          from = from;
          past = m.past e.cpu y is;
          rises = m.next.rises;
          short = subst (λ z. e.to ≤ next_boundary scenario.shape.tick z) from (subst (λ n. e.to ≤ next_boundary n e.from) m.tick m.next.short);
        })

met_own : (scenario : Scenario) (order : Order) (h : List Entry) → IsScenario scenario → IsLegal scenario order h
    → (c k z : ℕ) → last_to h c ≡ Some z → k * scenario.shape.tick ≤ z → steps_at h c (k * scenario.shape.tick) ≡ true
met_own scenario order h r legal =
    by_entries scenario order (λ g. (c k z : ℕ) → last_to g c ≡ Some z → k * scenario.shape.tick ≤ z → steps_at g c (k * scenario.shape.tick) ≡ true)
    (λ g e l m c k z is passed.
    let now = k * scenario.shape.tick in
    elim (cases_eq e.cpu c) [
      | inr ne ↦ steps_still g e c now (m c k z (sym (last_other g e c ne) ∙ is) passed)
      | inl own ↦
          let to : e.to ≡ z = some_same e.to z (sym (last_own g e c own) ∙ is) in
          elim (cases_eq e.to now) [
            | inl at ↦ steps_now g e c now own at
            | inr not_at ↦ after_last scenario g e (steps_at (g ++ e ∷ []) c now ≡ true) (step_at scenario order g e r l)
                (λ first. absurd (omega (arith, first, to, passed, not_at)))
                (λ y last a.
                let short = a.short in
                steps_still g e c now (m c k y (ap (last_to g) (sym own) ∙ last) (boundary_at k scenario.shape.tick y (omega (arith, to, passed, not_at, short)))))
          ]
    ])
    h legal (λ c k z is passed. absurd (nothing z is))
  where
    nothing : (z : ℕ) → None ≡ Some z → ⊥
    nothing z e = cc

all_pass : (p : ℕ → Bool) (n x : ℕ) → list_all p (range_with_len 0 n) ≡ true → x < n → p x ≡ true
all_pass p n x all below =
    let at = AllPass-from_list_all p (range_with_len 0 n) all x 0 (subst (λ k. x < k) (sym (length-range_with_len 0 n)) below) in
    ap p (omega (arith, get_or-range_with_len 0 n x 0 below)) ∙ at

stands : (now : ℕ) (o : Option ℕ) → stands_at now o ≡ true → o ≡ Some now
stands now None e = absurd cc
stands now (Some z) e = ap (λ n. Some n) (eqb-true z now e)

pub boundaries : (scenario : Scenario) (order : Order) (h : List Entry) → IsScenario scenario → IsLegal scenario order h → MeetsBoundaries (state_after scenario h) h
boundaries scenario order h r legal =
    let s = state_after scenario h in
    let m = sound scenario order r h legal in
    let own = met_own scenario order h r legal in
    let t = scenario.shape.tick in
    let same : s.shape.tick ≡ t = m.grounded.sizes.tick in
    let own_s : (c k z : ℕ) → last_to h c ≡ Some z → k * s.shape.tick ≤ z → steps_at h c (k * s.shape.tick) ≡ true =
    λ c k z is passed. subst (λ n. steps_at h c (k * n) ≡ true) (sym same) (own c k z is (subst (λ n. k * n ≤ z) same passed)) in
    let by_last : (c k : ℕ) (o : Option ℕ) → c < s.shape.cpus → k * t < moment h → last_to h c ≡ o → steps_at h c (k * t) ≡ true = λ c k o below passed.
    let ahead = m.timely.ahead c below in
    elim o as (λ o. last_to h c ≡ o → steps_at h c (k * t) ≡ true) [
      | None ↦ λ is. absurd (omega (arith, first_is_due s h c is, ahead, passed))
      | Some z ↦ λ is.
          let soon : due s h c ≤ next_boundary t z = subst (λ n. due s h c ≤ next_boundary n z) same (m.timely.soon c z is) in
          own c k z is (boundary_at k t z (omega (arith, soon, ahead, passed)))
    ] in
    record {
      own = own_s;
      each = λ c k below passed. subst (λ n. steps_at h c (k * n) ≡ true) (sym same) (by_last c k (last_to h c) below (subst (λ n. k * n < moment h) same passed) refl);
      whole = λ at_end c k below within.
          let last : last_to h c ≡ Some (horizon s.shape) = stands (horizon s.shape) (last_to h c) (all_pass (λ d. stands_at (horizon s.shape) (last_to h d)) s.shape.cpus c at_end below) in
          own_s c k (horizon s.shape) last (mul-le-mul_right s.shape.tick within);
    }

-- ---- ticks

pub div_rises : (t y z : ℕ) → 0 < t → y ≤ z → y / t ≤ z / t
div_rises t y z pos rises = search (arith)

-- before a boundary the tick is an earlier one
div_less : (t y z : ℕ) → 0 < t → y < z → z % t ≡ 0 → y / t < z / t
div_less t y z pos less at = search (arith)

zero_mod : (t n : ℕ) → n ≡ 0 → n % t ≡ 0
zero_mod t n zero = ap (λ k. k % t) zero ∙ search (arith)

met_somewhere : (h : List Entry) (now : ℕ) → All (λ (e : Entry). e.to ≤ moment h) h → is_met h now ≡ true → now ≤ moment h
met_somewhere h now all met =
    let found = Any-from_list_any (λ (x : Entry). nat_eq x.to now) h met in
    let x = found.1 in
    let at : x.to ≡ now = eqb-true x.to now found.4 in
    let below : x.to ≤ moment h = subst (λ (y : Entry). y.to ≤ moment h) found.3 (all found.0 x found.2) in
    omega (arith, at, below)

met_last : (h : List Entry) → (h ≡ []) ⊎ (is_met h (moment h) ≡ true)
met_last h = elim (last_split h) [
  | inl none ↦ inl none
  | inr more ↦
      let front = more.0 in
      let x = more.1 in
      let at : moment h ≡ x.to = ap moment more.2 ∙ moment-append front x in
      inr (ap (λ l. is_met l (moment h)) more.2 ∙ met_more front x (moment h) ∙ or_right (is_met front (moment h)) _ (or_left (nat_eq x.to (moment h)) false (test_eq x.to (moment h) (sym at))))
]

pub begun_some : (tick : ℕ) (h : List Entry) → (h ≡ [] → ⊥) → ticks_begun tick h ≡ moment h / tick + 1
begun_some tick [] some = absurd (some refl)
begun_some tick (x ∷ h) some = refl

pub in_tick : (scenario : Scenario) (order : Order) (h : List Entry) (e : Entry) → IsScenario scenario → IsLegal scenario order (h ++ e ∷ []) → EndsInTick scenario.shape.tick h e
in_tick scenario order h e r legal =
    let t = scenario.shape.tick in
    let m = step_at scenario order h e r legal in
    let all = latest scenario order h r (legal_last scenario order h e legal).0 in
    let rises = m.next.rises in
    let opens : h ≡ [] → e.to ≡ 0 = λ empty. m.next.opens (ap (λ l. last_to l e.cpu) empty) in
    let later : is_met h e.to ≡ false → ((h ≡ []) × (e.to ≡ 0)) ⊎ (moment h < e.to) = λ none. elim (met_last h) [
      | inl empty ↦ inl (empty, opens empty)
      | inr met ↦ inr (elim (cases_order (moment h) e.to) [
        | inl same ↦ absurd (clash (sym met ∙ ap (is_met h) same ∙ none))
        | inr other ↦ elim other [
          | inl less ↦ less
          | inr more ↦ absurd (omega (arith, rises, more))
        ]
      ])
    ] in
    record {
      again = λ met.
          let l = met_somewhere h e.to all met in
          let at : e.to ≡ moment h = omega (arith, l, rises) in
          (at, ap (λ n. n / t + 1) at ∙ sym (begun_some t h (λ empty. clash (sym met ∙ ap (λ l. is_met l e.to) empty))));
      later = later;
      inside = λ not_at. after_last scenario h e ((e.to / t + 1 ≡ ticks_begun t h) × (e.to / t ≡ e.from / t)) m
          (λ first. absurd (not_at (zero_mod t e.to first)))
          (λ y last a.
          let past = a.past in
          let short = a.short in
          let whole : e.to / t ≡ y / t = same_tick t y e.to m.pos (omega (arith, past, rises)) short not_at in
          let low = div_rises t y (moment h) m.pos past in
          let high = div_rises t (moment h) e.to m.pos rises in
          let begun = begun_some t h (λ empty. not_at (zero_mod t e.to (opens empty))) in
          (omega (arith, whole, low, high, begun), whole ∙ ap (λ n. n / t) (sym a.from)));
      begins = λ at none. elim (later none) [
        | inl first ↦ ap (λ n. n / t) first.1 ∙ zero_div t m.pos ∙ ap (ticks_begun t) (sym first.0)
        | inr less ↦ after_last scenario h e (e.to / t ≡ ticks_begun t h) m
            (λ first. absurd (omega (arith, first, less)))
            (λ y last a.
            let past = a.past in
            let next : e.to / t ≡ y / t + 1 = next_tick t y e.to m.pos (omega (arith, past, less)) a.short at in
            let low = div_rises t y (moment h) m.pos past in
            let high = div_less t (moment h) e.to m.pos less at in
            let begun = begun_some t h (λ empty. absurd (omega (arith, opens empty, less))) in
            omega (arith, next, low, high, begun))
      ];
    }
  where
    clash : ◌≡◌ {A = Bool} true false → ⊥
    clash e = cc

    zero_div : (t : ℕ) → 0 < t → 0 / t ≡ 0
    zero_div t pos = search (arith)
