-- A run with ten times the parts is the same run.
use Rattle.std.proofs.Common.{◌≡◌, ℕ, ◌++◌, List, [], ◌∷◌, ◌*◌, ◌↔◌, ◌⊎◌, inl, inr, length, refl, sym, ◌∙◌, ap, subst, if◌then◌else◌, nat_eq}
use Rattle.aps_model.specs.declared.entry.Entry.{Entry}
use Rattle.aps_model.specs.declared.entry.Order.{Order}
use Rattle.aps_model.specs.After.{After, after, after_from, at_start, end_of, left_by, or_limit, over, state_after}
use Rattle.aps_model.specs.Due.{HasTurn}
use Rattle.aps_model.specs.Legal.{IsLegal, LegalFrom}
use Rattle.aps_model.specs.Limits.{percent, thousandths}
use Rattle.aps_model.specs.Scenario.{Scenario}
use Rattle.aps_model.specs.SchedulerState.{SchedulerState}
use Rattle.aps_model.specs.Step.{Step, step}
use Rattle.aps_model.specs.Upgrade.{upgraded}
use Rattle.aps_model.specs.Valid.{IsScenario}
use Rattle.laws_upgrade.specs.TimesTen.{scenario_times_ten, state_times_ten}
use Rattle.laws_upgrade.proofs.Steps.{step_ten}

abbrev pub after_times_ten : After → After
after_times_ten a = record a { state = state_times_ten a.state }

left_ten : (scenario : Scenario) (a : After) (h : List Entry) (c : ℕ)
    → left_by (step (scenario_times_ten scenario) (state_times_ten a.state) h c) ≡ after_times_ten (left_by (step scenario a.state h c))
left_ten scenario a h c = ap left_by (step_ten scenario a.state h c)

from_ten : (scenario : Scenario) (a : After) (h es : List Entry)
    → after_from (scenario_times_ten scenario) (after_times_ten a) h es ≡ after_times_ten (after_from scenario a h es)
from_ten scenario a h [] = refl
from_ten scenario a h (e ∷ es) =
    ap (λ b. after_from (scenario_times_ten scenario) b (h ++ e ∷ []) es) (left_ten scenario a h e.cpu)
    ∙ from_ten scenario (left_by (step scenario a.state h e.cpu)) (h ++ e ∷ []) es

start_ten : (scenario : Scenario) → at_start (scenario_times_ten scenario) ≡ after_times_ten (at_start scenario)
start_ten scenario = refl

pub after_ten : (scenario : Scenario) (h : List Entry) → after (scenario_times_ten scenario) h ≡ after_times_ten (after scenario h)
unfolding after
after_ten scenario h =
    ap (λ a. after_from (scenario_times_ten scenario) a [] h) (start_ten scenario) ∙ from_ten scenario (at_start scenario) [] h

pub end_ten : (scenario : Scenario) (limit : ℕ) (h : List Entry) → end_of (scenario_times_ten scenario) limit h ≡ end_of scenario limit h
end_ten scenario limit h = ap (λ a. or_limit (over a h) limit (length h)) (after_ten scenario h)

-- ---- legal histories

turn_ten : (order : Order) (s : SchedulerState) (h : List Entry) (c : ℕ) → HasTurn order s h c → HasTurn order (state_times_ten s) h c
turn_ten order s h c turn = record { exists = turn.exists; least = turn.least; lowest = turn.lowest }

turn_back : (order : Order) (s : SchedulerState) (h : List Entry) (c : ℕ) → HasTurn order (state_times_ten s) h c → HasTurn order s h c
turn_back order s h c turn = record { exists = turn.exists; least = turn.least; lowest = turn.lowest }

from_legal : (scenario : Scenario) (order : Order) (a : After) (h es : List Entry)
    → LegalFrom scenario order a h es → LegalFrom (scenario_times_ten scenario) order (after_times_ten a) h es
from_legal scenario order a h [] legal = legal
from_legal scenario order a h (e ∷ es) (goes_on, turn, same, rest) = (
  goes_on,
  turn_ten order a.state h e.cpu turn,
  same ∙ sym (ap (λ (made : Step). made.entry) (step_ten scenario a.state h e.cpu)),
  subst (λ b. LegalFrom (scenario_times_ten scenario) order b (h ++ e ∷ []) es) (sym (left_ten scenario a h e.cpu))
      (from_legal scenario order (left_by (step scenario a.state h e.cpu)) (h ++ e ∷ []) es rest),
)

back_legal : (scenario : Scenario) (order : Order) (a : After) (h es : List Entry)
    → LegalFrom (scenario_times_ten scenario) order (after_times_ten a) h es → LegalFrom scenario order a h es
back_legal scenario order a h [] legal = legal
back_legal scenario order a h (e ∷ es) (goes_on, turn, same, rest) = (
  goes_on,
  turn_back order a.state h e.cpu turn,
  same ∙ ap (λ (made : Step). made.entry) (step_ten scenario a.state h e.cpu),
  back_legal scenario order (left_by (step scenario a.state h e.cpu)) (h ++ e ∷ []) es
      (subst (λ b. LegalFrom (scenario_times_ten scenario) order b (h ++ e ∷ []) es) (left_ten scenario a h e.cpu) rest),
)

pub legal_ten : (scenario : Scenario) (order : Order) (h : List Entry) → IsLegal scenario order h → IsLegal (scenario_times_ten scenario) order h
unfolding IsLegal
legal_ten scenario order h legal =
    subst (λ a. LegalFrom (scenario_times_ten scenario) order a [] h) (sym (start_ten scenario)) (from_legal scenario order (at_start scenario) [] h legal)

pub legal_back : (scenario : Scenario) (order : Order) (h : List Entry) → IsLegal (scenario_times_ten scenario) order h → IsLegal scenario order h
unfolding IsLegal
legal_back scenario order h legal =
    back_legal scenario order (at_start scenario) [] h (subst (λ a. LegalFrom (scenario_times_ten scenario) order a [] h) (start_ten scenario) legal)

-- ---- the upgraded scenario

pub upgraded_is : (scenario : Scenario) → scenario.shape.parts ≡ percent → upgraded scenario ≡ scenario_times_ten scenario
upgraded_is scenario e =
    ap (λ n. if nat_eq n thousandths then scenario else record (scenario_times_ten scenario) { shape = record scenario.shape { parts = thousandths } }) e
    ∙ ap (λ n. record (scenario_times_ten scenario) { shape = record scenario.shape { parts = n * 10 } }) (sym e)

pub upgraded_same : (scenario : Scenario) → scenario.shape.parts ≡ thousandths → upgraded scenario ≡ scenario
upgraded_same scenario e =
    ap (λ n. if nat_eq n thousandths then scenario else record (scenario_times_ten scenario) { shape = record scenario.shape { parts = thousandths } }) e

-- what holds of both kinds of scenario
by_parts : (scenario : Scenario) (P : Scenario → Type 0) → (scenario.shape.parts ≡ percent) ⊎ (scenario.shape.parts ≡ thousandths)
    → P scenario → P (scenario_times_ten scenario) → P (upgraded scenario)
by_parts scenario P (inl hundred) same ten = subst P (sym (upgraded_is scenario hundred)) ten
by_parts scenario P (inr thousand) same ten = subst P (sym (upgraded_same scenario thousand)) same

pub upgraded_end : (scenario : Scenario) (limit : ℕ) (h : List Entry) → IsScenario scenario → end_of (upgraded scenario) limit h ≡ end_of scenario limit h
upgraded_end scenario limit h valid =
    by_parts scenario (λ S. end_of S limit h ≡ end_of scenario limit h) valid.shape.parts refl (end_ten scenario limit h)

pub upgraded_legal : (scenario : Scenario) (order : Order) (h : List Entry) → IsScenario scenario → IsLegal (upgraded scenario) order h ↔ IsLegal scenario order h
upgraded_legal scenario order h valid =
    by_parts scenario (λ S. IsLegal S order h ↔ IsLegal scenario order h) valid.shape.parts (λ legal. legal, λ legal. legal)
    (legal_back scenario order h, legal_ten scenario order h)

pub upgraded_state : (scenario : Scenario) (h : List Entry) → scenario.shape.parts ≡ percent
    → state_after (upgraded scenario) h ≡ state_times_ten (state_after scenario h)
upgraded_state scenario h e =
    ap (λ S. state_after S h) (upgraded_is scenario e) ∙ ap (λ (a : After). a.state) (after_ten scenario h)
