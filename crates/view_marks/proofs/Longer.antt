-- The lanes and the alterations of a history, with one entry more.
use Rattle.std.proofs.Common.{◌≡◌, ℕ, List, [], ◌∷◌, ◌++◌, length, get_or, replicate, append_assoc, sym, ap, ◌∙◌, arith, refl}
use Rattle.std.proofs.lemmas.List.{append-nil, get_or-replicate, length-replicate}
use Rattle.aps_model.specs.declared.entry.Entry.{Entry}
use Rattle.aps_model.specs.After.{state_after}
use Rattle.aps_model.specs.Scenario.{Scenario}
use Rattle.view_marks.specs.declared.alteration.Alteration.{Alteration}
use Rattle.view_marks.specs.declared.bar.Bar.{Bar}
use Rattle.view_marks.specs.Alteration.{alterations_from, alterations_of, altered_between}
use Rattle.view_marks.specs.Bar.{AreLanes, AreLongerLanes, lane_from, lane_of, lane_with_entry}

-- ---- lanes

lane_from_more : (scenario : Scenario) (c : ℕ) (lane : List Bar) (before es : List Entry) (e : Entry)
    → lane_from scenario c lane before (es ++ e ∷ []) ≡ lane_with_entry (state_after scenario (before ++ es)) c (lane_from scenario c lane before es) e
lane_from_more scenario c lane before [] e = ap (λ h. lane_with_entry (state_after scenario h) c lane e) (sym (append-nil before))
lane_from_more scenario c lane before (d ∷ es) e =
    let longer = lane_with_entry (state_after scenario before) c lane d in
    lane_from_more scenario c longer (before ++ d ∷ []) es e
    ∙ ap (λ h. lane_with_entry (state_after scenario h) c (lane_from scenario c longer (before ++ d ∷ []) es) e) (append_assoc before (d ∷ []) es)

pub lane_more : (scenario : Scenario) (h : List Entry) (e : Entry) (c : ℕ)
    → lane_of scenario (h ++ e ∷ []) c ≡ lane_with_entry (state_after scenario h) c (lane_of scenario h c) e
unfolding lane_of
lane_more scenario h e c = lane_from_more scenario c [] [] h e

pub lanes_none : (scenario : Scenario) (lanes : List (List Bar)) → lanes ≡ replicate scenario.shape.cpus [] → AreLanes scenario [] lanes
unfolding lane_of
lanes_none scenario lanes is = record {
  count = ap (λ (l : List (List Bar)). length l) is ∙ length-replicate scenario.shape.cpus [];
  each = λ c less. ap (λ (l : List (List Bar)). get_or l c []) is ∙ get_or-replicate scenario.shape.cpus c [] [] less;
}

pub lanes_more : (scenario : Scenario) (h : List Entry) (e : Entry) (before after : List (List Bar)) → AreLanes scenario h before
    → AreLongerLanes (state_after scenario h) e before after → AreLanes scenario (h ++ e ∷ []) after
lanes_more scenario h e before after are longer = record {
  count = longer.count ∙ are.count;
  each = λ c less.
      let count = are.count in
      longer.each c (omega (arith, count, less)) ∙ ap (λ lane. lane_with_entry (state_after scenario h) c lane e) (are.each c less)
      ∙ sym (lane_more scenario h e c);
}

-- ---- alterations

-- the alterations with those of the step of this entry
abbrev pub with_step : Scenario → List Alteration → List Entry → Entry → List Alteration
with_step scenario done h e = done ++ altered_between scenario.commands e.to (state_after scenario h) (state_after scenario (h ++ e ∷ []))

altered_from_more : (scenario : Scenario) (done : List Alteration) (before es : List Entry) (e : Entry)
    → alterations_from scenario done before (es ++ e ∷ []) ≡ with_step scenario (alterations_from scenario done before es) (before ++ es) e
altered_from_more scenario done before [] e = ap (λ h. with_step scenario done h e) (sym (append-nil before))
altered_from_more scenario done before (d ∷ es) e =
    let longer = with_step scenario done before d in
    altered_from_more scenario longer (before ++ d ∷ []) es e
    ∙ ap (λ h. with_step scenario (alterations_from scenario longer (before ++ d ∷ []) es) h e) (append_assoc before (d ∷ []) es)

pub altered_more : (scenario : Scenario) (h : List Entry) (e : Entry)
    → alterations_of scenario (h ++ e ∷ []) ≡ with_step scenario (alterations_of scenario h) h e
unfolding alterations_of
altered_more scenario h e = altered_from_more scenario [] [] h e

pub altered_none : (scenario : Scenario) → alterations_of scenario [] ≡ []
unfolding alterations_of
altered_none scenario = refl
