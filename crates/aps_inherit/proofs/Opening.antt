-- The values at the start of a run are those of the opening state.
use Rattle.std.proofs.Common.{◌≡◌, ℕ, ◌+◌, List, [], ◌∷◌, map, length, sym, ◌∙◌, ap, refl, Option, None}
use Rattle.aps_model.specs.declared.scenario.ThreadRow.{ThreadRow}
use Rattle.aps_model.specs.declared.shape.Shape.{Shape}
use Rattle.aps_model.specs.declared.state.Facts.{Facts}
use Rattle.aps_model.specs.declared.state.ThreadNow.{ThreadNow}
use Rattle.aps_model.specs.Inherit.{Inheritance, inheritance_of, top_of}
use Rattle.aps_model.specs.Opening.{first_state, opening, stamp_after, start_threads}
use Rattle.aps_model.specs.Scenario.{Scenario}
use Rattle.aps_model.specs.SchedulerState.{ChannelNow, Triple, no_channel}
use Rattle.aps_inherit.specs.Opening.{no_tops, own_values}

own-start : (shape : Shape) (number next : ℕ) (rows : List ThreadRow)
    → map (λ (t : ThreadNow). t.own) (start_threads shape number next rows) ≡ own_values rows
own-start shape number next [] = refl
own-start shape number next (row ∷ rows) =
    ap (λ (l : List Facts). (record { partition = row.partition; priority = row.priority; critical = row.critical }) ∷ l)
    (own-start shape (number + 1) (stamp_after (first_state row) next) rows)

tops-start : (names : List (List ℕ))
    → map (λ (c : ChannelNow). top_of c.messages) (map (λ (name : List ℕ). no_channel) names) ≡ no_tops (length names)
tops-start [] = refl
tops-start (name ∷ names) = ap (λ (l : List (Option ℕ)). None ∷ l) (tops-start names)

pub inheritance_of-opening : (scenario : Scenario) (rows : List ThreadRow) (count : ℕ) (own : List Facts) (triples : List Triple)
    (tops : List (Option ℕ))
    → rows ≡ scenario.threads → count ≡ length scenario.channels → own ≡ own_values rows → triples ≡ [] → tops ≡ no_tops count
    → let start : Inheritance = record { own = own; triples = triples; tops = tops } in start ≡ inheritance_of (opening scenario)
inheritance_of-opening scenario rows count own triples tops e1 e2 e3 e4 e5 =
    ap (λ o. made o triples tops) (e3 ∙ ap own_values e1 ∙ sym (own-start scenario.shape 0 0 scenario.threads))
    ∙ ap (λ p. made (inheritance_of (opening scenario)).own p tops) e4
    ∙ ap (λ t. made (inheritance_of (opening scenario)).own [] t) (e5 ∙ ap no_tops e2 ∙ sym (tops-start scenario.channels))
  where
    made : List Facts → List Triple → List (Option ℕ) → Inheritance
    made o p t = record { own = o; triples = p; tops = t }
