-- The arrows of entries, with one entry more.
use Rattle.std.proofs.Common.{◌≡◌, ℕ, ◌+◌, ◌<◌, ◌≤◌, List, [], ◌∷◌, ◌++◌, Option, Some, None, length, take, get_or, ap, ◌∙◌, arith}
use Rattle.std.proofs.lemmas.List.{take_more}
use Rattle.std.proofs.lemmas.List.Sums.{fold-append}
use Rattle.aps_model.specs.declared.entry.Entry.{Entry}
use Rattle.aps_model.specs.declared.scenario.ThreadRow.{ThreadRow}
use Rattle.view_marks.specs.declared.arrow.Arrow.{Arrow}
use Rattle.view_trace_events.specs.Arrows.{arrows_in, arrows_with, number_with}

pub arrows_more : (threads : List ThreadRow) (h : List Entry) (i : ℕ) (e : Entry) → i < length h → get_or h i e ≡ e
    → arrows_in threads (take (i + 1) h) ≡ arrows_with threads (arrows_in threads (take i h)) e
arrows_more threads h i e less is =
    ap (arrows_in threads) (take_more h i e less ∙ ap (λ (d : Entry). take i h ++ d ∷ []) is)
    ∙ fold-append (arrows_with threads) (record { text = []; next = 0 }) (take i h) (e ∷ [])

pub one_number_more : (number i : ℕ) (arrow : Option Arrow) → number ≤ i → number_with number arrow ≤ i + 1
one_number_more number i None few = omega (arith, few)
one_number_more number i (Some arrow) few = omega (arith, few)
