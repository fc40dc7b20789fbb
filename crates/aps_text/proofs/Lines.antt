-- The text of a list of entries, line after line.
use Rattle.std.proofs.Common.{◌≡◌, ℕ, ◌+◌, ◌<◌, List, [], ◌∷◌, ◌++◌, length, get_or, take, sym, ap, subst, ◌∙◌}
use Rattle.std.proofs.lemmas.List.{take_more, flat_map_more}
use Rattle.aps_model.specs.declared.entry.Entry.{Entry}
use Rattle.std.specs.List.{All}
use Rattle.std.proofs.lemmas.List.Elements.{All-more}
use Rattle.aps_model.specs.Journal.{entry_line, journal_text, IsLine}
use Rattle.aps_text.specs.InTime.{IsInTime}

pub journal_text-push : (es : List Entry) (e : Entry) → journal_text (es ++ e ∷ []) ≡ journal_text es ++ entry_line e
journal_text-push es e = sym (flat_map_more entry_line [] es e)

pub journal_text-take : (es : List Entry) (i : ℕ) (e : Entry) → i < length es → e ≡ get_or es i e
    → journal_text (take (i + 1) es) ≡ journal_text (take i es) ++ entry_line e
journal_text-take es i e lt here =
    ap journal_text (take_more es i e lt ∙ ap (λ (x : Entry). take i es ++ x ∷ []) (sym here)) ∙ journal_text-push (take i es) e

-- one entry more within the ranges
pub lines-more : (es : List Entry) (i : ℕ) (e : Entry) → i < length es → e ≡ get_or es i e → All IsInTime es → (IsInTime e → IsLine e) → All IsLine (take i es) → All IsLine (take (i + 1) es)
lines-more es i e lt here times within so_far =
    All-more IsLine es i e lt so_far (subst (λ (x : Entry). IsLine x) here (within (subst (λ (x : Entry). IsInTime x) (sym here) (times i e lt))))
