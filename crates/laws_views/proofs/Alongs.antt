-- Tests of the entries of some ticks, each with all entries before it.
use Rattle.std.proofs.Common.{◌≡◌, ℕ, ◌*◌, ◌/◌, ◌<◌, ◌≤◌, List, [], ◌∷◌, ◌++◌, refl, sym, ◌∙◌, ap, subst, append-nil, append_assoc, Bool, true, false, ◌&&◌, arith}
use Rattle.std.proofs.lemmas.Bool.{or_parts}
use Rattle.aps_model.specs.declared.entry.Entry.{Entry}
use Rattle.aps_model.specs.Loaded.{is_among}
use Rattle.view_samples.specs.Along.{any_along, any_of, in_ticks}

-- where none passes, no single one does
none_along : (f : List Entry → Entry → Bool) (front before later : List Entry) (e : Entry) → any_along f front (before ++ e ∷ later) ≡ false → f (front ++ before) e ≡ false
none_along f front [] later e none =
    ap (λ g. f g e) (append-nil front) ∙ (or_parts (f front e) (any_along f (front ++ e ∷ []) later) none).0
none_along f front (d ∷ before) later e none =
    ap (λ g. f g e) (sym (append_assoc front (d ∷ []) before))
    ∙ none_along f (front ++ d ∷ []) before later e (or_parts (f front d) (any_along f (front ++ d ∷ []) (before ++ e ∷ later)) none).1

among_from : (a b tick now : ℕ) → 0 < tick → a * tick ≤ now → now < b * tick → is_among a b (now / tick) ≡ true
among_from a b tick now some low high = search (arith)

drop_true : (x y : Bool) → (x && y) ≡ false → y ≡ true → x ≡ false
drop_true true true none is = none
drop_true true false none is = sym is ∙ none
drop_true false y none is = refl

pub none_of : (test : List Entry → Entry → Bool) (tick a b : ℕ) (h before later : List Entry) (e : Entry) → any_of test tick a b h ≡ false → h ≡ before ++ e ∷ later
    → 0 < tick → a * tick ≤ e.to → e.to < b * tick → test before e ≡ false
none_of test tick a b h before later e none same some low high =
    let here : in_ticks test (λ (x : Entry). x.to / tick) a b before e ≡ false =
    none_along (in_ticks test (λ (x : Entry). x.to / tick) a b) [] before later e (subst (λ (l : List Entry). any_of test tick a b l ≡ false) same none) in
    drop_true (test before e) (is_among a b (e.to / tick)) here (among_from a b tick e.to some low high)
