-- The entries up to the first that ends at a moment or later, with one entry more.
use Rattle.std.proofs.Common.{◌≡◌, ℕ, ◌<◌, ◌≤◌, List, [], ◌∷◌, ◌++◌, Bool, true, false, ◌||◌, nat_le, cond, refl, ap, ◌∙◌, arith}
use Rattle.std.specs.List.{AllByRecursion}
use Rattle.std.proofs.lemmas.Bool.Decides.{nat_tests}
use Rattle.aps_model.specs.declared.entry.Entry.{Entry}
use Rattle.aps_model.specs.Loaded.{through_moment}
use Rattle.view_samples.specs.Note.{is_reached}

early : (m t : ℕ) → t < m → nat_le m t ≡ false
early m t less = grind (arith, nat_tests)

pub reached_here : (m t : ℕ) → m ≤ t → nat_le m t ≡ true
reached_here m t at = grind (arith, nat_tests)

-- none of these reaches it
pub through_all : (m : ℕ) (h : List Entry) → AllByRecursion (λ (e : Entry). e.to < m) h → through_moment m h ≡ h
through_all m [] before = refl
through_all m (d ∷ h) before =
    ap (λ t. cond t (d ∷ []) (d ∷ through_moment m h)) (early m d.to before.0) ∙ ap (λ l. d ∷ l) (through_all m h before.1)

pub through_next : (m : ℕ) (h : List Entry) (e : Entry) → AllByRecursion (λ (d : Entry). d.to < m) h → through_moment m (h ++ e ∷ []) ≡ h ++ e ∷ []
through_next m [] e before = by_test (nat_le m e.to)
  where
    by_test : (t : Bool) → cond t (e ∷ []) (e ∷ []) ≡ e ∷ []
    by_test true = refl
    by_test false = refl
through_next m (d ∷ h) e before =
    ap (λ t. cond t (d ∷ []) (d ∷ through_moment m (h ++ e ∷ []))) (early m d.to before.0) ∙ ap (λ l. d ∷ l) (through_next m h e before.1)

-- one of these does
pub through_kept : (m : ℕ) (h es : List Entry) → is_reached m h ≡ true → through_moment m (h ++ es) ≡ through_moment m h
through_kept m [] es reached = absurd (no reached)
  where
    no : false ≡ true → ⊥
    no same = cc
through_kept m (d ∷ h) es reached = by_test (nat_le m d.to) reached (through_kept m h es)
  where
    by_test : (t : Bool) → (t || is_reached m h) ≡ true → (is_reached m h ≡ true → through_moment m (h ++ es) ≡ through_moment m h)
        → cond t (d ∷ []) (d ∷ through_moment m (h ++ es)) ≡ cond t (d ∷ []) (d ∷ through_moment m h)
    by_test true there rest = refl
    by_test false there rest = ap (λ l. d ∷ l) (rest there)

-- and goes on to
pub reached_more : (m : ℕ) (h es : List Entry) → is_reached m h ≡ true → is_reached m (h ++ es) ≡ true
reached_more m [] es reached = absurd (no reached)
  where
    no : false ≡ true → ⊥
    no same = cc
reached_more m (d ∷ h) es reached = by_test (nat_le m d.to) reached (reached_more m h es)
  where
    by_test : (t : Bool) → (t || is_reached m h) ≡ true → (is_reached m h ≡ true → is_reached m (h ++ es) ≡ true) → (t || is_reached m (h ++ es)) ≡ true
    by_test true there rest = refl
    by_test false there rest = rest there

pub reached_last : (m : ℕ) (h : List Entry) (e : Entry) → m ≤ e.to → is_reached m (h ++ e ∷ []) ≡ true
reached_last m [] e at = ap (λ t. t || false) (reached_here m e.to at)
reached_last m (d ∷ h) e at = by_test (nat_le m d.to) (reached_last m h e at)
  where
    by_test : (t : Bool) → is_reached m (h ++ e ∷ []) ≡ true → (t || is_reached m (h ++ e ∷ [])) ≡ true
    by_test true rest = refl
    by_test false rest = rest
