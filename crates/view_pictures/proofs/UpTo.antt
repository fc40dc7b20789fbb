-- The entries up to the first that ends at a moment or later, read one by one.
use Rattle.std.proofs.Common.{◌≡◌, ℕ, ◌+◌, ◌<◌, ◌≤◌, List, [], ◌∷◌, ◌++◌, Bool, true, false, length, take, drop, get_or, nat_le, append_assoc, append-nil, ap, refl, sym, ◌∙◌}
use Rattle.std.specs.Prelude.{if◌then◌else◌}
use Rattle.std.proofs.lemmas.List.{drop_all, drop_more}
use Rattle.aps_model.specs.declared.entry.Entry.{Entry}
use Rattle.aps_model.proofs.Ends.{taken}
use Rattle.view_pictures.specs.Scene.{up_to}

-- so many don't end there yet
pub IsSoFar : ℕ → List Entry → ℕ → Type 0
IsSoFar moment h i = up_to moment h ≡ take i h ++ up_to moment (drop i h)

pub none_up_to : (moment : ℕ) (h : List Entry) → IsSoFar moment h 0
unfolding IsSoFar
none_up_to moment h = refl

-- what comes next, where the entry at this place is e
next_up_to : (moment : ℕ) (h : List Entry) (i : ℕ) (e : Entry) (ends : Bool) → i < length h → e ≡ get_or h i e → nat_le moment e.to ≡ ends → IsSoFar moment h i
    → up_to moment h ≡ take (i + 1) h ++ (if ends then [] else up_to moment (drop (i + 1) h))
unfolding IsSoFar
next_up_to moment h i e ends less is test so_far =
    let rest = drop (i + 1) h in
    so_far
    ∙ ap (λ left. take i h ++ up_to moment left) (drop_more h i e less ∙ ap (λ (f : Entry). f ∷ rest) (sym is))
    ∙ ap (λ b. take i h ++ (e ∷ (if b then [] else up_to moment rest))) test
    ∙ sym (append_assoc (take i h) (e ∷ []) (if ends then [] else up_to moment rest))
    ∙ ap (λ front. front ++ (if ends then [] else up_to moment rest)) (sym (taken h i e less is))

-- one more doesn't end there yet
pub more_up_to : (moment : ℕ) (h : List Entry) (i : ℕ) (e : Entry) → i < length h → e ≡ get_or h i e → nat_le moment e.to ≡ false → IsSoFar moment h i → IsSoFar moment h (i + 1)
unfolding IsSoFar
more_up_to moment h i e less is test so_far = next_up_to moment h i e false less is test so_far

-- the next one does
pub met_up_to : (moment : ℕ) (h : List Entry) (i : ℕ) (e : Entry) → i < length h → e ≡ get_or h i e → nat_le moment e.to ≡ true → IsSoFar moment h i → up_to moment h ≡ take (i + 1) h
met_up_to moment h i e less is test so_far = next_up_to moment h i e true less is test so_far ∙ append-nil (take (i + 1) h)

-- none is left
pub all_up_to : (moment : ℕ) (h : List Entry) (i : ℕ) → length h ≤ i → IsSoFar moment h i → up_to moment h ≡ take i h
unfolding IsSoFar
all_up_to moment h i past so_far = so_far ∙ ap (λ left. take i h ++ up_to moment left) (drop_all i h past) ∙ append-nil (take i h)
