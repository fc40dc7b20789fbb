-- Functions over lists that give the same where what they are given agrees at each item.
use Rattle.std.proofs.Common.{◌≡◌, ℕ, ◌+◌, true, false, not, List, [], ◌∷◌, length, refl, ◌∙◌, ap, Bool, cond, ◌||◌, nat_lt, Some, None, map}
use Rattle.std.proofs.lemmas.List.{length-map}
use Rattle.std.proofs.lemmas.List.Recursion.{is_position_or_len}
use Rattle.std.specs.List.{filter, find, fold, list_any, position, position_or_len}

pub map_alike : {X Y : Type 0} (f g : X → Y) → ((x : X) → f x ≡ g x) → (xs : List X) → map f xs ≡ map g xs
map_alike f g same [] = refl
map_alike f g same (x ∷ xs) = ap (λ y. y ∷ map f xs) (same x) ∙ ap (λ ys. g x ∷ ys) (map_alike f g same xs)

pub filter_alike : {X : Type 0} (p q : X → Bool) → ((x : X) → p x ≡ q x) → (xs : List X) → filter p xs ≡ filter q xs
filter_alike p q same [] = refl
filter_alike p q same (x ∷ xs) =
    ap (λ ys. cond (p x) (x ∷ ys) ys) (filter_alike p q same xs) ∙ ap (λ b. cond b (x ∷ filter q xs) (filter q xs)) (same x)

pub find_alike : {X : Type 0} (p q : X → Bool) → ((x : X) → p x ≡ q x) → (xs : List X) → find p xs ≡ find q xs
find_alike p q same [] = refl
find_alike p q same (x ∷ xs) =
    ap (λ found. cond (p x) (Some x) found) (find_alike p q same xs) ∙ ap (λ b. cond b (Some x) (find q xs)) (same x)

pub any_alike : {X : Type 0} (p q : X → Bool) → ((x : X) → p x ≡ q x) → (xs : List X) → list_any p xs ≡ list_any q xs
any_alike p q same [] = refl
any_alike p q same (x ∷ xs) =
    ap (λ rest. p x || rest) (any_alike p q same xs) ∙ ap (λ b. b || list_any q xs) (same x)

pub fold_alike : {A X : Type 0} (f g : A → X → A) → ((a : A) (x : X) → f a x ≡ g a x) → (a : A) (xs : List X) → fold f a xs ≡ fold g a xs
fold_alike f g same a [] = refl
fold_alike f g same a (x ∷ xs) = ap (λ b. fold f b xs) (same a x) ∙ fold_alike f g same (g a x) xs

-- a fold through a map of what is kept, and of the items
pub fold_through : {A B X Y : Type 0} (f : A → X → A) (g : B → Y → B) (up : A → B) (v : X → Y) → ((a : A) (x : X) → g (up a) (v x) ≡ up (f a x))
    → (a : A) (xs : List X) → fold g (up a) (map v xs) ≡ up (fold f a xs)
fold_through f g up v same a [] = refl
fold_through f g up v same a (x ∷ xs) = ap (λ b. fold g b (map v xs)) (same a x) ∙ fold_through f g up v same (f a x) xs

place_step : (b c : Bool) (n : ℕ) → c ≡ b → cond (not c) (1 + n) 0 ≡ cond b 0 (1 + n)
place_step true c n e = ap (λ t. cond (not t) (1 + n) 0) e
place_step false c n e = ap (λ t. cond (not t) (1 + n) 0) e

place_map : {X Y : Type 0} (p : X → Bool) (q : Y → Bool) (v : X → Y) → ((x : X) → q (v x) ≡ p x) → (xs : List X)
    → position_or_len q (map v xs) ≡ position_or_len p xs
place_map p q v same =
    is_position_or_len (λ xs. position_or_len q (map v xs)) p refl (λ x xs. place_step (p x) (q (v x)) (position_or_len q (map v xs)) (same x))

pub position_map : {X Y : Type 0} (p : X → Bool) (q : Y → Bool) (v : X → Y) → ((x : X) → q (v x) ≡ p x) → (xs : List X)
    → position q (map v xs) ≡ position p xs
position_map p q v same xs =
    ap (λ n. cond (nat_lt n (length (map v xs))) (Some n) None) (place_map p q v same xs)
    ∙ ap (λ m. cond (nat_lt (position_or_len p xs) m) (Some (position_or_len p xs)) None) (length-map xs v)
