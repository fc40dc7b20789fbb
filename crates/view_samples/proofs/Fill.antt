-- A loop that fills a list place by place.
use Rattle.std.proofs.Common.{◌≡◌, ℕ, zero, suc, [], ◌∷◌, refl, ◌+◌, ◌<◌, ◌≤◌, List, length, get_or, map, ◌∙◌, sym, subst, arith}
use Rattle.std.specs.List.{range_with_len}
use Rattle.std.proofs.Math.ListN.{length-set, set}
use Rattle.std.proofs.lemmas.List.Edits.{fill_by_more}
use Rattle.std.proofs.lemmas.List.FromFn.{fill_by_all}

-- of its n places the first i have this
pub record IsFilled {X : Type 0} (f : ℕ → X) (d : X) (n i : ℕ) (xs : List X) : Type 0 where
  pub places : length xs ≡ n
  pub each : (k : ℕ) → k < i → get_or xs k d ≡ f k

pub filled_none : {X : Type 0} (f : ℕ → X) (d : X) (n : ℕ) (xs : List X) → length xs ≡ n → IsFilled f d n 0 xs
filled_none f d n xs places = record { places = places; each = λ k less. absurd (omega (arith, less)) }

pub filled_more : {X : Type 0} (f : ℕ → X) (d : X) (n i : ℕ) (xs : List X) (v : X) → i < n → v ≡ f i → IsFilled f d n i xs → IsFilled f d n (i + 1) (set xs i v)
filled_more {X} f d n i xs v less is before = record {
  places = length-set xs i v ∙ before.places;
  each = let places = before.places in
      subst (λ (w : X). (k : ℕ) → k < i + 1 → get_or (set xs i w) k d ≡ f k) (sym is) (fill_by_more f xs i d (omega (arith, less, places)) before.each);
}

pub filled_all : {X : Type 0} (f : ℕ → X) (d : X) (n i : ℕ) (xs : List X) → n ≤ i → IsFilled f d n i xs → xs ≡ map f (range_with_len 0 n)
filled_all f d n i xs enough all = fill_by_all f xs n d all.places (λ k less. all.each k (omega (arith, less, enough)))

-- what is read in range, whatever the default
pub same_read : {X : Type 0} (xs : List X) (i : ℕ) (a b : X) → i < length xs → get_or xs i a ≡ get_or xs i b
same_read [] i a b less = absurd (omega (arith, less))
same_read (x ∷ xs) zero a b less = refl
same_read (x ∷ xs) (suc i) a b less = same_read xs i a b (omega (arith, less))

map_range_from : {A : Type 0} (f g : ℕ → A) (a n : ℕ) → ((k : ℕ) → k < a + n → f k ≡ g k) → map f (range_with_len a n) ≡ map g (range_with_len a n)
map_range_from f g a zero same = refl
map_range_from f g a (suc n) same = rw (same a (omega arith), map_range_from f g (a + 1) n (λ k below. same k (omega arith))) refl

-- two functions that agree below a number
pub map_range : {A : Type 0} (f g : ℕ → A) (n : ℕ) → ((k : ℕ) → k < n → f k ≡ g k) → map f (range_with_len 0 n) ≡ map g (range_with_len 0 n)
map_range f g n same = map_range_from f g 0 n (λ k below. same k (omega arith))
