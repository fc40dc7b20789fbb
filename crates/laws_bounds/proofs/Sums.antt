-- Sums of the first n numbers.
use Rattle.std.proofs.Common.{◌≡◌, ℕ, zero, suc, ◌+◌, ◌*◌, ◌≤◌, ◌<◌, Bool, true, false, if◌then◌else◌, nat_eq, nat_lt, List, [], ◌∷◌, length, refl, arith, sym, subst, ap, ◌∙◌, slice_index_or}
use Rattle.std.specs.List.{sum_by, range_with_len}
use Rattle.std.proofs.lemmas.List.Sums.{sum_by-cons}
use Rattle.std.proofs.lemmas.Bool.Decides.{nat_tests}
use Rattle.std.proofs.Math.Nat.{mul-add}
use Rattle.laws_bounds.specs.Sums.{sum_below}

pub sum_below_zero : (n : ℕ) (f : ℕ → ℕ) → ((p : ℕ) → f p ≡ 0) → sum_below n f ≡ 0
sum_below_zero zero f z = refl
sum_below_zero (suc n) f z = omega (arith, sum_below_zero n f z, z n)

pub sum_below_add : (n : ℕ) (f g h : ℕ → ℕ) → ((p : ℕ) → h p ≡ f p + g p) → sum_below n h ≡ sum_below n f + sum_below n g
sum_below_add zero f g h e = refl
sum_below_add (suc n) f g h e = omega (arith, sum_below_add n f g h e, e n)

unbilled : (n k q : ℕ) → n ≤ q → sum_below n (λ p. if nat_eq q p then k else 0) ≡ 0
unbilled zero k q le = refl
unbilled (suc n) k q le = grind (arith, nat_tests, unbilled n k q (omega (arith, le)), le)

single_step : (n k q : ℕ) (b : Bool) → nat_eq q n ≡ b → sum_below n (λ p. if nat_eq q p then k else 0) ≤ k → sum_below n (λ p. if nat_eq q p then k else 0) + (if b then k else 0) ≤ k
single_step n k q true is le = omega (arith, unbilled n k q (grind (arith, nat_tests, is)))
single_step n k q false is le = omega (arith, le)

pub single_one : (n k q : ℕ) → sum_below n (λ p. if nat_eq q p then k else 0) ≤ k
single_one zero k q = omega (arith)
single_one (suc n) k q = single_step n k q (nat_eq q n) refl (single_one n k q)

some_step : (n : ℕ) (f g : ℕ → ℕ) → sum_below (suc n) f < sum_below (suc n) g → (b : Bool) → nat_lt (f n) (g n) ≡ b
    → (sum_below n f < sum_below n g → (p : ℕ) × (p < n) × (f p < g p)) → (p : ℕ) × (p < suc n) × (f p < g p)
some_step n f g less true is below = (n, omega (arith), grind (arith, nat_tests, is))
some_step n f g less false is below =
    let more : g n ≤ f n = grind (arith, nat_tests, is) in
    let found = below (omega (arith, less, more)) in
    (found.0, omega (arith, found.1), found.2)

-- if a sum is less than another then so is one of its terms
pub some_less : (n : ℕ) (f g : ℕ → ℕ) → sum_below n f < sum_below n g → (p : ℕ) × (p < n) × (f p < g p)
some_less zero f g less = absurd (omega (arith, less))
some_less (suc n) f g less = some_step n f g less (nat_lt (f n) (g n)) refl (some_less n f g)

pub sum_below_scale : (n c : ℕ) (f : ℕ → ℕ) → sum_below n (λ p. c * f p) ≡ c * sum_below n f
sum_below_scale zero c f = omega (arith)
sum_below_scale (suc n) c f = omega (arith, sum_below_scale n c f, mul-add c (sum_below n f) (f n))

one_step : (n i : ℕ) (f : ℕ → ℕ) → i < suc n → (b : Bool) → nat_eq i n ≡ b → (i < n → f i ≤ sum_below n f) → f i ≤ sum_below n f + f n
one_step n i f in' true is ih =
    let same : i ≡ n = grind (arith, nat_tests, is) in
    subst (λ m. f m ≤ sum_below n f + f n) (sym same) (omega (arith))
one_step n i f in' false is ih = omega (arith, ih (grind (arith, nat_tests, is, in')))

pub one_of_sum : (n i : ℕ) (f : ℕ → ℕ) → i < n → f i ≤ sum_below n f
one_of_sum zero i f in' = absurd (omega (arith, in'))
one_of_sum (suc n) i f in' = one_step n i f in' (nat_eq i n) refl (λ less. one_of_sum n i f less)

pub each_below : (n : ℕ) (f g k : ℕ → ℕ) → ((q : ℕ) → q < n → f q ≤ g q + k q) → sum_below n f ≤ sum_below n g + sum_below n k
each_below zero f g k each = omega (arith)
each_below (suc n) f g k each = omega (arith, each_below n f g k (λ q less. each q (omega (arith, less))), each n (omega (arith)))

single_full_step : (n k q : ℕ) → q < suc n → (b : Bool) → nat_eq q n ≡ b → (q < n → sum_below n (λ p. if nat_eq q p then k else 0) ≡ k) → sum_below n (λ p. if nat_eq q p then k else 0) + (if b then k else 0) ≡ k
single_full_step n k q in' true is ih = omega (arith, unbilled n k q (grind (arith, nat_tests, is)))
single_full_step n k q in' false is ih = omega (arith, ih (grind (arith, nat_tests, is, in')))

pub single_full : (n k q : ℕ) → q < n → sum_below n (λ p. if nat_eq q p then k else 0) ≡ k
single_full zero k q in' = absurd (omega (arith, in'))
single_full (suc n) k q in' = single_full_step n k q in' (nat_eq q n) refl (λ less. single_full n k q less)

pub sum_below_same : (n : ℕ) (f g : ℕ → ℕ) → ((p : ℕ) → f p ≡ g p) → sum_below n f ≡ sum_below n g
sum_below_same zero f g same = refl
sum_below_same (suc n) f g same = omega (arith, sum_below_same n f g same, same n)

-- the first one apart
sum_below_first : (n : ℕ) (f : ℕ → ℕ) → sum_below (suc n) f ≡ f 0 + sum_below n (λ p. f (suc p))
sum_below_first zero f = omega arith
sum_below_first (suc n) f = omega (arith, sum_below_first n f)

-- of all places in a list
pub sum_places : {X : Type 0} (f : X → ℕ) (d : X) (xs : List X) → sum_below (length xs) (λ p. f (slice_index_or xs p d)) ≡ sum_by f xs
sum_places f d [] = refl
sum_places f d (x ∷ xs) = omega (arith, sum_below_first (length xs) (λ p. f (slice_index_or (x ∷ xs) p d)), sum_places f d xs, sum_by-cons f x xs)

sum_range_from : (a n : ℕ) (f : ℕ → ℕ) → sum_by f (range_with_len a n) ≡ sum_below n (λ p. f (a + p))
sum_range_from a zero f = refl
sum_range_from a (suc n) f =
    let g : ℕ → ℕ = λ p. f (a + p) in
    let here : g 0 ≡ f a = ap f (omega arith) in
    let later : sum_below n (λ p. f (a + 1 + p)) ≡ sum_below n (λ p. g (suc p)) = sum_below_same n (λ p. f (a + 1 + p)) (λ p. g (suc p)) (λ p. ap f (omega arith)) in
    omega (arith, sum_by-cons f a (range_with_len (a + 1) n), sum_range_from (a + 1) n f, sum_below_first n g, here, later)

-- of a range
pub sum_range : (n : ℕ) (f : ℕ → ℕ) → sum_by f (range_with_len 0 n) ≡ sum_below n f
sum_range n f = sum_range_from 0 n f ∙ sum_below_same n (λ p. f (0 + p)) f (λ p. ap f (omega arith))

others_full : (n i : ℕ) (f : ℕ → ℕ) → n ≤ i → sum_below n (λ q. if nat_eq q i then 0 else f q) ≡ sum_below n f
others_full zero i f le = refl
others_full (suc n) i f le = grind (arith, nat_tests, others_full n i f (omega (arith, le)), le)

but_step : (n i : ℕ) (f : ℕ → ℕ) → i < suc n → (b : Bool) → nat_eq n i ≡ b → (i < n → sum_below n (λ q. if nat_eq q i then 0 else f q) + f i ≡ sum_below n f)
    → sum_below n (λ q. if nat_eq q i then 0 else f q) + (if b then 0 else f n) + f i ≡ sum_below n f + f n
but_step n i f in' true is ih =
    let same : n ≡ i = grind (arith, nat_tests, is) in
    let at : f n ≡ f i = ap f same in
    omega (arith, others_full n i f (omega (arith, same)), at)
but_step n i f in' false is ih = omega (arith, ih (grind (arith, nat_tests, is, in')))

-- of all but one
pub sum_but : (n i : ℕ) (f : ℕ → ℕ) → i < n → sum_below n (λ q. if nat_eq q i then 0 else f q) + f i ≡ sum_below n f
sum_but zero i f in' = absurd (omega (arith, in'))
sum_but (suc n) i f in' = but_step n i f in' (nat_eq n i) refl (λ less. sum_but n i f less)
