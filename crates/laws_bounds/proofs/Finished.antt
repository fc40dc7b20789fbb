-- The finished ticks lie before each processor's last entry ends.
use Rattle.std.proofs.Common.{ℕ, zero, suc, ◌+◌, ◌*◌, ◌/◌, ◌<◌, ◌≤◌, List, sym, subst, min, arith, inl, inr}
use Rattle.std.specs.List.{fold, range_with_len}
use Rattle.std.proofs.lemmas.Bool.{cases_eq}
use Rattle.std.proofs.Math.Nat.{mul-le-mul_right, div-mul-le_self}
use Rattle.aps_model.specs.declared.entry.Entry.{Entry}
use Rattle.aps_model.specs.declared.shape.Shape.{Shape}
use Rattle.aps_model.specs.Due.{last_end}
use Rattle.aps_model.specs.Loaded.{finished_ticks}

least_below : (f : ℕ → ℕ) (k a n : ℕ) → fold (λ least c. min least (f c)) k (range_with_len a n) ≤ k
least_below f k a zero = omega arith
least_below f k a (suc n) = omega (arith, least_below f (min k (f a)) (a + 1) n)

least_of : (f : ℕ → ℕ) (k a n c : ℕ) → a ≤ c → c < a + n → fold (λ least c. min least (f c)) k (range_with_len a n) ≤ f c
least_of f k a zero c low high = absurd (omega arith)
least_of f k a (suc n) c low high = elim (cases_eq c a) [
  | inl here ↦ subst (λ d. fold (λ least c. min least (f c)) (min k (f a)) (range_with_len (a + 1) n) ≤ f d) (sym here) (omega (arith, least_below f (min k (f a)) (a + 1) n))
  | inr ne ↦ least_of f (min k (f a)) (a + 1) n c (omega arith) (omega arith)
]

-- each processor's last entry ends after the finished ticks
pub finished_end : (shape : Shape) (h : List Entry) (k c : ℕ) → k ≤ finished_ticks shape h → c < shape.cpus → k * shape.tick ≤ last_end h c
finished_end shape h k c finished exists =
    let least : ℕ = fold (λ least c. min least (last_end h c)) (last_end h 0) (range_with_len 0 shape.cpus) in
    let below = least_of (last_end h) (last_end h 0) 0 shape.cpus c (omega arith) (omega arith) in
    let low : least / shape.tick * shape.tick ≤ least = div-mul-le_self least shape.tick in
    omega (arith, below, low, mul-le-mul_right shape.tick finished)
