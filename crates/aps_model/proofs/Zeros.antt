-- Sums that are still zero.
use Rattle.std.proofs.Common.{◌≡◌, ℕ, zero, suc, replicate, slice_index, refl}
use Rattle.std.specs.Prelude.{[]}
use Rattle.aps_model.specs.Limits.{most_partitions}
use Rattle.aps_model.specs.Sums.{IsUsage}

pub zeros_at : (n p : ℕ) → slice_index (replicate n 0) p ≡ 0
zeros_at zero p = refl
zeros_at (suc n) zero = refl
zeros_at (suc n) (suc p) = zeros_at n p

pub nothing_used : (tick a b : ℕ) → IsUsage tick a b [] (record { used = replicate most_partitions 0; critical = replicate most_partitions 0 })
nothing_used tick a b = record { used = λ p inside. zeros_at most_partitions p; critical = λ p inside. zeros_at most_partitions p }
