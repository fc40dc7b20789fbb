use Rattle.std.specs.Prelude.{◌≡◌, ℕ, ◌<◌, Bool, true, false, nat_eq}
use Rattle.std.specs.Int.{bit_at}
use Rattle.aps_levels.specs.declared.bits.Bits64.{Bits64}

-- the set has the number
abbrev pub set_has : Bits64 → ℕ → Bool
set_has set k = nat_eq (bit_at set.word k) 1

-- i is the least number for which the test holds, and below the limit
pub record IsLeast (limit : ℕ) (holds : ℕ → Bool) (i : ℕ) : Type 0 where
  pub below : i < limit
  pub here : holds i ≡ true
  pub earlier : (k : ℕ) → k < i → holds k ≡ false
