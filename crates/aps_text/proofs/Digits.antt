-- How many digits a number has.
use Rattle.std.proofs.Common.{ℕ, ◌^◌, ◌<◌, ◌≤◌, length, arith, length-append}
use Rattle.std.proofs.lemmas.Fmt.{length-decimal-le}
use Rattle.std.specs.Fmt.{decimal}
use Rattle.aps_model.specs.Limits.{last_partition, last_thread}

pub two_digits : (n : ℕ) → n ≤ last_partition → length (decimal n) ≤ 2
two_digits n small = length-decimal-le 2 n (omega arith) (omega arith) (omega arith)

pub four_digits : (n : ℕ) → n ≤ last_thread → length (decimal n) ≤ 4
four_digits n small = length-decimal-le 4 n (omega arith) (omega arith) (omega arith)

pub twenty_digits : (n : ℕ) → n < 2 ^ 64 → length (decimal n) ≤ 20
twenty_digits n fits = length-decimal-le 20 n (omega arith) (omega arith) (omega arith)

pub ruleset digits = (two_digits, four_digits, twenty_digits, length-append)
