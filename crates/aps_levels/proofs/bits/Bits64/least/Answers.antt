use Rattle.std.proofs.Common.{arith, w64}
use Rattle.std.proofs.lemmas.Nat.Bits.{bit_at-trailing_zeros}
use Rattle.aps_levels.proofs.BitLaws.{is_set_one, not_set}
use Rattle.aps_levels.proofs.bits.Bits64.least.Goals as goal

pub returns-else-self-eq0-clause-some : goal.returns-else-self-eq0-clause-some
returns-else-self-eq0-clause-some c =
    let word = c.args.self.word in
    let found = bit_at-trailing_zeros w64 word (omega arith) (omega arith) in
    record { below = found.0; here = is_set_one word _ found.1; earlier = λ k below. not_set word k (found.2 k below) }
