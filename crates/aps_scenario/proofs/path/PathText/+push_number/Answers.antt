use Rattle.std.proofs.Common.{length, ap, arith, append_assoc}
use Rattle.aps_scenario.proofs.Paths.{one_digit, last_digit, digits_less}
use Rattle.aps_scenario.proofs.path.PathText.+push_number.Goals as goal

pub push-requires : goal.push-requires
push-requires t c = omega (arith, ap length (one_digit c.args.number (omega arith)))

pub push_number-requires : goal.push_number-requires
push_number-requires t c = (omega arith, omega (arith, digits_less c.args.number (omega arith) (omega arith)))

pub push-requires-else-number-lt10 : goal.push-requires-else-number-lt10
push-requires-else-number-lt10 t c = omega (arith, digits_less c.args.number (omega arith) (omega arith))

pub returns-else-number-lt10 : goal.returns-else-number-lt10
returns-else-number-lt10 t c =
    let last = last_digit c.args.number (omega arith) (omega arith) in record {
      is = rw (c.push-else-number-lt10.ensures.is, c.push_number.ensures.is, last) (simp append_assoc);
      long = omega (arith, digits_less c.args.number (omega arith) (omega arith));
    }
