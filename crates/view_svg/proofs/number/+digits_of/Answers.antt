use Rattle.std.proofs.Common.{◌≡◌, ◌∙◌, ◌+◌, ◌/◌, ◌%◌, ◌<◌, ◌≤◌, ◌^◌, ◌++◌, [], ◌∷◌, length, ap, sym, arith, length-append}
use Rattle.std.proofs.lemmas.Fmt.{decimal_digit, decimal_step, length-decimal-le}
use Rattle.std.specs.Fmt.{decimal}
use Rattle.view_svg.proofs.number.+digits_of.Goals as goal

pub returns-then-value-lt10-clause-same : goal.returns-then-value-lt10-clause-same
returns-then-value-lt10-clause-same t c = sym (ap length (decimal_digit c.args.value c.if-value-lt10.true))

pub returns-else-value-lt10-clause-same : goal.returns-else-value-lt10-clause-same
returns-else-value-lt10-clause-same t c =
    let v = c.args.value in
    let step : decimal v ≡ decimal (v / 10) ++ ((48 + v % 10) ∷ []) = decimal_step v c.if-value-lt10.false (omega (arith, c.ranges.value.fits)) in
    ap (λ n. n + 1) c.digits_of.ensures.same
    ∙ sym (ap length step ∙ length-append (decimal (v / 10)) ((48 + v % 10) ∷ []))

pub returns-else-value-lt10-clause-few : goal.returns-else-value-lt10-clause-few
returns-else-value-lt10-clause-few t c =
    let v = c.args.value in
    let fits = c.ranges.value.fits in
    let less : v / 10 < 2 ^ 64 = omega (arith, fits) in
    let few : length (decimal (v / 10)) ≤ 19 = length-decimal-le 19 (v / 10) (omega arith) (omega (arith, fits)) less in
    let same = c.digits_of.ensures.same in
    omega (arith, few, same)
