-- Least budgets, and what they have to do with allowances.
use Rattle.std.proofs.Common.{◌≡◌, ℕ, ◌+◌, ◌-◌, ◌*◌, ◌/◌, ◌<◌, ◌≤◌, inl, inr, arith}
use Rattle.std.proofs.Math.Nat.{mul-le-mul_right, mul_comm, div-mul-le_self, lt_of_mul-lt-mul_right}
use Rattle.std.proofs.lemmas.Bool.{cases_order}
use Rattle.std.proofs.lemmas.Grind.{div_ceil_times}
use Rattle.std.proofs.lemmas.Nat.{mul-le, le-div}
use Rattle.std.specs.Int.{div_ceil}
use Rattle.aps_model.specs.declared.shape.Shape.{Shape}
use Rattle.aps_model.specs.Shape.{IsShape, whole}
use Rattle.aps_admit.specs.Least.{IsLeastBudget, allowance, least_budget}

-- ---- of plain numbers

given_more : (whole parts a b : ℕ) → 0 < parts → a ≤ b → a * whole / parts ≤ b * whole / parts
given_more whole parts a b some more =
    let times : a * whole ≤ b * whole = mul-le-mul_right whole more in
    let less : a * whole / parts * parts ≤ a * whole = div-mul-le_self (a * whole) parts in
    le-div (a * whole / parts) (b * whole) parts some (omega (arith, times, less))

-- a time that fits a quotient
given_times : (time n parts : ℕ) → time ≤ n / parts → time * parts ≤ n
given_times time n parts h =
    let times : time * parts ≤ n / parts * parts = mul-le-mul_right parts h in
    let less : n / parts * parts ≤ n = div-mul-le_self n parts in
    omega (arith, times, less)

ceil_enough : (whole parts time : ℕ) → 0 < parts → 0 < whole → time ≤ div_ceil (parts * time) whole * whole / parts
ceil_enough whole parts time some_parts some_whole =
    let times = div_ceil_times (parts * time) whole some_whole in
    let same : time * parts ≡ parts * time = mul_comm time parts in
    let fits : parts * time ≤ div_ceil (parts * time) whole * whole = times.0 in
    le-div time (div_ceil (parts * time) whole * whole) parts some_parts (omega (arith, same, fits))

ceil_least : (whole parts time other : ℕ) → 0 < whole → time ≤ other * whole / parts → div_ceil (parts * time) whole ≤ other
ceil_least whole parts time other some enough =
    let times = div_ceil_times (parts * time) whole some in
    let same : time * parts ≡ parts * time = mul_comm time parts in
    let given : time * parts ≤ other * whole = given_times time (other * whole) parts enough in
    let below : div_ceil (parts * time) whole * whole < parts * time + whole = times.1 in
    let more : (other + 1) * whole ≡ other * whole + whole = omega arith in
    let under : div_ceil (parts * time) whole * whole < (other + 1) * whole = omega (arith, same, given, below, more) in
    let less : div_ceil (parts * time) whole < other + 1 = lt_of_mul-lt-mul_right whole under in
    omega (arith, less)

-- ---- of a shape

pub parts-some : (shape : Shape) → IsShape shape → 0 < shape.parts
parts-some shape is = elim is.parts [ inl few ↦ omega arith | inr many ↦ omega arith ]

pub whole-long : (shape : Shape) → IsShape shape → 800000 ≤ whole shape
whole-long shape is =
    let one : ℕ = 1 in
    let eight : ℕ = 8 in
    let shortest : ℕ = 100000 in
    let lanes : one * eight ≤ shape.cpus * shape.window = mul-le one eight shape.cpus shape.window is.some_cpu is.window_long in
    let all : one * eight * shortest ≤ shape.cpus * shape.window * shape.tick =
    mul-le (one * eight) shortest (shape.cpus * shape.window) shape.tick lanes is.tick_long in
    all

pub allowance-more : (shape : Shape) (a b : ℕ) → IsShape shape → a ≤ b → allowance shape a ≤ allowance shape b
allowance-more shape a b is more = given_more (whole shape) shape.parts a b (parts-some shape is) more

pub least_budget-least : (shape : Shape) (time : ℕ) → IsShape shape → IsLeastBudget shape time (least_budget shape time)
least_budget-least shape time is =
    let long = whole-long shape is in
    record {
      enough = ceil_enough (whole shape) shape.parts time (parts-some shape is) (omega (arith, long));
      least = λ other enough. ceil_least (whole shape) shape.parts time other (omega (arith, long)) enough;
    }

pub least-one : (shape : Shape) (time a b : ℕ) → IsLeastBudget shape time a → IsLeastBudget shape time b → a ≡ b
least-one shape time a b first second =
    let under : a ≤ b = first.least b second.enough in
    let over : b ≤ a = second.least a first.enough in
    omega (arith, under, over)

-- some time takes some budget, and one part less gives less
pub least-some : (shape : Shape) (time budget : ℕ) → IsShape shape → 0 < time → IsLeastBudget shape time budget → 0 < budget
least-some shape time budget is some least =
    elim (cases_order 0 budget) [
      | inl none ↦
          let enough : time ≤ allowance shape 0 = rw none least.enough in
          let given : time * shape.parts ≤ 0 * whole shape = given_times time (0 * whole shape) shape.parts enough in
          let one : ℕ = 1 in
          let times : one * one ≤ time * shape.parts = mul-le one one time shape.parts some (parts-some shape is) in
          absurd (omega (arith, given, times))
      | inr (inl more) ↦ more
      | inr (inr less) ↦ absurd (omega arith)
    ]

pub least-below : (shape : Shape) (time budget : ℕ) → IsShape shape → 0 < time → IsLeastBudget shape time budget → allowance shape (budget - 1) < time
least-below shape time budget is some least =
    let positive : 0 < budget = least-some shape time budget is some least in
    elim (cases_order (allowance shape (budget - 1)) time) [
      | inl same ↦ let over : budget ≤ budget - 1 = least.least (budget - 1) (omega (arith, same)) in absurd (omega (arith, over, positive))
      | inr (inl less) ↦ less
      | inr (inr more) ↦ let over : budget ≤ budget - 1 = least.least (budget - 1) (omega (arith, more)) in absurd (omega (arith, over, positive))
    ]

-- a budget that gives the time, where one part less doesn't
pub least-told : (shape : Shape) (time budget : ℕ) → IsShape shape → time ≤ allowance shape budget → allowance shape (budget - 1) < time → IsLeastBudget shape time budget
least-told shape time budget is enough below = record {
  enough = enough;
  least = λ other given. elim (cases_order budget other) [
    | inl same ↦ omega (arith, same)
    | inr (inl less) ↦ omega (arith, less)
    | inr (inr more) ↦
        let fewer : allowance shape other ≤ allowance shape (budget - 1) = allowance-more shape other (budget - 1) is (omega (arith, more)) in
        absurd (omega (arith, fewer, given, below))
  ];
}

-- a time that a budget gives, in parts of a part
pub allowance-times : (shape : Shape) (time budget : ℕ) → time ≤ allowance shape budget → time * shape.parts ≤ budget * whole shape
allowance-times shape time budget enough = given_times time (budget * whole shape) shape.parts enough
