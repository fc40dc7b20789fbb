-- Ordinary time and critical time together.
use Rattle.std.proofs.Common.{◌≡◌, ℕ, ◌+◌, ◌*◌, ◌≤◌, ◌<◌, Bool, true, false, ◌&&◌, not, nat_eq, if◌then◌else◌, List, [], ◌∷◌, length, Some, None, refl, arith, ap, ◌∙◌}
use Rattle.std.specs.List.{sum_by}
use Rattle.std.proofs.lemmas.List.Sums.{sum_by-cons}
use Rattle.std.proofs.Math.Nat.{mul-add}
use Rattle.aps_model.specs.Usage.{overlap}
use Rattle.laws_runs.specs.Window.{Kept, Lane, Wide, Walks}
use Rattle.laws_bounds.specs.Lanes.{is_of, is_ordinary, is_critical, paid, paid_of}
use Rattle.laws_bounds.specs.Debts.{debt, Resets, Never}
use Rattle.laws_bounds.proofs.Debts.{walk, walk_none}

two_tests : (k : ℕ) (one mark : Bool) → (if one then k else 0) ≡ (if one && not mark then k else 0) + (if one && mark then k else 0)
two_tests k true true = omega (arith)
two_tests k true false = omega (arith)
two_tests k false mark = omega (arith)

two_kinds : (k p : ℕ) (bills : Kept) → (if is_of p bills then k else 0) ≡ (if is_ordinary p bills then k else 0) + (if is_critical p bills then k else 0)
two_kinds k p None = omega (arith)
two_kinds k p (Some r) = two_tests k (nat_eq r.0 p) r.1

-- what a partition used is its ordinary time and its critical time
pub apart : (tick a b p : ℕ) (entries : List Wide) → paid_of tick a b entries p ≡ sum_by (paid (is_ordinary p) tick a b) entries + sum_by (paid (is_critical p) tick a b) entries
apart tick a b p [] = refl
apart tick a b p (e ∷ es) =
    omega (arith, sum_by-cons (paid (is_of p) tick a b) e es, sum_by-cons (paid (is_ordinary p) tick a b) e es, sum_by-cons (paid (is_critical p) tick a b) e es, two_kinds (overlap tick a b e.from e.to) p e.bills, apart tick a b p es)

pub upper : (tick a b p scale limit : ℕ) (lanes : List Lane) (entries : List Wide) → 0 < tick → sum_by (debt (is_ordinary p) tick a b) lanes ≡ 0
    → Walks tick lanes entries → Resets (is_ordinary p) tick a b scale limit 0 entries
    → scale * paid_of tick a b entries p ≤ limit + scale * (length lanes * tick + sum_by (paid (is_critical p) tick a b) entries)
upper tick a b p scale limit lanes entries pos none walks resets =
    let o : ℕ = sum_by (paid (is_ordinary p) tick a b) entries in
    let k : ℕ = sum_by (paid (is_critical p) tick a b) entries in
    let start : scale * (0 + sum_by (debt (is_ordinary p) tick a b) lanes) ≤ limit + scale * (length lanes * tick) = rw none (omega (arith)) in
    let all = walk (is_ordinary p) tick a b scale limit 0 lanes entries pos start walks resets in
    let less : scale * o ≤ limit + scale * (length lanes * tick) = omega (arith, all) in
    let parts : scale * paid_of tick a b entries p ≡ scale * o + scale * k = ap (λ n. scale * n) (apart tick a b p entries) ∙ mul-add scale o k in
    omega (arith, less, parts)

pub upper_none : (tick a b p : ℕ) (lanes : List Lane) (entries : List Wide) → 0 < tick → sum_by (debt (is_ordinary p) tick a b) lanes ≡ 0
    → Walks tick lanes entries → Never (is_ordinary p) tick a b entries → paid_of tick a b entries p ≡ sum_by (paid (is_critical p) tick a b) entries
upper_none tick a b p lanes entries pos none walks never = omega (arith, apart tick a b p entries, walk_none (is_ordinary p) tick a b lanes entries pos none walks never)
