-- Threads of class 1 at a pick.
use Rattle.std.proofs.Common.{◌≡◌, ℕ, ◌*◌, ◌<◌, ◌≤◌, List, length, refl, sym, ◌∙◌, ap, Bool, true, false, cond, not, ◌&&◌, ◌||◌, nat_eq, nat_lt, nat_le, arith, ◌⊎◌, inl, inr}
use Rattle.std.proofs.Math.Nat.{mul-le-mul_right}
use Rattle.std.proofs.lemmas.Bool.{cases_lt}
use Rattle.std.proofs.lemmas.Bool.Decides.{nat_tests}
use Rattle.std.proofs.lemmas.List.{get_or_past}
use Rattle.std.proofs.lemmas.List.FromFn.{get_or-map-range_with_len, length-map-range_with_len}
use Rattle.aps_model.specs.declared.entry.Entry.{Entry}
use Rattle.aps_model.specs.declared.merit.Merit.{Merit}
use Rattle.aps_model.specs.declared.merit.PartFacts.{PartFacts}
use Rattle.aps_model.specs.declared.partition.PartitionRow.{PartitionRow}
use Rattle.aps_model.specs.declared.shape.Free.{Free}
use Rattle.aps_model.specs.declared.shape.Free.TheVariants.{Priority, Ratio}
use Rattle.aps_model.specs.declared.shape.Shape.{Shape}
use Rattle.aps_model.specs.declared.state.Facts.{Facts}
use Rattle.aps_model.specs.Budget.{all_parts, no_part, part_at, part_facts}
use Rattle.aps_model.specs.Merit.{class_of, is_candidate, is_greater}
use Rattle.aps_model.specs.Partition.{AreRows, IsFundedRow, no_row, row_or_none}
use Rattle.aps_model.specs.Shape.{whole}
use Rattle.aps_model.specs.Usage.{window_used}

-- ---- the partitions

pub count_is : (shape : Shape) (rows : List PartitionRow) (h : List Entry) (j : ℕ) → length (all_parts shape rows h j) ≡ length rows
count_is shape rows h j = length-map-range_with_len (part_facts shape rows h j) 0 (length rows)

pub part_is : (shape : Shape) (rows : List PartitionRow) (h : List Entry) (j p : ℕ) → p < length rows → part_at (all_parts shape rows h j) p ≡ part_facts shape rows h j p
part_is shape rows h j p inside = get_or-map-range_with_len (part_facts shape rows h j) 0 (length rows) p p no_part inside (omega arith)

pub part_past : (shape : Shape) (rows : List PartitionRow) (h : List Entry) (j p : ℕ) → length rows ≤ p → part_at (all_parts shape rows h j) p ≡ no_part
part_past shape rows h j p past =
    let past' : length (all_parts shape rows h j) ≤ p = rw (count_is shape rows h j) past in
    get_or_past (all_parts shape rows h j) p no_part past'

-- where there is no such partition it isn't in budget
pub none_funded : (shape : Shape) (rows : List PartitionRow) (h : List Entry) (j p : ℕ) → length rows ≤ p → (part_facts shape rows h j p).funded ≡ false
none_funded shape rows h j p past =
    let n : ℕ = shape.parts * window_used shape h j p in
    ap (λ (row : PartitionRow). nat_lt n (row.budget * whole shape)) (get_or_past rows p no_row past) ∙ never n (whole shape)
  where
    never : (n k : ℕ) → nat_lt n (0 * k) ≡ false
    never n k = grind (arith, nat_tests)

-- whether a partition is in budget, in both words
pub funded_is : (shape : Shape) (rows : List PartitionRow) (h : List Entry) (j p : ℕ) → (part_at (all_parts shape rows h j) p).funded ≡ (part_facts shape rows h j p).funded
funded_is shape rows h j p = elim (cases_lt p (length rows)) [
  | inl inside ↦ ap (λ (f : PartFacts). f.funded) (part_is shape rows h j p inside)
  | inr past ↦ ap (λ (f : PartFacts). f.funded) (part_past shape rows h j p past) ∙ sym (none_funded shape rows h j p past)
]

-- whoever is in budget isn't shut
open_tests : (parts spent budget max whole : ℕ) (limit : Bool) → budget ≤ max → nat_lt (parts * spent) (budget * whole) ≡ true → (limit && nat_le (max * whole) (parts * spent)) ≡ false
open_tests parts spent budget max whole true le funded = grind (arith, nat_tests, mul-le-mul_right whole le, funded)
open_tests parts spent budget max whole false le funded = refl

pub funded_open : (shape : Shape) (rows : List PartitionRow) (h : List Entry) (j p n : ℕ) → AreRows n rows → (part_at (all_parts shape rows h j) p).funded ≡ true
    → (part_at (all_parts shape rows h j) p).shut ≡ false
funded_open shape rows h j p n sound funded = elim (cases_lt p (length rows)) [
  | inl inside ↦
      let row : IsFundedRow n (row_or_none rows p) = sound.each p no_row inside in
      ap (λ (f : PartFacts). f.shut) (part_is shape rows h j p inside)
      ∙ open_tests shape.parts (window_used shape h j p) (row_or_none rows p).budget (row_or_none rows p).max (whole shape) shape.limit row.budget
      (sym (ap (λ (f : PartFacts). f.funded) (part_is shape rows h j p inside)) ∙ funded)
  | inr past ↦ absurd (clash (sym (ap (λ (f : PartFacts). f.funded) (part_past shape rows h j p past)) ∙ funded))
]
  where
    clash : false ≡ true → ⊥
    clash e = cc

-- ---- classes

pub class_cases : (facts : Facts) (part : PartFacts) → (class_of facts part ≡ 0) ⊎ (class_of facts part ≡ 1)
class_cases facts part = by_test (part.funded || (facts.critical && part.standing))
  where
    by_test : (t : Bool) → (◌≡◌ {A = ℕ} (cond t 1 0) 0) ⊎ (◌≡◌ {A = ℕ} (cond t 1 0) 1)
    by_test true = inr refl
    by_test false = inl refl

pub funded_class : (facts : Facts) (part : PartFacts) → part.funded ≡ true → class_of facts part ≡ 1
funded_class facts part funded = ap (λ t. cond (t || (facts.critical && part.standing)) 1 0) funded

-- whom a thread of class 1 doesn't beat has class 1
pub class_first : (free : Free) (a b : Merit) → is_greater free a b ≡ false → a.class ≡ 1 → (b.class ≡ 0) ⊎ (b.class ≡ 1) → b.class ≡ 1
class_first free a b unbeaten one (inr is) = is
class_first Priority a b unbeaten one (inl none) = absurd (grind (arith, nat_tests))
class_first Ratio a b unbeaten one (inl none) = absurd (grind (arith, nat_tests))

-- a thread of class 1 is a candidate
pub class_runs : (facts : Facts) (part : PartFacts) → (part.funded ≡ true → part.shut ≡ false) → class_of facts part ≡ 1 → is_candidate facts part ≡ true
class_runs facts part shut class = by_test part.funded refl shut (ap (λ n. nat_eq n 1) class)
  where
    by_test : (t : Bool) → part.funded ≡ t → (t ≡ true → part.shut ≡ false) → nat_eq (class_of facts part) 1 ≡ true → (not part.shut || (nat_eq (class_of facts part) 1 && not t)) ≡ true
    by_test true is f one = ap (λ k. not k || (nat_eq (class_of facts part) 1 && false)) (f refl)
    by_test false is f one = ap (λ k. not part.shut || (k && true)) one ∙ any (not part.shut)
      where
        any : (t : Bool) → (t || true) ≡ true
        any true = refl
        any false = refl
