-- Gates that stay while a partition stands otherwise.
use Rattle.std.proofs.Common.{◌≡◌, ◌∙◌, ℕ, ◌<◌, ◌%◌, List, Bool, ◌&&◌, ◌||◌, not, nat_lt, length, slice_set, sym, ap, inl, inr}
use Rattle.std.proofs.lemmas.List.{get_or-set_same, get_or-set_other}
use Rattle.aps_model.specs.declared.merit.PartFacts.{PartFacts}
use Rattle.aps_model.specs.Budget.{no_part, part_at}
use Rattle.aps_model.specs.Limits.{last_partition, most_partitions}
use Rattle.aps_ready.specs.declared.gates.Gates.{Gates}
use Rattle.aps_ready.specs.Gates.{AreGates, is_open_first, is_open_second}
use Rattle.aps_core.specs.Standing.{OpensAlike}
use Rattle.aps_core.proofs.StandsStay.{own_or_other}

-- what is the same of a partition and of the one in its place is the same of each
pub kept_in_place : {A : Type 0} (tells : PartFacts → A) (parts : List PartFacts) (p q : ℕ) (part : PartFacts) → p < length parts → tells (part_at parts p) ≡ tells part
    → tells (part_at parts q) ≡ tells (part_at (slice_set parts p part) q)
kept_in_place tells parts p q part within same = elim (own_or_other q p) [
  | inl own ↦
      ap (λ k. tells (part_at parts k)) own ∙ same ∙ sym (ap tells (get_or-set_same parts p part no_part within))
      ∙ ap (λ k. tells (part_at (slice_set parts p part) k)) (sym own)
  | inr other ↦ sym (ap tells (get_or-set_other parts p q part no_part other))
]

open_alike : (critical funded funded' standing standing' shut shut' : Bool) → funded ≡ funded' → standing ≡ standing' → shut ≡ shut'
    → (((not shut) || ((funded || (critical && standing)) && not funded)) && (funded || (critical && standing)))
    ≡ (((not shut') || ((funded' || (critical && standing')) && not funded')) && (funded' || (critical && standing')))
open_alike critical funded funded' standing standing' shut shut' f s h =
    ap (λ b. (((not shut) || ((b || (critical && standing)) && not b)) && (b || (critical && standing)))) f
    ∙ ap (λ b. (((not shut) || ((funded' || (critical && b)) && not funded')) && (funded' || (critical && b)))) s
    ∙ ap (λ b. (((not b) || ((funded' || (critical && standing')) && not funded')) && (funded' || (critical && standing')))) h

open_alike_second : (critical funded funded' standing standing' shut shut' : Bool) → funded ≡ funded' → standing ≡ standing' → shut ≡ shut'
    → (((not shut) || ((funded || (critical && standing)) && not funded)) && not (funded || (critical && standing)))
    ≡ (((not shut') || ((funded' || (critical && standing')) && not funded')) && not (funded' || (critical && standing')))
open_alike_second critical funded funded' standing standing' shut shut' f s h =
    ap (λ b. (((not shut) || ((b || (critical && standing)) && not b)) && not (b || (critical && standing)))) f
    ∙ ap (λ b. (((not shut) || ((funded' || (critical && b)) && not funded')) && not (funded' || (critical && b)))) s
    ∙ ap (λ b. (((not b) || ((funded' || (critical && standing')) && not funded')) && not (funded' || (critical && standing')))) h

pub gates_stay : (parts : List PartFacts) (p : ℕ) (part : PartFacts) (gates : Gates) → p < length parts → OpensAlike (part_at parts p) part → AreGates parts gates
    → AreGates (slice_set parts p part) gates
gates_stay parts p part gates within alike are =
    let old = part_at parts p in
    record {
      first = λ g below.
          are.first g below
          ∙ kept_in_place (λ a. is_open_first a (nat_lt last_partition g)) parts p (g % most_partitions) part within
          (open_alike (nat_lt last_partition g) old.funded part.funded old.standing part.standing old.shut part.shut alike.funded alike.standing alike.shut);
      second = λ g below.
          are.second g below
          ∙ kept_in_place (λ a. is_open_second a (nat_lt last_partition g)) parts p (g % most_partitions) part within
          (open_alike_second (nat_lt last_partition g) old.funded part.funded old.standing part.standing old.shut part.shut alike.funded alike.standing alike.shut);
      budgeted = λ q below.
          are.budgeted q below ∙ ap (λ b. nat_lt q most_partitions && b) (kept_in_place (λ a. nat_lt 0 a.budget) parts p q part within (ap (nat_lt 0) alike.budget));
    }
