-- Two entries have one first difference at most.
use Rattle.std.proofs.Common.{◌≡◌, ℕ, ◌<◌, List, [], ◌∷◌, ◌++◌, get_or, take, length, refl, sym, ap, subst, ◌∙◌, arith, inl, inr}
use Rattle.std.specs.List.{All}
use Rattle.std.proofs.lemmas.Bool.{cases_order}
use Rattle.std.proofs.lemmas.List.{get_or-take, length-take}
use Rattle.std.proofs.lemmas.List.Elements.{All-get_or}
use Rattle.aps_model.specs.declared.entry.Entry.{Entry}
use Rattle.aps_check.specs.declared.verdict.Rule.{Rule}
use Rattle.aps_check.specs.declared.verdict.Rule.TheVariants.{Turn, From, To, Ran, Billed, Critical, Done, Picked, Starved, Flagged, After}
use Rattle.aps_check.specs.Difference.{Agrees, IsFirstDifference, fields, place_of_field}

-- an entry agrees with itself
pub agrees_self : (x : Entry) (field : Rule) → Agrees x x field
agrees_self x From = refl
agrees_self x To = refl
agrees_self x Ran = refl
agrees_self x Billed = refl
agrees_self x Critical = refl
agrees_self x Done = refl
agrees_self x Picked = refl
agrees_self x Starved = refl
agrees_self x Flagged = refl
agrees_self x Turn = tt
agrees_self x After = tt

-- what holds of the first elements of a list holds of each of them
all_take : {X : Type 0} (P : X → Type 0) (xs : List X) (n i : ℕ) (d : X) → All P (take n xs) → i < n → i < length xs → P (get_or xs i d)
all_take {X} P xs n i d all less within =
    let inside : i < length (take n xs) = simp length-take (omega arith) in
    subst P (get_or-take n xs i d less) (All-get_or P (take n xs) i d inside all)

earlier : (e x : Entry) (field : Rule) (n : ℕ) → All (Agrees e x) (take n fields) → place_of_field field < n → Agrees e x field
earlier e x From n all less = all_take (Agrees e x) fields n 0 From all less (omega arith)
earlier e x To n all less = all_take (Agrees e x) fields n 1 To all less (omega arith)
earlier e x Ran n all less = all_take (Agrees e x) fields n 2 Ran all less (omega arith)
earlier e x Billed n all less = all_take (Agrees e x) fields n 3 Billed all less (omega arith)
earlier e x Critical n all less = all_take (Agrees e x) fields n 4 Critical all less (omega arith)
earlier e x Done n all less = all_take (Agrees e x) fields n 5 Done all less (omega arith)
earlier e x Picked n all less = all_take (Agrees e x) fields n 6 Picked all less (omega arith)
earlier e x Starved n all less = all_take (Agrees e x) fields n 7 Starved all less (omega arith)
earlier e x Flagged n all less = all_take (Agrees e x) fields n 8 Flagged all less (omega arith)
earlier e x Turn n all less = tt
earlier e x After n all less = tt

-- the rule at a place
abbrev rule_at : ℕ → Rule
rule_at n = get_or (fields ++ Turn ∷ After ∷ []) n After

at_its_place : (rule : Rule) → rule_at (place_of_field rule) ≡ rule
at_its_place From = refl
at_its_place To = refl
at_its_place Ran = refl
at_its_place Billed = refl
at_its_place Critical = refl
at_its_place Done = refl
at_its_place Picked = refl
at_its_place Starved = refl
at_its_place Flagged = refl
at_its_place Turn = refl
at_its_place After = refl

pub one_difference : (e x : Entry) (f g : Rule) → IsFirstDifference e x f → IsFirstDifference e x g → f ≡ g
one_difference e x f g a b = elim (cases_order (place_of_field f) (place_of_field g)) [
  | inl same ↦ sym (at_its_place f) ∙ ap rule_at same ∙ at_its_place g
  | inr other ↦ elim other [
    | inl less ↦ absurd (a.here (earlier e x f (place_of_field g) b.before less))
    | inr more ↦ absurd (b.here (earlier e x g (place_of_field f) a.before more))
  ]
]

-- entries that agree in all fields are one entry
pub alike : (e x : Entry) → e.cpu ≡ x.cpu → e.from ≡ x.from → e.to ≡ x.to → e.ran ≡ x.ran → e.billed ≡ x.billed
    → e.critical ≡ x.critical → e.done ≡ x.done
    → e.picked ≡ x.picked → e.starved ≡ x.starved → e.flagged ≡ x.flagged → e ≡ x
alike e x cpu from to ran billed critical did picked starved flagged =
    let same : record {
      from = e.from;
      to = e.to;
      done = e.done;
      ran = e.ran;
      picked = e.picked;
      billed = e.billed;
      starved = e.starved;
      flagged = e.flagged;
      cpu = e.cpu;
      critical = e.critical;
    } ≡ x = rw (from, to, ran, billed, critical, did, picked, starved, flagged, cpu) refl in
    same
