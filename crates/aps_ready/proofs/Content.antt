use Rattle.std.proofs.Common.{◌≡◌, ℕ, zero, suc, ◌%◌, ◌<◌, Bool, true, false, cond, ◌&&◌, nat_lt, List, [], ◌∷◌, length, map, get_or, Option, Some, None, All, refl, sym, ◌∙◌, ap, subst, arith}
use Rattle.std.specs.List.{Contains}
use Rattle.std.proofs.lemmas.Bool.Decides.{nat_tests}
use Rattle.std.proofs.lemmas.List.{length-map}
use Rattle.std.proofs.lemmas.List.Elements.{Contains-get_or}
use Rattle.aps_model.specs.declared.merit.PartFacts.{PartFacts}
use Rattle.aps_model.specs.declared.merit.Contender.{Contender}
use Rattle.aps_model.specs.Merit.{is_candidate}
use Rattle.aps_model.specs.Budget.{part_at}
use Rattle.aps_model.specs.Limits.{most_partitions}
use Rattle.aps_model.specs.Pick.{candidates}
use Rattle.aps_ready.specs.declared.entrant.Entrant.{Entrant}
use Rattle.aps_ready.specs.Ready.{members, entrant_contender, entrant_facts, entrant_seat}
use Rattle.aps_ready.specs.Entrant.{entrant_at}
use Rattle.aps_ready.specs.Winner.{is_candidate_at}
use Rattle.aps_ready.proofs.Queued.{seat_at, seat_in}
use Rattle.aps_ready.specs.Group.{group_count}

-- the candidates of a row of seats are those who sit there and are candidates

abbrev passes : List PartFacts → Contender → Bool
passes parts c = is_candidate c.facts (part_at parts c.facts.partition)

record Sits (parts : List PartFacts) (seats : List (Option Contender)) (c : Contender) : Type 0 where
  place : ℕ
  within : place < length seats
  is : get_or seats place None ≡ Some c
  passes : passes parts c ≡ true

later : (parts : List PartFacts) (seat : Option Contender) (seats : List (Option Contender)) (c : Contender) → Sits parts seats c → Sits parts (seat ∷ seats) c
later parts seat seats c sits = record { place = suc sits.place; within = omega (arith, sits.within); is = sits.is; passes = sits.passes }

from_candidates : (parts : List PartFacts) (seats : List (Option Contender)) (c : Contender) → Contains (candidates parts (members seats)) c → Sits parts seats c
from_candidates parts [] c (k, within, is) = absurd (omega (arith, within))
from_candidates parts (None ∷ seats) c among = later parts None seats c (from_candidates parts seats c among)
from_candidates parts (Some d ∷ seats) c among = by_test (from_candidates parts seats c) (passes parts d) refl among
  where
    by_test : (Contains (candidates parts (members seats)) c → Sits parts seats c) → (t : Bool) → passes parts d ≡ t → Contains (cond t (d ∷ candidates parts (members seats)) (candidates parts (members seats))) c → Sits parts (Some d ∷ seats) c
    by_test rest true h (zero, within, is) = record { place = 0; within = omega arith; is = ap (λ (x : Contender). Some x) is; passes = ap (passes parts) (sym is) ∙ h }
    by_test rest true h (suc k, within, is) = later parts (Some d) seats c (rest (k, omega (arith, within), is))
    by_test rest false h found = later parts (Some d) seats c (rest found)

contains_later : (d c : Contender) (cs : List Contender) → Contains cs c → Contains (d ∷ cs) c
contains_later d c cs (k, within, is) = (suc k, omega (arith, within), is)

to_candidates : (parts : List PartFacts) (seats : List (Option Contender)) (k : ℕ) (c : Contender) → k < length seats → get_or seats k None ≡ Some c → passes parts c ≡ true
    → Contains (candidates parts (members seats)) c
to_candidates parts [] k c within is h = absurd (omega (arith, within))
to_candidates parts (None ∷ seats) zero c within is h = absurd cc
to_candidates parts (None ∷ seats) (suc k) c within is h = to_candidates parts seats k c (omega (arith, within)) is h
to_candidates parts (Some d ∷ seats) zero c within is h =
    let same : d ≡ c = some_same d c is in
    by_test (passes parts d) (ap (passes parts) same ∙ h) same
  where
    some_same : (a b : Contender) → Some a ≡ Some b → a ≡ b
    some_same a b e = cc

    by_test : (t : Bool) → t ≡ true → d ≡ c → Contains (cond t (d ∷ candidates parts (members seats)) (candidates parts (members seats))) c
    by_test true e same = (0, omega arith, same)
    by_test false e same = absurd cc
to_candidates parts (Some d ∷ seats) (suc k) c within is h = by_test (passes parts d) (to_candidates parts seats k c (omega (arith, within)) is h)
  where
    by_test : (t : Bool) → Contains (candidates parts (members seats)) c → Contains (cond t (d ∷ candidates parts (members seats)) (candidates parts (members seats))) c
    by_test true among = contains_later d c (candidates parts (members seats)) among
    by_test false among = among

-- ---- of a row of entrants

-- c is at a place of the row, and a candidate
pub record IsOpenAt (parts : List PartFacts) (row : List Entrant) (c : Contender) : Type 0 where
  pub place : ℕ
  pub within : place < length row
  pub is : c ≡ entrant_contender (entrant_at row place)
  pub open_here : is_candidate_at parts (entrant_at row place) ≡ true

seen_is : (e : Entrant) (c : Contender) → entrant_seat e ≡ Some c → (nat_lt e.group group_count ≡ true) × (c ≡ entrant_contender e)
seen_is e c is = by_test (nat_lt e.group group_count) is
  where
    by_test : (t : Bool) → cond t (Some (entrant_contender e)) None ≡ Some c → (t ≡ true) × (c ≡ entrant_contender e)
    by_test true h = (refl, cc)
    by_test false h = absurd cc

both : (a b : Bool) → a ≡ true → b ≡ true → (a && b) ≡ true
both a b h k = rw (h, k) refl

pub open_from : (parts : List PartFacts) (row : List Entrant) (c : Contender) → Contains (candidates parts (members (map entrant_seat row))) c → IsOpenAt parts row c
open_from parts row c among =
    let sits = from_candidates parts (map entrant_seat row) c among in
    let within : sits.place < length row = omega (arith, sits.within, length-map row entrant_seat) in
    let seen = seen_is (entrant_at row sits.place) c (sym (seat_at row sits.place within) ∙ sits.is) in
    let passed : passes parts (entrant_contender (entrant_at row sits.place)) ≡ true = ap (passes parts) (sym seen.1) ∙ sits.passes in
    record {
      place = sits.place;
      within = within;
      is = seen.1;
      open_here = both (nat_lt (entrant_at row sits.place).group group_count) (passes parts (entrant_contender (entrant_at row sits.place))) seen.0 passed;
    }

open_parts : (a b : Bool) → (a && b) ≡ true → (a ≡ true) × (b ≡ true)
open_parts true b h = (refl, h)
open_parts false b h = absurd cc

pub open_group : (parts : List PartFacts) (e : Entrant) → is_candidate_at parts e ≡ true → e.group < group_count
open_group parts e h =
    let below : nat_lt e.group group_count ≡ true = (open_parts (nat_lt e.group group_count) (is_candidate (entrant_facts e) (part_at parts (e.group % most_partitions))) h).0 in
    grind (arith, nat_tests)

pub open_among : (parts : List PartFacts) (row : List Entrant) (x : ℕ) → x < length row → is_candidate_at parts (entrant_at row x) ≡ true
    → Contains (candidates parts (members (map entrant_seat row))) (entrant_contender (entrant_at row x))
open_among parts row x within h =
    to_candidates parts (map entrant_seat row) x (entrant_contender (entrant_at row x)) (omega (arith, within, length-map row entrant_seat))
    (seat_at row x within ∙ seat_in (entrant_at row x) (open_group parts (entrant_at row x) h))
    (open_parts (nat_lt (entrant_at row x).group group_count) (passes parts (entrant_contender (entrant_at row x))) h).1

-- what holds of everybody who is there and a candidate holds of the candidates
pub all_candidates : (P : Contender → Type 0) (parts : List PartFacts) (row : List Entrant)
    → ((x : ℕ) → x < length row → is_candidate_at parts (entrant_at row x) ≡ true → P (entrant_contender (entrant_at row x)))
    → All P (candidates parts (members (map entrant_seat row)))
all_candidates P parts row each k d within =
    let at = open_from parts row (get_or (candidates parts (members (map entrant_seat row))) k d) (Contains-get_or (candidates parts (members (map entrant_seat row))) k d within) in
    subst P (sym at.is) (each at.place at.within at.open_here)
