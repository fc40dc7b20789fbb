-- Where no partition with a budget lacks a candidate, the pick has class 1.
use Rattle.std.proofs.Common.{◌≡◌, ℕ, zero, suc, ◌+◌, ◌≤◌, ◌<◌, List, [], ◌∷◌, length, refl, sym, ◌∙◌, ap, Bool, true, false, not, ◌&&◌, ◌||◌, cond, nat_eq, nat_lt, Some, None, arith, ◌⊎◌, inl, inr}
use Rattle.std.specs.List.{find, list_any, range_with_len}
use Rattle.std.proofs.lemmas.Bool.Decides.{nat_tests}
use Rattle.std.proofs.lemmas.Bool.{eqb-true}
use Rattle.aps_model.specs.declared.merit.Contender.{Contender}
use Rattle.aps_model.specs.declared.merit.Merit.{Merit}
use Rattle.aps_model.specs.declared.merit.PartFacts.{PartFacts}
use Rattle.aps_model.specs.declared.shape.Free.{Free}
use Rattle.aps_model.specs.declared.shape.Free.TheVariants.{Priority, Ratio}
use Rattle.aps_model.specs.declared.state.Facts.{Facts}
use Rattle.aps_model.specs.Budget.{part_at}
use Rattle.aps_model.specs.Merit.{class_of, is_critical_pick, is_greater}
use Rattle.aps_model.specs.Pick.{candidates, greatest, merit_among, missing}
use Rattle.aps_model.proofs.GreatestLaws.{IsUnbeaten, greatest-some, greatest-unbeaten}

-- a number that the test finds nowhere below n fails it
find_none : (p : ℕ → Bool) (a n q : ℕ) → find p (range_with_len a n) ≡ None → a ≤ q → q < a + n → p q ≡ false
find_none p a zero q none low high = absurd (omega arith)
find_none p a (suc n) q none low high = by_test (p a) refl none (λ rest later. find_none p (a + 1) n q rest later (omega arith))
  where
    by_place : (t : Bool) → nat_eq a q ≡ t → p a ≡ false → (a + 1 ≤ q → p q ≡ false) → p q ≡ false
    by_place true same failed more = ap p (sym (eqb-true a q same)) ∙ failed
    by_place false other failed more = more (grind (arith, nat_tests))

    by_test : (t : Bool) → p a ≡ t → cond t (Some a) (find p (range_with_len (a + 1) n)) ≡ None
        → (find p (range_with_len (a + 1) n) ≡ None → a + 1 ≤ q → p q ≡ false) → p q ≡ false
    by_test true is found more = absurd cc
    by_test false is rest more = by_place (nat_eq a q) refl is (more rest)

abbrev pub IsIn : ℕ → Contender → Bool
IsIn q c = nat_eq c.facts.partition q

-- where no partition lacks a candidate, one with a budget has some
has_candidate : (ps : List PartFacts) (ready : List Contender) (q : ℕ) → missing ps ready ≡ None → q < length ps → 0 < (part_at ps q).budget
    → list_any (IsIn q) (candidates ps ready) ≡ true
has_candidate ps ready q none inside some =
    let failed = find_none (λ p. nat_lt 0 (part_at ps p).budget && not (list_any (IsIn p) (candidates ps ready))) 0 (length ps) q none (omega arith) (omega arith) in
    by_test (nat_lt 0 (part_at ps q).budget) (list_any (IsIn q) (candidates ps ready)) refl failed
  where
    by_test : (one two : Bool) → nat_lt 0 (part_at ps q).budget ≡ one → (one && not two) ≡ false → two ≡ true
    by_test true true is failed = refl
    by_test true false is failed = absurd cc
    by_test false two is failed = absurd (grind (arith, nat_tests))

-- ---- classes

class_first : (free : Free) (a b : Merit) → is_greater free a b ≡ false → a.class ≡ 1 → (b.class ≡ 0) ⊎ (b.class ≡ 1) → b.class ≡ 1
class_first free a b unbeaten one (inr is) = is
class_first Priority a b unbeaten one (inl none) = absurd (grind (arith, nat_tests))
class_first Ratio a b unbeaten one (inl none) = absurd (grind (arith, nat_tests))

class_cases : (facts : Facts) (part : PartFacts) → (class_of facts part ≡ 0) ⊎ (class_of facts part ≡ 1)
class_cases facts part = by_test (part.funded || (facts.critical && part.standing))
  where
    by_test : (t : Bool) → (◌≡◌ {A = ℕ} (cond t 1 0) 0) ⊎ (◌≡◌ {A = ℕ} (cond t 1 0) 1)
    by_test true = inr refl
    by_test false = inl refl

funded_class : (facts : Facts) (part : PartFacts) → part.funded ≡ true → class_of facts part ≡ 1
funded_class facts part funded = ap (λ t. cond (t || (facts.critical && part.standing)) 1 0) funded

-- whom no candidate of class 1 beats has class 1
unbeaten_class : (free : Free) (ps : List PartFacts) (cs : List Contender) (best : Contender) (q : ℕ) → IsUnbeaten free ps cs best → list_any (IsIn q) cs ≡ true
    → (part_at ps q).funded ≡ true → class_of best.facts (part_at ps best.facts.partition) ≡ 1
unbeaten_class free ps [] best q unbeaten some funded = absurd cc
unbeaten_class free ps (c ∷ cs) best q (here, later) some funded = by_test (IsIn q c) refl some (λ found. unbeaten_class free ps cs best q later found funded)
  where
    by_test : (t : Bool) → IsIn q c ≡ t → (t || list_any (IsIn q) cs) ≡ true → (list_any (IsIn q) cs ≡ true → class_of best.facts (part_at ps best.facts.partition) ≡ 1)
        → class_of best.facts (part_at ps best.facts.partition) ≡ 1
    by_test true is found more =
        let own : (part_at ps c.facts.partition).funded ≡ true = ap (λ p. (part_at ps p).funded) (eqb-true c.facts.partition q is) ∙ funded in
        class_first free (merit_among ps c) (merit_among ps best) here (funded_class c.facts (part_at ps c.facts.partition) own) (class_cases best.facts (part_at ps best.facts.partition))
    by_test false is found more = more found

some_candidate : (q : ℕ) (cs : List Contender) → list_any (IsIn q) cs ≡ true → (c : Contender) × (rest : List Contender) × (cs ≡ c ∷ rest)
some_candidate q [] some = absurd cc
some_candidate q (c ∷ cs) some = (c, cs, refl)

-- the pick of a steady tick has class 1
pub record IsSteadyPick (free : Free) (ps : List PartFacts) (ready : List Contender) : Type 0 where
  pub best : Contender
  pub is : greatest free ps ready ≡ Some best
  pub class : class_of best.facts (part_at ps best.facts.partition) ≡ 1

pub steady_best : (free : Free) (ps : List PartFacts) (ready : List Contender) (q : ℕ) → missing ps ready ≡ None → q < length ps
    → 0 < (part_at ps q).budget → (part_at ps q).funded ≡ true → IsSteadyPick free ps ready
steady_best free ps ready q none inside some funded =
    let any = has_candidate ps ready q none inside some in
    let first = some_candidate q (candidates ps ready) any in
    let found = greatest-some free ps ready first.1 first.0 first.2 in
    record {
      best = found.0;
      is = found.1;
      class = unbeaten_class free ps (candidates ps ready) found.0 q (greatest-unbeaten free ps ready found.0 found.1) any funded;
    }

-- ---- what a mark says

-- an ordinary pick of class 1 is in budget
pub ordinary_funded : (facts : Facts) (part : PartFacts) → class_of facts part ≡ 1 → is_critical_pick facts part ≡ false → part.funded ≡ true
ordinary_funded facts part class mark = by_test part.funded refl (sym (ap (λ n. nat_eq n 1 && not part.funded) class) ∙ mark)
  where
    by_test : (t : Bool) → part.funded ≡ t → not t ≡ false → part.funded ≡ true
    by_test true is no_mark = is
    by_test false is no_mark = absurd cc

-- a critical pick has standing
pub critical_stands : (facts : Facts) (part : PartFacts) → is_critical_pick facts part ≡ true → part.standing ≡ true
critical_stands facts part mark = by_tests part.funded facts.critical part.standing mark
  where
    by_tests : (one two three : Bool) → (nat_eq (cond (one || (two && three)) 1 0) 1 && not one) ≡ true → three ≡ true
    by_tests one two true e = refl
    by_tests true two false e = absurd cc
    by_tests false true false e = absurd cc
    by_tests false false false e = absurd cc
