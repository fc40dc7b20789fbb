use Rattle.std.proofs.Common.{◌≡◌, ℕ, zero, suc, ◌<◌, Bool, true, false, cond, List, [], ◌∷◌, length, map, get_or, refl, sym, subst, arith}
use Rattle.std.specs.List.{Contains}
use Rattle.std.proofs.lemmas.Bool.Decides.{nat_tests}
use Rattle.std.proofs.lemmas.List.FromFn.{get_or-map-range_with_len}
use Rattle.aps_ready.specs.declared.entrant.Entrant.{Entrant}
use Rattle.aps_ready.specs.Entrant.{IsFirst, goes_before, vacant}
use Rattle.aps_ready.specs.Firsts.{first_entrant, firsts_of}
use Rattle.aps_ready.specs.Ready.{entrant_in}
use Rattle.aps_ready.specs.Topped.{AreTopped}
use Rattle.aps_ready.specs.Group.{group_count}

before_itself : (a : Entrant) → goes_before a a ≡ false
before_itself a = grind (arith, nat_tests)

after_chain : (a b c : Entrant) → goes_before a b ≡ false → goes_before c b ≡ true → goes_before a c ≡ false
after_chain a b c h k = grind (arith, nat_tests)

-- ---- the first of a row

one_more : (e first : Entrant) (row : List Entrant) → Contains (vacant ∷ row) first → Contains (vacant ∷ e ∷ row) first
one_more e first row (zero, within, is) = (0, omega arith, is)
one_more e first row (suc k, within, is) = (suc (suc k), omega (arith, within), is)

pub first_goes : (row : List Entrant) → IsFirst row (first_entrant row)
first_goes [] = record { one = (0, omega arith, refl); others = λ k d within. absurd (omega (arith, within)) }
first_goes (e ∷ row) = by_test (first_goes row) (goes_before e (first_entrant row)) refl
  where
    by_test : IsFirst row (first_entrant row) → (t : Bool) → goes_before e (first_entrant row) ≡ t → IsFirst (e ∷ row) (cond t e (first_entrant row))
    by_test rest true h = record { one = (1, omega arith, refl); others = by_place }
      where
        by_place : (k : ℕ) (d : Entrant) → k < length (e ∷ row) → goes_before (get_or (e ∷ row) k d) e ≡ false
        by_place zero d within = before_itself e
        by_place (suc k) d within = after_chain (get_or row k d) (first_entrant row) e (rest.others k d (omega (arith, within))) h
    by_test rest false h = record { one = one_more e (first_entrant row) row rest.one; others = by_place }
      where
        by_place : (k : ℕ) (d : Entrant) → k < length (e ∷ row) → goes_before (get_or (e ∷ row) k d) (first_entrant row) ≡ false
        by_place zero d within = h
        by_place (suc k) d within = rest.others k d (omega (arith, within))

-- ---- the firsts of the groups

pub firsts_topped : (row : List Entrant) → AreTopped row (firsts_of row)
firsts_topped row g below =
    subst (IsFirst (map (entrant_in g) row))
    (sym (get_or-map-range_with_len (λ (h : ℕ). first_entrant (map (entrant_in h) row)) 0 group_count g g vacant below (omega arith)))
    (first_goes (map (entrant_in g) row))
