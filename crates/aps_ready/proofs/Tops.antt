use Rattle.std.proofs.Common.{◌≡◌, ◌⊎◌, inl, inr, ℕ, zero, suc, ◌<◌, ◌≤◌, Bool, true, false, cond, nat_eq, List, ◌∷◌, length, map, get_or, refl, sym, ◌∙◌, ap, subst, arith}
use Rattle.std.specs.List.{Contains}
use Rattle.std.proofs.lemmas.Bool.Decides.{nat_tests}
use Rattle.std.proofs.lemmas.List.{length-map, get_or-map}
use Rattle.aps_model.specs.Limits.{greatest_priority}
use Rattle.aps_levels.specs.Levels.{level_count}
use Rattle.aps_ready.specs.declared.entrant.Entrant.{Entrant}
use Rattle.aps_ready.specs.Entrant.{entrant_at, vacant, goes_before, IsFirst}
use Rattle.aps_ready.specs.Firsts.{firsts_of, level_of}
use Rattle.aps_ready.specs.Ready.{entrant_in, IsQueued}
use Rattle.aps_ready.specs.Topped.{AreTopped}
use Rattle.aps_ready.specs.Best.{Sits}
use Rattle.aps_ready.proofs.Topped.{firsts_topped}
use Rattle.aps_ready.specs.Group.{group_count}

-- ---- the first of a group

pub record IsTop (row : List Entrant) (n : ℕ) (top : Entrant) : Type 0 where
  pub group : top.group < group_count → top.group ≡ n
  pub sits : top.group < group_count → Sits row top
  pub none : (top.group < group_count → ⊥) → top ≡ vacant
  pub first : (x : ℕ) → x < length row → (entrant_at row x).group ≡ n → (top.group ≡ n) × (goes_before (entrant_at row x) top ≡ false)

-- one of the group
record Own (row : List Entrant) (n : ℕ) (top : Entrant) : Type 0 where
  place : ℕ
  within : place < length row
  group : (entrant_at row place).group ≡ n
  is : entrant_at row place ≡ top

kind_of : (n : ℕ) (e top : Entrant) → entrant_in n e ≡ top → ((e.group ≡ n) × (e ≡ top)) ⊎ (top ≡ vacant)
kind_of n e top is = by_test (nat_eq e.group n) refl is
  where
    by_test : (t : Bool) → nat_eq e.group n ≡ t → cond t e vacant ≡ top → ((e.group ≡ n) × (e ≡ top)) ⊎ (top ≡ vacant)
    by_test true h k = inl (grind (arith, nat_tests), k)
    by_test false h k = inr (sym k)

who : (row : List Entrant) (n : ℕ) (top : Entrant) → Contains (vacant ∷ map (entrant_in n) row) top → Own row n top ⊎ (top ≡ vacant)
who row n top (zero, within, is) = inr (sym is)
who row n top (suc k, within, is) =
    let inside : k < length row = omega (arith, within, length-map row (entrant_in n)) in
    let at : entrant_in n (entrant_at row k) ≡ top = sym (get_or-map (entrant_in n) row k vacant top inside) ∙ is in
    elim (kind_of n (entrant_at row k) top at) [
      | inl own ↦ inl (record { place = k; within = inside; group = own.0; is = own.1 })
      | inr none ↦ inr none
    ]

pub not_vacant : (top : Entrant) → top ≡ vacant → top.group < group_count → ⊥
not_vacant top is g = omega (arith, g, ap (λ (e : Entrant). e.group) is)

own_entrant : (n : ℕ) (e : Entrant) → e.group ≡ n → entrant_in n e ≡ e
own_entrant n e same = grind (arith, nat_tests)

before_vacant : (e top : Entrant) → e.level ≤ greatest_priority → top ≡ vacant → goes_before e top ≡ false → ⊥
before_vacant e top small is h =
    let level : top.level ≡ level_count = ap (λ (f : Entrant). f.level) is in
    grind (arith, nat_tests)

pub top_is : (row : List Entrant) (n : ℕ) (top : Entrant) → n < group_count → IsQueued row → IsFirst (map (entrant_in n) row) top → IsTop row n top
top_is row n top below queued first = by_kind (who row n top first.one)
  where
    before : (x : ℕ) → x < length row → (entrant_at row x).group ≡ n → goes_before (entrant_at row x) top ≡ false
    before x within same =
        let read : get_or (map (entrant_in n) row) x vacant ≡ entrant_at row x =
        get_or-map (entrant_in n) row x vacant vacant within ∙ own_entrant n (entrant_at row x) same in
        ap (λ (e : Entrant). goes_before e top) (sym read) ∙ first.others x vacant (omega (arith, within, length-map row (entrant_in n)))

    by_kind : Own row n top ⊎ (top ≡ vacant) → IsTop row n top
    by_kind (inl own) =
        let group : top.group ≡ n = ap (λ (e : Entrant). e.group) (sym own.is) ∙ own.group in
        record {
          group = λ _. group;
          sits = λ _. record { place = own.place; within = own.within; is = own.is };
          none = λ no. absurd (no (omega (arith, group, below)));
          first = λ x within same. (group, before x within same);
        }
    by_kind (inr none) = record {
      group = λ g. absurd (not_vacant top none g);
      sits = λ g. absurd (not_vacant top none g);
      none = λ _. none;
      first = λ x within same.
          absurd (before_vacant (entrant_at row x) top (queued.levels x within (omega (arith, same, below))) none (before x within same));
    }

-- the level of somebody who sits there
pub sits_level : (row : List Entrant) (e : Entrant) → IsQueued row → e.group < group_count → Sits row e → e.level ≤ greatest_priority
sits_level row e queued g sits =
    subst (λ (f : Entrant). f.level ≤ greatest_priority) sits.is
    (queued.levels sits.place sits.within (subst (λ (f : Entrant). f.group < group_count) (sym sits.is) g))

-- ---- the levels of the groups

-- what is kept of the row
pub record IsKept (row firsts : List Entrant) : Type 0 where
  pub queued : IsQueued row
  pub topped : AreTopped row firsts

pub kept : (row : List Entrant) → IsQueued row → IsKept row (firsts_of row)
kept row queued = record { queued = queued; topped = firsts_topped row }

pub top_of : (row : List Entrant) (firsts : List Entrant) (g : ℕ) → IsKept row firsts → g < group_count
    → IsTop row g (entrant_at firsts g)
top_of row firsts g kept below =
    top_is row g (entrant_at firsts g) below kept.queued (kept.topped g below)

not_before : (first e : Entrant) → goes_before e first ≡ false → first.level ≤ e.level
not_before first e h = grind (arith, nat_tests)

-- nobody has a lower level than its group
pub level_at_most : (row : List Entrant) (firsts : List Entrant) (x : ℕ) → IsKept row firsts
    → x < length row → (entrant_at row x).group < group_count → level_of firsts (entrant_at row x).group ≤ (entrant_at row x).level
level_at_most row firsts x kept within below =
    let g = (entrant_at row x).group in
    not_before (entrant_at firsts g) (entrant_at row x) ((top_of row firsts g kept below).first x within refl).1

-- somebody of the group has its level
pub record Occupant (row : List Entrant) (g at_level : ℕ) : Type 0 where
  pub place : ℕ
  pub within : place < length row
  pub group : (entrant_at row place).group ≡ g
  pub level : (entrant_at row place).level ≡ at_level

pub occupant : (row : List Entrant) (firsts : List Entrant) (g : ℕ) → IsKept row firsts
    → g < group_count → level_of firsts g < level_count → Occupant row g (level_of firsts g)
occupant row firsts g kept below some =
    by_kind (who row g first (kept.topped g below).one)
  where
    first : Entrant
    first = entrant_at firsts g

    by_kind : Own row g first ⊎ (first ≡ vacant) → Occupant row g (level_of firsts g)
    by_kind (inl own) = record {
      place = own.place;
      within = own.within;
      group = own.group;
      level = ap (λ (e : Entrant). e.level) own.is;
    }
    by_kind (inr none) = absurd (omega (arith, some, ap (λ (e : Entrant). e.level) none))
