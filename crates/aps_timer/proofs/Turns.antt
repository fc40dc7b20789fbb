-- Sleepers that are gathered in the order in which they wake, one number after another.
use Rattle.std.proofs.Common.{◌≡◌, ◌≢◌, ◌⊎◌, inl, inr, ℕ, zero, suc, ◌+◌, ◌<◌, ◌≤◌, Bool, true, false, cond, List, [], ◌∷◌, refl, sym, ◌∙◌, ap, subst, Option, Some, None, arith, add-one}
use Rattle.std.specs.List.{filter_map, fold, range_with_len}
use Rattle.std.proofs.lemmas.List.Elements.{filter_map-append}
use Rattle.std.proofs.lemmas.List.Sums.{fold-append}
use Rattle.aps_model.specs.TickWork.{insert_sleeper, is_earlier}
use Rattle.aps_model.proofs.Ranges.{range_more}
use Rattle.aps_timer.proofs.Order.{earlier_one_way}

abbrev Sleepers : Type 0
Sleepers = List (ℕ × ℕ)

-- this one more, if there is one
abbrev pub with_sleeper : Sleepers → Option (ℕ × ℕ) → Sleepers
with_sleeper sleepers None = sleepers
with_sleeper sleepers (Some sleeper) = insert_sleeper sleeper sleepers

-- what f gives of the numbers below n, in order
abbrev pub gathered : (ℕ → Option (ℕ × ℕ)) → ℕ → List (ℕ × ℕ)
gathered f n = fold (λ sleepers sleeper. insert_sleeper sleeper sleepers) [] (filter_map f (range_with_len 0 n))

-- one number more
pub gathered_more : (f : ℕ → Option (ℕ × ℕ)) (n : ℕ) → gathered f (n + 1) ≡ with_sleeper (gathered f n) (f n)
gathered_more f n =
    let add : Sleepers → ℕ × ℕ → Sleepers = λ sleepers sleeper. insert_sleeper sleeper sleepers in
    ap (λ xs. fold add [] (filter_map f xs)) (range_more 0 n n (omega arith))
    ∙ ap (fold add []) (filter_map-append f (range_with_len 0 n) (n ∷ []))
    ∙ fold-append add [] (filter_map f (range_with_len 0 n)) (filter_map f (n ∷ []))
    ∙ last (f n) refl
  where
    last : (o : Option (ℕ × ℕ)) → f n ≡ o
        → fold (λ sleepers sleeper. insert_sleeper sleeper sleepers) (gathered f n) (filter_map f (n ∷ [])) ≡ with_sleeper (gathered f n) (f n)
    last None e = rw e refl
    last (Some sleeper) e = rw e refl

-- two that give the same
pub gathered_same : (f g : ℕ → Option (ℕ × ℕ)) (n : ℕ) → ((y : ℕ) → f y ≡ g y) → gathered f n ≡ gathered g n
gathered_same f g n same = λ j. gathered (λ y. same y j) n

-- one that gives nothing
pub gathered_none : (f : ℕ → Option (ℕ × ℕ)) (n : ℕ) → ((y : ℕ) → f y ≡ None) → gathered f n ≡ []
gathered_none f zero none = refl
gathered_none f (suc n) none =
    ap (gathered f) (sym (add-one n)) ∙ gathered_more f n ∙ (λ j. with_sleeper (gathered_none f n none j) (none n j))

-- ---- all of these are later than p

AreLater : ℕ × ℕ → Sleepers → Type 0
AreLater p [] = Unit {0}
AreLater p (q ∷ qs) = (is_earlier p q ≡ true) × AreLater p qs

insert_first : (p : ℕ × ℕ) (qs : Sleepers) → AreLater p qs → insert_sleeper p qs ≡ p ∷ qs
unfolding AreLater
insert_first p [] later = refl
insert_first p (q ∷ qs) later = rw later.0 refl

insert_behind : (p q : ℕ × ℕ) (qs : Sleepers) → is_earlier p q ≡ true → insert_sleeper q (p ∷ qs) ≡ p ∷ insert_sleeper q qs
insert_behind p q qs later = rw (earlier_one_way p q later) refl

insert_later : (p q : ℕ × ℕ) (qs : Sleepers) → is_earlier p q ≡ true → AreLater p qs → AreLater p (insert_sleeper q qs)
unfolding AreLater
insert_later p q [] later rest = (later, tt)
insert_later p q (r ∷ rs) later rest = by_order (is_earlier q r) (insert_later p q rs later rest.1)
  where
    by_order : (t : Bool) → AreLater p (insert_sleeper q rs) → AreLater p (cond t (q ∷ r ∷ rs) (r ∷ insert_sleeper q rs))
    by_order true more = (later, rest)
    by_order false more = (rest.0, more)

with_later : (p : ℕ × ℕ) (qs : Sleepers) (o : Option (ℕ × ℕ)) → ((q : ℕ × ℕ) → o ≡ Some q → is_earlier p q ≡ true) → AreLater p qs
    → AreLater p (with_sleeper qs o)
with_later p qs None each later = later
with_later p qs (Some q) each later = insert_later p q qs (each q refl) later

with_behind : (p : ℕ × ℕ) (qs : Sleepers) (o : Option (ℕ × ℕ)) → ((q : ℕ × ℕ) → o ≡ Some q → is_earlier p q ≡ true)
    → with_sleeper (p ∷ qs) o ≡ p ∷ with_sleeper qs o
with_behind p qs None each = refl
with_behind p qs (Some q) each = insert_behind p q qs (each q refl)

all_later : (p : ℕ × ℕ) (g : ℕ → Option (ℕ × ℕ)) → ((y : ℕ) (q : ℕ × ℕ) → g y ≡ Some q → is_earlier p q ≡ true) → (n : ℕ)
    → AreLater p (gathered g n)
unfolding AreLater
all_later p g each zero = tt
all_later p g each (suc n) =
    let more : gathered g (suc n) ≡ with_sleeper (gathered g n) (g n) = ap (gathered g) (sym (add-one n)) ∙ gathered_more g n in
    subst (AreLater p) (sym more) (with_later p (gathered g n) (g n) (each n) (all_later p g each n))

-- ---- the first is taken out

-- g gives what f gives but of x, whose sleeper is earlier than all that g gives
pub record IsWithout (f g : ℕ → Option (ℕ × ℕ)) (p : ℕ × ℕ) (x : ℕ) : Type 0 where
  pub first : f x ≡ Some p
  pub none : g x ≡ None
  pub same : (y : ℕ) → y ≢ x → f y ≡ g y
  pub later : (y : ℕ) (q : ℕ × ℕ) → g y ≡ Some q → is_earlier p q ≡ true

-- below x nothing is taken out
gathered_below : (f g : ℕ → Option (ℕ × ℕ)) (p : ℕ × ℕ) (x : ℕ) → IsWithout f g p x → (n : ℕ) → n ≤ x → gathered f n ≡ gathered g n
gathered_below f g p x is zero below = refl
gathered_below f g p x is (suc n) below =
    let rest : gathered f n ≡ gathered g n = gathered_below f g p x is n (omega (arith, below)) in
    let this : f n ≡ g n = is.same n (λ e. omega (arith, e, below)) in
    ap (gathered f) (sym (add-one n)) ∙ gathered_more f n
    ∙ (λ j. with_sleeper (rest j) (this j))
    ∙ sym (gathered_more g n) ∙ ap (gathered g) (add-one n)

-- the sleeper of x comes first, and then all others
pub gathered_first : (f g : ℕ → Option (ℕ × ℕ)) (p : ℕ × ℕ) (x : ℕ) → IsWithout f g p x → (n : ℕ) → x < n
    → gathered f n ≡ p ∷ gathered g n
gathered_first f g p x is zero above = absurd (omega (arith, above))
gathered_first f g p x is (suc n) above =
    ap (gathered f) (sym (add-one n)) ∙ gathered_more f n
    ∙ by_place (last_or_not x n above) (gathered_first f g p x is n)
    ∙ ap (λ l. p ∷ l) (sym (gathered_more g n) ∙ ap (gathered g) (add-one n))
  where
    last_or_not : (x n : ℕ) → x < suc n → (x ≡ n) ⊎ (x < n)
    last_or_not x n above = search arith

    by_place : (x ≡ n) ⊎ (x < n) → (x < n → gathered f n ≡ p ∷ gathered g n)
        → with_sleeper (gathered f n) (f n) ≡ p ∷ with_sleeper (gathered g n) (g n)
    by_place (inl e) rest =
        let first : f n ≡ Some p = ap f (sym e) ∙ is.first in
        let none : g n ≡ None = ap g (sym e) ∙ is.none in
        let below : gathered f n ≡ gathered g n = gathered_below f g p x is n (omega (arith, e)) in
        (λ j. with_sleeper (below j) (first j))
        ∙ insert_first p (gathered g n) (all_later p g is.later n)
        ∙ (λ j. p ∷ with_sleeper (gathered g n) (sym none j))
    by_place (inr lt) rest =
        let this : f n ≡ g n = is.same n (λ e. omega (arith, e, lt)) in
        (λ j. with_sleeper (rest lt j) (this j)) ∙ with_behind p (gathered g n) (g n) (is.later n)
