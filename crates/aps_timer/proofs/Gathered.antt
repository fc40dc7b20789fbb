-- Those who are due, gathered by their numbers, and where each of them comes to stand.
use Rattle.std.proofs.Common.{◌≡◌, ℕ, zero, suc, ◌+◌, ◌-◌, ◌<◌, ◌≤◌, ◌++◌, Bool, true, false, cond, List, [], ◌∷◌, length, take, drop, get_or, refl, sym, ◌∙◌, ap, Option, Some, None, arith, add-one}
use Rattle.std.proofs.lemmas.List.{append_assoc, drop_all, drop_more, take_more}
use Rattle.aps_model.specs.TickWork.{insert_sleeper, is_earlier}
use Rattle.aps_timer.proofs.Turns.{gathered, gathered_more, with_sleeper}

abbrev Sleepers : Type 0
Sleepers = List (ℕ × ℕ)

-- ---- how many

insert_length : (sleeper : ℕ × ℕ) (sleepers : Sleepers) → length (insert_sleeper sleeper sleepers) ≡ length sleepers + 1
insert_length sleeper [] = refl
insert_length sleeper (first ∷ rest) = by_order (is_earlier sleeper first) (insert_length sleeper rest)
  where
    by_order : (t : Bool) → length (insert_sleeper sleeper rest) ≡ length rest + 1
        → length (cond t (sleeper ∷ first ∷ rest) (first ∷ insert_sleeper sleeper rest)) ≡ length (first ∷ rest) + 1
    by_order true more = omega arith
    by_order false more = omega (arith, more)

one_more : (sleepers : Sleepers) (o : Option (ℕ × ℕ)) → length (with_sleeper sleepers o) ≤ length sleepers + 1
one_more sleepers None = omega arith
one_more sleepers (Some sleeper) = omega (arith, insert_length sleeper sleepers)

-- of so many numbers no more are gathered
pub gathered_few : (f : ℕ → Option (ℕ × ℕ)) (n : ℕ) → length (gathered f n) ≤ n
gathered_few f zero = omega arith
gathered_few f (suc n) =
    let more : gathered f (suc n) ≡ with_sleeper (gathered f n) (f n) = ap (gathered f) (sym (add-one n)) ∙ gathered_more f n in
    omega (arith, ap length more, one_more (gathered f n) (f n), gathered_few f n)

-- numbers that give nothing add nothing
pub gathered_on : (f : ℕ → Option (ℕ × ℕ)) (n k : ℕ) → ((y : ℕ) → n ≤ y → y < n + k → f y ≡ None) → gathered f (n + k) ≡ gathered f n
gathered_on f n zero none = ap (gathered f) (omega arith)
gathered_on f n (suc k) none =
    let step : n + suc k ≡ (n + k) + 1 = omega arith in
    let rest : gathered f (n + k) ≡ gathered f n = gathered_on f n k (λ y from below. none y from (omega (arith, below))) in
    let this : f (n + k) ≡ None = none (n + k) (omega arith) (omega arith) in
    ap (gathered f) step ∙ gathered_more f (n + k) ∙ (λ j. with_sleeper (rest j) (this j))

-- between two numbers
pub gathered_up : (f : ℕ → Option (ℕ × ℕ)) (n m : ℕ) → n ≤ m → ((y : ℕ) → n ≤ y → y < m → f y ≡ None) → gathered f m ≡ gathered f n
gathered_up f n m le none =
    let rest : m ≡ n + (m - n) = omega (arith, le) in
    ap (gathered f) rest ∙ gathered_on f n (m - n) (λ y from below. none y from (omega (arith, below, le)))

-- ---- where one of them comes to stand

-- behind those that wake before it
pub stands_behind : (list : List (ℕ × ℕ)) (place : ℕ) (s d : ℕ × ℕ) → place < length list → is_earlier s (get_or list place d) ≡ false
    → insert_sleeper s list ≡ take place list ++ insert_sleeper s (drop place list)
    → insert_sleeper s list ≡ take (place + 1) list ++ insert_sleeper s (drop (place + 1) list)
stands_behind list place s d below not was =
    let one = get_or list place d in
    let rest = drop (place + 1) list in
    was
    ∙ ap (λ (l : Sleepers). take place list ++ insert_sleeper s l) (drop_more list place d below)
    ∙ ap (λ (t : Bool). take place list ++ cond t (s ∷ one ∷ rest) (one ∷ insert_sleeper s rest)) not
    ∙ sym (append_assoc (take place list) (one ∷ []) (insert_sleeper s rest))
    ∙ ap (λ (l : Sleepers). l ++ insert_sleeper s rest) (sym (take_more list place d below))

-- before the first that it wakes before
pub stands_before : (list : List (ℕ × ℕ)) (place : ℕ) (s d : ℕ × ℕ) → place < length list → is_earlier s (get_or list place d) ≡ true
    → insert_sleeper s list ≡ take place list ++ insert_sleeper s (drop place list)
    → insert_sleeper s list ≡ take place list ++ s ∷ drop place list
stands_before list place s d below before was =
    let one = get_or list place d in
    let rest = drop (place + 1) list in
    was
    ∙ ap (λ (l : Sleepers). take place list ++ insert_sleeper s l) (drop_more list place d below)
    ∙ ap (λ (t : Bool). take place list ++ cond t (s ∷ one ∷ rest) (one ∷ insert_sleeper s rest)) before
    ∙ ap (λ (l : Sleepers). take place list ++ s ∷ l) (sym (drop_more list place d below))

-- or at the end
pub stands_last : (list : List (ℕ × ℕ)) (place : ℕ) (s : ℕ × ℕ) → length list ≤ place
    → insert_sleeper s list ≡ take place list ++ insert_sleeper s (drop place list)
    → insert_sleeper s list ≡ take place list ++ s ∷ drop place list
stands_last list place s past was =
    was
    ∙ ap (λ (l : Sleepers). take place list ++ insert_sleeper s l) (drop_all place list past)
    ∙ ap (λ (l : Sleepers). take place list ++ s ∷ l) (sym (drop_all place list past))
