-- The first command of a tick, found by its place.
use Rattle.std.proofs.Common.{◌≡◌, ℕ, zero, suc, ◌+◌, ◌<◌, List, [], ◌∷◌, ◌++◌, length, get_or, refl, sym, ◌∙◌, ap, Bool, true, false, cond, Some, None, remove, nat_lt, take, length-take-le, arith}
use Rattle.std.specs.List.{enumerate_from, find, position, position_or_len}
use Rattle.std.proofs.lemmas.List.Quantifiers.{position-Some}
use Rattle.std.proofs.lemmas.Bool.{ltb-false}
use Rattle.std.proofs.lemmas.List.{take_more}
use Rattle.std.proofs.lemmas.List.Folds.{find_at}
use Rattle.std.proofs.lemmas.Option.{slice_get_past}
use Rattle.aps_model.specs.declared.command.Call.TheVariants.{QueryParameters}
use Rattle.aps_model.specs.declared.command.CommandRow.{CommandRow}
use Rattle.aps_ctl.specs.Pending.{is_at, without_next}

-- what is read where there is no such command
abbrev pub no_command : ℕ × CommandRow
no_command = (0, record { tick = 0; call = QueryParameters })

pub record Found (tick : ℕ) (commands : List (ℕ × CommandRow)) (i : ℕ) : Type 0 where
  pub within : i < length commands
  pub next : find (is_at tick) commands ≡ Some (get_or commands i no_command)
  pub left : without_next tick commands ≡ remove commands i

found_at : (tick : ℕ) (commands : List (ℕ × CommandRow)) (i : ℕ) → i < length commands → is_at tick (get_or commands i no_command) ≡ true
    → ((k : ℕ) → k < i → is_at tick (get_or commands k no_command) ≡ false) → Found tick commands i
found_at tick [] i below at before = absurd (omega (arith, below))
found_at tick (command ∷ commands) zero below at before = record {
  within = below;
  next = λ j. cond (at j) (Some command) (find (is_at tick) commands);
  left = λ j. cond (at j) commands (command ∷ without_next tick commands);
}
found_at tick (command ∷ commands) (suc i) below at before =
    let rest = found_at tick commands i (omega (arith, below)) at (λ k earlier. before (suc k) (omega (arith, earlier))) in
    let first = before 0 (omega arith) in
    record {
      within = below;
      next = (λ j. cond (first j) (Some command) (find (is_at tick) commands)) ∙ rest.next;
      left = (λ j. cond (first j) commands (command ∷ without_next tick commands)) ∙ ap (λ l. command ∷ l) rest.left;
    }

-- the command whose place is found is the next one
pub found : (tick : ℕ) (commands : List (ℕ × CommandRow)) (i : ℕ) → position (is_at tick) commands ≡ Some i → Found tick commands i
found tick commands i place =
    let p = position-Some (is_at tick) commands i no_command place in
    found_at tick commands i p.0 p.1 p.2

pub record IsNone (tick : ℕ) (commands : List (ℕ × CommandRow)) : Type 0 where
  pub next : find (is_at tick) commands ≡ None
  pub left : without_next tick commands ≡ commands

none_left : (tick : ℕ) (commands : List (ℕ × CommandRow)) → find (is_at tick) commands ≡ None → without_next tick commands ≡ commands
none_left tick [] none = refl
none_left tick (command ∷ commands) none = by (is_at tick command) none (none_left tick commands)
  where
    by : (b : Bool) → cond b (Some command) (find (is_at tick) commands) ≡ None → (find (is_at tick) commands ≡ None → without_next tick commands ≡ commands)
        → cond b commands (command ∷ without_next tick commands) ≡ command ∷ commands
    by true none rest = absurd cc
    by false none rest = ap (λ l. command ∷ l) (rest none)

none_found : (tick : ℕ) (commands : List (ℕ × CommandRow)) → position (is_at tick) commands ≡ None → find (is_at tick) commands ≡ None
none_found tick commands none =
    find_at (is_at tick) commands ∙ slice_get_past commands place (ltb-false place (length commands) (by (nat_lt place (length commands)) none))
  where
    place : ℕ
    place = position_or_len (is_at tick) commands

    by : (b : Bool) → cond b (Some place) None ≡ None → b ≡ false
    by true e = absurd cc
    by false e = refl

-- where no place is found no command is left
pub none : (tick : ℕ) (commands : List (ℕ × CommandRow)) → position (is_at tick) commands ≡ None → IsNone tick commands
none tick commands place = record { next = none_found tick commands place; left = none_left tick commands (none_found tick commands place) }

-- one more item, with its number
pub numbered_more : {X : Type 0} (n : ℕ) (xs : List X) (x : X) → enumerate_from n (xs ++ x ∷ []) ≡ enumerate_from n xs ++ (n + length xs, x) ∷ []
numbered_more n [] x = ap (λ k. (k, x) ∷ []) (omega arith)
numbered_more n (first ∷ xs) x = ap (λ l. (n, first) ∷ l) (numbered_more (n + 1) xs x ∙ ap (λ k. enumerate_from (n + 1) xs ++ (k, x) ∷ []) (omega arith))

-- the item at place i, with its number
pub numbered_next : {X : Type 0} (xs : List X) (i : ℕ) (x : X) → i < length xs → x ≡ get_or xs i x → enumerate_from 0 (take i xs) ++ (i, x) ∷ [] ≡ enumerate_from 0 (take (i + 1) xs)
numbered_next xs i x below is =
    let n = length-take-le i xs (omega (arith, below)) in
    let number : 0 + length (take i xs) ≡ i = omega (arith, n) in
    (λ j. enumerate_from 0 (take i xs) ++ (sym number j, is j) ∷ []) ∙ sym (numbered_more 0 (take i xs) (get_or xs i x)) ∙ ap (enumerate_from 0) (sym (take_more xs i x below))
