-- Taking the next command of a tick.
use Rattle.std.proofs.Common.{◌≡◌, ◌≢◌, ℕ, List, [], ◌∷◌, refl, sym, ◌∙◌, ap, Bool, true, false, cond, Option, Some, None}
use Rattle.std.specs.List.{find}
use Rattle.std.specs.Option.{option_map}
use Rattle.std.proofs.lemmas.Bool.{eqb-true}
use Rattle.aps_model.specs.declared.command.CommandRow.{CommandRow}
use Rattle.aps_ctl.specs.Pending.{all_at, given, is_at, next_at, without_next}

-- the rest of a list that begins so
tail_of : {X : Type 0} → List X → List X
tail_of [] = []
tail_of (x ∷ xs) = xs

first_of : {X : Type 0} → List X → Option X
first_of [] = None
first_of (x ∷ xs) = Some x

find_first : (tick : ℕ) (commands : List (ℕ × CommandRow)) → find (is_at tick) commands ≡ first_of (all_at tick commands)
unfolding first_of
find_first tick [] = refl
find_first tick (command ∷ commands) = by (is_at tick command) (find_first tick commands)
  where
    by : (b : Bool) → find (is_at tick) commands ≡ first_of (all_at tick commands)
        → cond b (Some command) (find (is_at tick) commands) ≡ first_of (cond b (command ∷ all_at tick commands) (all_at tick commands))
    by true rest = refl
    by false rest = rest

left_of : (tick : ℕ) (commands : List (ℕ × CommandRow)) → all_at tick (without_next tick commands) ≡ tail_of (all_at tick commands)
unfolding tail_of
left_of tick [] = refl
left_of tick (command ∷ commands) = by (is_at tick command) refl (left_of tick commands)
  where
    by : (b : Bool) → is_at tick command ≡ b → all_at tick (without_next tick commands) ≡ tail_of (all_at tick commands)
        → all_at tick (cond b commands (command ∷ without_next tick commands)) ≡ tail_of (cond b (command ∷ all_at tick commands) (all_at tick commands))
    by true e rest = refl
    by false e rest = (λ j. cond (e j) (command ∷ all_at tick (without_next tick commands)) (all_at tick (without_next tick commands))) ∙ rest

-- the next command of a tick is the first of its commands
pub next_first : (tick : ℕ) (commands : List (ℕ × CommandRow)) (next : ℕ × CommandRow) (later : List (ℕ × CommandRow)) → all_at tick commands ≡ next ∷ later → next_at tick commands ≡ Some (given next)
unfolding first_of
next_first tick commands next later all = ap (option_map given) (find_first tick commands ∙ ap first_of all)

pub next_left : (tick : ℕ) (commands : List (ℕ × CommandRow)) (next : ℕ × CommandRow) (later : List (ℕ × CommandRow)) → all_at tick commands ≡ next ∷ later → all_at tick (without_next tick commands) ≡ later
unfolding tail_of
next_left tick commands next later all = left_of tick commands ∙ ap tail_of all

pub none_next : (tick : ℕ) (commands : List (ℕ × CommandRow)) → all_at tick commands ≡ [] → next_at tick commands ≡ None
unfolding first_of
none_next tick commands all = ap (option_map given) (find_first tick commands ∙ ap first_of all)

-- the commands of another tick stay
pub others_left : (tick other : ℕ) (commands : List (ℕ × CommandRow)) → other ≢ tick → all_at other (without_next tick commands) ≡ all_at other commands
others_left tick other [] apart = refl
others_left tick other (command ∷ commands) apart = by (others_left tick other commands apart) (is_at tick command) refl (is_at other command) refl
  where
    by : all_at other (without_next tick commands) ≡ all_at other commands → (b : Bool) → is_at tick command ≡ b → (d : Bool) → is_at other command ≡ d
        → all_at other (cond b commands (command ∷ without_next tick commands)) ≡ cond d (command ∷ all_at other commands) (all_at other commands)
    by rest true e true f = absurd (apart (sym (eqb-true command.1.tick other f) ∙ eqb-true command.1.tick tick e))
    by rest true e false f = refl
    by rest false e d f = λ j. cond (f j) (command ∷ rest j) (rest j)
