-- What steady ticks are, steady ticks among them, and the loaded tick.
use Rattle.std.proofs.Common.{◌≡◌, ℕ, ◌+◌, ◌/◌, ◌≤◌, List, [], ◌∷◌, refl, sym, ◌∙◌, ap, Bool, true, false, not, cond, ◌&&◌, ◌||◌, nat_le, nat_lt, Option, Some, None, arith}
use Rattle.std.specs.Prelude.{IsTrue, unwrap_or, is_some}
use Rattle.std.specs.List.{find, list_any, range_with_len}
use Rattle.std.proofs.lemmas.Bool.Decides.{nat_tests}
use Rattle.aps_model.specs.declared.command.Change.{Change}
use Rattle.aps_model.specs.declared.entry.Entry.{Entry}
use Rattle.aps_model.specs.declared.shape.Shape.{Shape}
use Rattle.aps_model.specs.Loaded.{finished_ticks, has_change, has_starved, is_among, is_steady, IsSteady, loaded_tick}

pub steady_parts : (tick : ℕ) (h : List Entry) (changes : List Change) (a b : ℕ) → IsSteady tick h changes a b → (has_change changes a b ≡ false) × (has_starved tick h a b ≡ false)
steady_parts tick h changes a b steady = by_tests (has_change changes a b) (has_starved tick h a b) steady
  where
    clash : false ≡ true → ⊥
    clash is = cc

    by_tests : (one two : Bool) → IsTrue (not one && not two) → (one ≡ false) × (two ≡ false)
    by_tests false false is = (refl, refl)
    by_tests false true is = absurd (clash is)
    by_tests true two is = absurd (clash is)

-- where nothing passes a test, nothing passes a stricter one
none_stricter : {X : Type 0} (p q : X → Bool) → ((x : X) → q x ≡ true → p x ≡ true) → (xs : List X) → list_any p xs ≡ false → list_any q xs ≡ false
none_stricter p q stricter [] none = refl
none_stricter p q stricter (x ∷ xs) none = by_tests (p x) (q x) refl refl none (none_stricter p q stricter xs)
  where
    by_tests : (one two : Bool) → p x ≡ one → q x ≡ two → (one || list_any p xs) ≡ false → (list_any p xs ≡ false → list_any q xs ≡ false) → (two || list_any q xs) ≡ false
    by_tests false false y z e later = later e
    by_tests false true y z e later = absurd (clash (sym y ∙ stricter x z))
      where
        clash : false ≡ true → ⊥
        clash e = cc
    by_tests true two y z e later = absurd cc

among_more : (a b c d j : ℕ) → c ≤ a → b ≤ d → is_among a b j ≡ true → is_among c d j ≡ true
among_more a b c d j low high among = by_tests (nat_le a j) (nat_lt j b) refl refl among
  where
    by_tests : (one two : Bool) → nat_le a j ≡ one → nat_lt j b ≡ two → (one && two) ≡ true → is_among c d j ≡ true
    by_tests true true x y e = grind (arith, nat_tests)
    by_tests true false x y e = absurd cc
    by_tests false two x y e = absurd cc

pub steady_part : (tick : ℕ) (h : List Entry) (changes : List Change) (a b c d : ℕ) → c ≤ a → b ≤ d → is_steady tick h changes c d ≡ true → is_steady tick h changes a b ≡ true
steady_part tick h changes a b c d low high steady =
    let parts = steady_parts tick h changes c d steady in
    let one : has_change changes a b ≡ false = none_stricter (λ (change : Change). is_among c d change.tick) (λ (change : Change). is_among a b change.tick) (λ change. among_more a b c d change.tick low high) changes parts.0 in
    let two : has_starved tick h a b ≡ false = none_stricter (λ (e : Entry). is_some e.starved && is_among c d (e.to / tick)) (λ (e : Entry). is_some e.starved && is_among a b (e.to / tick)) (λ e. under (is_some e.starved) (is_among a b (e.to / tick)) (is_among c d (e.to / tick)) (among_more a b c d (e.to / tick) low high)) h parts.1 in
    ap (λ t. not t && not (has_starved tick h a b)) one ∙ ap (λ t. not t) two
  where
    under : (one two three : Bool) → (two ≡ true → three ≡ true) → (one && two) ≡ true → (one && three) ≡ true
    under true two three f e = f e
    under false two three f e = absurd cc

-- no tick at all is steady
none_among : (a j : ℕ) → is_among a a j ≡ false
none_among a j = grind (arith, nat_tests)

never : {X : Type 0} (p : X → Bool) → ((x : X) → p x ≡ false) → (xs : List X) → list_any p xs ≡ false
never p fails [] = refl
never p fails (x ∷ xs) = ap (λ t. t || list_any p xs) (fails x) ∙ never p fails xs

steady_none : (tick : ℕ) (h : List Entry) (changes : List Change) (a : ℕ) → is_steady tick h changes a a ≡ true
steady_none tick h changes a =
    ap (λ t. not t && not (has_starved tick h a a)) (never (λ (change : Change). is_among a a change.tick) (λ change. none_among a change.tick) changes)
    ∙ ap (λ t. not t) (never (λ (e : Entry). is_some e.starved && is_among a a (e.to / tick)) (λ e. under (is_some e.starved) (is_among a a (e.to / tick)) (none_among a (e.to / tick))) h)
  where
    under : (one two : Bool) → two ≡ false → (one && two) ≡ false
    under true two is = is
    under false two is = refl

-- what is found passes the test
found_passes : (p : ℕ → Bool) (xs : List ℕ) (s : ℕ) → find p xs ≡ Some s → p s ≡ true
found_passes p [] s is = absurd cc
found_passes p (x ∷ xs) s is = by_test (p x) refl is (found_passes p xs s)
  where
    some_same : (a b : ℕ) → Some a ≡ Some b → a ≡ b
    some_same a b e = cc

    by_test : (t : Bool) → p x ≡ t → cond t (Some x) (find p xs) ≡ Some s → (find p xs ≡ Some s → p s ≡ true) → p s ≡ true
    by_test true passes e more = ap p (sym (some_same x s e)) ∙ passes
    by_test false fails e more = more e

-- the loaded tick begins steady ticks
pub loaded_steady : (shape : Shape) (h : List Entry) (changes : List Change) → is_steady shape.tick h changes (loaded_tick shape h changes) (finished_ticks shape h) ≡ true
loaded_steady shape h changes = by_found (find (λ s. is_steady shape.tick h changes s (finished_ticks shape h)) (range_with_len 0 (finished_ticks shape h + 1))) refl
  where
    by_found : (o : Option ℕ) → find (λ s. is_steady shape.tick h changes s (finished_ticks shape h)) (range_with_len 0 (finished_ticks shape h + 1)) ≡ o
        → is_steady shape.tick h changes (unwrap_or o (finished_ticks shape h)) (finished_ticks shape h) ≡ true
    by_found None is = steady_none shape.tick h changes (finished_ticks shape h)
    by_found (Some s) is = found_passes (λ s. is_steady shape.tick h changes s (finished_ticks shape h)) (range_with_len 0 (finished_ticks shape h + 1)) s is
