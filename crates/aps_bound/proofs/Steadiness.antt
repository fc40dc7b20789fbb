-- The least tick from which all finished ticks are steady.
use Rattle.std.proofs.Common.{◌≡◌, ℕ, zero, suc, ◌+◌, ◌/◌, ◌<◌, ◌≤◌, List, Bool, true, false, cond, not, ◌&&◌, nat_lt, nat_le, is_some, length, get_or, max, Some, refl, sym, ◌∙◌, ap, arith, inl, inr}
use Rattle.std.specs.Prelude.{unwrap_or}
use Rattle.std.specs.List.{AllWithin, find, range_with_len}
use Rattle.std.proofs.lemmas.Bool.{cases_eq, cases_lt}
use Rattle.std.proofs.lemmas.Bool.Decides.{nat_tests}
use Rattle.std.proofs.lemmas.List.{get_or_read}
use Rattle.std.proofs.lemmas.List.Elements.{All-from_all_within}
use Rattle.std.proofs.lemmas.List.Folds.{list_any_at, list_any_none}
use Rattle.std.proofs.lemmas.Nat.{div-add-mod', le-div}
use Rattle.aps_model.specs.declared.command.Change.{Change}
use Rattle.aps_model.specs.declared.entry.Entry.{Entry}
use Rattle.aps_model.specs.declared.shape.Shape.{Shape}
use Rattle.aps_model.specs.Loaded.{finished_ticks, has_change, has_starved, is_among, is_steady, loaded_tick}
use Rattle.aps_bound.specs.Order.{IsInOrder}

-- of the numbers from a on the first that is no less than m is m
find_first : (p : ℕ → Bool) (a n m : ℕ) → ((s : ℕ) → p s ≡ nat_le m s) → a ≤ m → m < a + n → find p (range_with_len a n) ≡ Some m
find_first p a zero m test from below = absurd (omega arith)
find_first p a (suc n) m test from below = elim (cases_eq a m) [
  | inl here ↦ ap (λ t. cond t (Some a) (find p (range_with_len (a + 1) n))) (test a ∙ passes here) ∙ ap (λ k. Some k) here
  | inr ne ↦ ap (λ t. cond t (Some a) (find p (range_with_len (a + 1) n))) (test a ∙ fails ne) ∙ find_first p (a + 1) n m test (omega arith) (omega arith)
]
  where
    passes : a ≡ m → nat_le m a ≡ true
    passes e = grind (arith, nat_tests)

    fails : (a ≡ m → ⊥) → nat_le m a ≡ false
    fails ne = grind (arith, nat_tests)

both_before : (s x y : ℕ) → (not (nat_lt s x) && not (nat_lt s y)) ≡ nat_le (max x y) s
both_before s x y = grind (arith, nat_tests)

pub loaded_is : (shape : Shape) (h : List Entry) (changes : List Change) (count x y : ℕ) → count ≡ finished_ticks shape h
    → ((s : ℕ) → has_change changes s count ≡ nat_lt s x) → ((s : ℕ) → has_starved shape.tick h s count ≡ nat_lt s y) → x ≤ count → y ≤ count
    → loaded_tick shape h changes ≡ max x y
loaded_is shape h changes count x y same changed starved few few' =
    ap (λ n. unwrap_or (find (λ s. is_steady shape.tick h changes s n) (range_with_len 0 (n + 1))) n) (sym same)
    ∙ ap (λ o. unwrap_or o count) (find_first (λ s. is_steady shape.tick h changes s count) 0 (count + 1) (max x y) steady (omega arith) (omega arith))
  where
    steady : (s : ℕ) → is_steady shape.tick h changes s count ≡ nat_le (max x y) s
    steady s = ap (λ t. not t && not (has_starved shape.tick h s count)) (changed s) ∙ ap (λ t. not (nat_lt s x) && not t) (starved s) ∙ both_before s x y

-- ---- from the end

-- the entry has a pick with a starved partition, at one of the first ticks
abbrev pub is_starved_before : ℕ → ℕ → Entry → Bool
is_starved_before tick count e = is_some e.starved && nat_lt (e.to / tick) count

-- none from a place on has one
abbrev pub AreNotStarvedFrom : ℕ → ℕ → List Entry → ℕ → Type 0
AreNotStarvedFrom n tick h count = AllWithin (λ (e : Entry). is_starved_before tick count e ≡ false) h n (length h)

pub not_starved_more : (n tick count : ℕ) (h : List Entry) (e : Entry) → n < length h → e ≡ get_or h n e → is_starved_before tick count e ≡ false → AreNotStarvedFrom (n + 1) tick h count
    → AreNotStarvedFrom n tick h count
not_starved_more n tick count h e inside is not_here later = λ k d from below. elim (cases_eq k n) [
  | inl here ↦ ap (λ j. is_starved_before tick count (get_or h j d)) here ∙ ap (is_starved_before tick count) (sym (get_or_read h n e inside is d)) ∙ not_here
  | inr other ↦ later k d (omega arith) below
]

not_among : (starved : Bool) (s t count : ℕ) → (starved && nat_lt t count) ≡ false → (starved && (nat_le s t && nat_lt t count)) ≡ false
not_among false s t count none = refl
not_among true s t count none = grind (arith, nat_tests)

among : (starved : Bool) (s t count : ℕ) → (starved && nat_lt t count) ≡ true → s ≤ t → (starved && (nat_le s t && nat_lt t count)) ≡ true
among false s t count is le = absurd cc
among true s t count is le = grind (arith, nat_tests)

not_so_late : (starved : Bool) (s t count : ℕ) → t < s → (starved && (nat_le s t && nat_lt t count)) ≡ false
not_so_late false s t count early = refl
not_so_late true s t count early = grind (arith, nat_tests)

-- no entry at all
pub never_starved : (tick count s : ℕ) (h : List Entry) → AreNotStarvedFrom 0 tick h count → has_starved tick h s count ≡ nat_lt s 0
never_starved tick count s h none =
    list_any_none (λ (e : Entry). is_some e.starved && is_among s count (e.to / tick)) h
    (All-from_all_within (λ (e : Entry). (is_some e.starved && is_among s count (e.to / tick)) ≡ false) h (λ k d from below. not_among (is_some (get_or h k d).starved) s ((get_or h k d).to / tick) count (none k d from below)))
    ∙ sym nothing
  where
    nothing : nat_lt s 0 ≡ false
    nothing = grind (arith, nat_tests)

tick_rises : (tick a b : ℕ) → 0 < tick → a ≤ b → a / tick ≤ b / tick
tick_rises tick a b some le = elim (cases_lt (b / tick) (a / tick)) [
  | inr fine ↦ fine
  | inl above ↦
      let row = div-add-mod' a tick in
      let less = le-div (a / tick) b tick some (omega arith) in
      absurd (omega arith)
]

-- in order, the last of them counts
pub last_starved : (n tick count s : ℕ) (h : List Entry) (e : Entry) → n < length h → e ≡ get_or h n e → 0 < tick → IsInOrder tick h → is_starved_before tick count e ≡ true
    → AreNotStarvedFrom (n + 1) tick h count → has_starved tick h s count ≡ nat_lt s (e.to / tick + 1)
last_starved n tick count s h e inside is some order here later = elim (cases_lt (e.to / tick) s) [
  | inr early ↦ list_any_at test h n e inside (ap test (sym is) ∙ among (is_some e.starved) s (e.to / tick) count here early) ∙ sym (passes early)
  | inl late ↦ list_any_none test h (All-from_all_within (λ (x : Entry). test x ≡ false) h (λ k d from below. elim (cases_lt n k) [
    | inl after ↦ not_among (is_some (get_or h k d).starved) s ((get_or h k d).to / tick) count (later k d (omega arith) below)
    | inr before ↦
        let at : e.to ≡ (get_or h n d).to = ap (λ (x : Entry). x.to) (get_or_read h n e inside is d) in
        let up = order.rising k n d before inside in
        let ticks = tick_rises tick (get_or h k d).to e.to some (omega arith) in
        not_so_late (is_some (get_or h k d).starved) s ((get_or h k d).to / tick) count (omega arith)
  ])) ∙ sym (fails late)
]
  where
    test : Entry → Bool
    test x = is_some x.starved && is_among s count (x.to / tick)

    passes : s ≤ e.to / tick → nat_lt s (e.to / tick + 1) ≡ true
    passes le = grind (arith, nat_tests)

    fails : e.to / tick < s → nat_lt s (e.to / tick + 1) ≡ false
    fails lt = grind (arith, nat_tests)
