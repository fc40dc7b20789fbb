-- The places of the commands of the first ticks: each stands there once.
use Rattle.std.proofs.Common.{◌≡◌, ◌≢◌, ℕ, zero, suc, ◌+◌, ◌<◌, ◌≤◌, List, [], ◌∷◌, ◌++◌, length, map, All, refl, sym, ◌∙◌, ap, subst, Bool, true, false, cond, nat_eq, nat_lt, slice_get, arith}
use Rattle.std.specs.List.{AllByRecursion, count_by, enumerate_from, filter, flat_map, range_with_len, sum_by}
use Rattle.std.proofs.lemmas.Bool.{le-ltb}
use Rattle.std.proofs.lemmas.List.{append-nil}
use Rattle.std.proofs.lemmas.List.Concat.{flat_map-append}
use Rattle.std.proofs.lemmas.List.Elements.{recursion_from_All, All-weaker}
use Rattle.std.proofs.lemmas.List.Sums.{sum_by-append, sum_by-cons}
use Rattle.aps_model.specs.declared.command.CommandRow.{CommandRow}
use Rattle.laws_runs.specs.Answered.{once_below, places_below, places_of}
use Rattle.laws_runs.specs.Waits.{one_if}
use Rattle.laws_runs.proofs.WaitFacts.{test_ne, test_eq}
use Rattle.aps_model.specs.Scenario.{Scenario}
use Rattle.aps_model.specs.TickWork.{commands_of}
use Rattle.aps_model.proofs.Ranges.{range_more}

-- ---- one tick more

pub places_more : (scenario : Scenario) (n : ℕ) → places_below scenario (n + 1) ≡ places_below scenario n ++ places_of scenario n
places_more scenario n =
    ap (flat_map (places_of scenario)) (range_more 0 n n (omega arith))
    ∙ flat_map-append (places_of scenario) (range_with_len 0 n) (n ∷ [])
    ∙ ap (λ l. places_below scenario n ++ l) (append-nil (places_of scenario n))

-- no command has that tick
none_from : (start j : ℕ) (rows : List CommandRow) → AllByRecursion (λ (row : CommandRow). nat_eq row.tick j ≡ false) rows → filter (λ (c : ℕ × CommandRow). nat_eq c.1.tick j) (enumerate_from start rows) ≡ []
none_from start j [] none = refl
none_from start j (row ∷ rows) none =
    ap (λ t. cond t ((start, row) ∷ filter (λ (c : ℕ × CommandRow). nat_eq c.1.tick j) (enumerate_from (start + 1) rows)) (filter (λ (c : ℕ × CommandRow). nat_eq c.1.tick j) (enumerate_from (start + 1) rows))) none.0
    ∙ none_from (start + 1) j rows none.1

pub places_none : (scenario : Scenario) (j : ℕ) → All (λ (row : CommandRow). row.tick < j) scenario.commands → places_of scenario j ≡ []
places_none scenario j all =
    ap (map (λ (c : ℕ × CommandRow). c.0))
    (none_from 0 j scenario.commands (recursion_from_All (λ (row : CommandRow). nat_eq row.tick j ≡ false) scenario.commands
    (All-weaker (λ (row : CommandRow). row.tick < j) (λ (row : CommandRow). nat_eq row.tick j ≡ false) (λ row l. test_ne row.tick j (λ e. absurd (omega (arith, e, l)))) scenario.commands all)))

-- ---- sums over places

sum_two : {X : Type 0} (f g : X → ℕ) (xs : List X) → sum_by (λ x. f x + g x) xs ≡ sum_by f xs + sum_by g xs
sum_two f g [] = refl
sum_two f g (x ∷ xs) = omega (arith, sum_by-cons (λ y. f y + g y) x xs, sum_by-cons f x xs, sum_by-cons g x xs, sum_two f g xs)

sum_same : {X : Type 0} (f g : X → ℕ) (xs : List X) → ((x : X) → f x ≡ g x) → sum_by f xs ≡ sum_by g xs
sum_same f g [] same = refl
sum_same f g (x ∷ xs) same = omega (arith, sum_by-cons f x xs, sum_by-cons g x xs, same x, sum_same f g xs same)

-- of those that pass
sum_filter : {X : Type 0} (p : X → Bool) (f : X → ℕ) (xs : List X) → sum_by f (filter p xs) ≡ sum_by (λ x. cond (p x) (f x) 0) xs
sum_filter p f [] = refl
sum_filter p f (x ∷ xs) = by_test (p x) (sum_filter p f xs) ∙ sym (sum_by-cons (λ y. cond (p y) (f y) 0) x xs)
  where
    by_test : (t : Bool) → sum_by f (filter p xs) ≡ sum_by (λ y. cond (p y) (f y) 0) xs → sum_by f (cond t (x ∷ filter p xs) (filter p xs)) ≡ cond t (f x) 0 + sum_by (λ y. cond (p y) (f y) 0) xs
    by_test true e = omega (arith, sum_by-cons f x (filter p xs), e)
    by_test false e = omega (arith, e)

pub sum_map : {X Y : Type 0} (f : Y → ℕ) (g : X → Y) (xs : List X) → sum_by f (map g xs) ≡ sum_by (λ x. f (g x)) xs
sum_map f g [] = refl
sum_map f g (x ∷ xs) = omega (arith, sum_by-cons f (g x) (map g xs), sum_by-cons (λ y. f (g y)) x xs, sum_map f g xs)

sum_nothing : {X : Type 0} (f : X → ℕ) (xs : List X) → ((x : X) → f x ≡ 0) → sum_by f xs ≡ 0
sum_nothing f [] none = refl
sum_nothing f (x ∷ xs) none = omega (arith, sum_by-cons f x xs, none x, sum_nothing f xs none)

below_next : (tick n k : ℕ) → cond (nat_lt tick (n + 1)) k 0 ≡ cond (nat_lt tick n) k 0 + cond (nat_eq tick n) k 0
below_next tick n k = search (arith)

-- a sum over the places is one over the commands of those ticks
abbrev IsSumOver : Scenario → (ℕ → ℕ) → ℕ → Type 0
IsSumOver scenario f n = sum_by f (places_below scenario n) ≡ sum_by (λ (c : ℕ × CommandRow). cond (nat_lt c.1.tick n) (f c.0) 0) (enumerate_from 0 scenario.commands)

sum_more : (scenario : Scenario) (f : ℕ → ℕ) (n : ℕ) → IsSumOver scenario f n → IsSumOver scenario f (n + 1)
sum_more scenario f n m =
    let all = enumerate_from 0 scenario.commands in
    let old : ℕ × CommandRow → ℕ = λ (c : ℕ × CommandRow). cond (nat_lt c.1.tick n) (f c.0) 0 in
    let new : ℕ × CommandRow → ℕ = λ (c : ℕ × CommandRow). cond (nat_eq c.1.tick n) (f c.0) 0 in
    let added : sum_by f (places_of scenario n) ≡ sum_by new all =
    sum_map f (λ (c : ℕ × CommandRow). c.0) (commands_of scenario n) ∙ sum_filter (λ (c : ℕ × CommandRow). nat_eq c.1.tick n) (λ (c : ℕ × CommandRow). f c.0) all in
    let both : sum_by (λ (c : ℕ × CommandRow). cond (nat_lt c.1.tick (n + 1)) (f c.0) 0) all ≡ sum_by old all + sum_by new all =
    sum_same _ (λ (c : ℕ × CommandRow). old c + new c) all (λ c. below_next c.1.tick n (f c.0)) ∙ sum_two old new all in
    let split : sum_by f (places_below scenario (n + 1)) ≡ sum_by f (places_below scenario n) + sum_by f (places_of scenario n) =
    ap (sum_by f) (places_more scenario n) ∙ sum_by-append f (places_below scenario n) (places_of scenario n) in
    omega (arith, added, both, split, m)

places_sum : (scenario : Scenario) (f : ℕ → ℕ) (n : ℕ) → IsSumOver scenario f n
places_sum scenario f zero = sym (sum_nothing (λ (c : ℕ × CommandRow). cond (nat_lt c.1.tick 0) (f c.0) 0) (enumerate_from 0 scenario.commands) (λ c. ap (λ t. cond t (f c.0) 0) (le-ltb c.1.tick 0 (omega arith))))
places_sum scenario f (suc n) = subst (IsSumOver scenario f) (omega arith) (sum_more scenario f n (places_sum scenario f n))

-- ---- each once

-- whether a command below tick n stands at the place
abbrev counted : ℕ → ℕ → ℕ × CommandRow → ℕ
counted n place c = cond (nat_lt c.1.tick n) (cond (nat_eq c.0 place) 1 0) 0

elsewhere : (n place start : ℕ) (row : CommandRow) → start ≢ place → counted n place (start, row) ≡ 0
elsewhere n place start row ne = ap (λ t. cond (nat_lt row.tick n) (cond t 1 0) 0) (test_ne start place ne) ∙ by_test (nat_lt row.tick n)
  where
    by_test : (t : Bool) → ◌≡◌ {A = ℕ} (cond t 0 0) 0
    by_test true = refl
    by_test false = refl

here : (n place : ℕ) (row : CommandRow) → counted n place (place, row) ≡ one_if (nat_lt row.tick n)
here n place row = ap (λ t. cond (nat_lt row.tick n) (cond t 1 0) 0) (test_eq place place refl) ∙ by_test (nat_lt row.tick n)
  where
    by_test : (t : Bool) → cond t 1 0 ≡ one_if t
    by_test true = refl
    by_test false = refl

none_later : (n place start : ℕ) (rows : List CommandRow) → place < start → sum_by (counted n place) (enumerate_from start rows) ≡ 0
none_later n place start [] before = refl
none_later n place start (row ∷ rows) before =
    omega (arith, sum_by-cons (counted n place) (start, row) (enumerate_from (start + 1) rows), elsewhere n place start row (λ e. absurd (omega (arith, e, before))), none_later n place (start + 1) rows (omega (arith, before)))

-- from a start, the count of a place is that of the command there
count_from : (n place start i : ℕ) (rows : List CommandRow) → start + i ≡ place → sum_by (counted n place) (enumerate_from start rows) ≡ once_below n (slice_get rows i)
count_from n place start i [] at = refl
count_from n place start zero (row ∷ rows) at =
    let same : start ≡ place = omega (arith, at) in
    let own : counted n place (start, row) ≡ one_if (nat_lt row.tick n) = ap (λ k. counted n place (k, row)) same ∙ here n place row in
    omega (arith, sum_by-cons (counted n place) (start, row) (enumerate_from (start + 1) rows), own, none_later n place (start + 1) rows (omega (arith, same)))
count_from n place start (suc i) (row ∷ rows) at =
    let later = count_from n place (start + 1) i rows (omega (arith, at)) in
    omega (arith, sum_by-cons (counted n place) (start, row) (enumerate_from (start + 1) rows), elsewhere n place start row (λ e. absurd (omega (arith, e, at))), later)

pub place_once : (scenario : Scenario) (n i : ℕ) → count_by (λ p. nat_eq p i) (places_below scenario n) ≡ once_below n (slice_get scenario.commands i)
place_once scenario n i = places_sum scenario (λ p. cond (nat_eq p i) 1 0) n ∙ count_from n i 0 i scenario.commands (omega arith)

-- ---- how many

at_most_one : (n start : ℕ) (rows : List CommandRow) → sum_by (λ (c : ℕ × CommandRow). cond (nat_lt c.1.tick n) 1 0) (enumerate_from start rows) ≤ length rows
at_most_one n start [] = omega arith
at_most_one n start (row ∷ rows) =
    let one : cond (nat_lt row.tick n) 1 0 ≤ 1 = by_test (nat_lt row.tick n) in
    omega (arith, sum_by-cons (λ (c : ℕ × CommandRow). cond (nat_lt c.1.tick n) 1 0) (start, row) (enumerate_from (start + 1) rows), one, at_most_one n (start + 1) rows)
  where
    by_test : (t : Bool) → cond t 1 0 ≤ 1
    by_test true = omega arith
    by_test false = omega arith

all_one : (xs : List ℕ) → sum_by (λ _. 1) xs ≡ length xs
all_one [] = refl
all_one (x ∷ xs) = omega (arith, sum_by-cons (λ _. 1) x xs, all_one xs)

pub places_few : (scenario : Scenario) (n : ℕ) → length (places_below scenario n) ≤ length scenario.commands
places_few scenario n = omega (arith, all_one (places_below scenario n), places_sum scenario (λ _. 1) n, at_most_one n 0 scenario.commands)
