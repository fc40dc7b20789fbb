-- The first message is the earliest of the greatest priority.
use Rattle.std.proofs.Common.{◌≡◌, ℕ, ◌-◌, ◌<◌, ◌≤◌, max, List, [], ◌∷◌, map, refl, sym, ◌∙◌, ap, subst, Bool, true, false, cond, nat_lt, Option, Some, None, is_some, arith, inl, inr}
use Rattle.std.specs.List.{filter, fold}
use Rattle.std.specs.Option.{option_map, unwrap_or}
use Rattle.std.proofs.lemmas.Bool.{cases_eq, cases_lt}
use Rattle.std.proofs.lemmas.Bool.Decides.{nat_tests}
use Rattle.laws_runs.specs.Waits.{one_if, times}
use Rattle.laws_runs.proofs.WaitFacts.{test_eq, test_ne}
use Rattle.aps_model.specs.Inherit.{top_of}
use Rattle.aps_model.specs.Limits.{greatest_priority}
use Rattle.aps_model.specs.Messages.{first_message, higher}
use Rattle.aps_model.specs.SchedulerState.{Message}
use Rattle.aps_levels.specs.Levels.{level_count}
use Rattle.aps_channel.specs.Lines.{first_of}
use Rattle.aps_channel.specs.Queues.{Records, is_level, level_of_priority, message_of, priority_at}
use Rattle.aps_channel.proofs.Counts.{one_here}

some_same : (a b : ℕ) → Some a ≡ Some b → a ≡ b
some_same a b e = cc

test_lt : (a b : ℕ) → a < b → nat_lt a b ≡ true
test_lt a b h = grind (arith, nat_tests)

test_ge : (a b : ℕ) → b ≤ a → nat_lt a b ≡ false
test_ge a b h = grind (arith, nat_tests)

-- no message outranks the best so far
stays : (rs : Records) (b : Message) (xs : List ℕ) → ((y : ℕ) → 1 ≤ times y xs → priority_at rs y ≤ b.priority)
    → fold higher (Some b) (map (message_of rs) xs) ≡ Some b
stays rs b [] below = refl
stays rs b (y ∷ ys) below =
    ap (λ t. fold higher (Some (cond t (message_of rs y) b)) (map (message_of rs) ys)) (test_ge b.priority (priority_at rs y) (below y (one_here y ys)))
    ∙ stays rs b ys (λ z l. below z (omega (arith, l)))

-- the best so far is below a priority
abbrev IsUnder : ℕ → Option Message → Type 0
IsUnder p None = Unit {0}
IsUnder p (Some b) = b.priority < p

higher_under : (p : ℕ) (best : Option Message) (m : Message) → IsUnder p best → m.priority < p → IsUnder p (higher best m)
higher_under p None m u lt = lt
higher_under p (Some b) m u lt = by_test (nat_lt b.priority m.priority)
  where
    by_test : (t : Bool) → IsUnder p (Some (cond t m b))
    by_test true = lt
    by_test false = u

higher_over : (p : ℕ) (best : Option Message) (m : Message) → IsUnder p best → m.priority ≡ p → higher best m ≡ Some m
higher_over p None m u e = refl
higher_over p (Some b) m u e = ap (λ t. Some (cond t m b)) (test_lt b.priority m.priority (omega (arith, u, e)))

rises : (rs : Records) (p x : ℕ) (best : Option Message) (xs : List ℕ) → ((y : ℕ) → priority_at rs y ≤ greatest_priority) → p ≤ greatest_priority → IsUnder p best
    → ((y : ℕ) → 1 ≤ times y xs → priority_at rs y ≤ p) → first_of (filter (is_level rs (level_of_priority p)) xs) ≡ Some x
    → fold higher best (map (message_of rs) xs) ≡ Some (message_of rs x)
rises rs p x best [] small fits u below first = absurd cc
rises rs p x best (y ∷ ys) small fits u below first = elim (cases_eq (priority_at rs y) p) [
  | inl e ↦
      let at : is_level rs (level_of_priority p) y ≡ true = test_eq (level_of_priority (priority_at rs y)) (level_of_priority p) (ap level_of_priority e) in
      let same : y ≡ x = some_same y x (sym (ap (λ t. first_of (cond t (y ∷ filter (is_level rs (level_of_priority p)) ys) (filter (is_level rs (level_of_priority p)) ys))) at) ∙ first) in
      ap (λ o. fold higher o (map (message_of rs) ys)) (higher_over p best (message_of rs y) u e)
      ∙ stays rs (message_of rs y) ys (λ z l. let b = below z (omega (arith, l)) in omega (arith, b, e))
      ∙ ap (λ k. Some (message_of rs k)) same
  | inr ne ↦
      let under : priority_at rs y < p = let b = below y (one_here y ys) in omega (arith, b, ne) in
      let not : is_level rs (level_of_priority p) y ≡ false = test_ne (level_of_priority (priority_at rs y)) (level_of_priority p) (λ e. ne (let s = small y in omega (arith, e, s, fits))) in
      rises rs p x (higher best (message_of rs y)) ys small fits (higher_under p best (message_of rs y) u under) (λ z l. below z (omega (arith, l)))
      (sym (ap (λ t. first_of (cond t (y ∷ filter (is_level rs (level_of_priority p)) ys) (filter (is_level rs (level_of_priority p)) ys))) not) ∙ first)
]

-- nobody passes a test that leaves nobody
none_pass : (test : ℕ → Bool) (xs : List ℕ) (y : ℕ) → is_some (first_of (filter test xs)) ≡ false → 1 ≤ times y xs → test y ≡ false
none_pass test [] y e l = absurd (omega (arith, l))
none_pass test (x ∷ xs) y e l = by_test (test x) refl e (none_pass test xs y)
  where
    by_test : (t : Bool) → test x ≡ t → is_some (first_of (cond t (x ∷ filter test xs) (filter test xs))) ≡ false
        → (is_some (first_of (filter test xs)) ≡ false → 1 ≤ times y xs → test y ≡ false) → test y ≡ false
    by_test true is f rest = absurd cc
    by_test false is f rest = elim (cases_eq x y) [
      | inl same ↦ subst (λ k. test k ≡ false) same is
      | inr ne ↦ rest f (omega (arith, l, ap one_if (test_ne x y ne)))
    ]

-- the earliest of the least level in use
pub first_is : (rs : Records) (level x : ℕ) (xs : List ℕ) → ((y : ℕ) → priority_at rs y ≤ greatest_priority) → level < level_count
    → ((k : ℕ) → k < level → is_some (first_of (filter (is_level rs k) xs)) ≡ false) → first_of (filter (is_level rs level) xs) ≡ Some x
    → first_message (map (message_of rs) xs) ≡ Some (message_of rs x)
first_is rs level x xs small lt earlier first =
    let p : ℕ = greatest_priority - level in
    let is : level_of_priority p ≡ level = omega (arith, lt) in
    rises rs p x None xs small (omega arith) tt below (subst (λ k. first_of (filter (is_level rs k) xs) ≡ Some x) (sym is) first)
  where
    below : (y : ℕ) → 1 ≤ times y xs → priority_at rs y ≤ greatest_priority - level
    below y l = elim (cases_lt (level_of_priority (priority_at rs y)) level) [
      | inl less ↦
          absurd (differ (none_pass (is_level rs (level_of_priority (priority_at rs y))) xs y (earlier (level_of_priority (priority_at rs y)) less) l) (test_eq (level_of_priority (priority_at rs y)) (level_of_priority (priority_at rs y)) refl))
      | inr more ↦ let s = small y in omega (arith, more, s)
    ]
      where
        differ : {t : Bool} → t ≡ false → t ≡ true → ⊥
        differ {t} p q = cc

-- nothing waits where no level is in use
pub first_none : (rs : Records) (xs : List ℕ) → ((k : ℕ) → k < level_count → is_some (first_of (filter (is_level rs k) xs)) ≡ false) → first_message (map (message_of rs) xs) ≡ None
first_none rs [] none = refl
first_none rs (x ∷ xs) none =
    absurd (differ (none_pass (is_level rs (level_of_priority (priority_at rs x))) (x ∷ xs) x (none (level_of_priority (priority_at rs x)) (omega arith)) (one_here x xs)) (test_eq (level_of_priority (priority_at rs x)) (level_of_priority (priority_at rs x)) refl))
  where
    differ : {t : Bool} → t ≡ false → t ≡ true → ⊥
    differ {t} p q = cc

-- the greatest priority that waits is the first message's
top_first : (best : Option Message) (ms : List Message)
    → fold (λ o (m : Message). Some (max m.priority (unwrap_or o 0))) (option_map (λ (m : Message). m.priority) best) ms ≡ option_map (λ (m : Message). m.priority) (fold higher best ms)
top_first best [] = refl
top_first best (m ∷ ms) =
    ap (λ o. fold (λ o (m : Message). Some (max m.priority (unwrap_or o 0))) o ms) (step best) ∙ top_first (higher best m) ms
  where
    by_test : (b : Message) → Some (max m.priority b.priority) ≡ option_map (λ (m : Message). m.priority) (Some (cond (nat_lt b.priority m.priority) m b))
    by_test b = elim (cases_lt b.priority m.priority) [
      | inl lt ↦
          ap (λ n. Some n) (let e : max m.priority b.priority ≡ m.priority = omega (arith, lt) in e)
          ∙ sym (ap (λ t. option_map (λ (m : Message). m.priority) (Some (cond t m b))) (test_lt b.priority m.priority lt))
      | inr ge ↦
          ap (λ n. Some n) (let e : max m.priority b.priority ≡ b.priority = omega (arith, ge) in e)
          ∙ sym (ap (λ t. option_map (λ (m : Message). m.priority) (Some (cond t m b))) (test_ge b.priority m.priority ge))
    ]

    step : (best : Option Message) → Some (max m.priority (unwrap_or (option_map (λ (m : Message). m.priority) best) 0)) ≡ option_map (λ (m : Message). m.priority) (higher best m)
    step None = ap (λ n. Some n) (let e : max m.priority 0 ≡ m.priority = omega arith in e)
    step (Some b) = by_test b

pub top_is_first : (ms : List Message) → top_of ms ≡ option_map (λ (m : Message). m.priority) (first_message ms)
top_is_first ms = top_first None ms
