-- Who has a candidate at a pick that tells of nobody who is starved.
use Rattle.std.proofs.Common.{◌≡◌, ◌≢◌, ℕ, zero, suc, ◌+◌, ◌<◌, ◌≤◌, List, [], ◌∷◌, length, Bool, true, false, not, ◌&&◌, ◌||◌, cond, nat_eq, nat_lt, Some, None, ◌⊎◌, inl, inr, refl, sym, ap, subst, ◌∙◌, arith}
use Rattle.std.specs.List.{find, list_any, range_with_len}
use Rattle.std.proofs.lemmas.Bool.{cases_Bool, cases_eq, eqb-true, lt-ltb}
use Rattle.std.proofs.lemmas.List.{get_or_past}
use Rattle.aps_model.specs.declared.merit.Contender.{Contender}
use Rattle.aps_model.specs.declared.merit.PartFacts.{PartFacts}
use Rattle.aps_model.specs.declared.state.Facts.{Facts}
use Rattle.aps_model.specs.Budget.{no_part, part_at}
use Rattle.aps_model.specs.Inherit.{facts_of}
use Rattle.aps_model.specs.Merit.{is_candidate}
use Rattle.aps_model.specs.Pick.{candidates, is_ready, missing}
use Rattle.aps_model.specs.SchedulerState.{SchedulerState, thread_at}
use Rattle.aps_core.specs.Scan.{has_candidate, ready_below}
use Rattle.aps_core.proofs.Scan.{any_other, any_ready}

-- ---- those who are left, and the one that was picked

-- the state t is r after the pick of b
pub record IsLeft (r t : SchedulerState) (b : Contender) : Type 0 where
  pub facts : (x : ℕ) → facts_of t x ≡ facts_of r x
  pub states : (x : ℕ) → x ≢ b.thread → (thread_at t x).state ≡ (thread_at r x).state
  pub count : length t.threads ≡ length r.threads
  pub same : b.facts ≡ facts_of r b.thread

-- what counts of a thread that is ready
abbrev counts : List PartFacts → ℕ → Facts → Bool
counts ps p facts = is_candidate facts (part_at ps facts.partition) && nat_eq facts.partition p

either : (a b : Bool) → (a || b) ≡ true → (a ≡ true) ⊎ (b ≡ true)
either true b is = inl refl
either false b is = inr is

second : (a b : Bool) → (a && b) ≡ true → b ≡ true
second true b is = is
second false b is = absurd cc

-- more are there where one is there
stays : (ps : List PartFacts) (s : SchedulerState) (p n : ℕ) → has_candidate ps p (ready_below s n) ≡ true → has_candidate ps p (ready_below s (n + 1)) ≡ true
stays ps s p n is = elim (cases_Bool (is_ready (thread_at s n).state)) [
  | inl ready ↦ any_ready ps s p n ready ∙ ap (λ t. t || counts ps p (facts_of s n)) is
  | inr other ↦ any_other ps s p n other ∙ is
]

comes : (ps : List PartFacts) (s : SchedulerState) (p n : ℕ) → is_ready (thread_at s n).state ≡ true → counts ps p (facts_of s n) ≡ true → has_candidate ps p (ready_below s (n + 1)) ≡ true
comes ps s p n ready is = any_ready ps s p n ready ∙ ap (λ t. has_candidate ps p (ready_below s n) || t) is ∙ or_true (has_candidate ps p (ready_below s n))
  where
    or_true : (a : Bool) → (a || true) ≡ true
    or_true true = refl
    or_true false = refl

-- the one of two
abbrev Here : List PartFacts → ℕ → SchedulerState → Contender → ℕ → Type 0
Here ps p t b m = (nat_eq b.facts.partition p ≡ true) ⊎ (has_candidate ps p (ready_below t m) ≡ true)

later : (ps : List PartFacts) (p : ℕ) (t : SchedulerState) (b : Contender) (n : ℕ) → Here ps p t b n → Here ps p t b (n + 1)
later ps p t b n (inl own) = inl own
later ps p t b n (inr others) = inr (stays ps t p n others)

one_more : (ps : List PartFacts) (p : ℕ) (r t : SchedulerState) (b : Contender) → IsLeft r t b → (n : ℕ) → (has_candidate ps p (ready_below r n) ≡ true → Here ps p t b n)
    → has_candidate ps p (ready_below r (n + 1)) ≡ true → Here ps p t b (n + 1)
one_more ps p r t b left n before at = elim (cases_Bool (is_ready (thread_at r n).state)) [
  | inr other ↦ later ps p t b n (before (sym (any_other ps r p n other) ∙ at))
  | inl ready ↦ elim (either (has_candidate ps p (ready_below r n)) (counts ps p (facts_of r n)) (sym (any_ready ps r p n ready) ∙ at)) [
    | inl so_far ↦ later ps p t b n (before so_far)
    | inr new ↦ elim (cases_eq n b.thread) [
      | inl own ↦
          inl (ap (λ (f : Facts). nat_eq f.partition p) (left.same ∙ ap (facts_of r) (sym own))
          ∙ second (is_candidate (facts_of r n) (part_at ps (facts_of r n).partition)) (nat_eq (facts_of r n).partition p) new)
      | inr ne ↦ inr (comes ps t p n (ap is_ready (left.states n ne) ∙ ready) (ap (counts ps p) (left.facts n) ∙ new))
    ]
  ]
]

pub left_or_picked : (ps : List PartFacts) (p : ℕ) (r t : SchedulerState) (b : Contender) → IsLeft r t b → (n : ℕ) → has_candidate ps p (ready_below r n) ≡ true
    → (nat_eq b.facts.partition p ≡ true) ⊎ (has_candidate ps p (ready_below t n) ≡ true)
left_or_picked ps p r t b left zero is = absurd cc
left_or_picked ps p r t b left (suc n) is =
    let next : n + 1 ≡ suc n = omega arith in
    subst (λ m. has_candidate ps p (ready_below r m) ≡ true → Here ps p t b m) next (one_more ps p r t b left n (left_or_picked ps p r t b left n)) is

-- ---- nobody is missing

none_found : (f : ℕ → Bool) (n a : ℕ) → find f (range_with_len a n) ≡ None → (p : ℕ) → a ≤ p → p < a + n → f p ≡ false
none_found f zero a none p low high = absurd (omega (arith, low, high))
none_found f (suc n) a none p low high = by_test (f a) refl (none_found f n (a + 1)) none
  where
    by_test : (t : Bool) → f a ≡ t → (find f (range_with_len (a + 1) n) ≡ None → (q : ℕ) → a + 1 ≤ q → q < a + 1 + n → f q ≡ false)
        → cond t (Some a) (find f (range_with_len (a + 1) n)) ≡ None → f p ≡ false
    by_test true is others at = absurd cc
    by_test false is others at = elim (cases_eq p a) [
      | inl same ↦ ap f same ∙ is
      | inr ne ↦ others at p (omega (arith, low, ne)) (omega (arith, high))
    ]

pub none_missing : (ps : List PartFacts) (cs : List Contender) → missing ps cs ≡ None → (p : ℕ) → p < length ps → 0 < (part_at ps p).budget → has_candidate ps p cs ≡ true
none_missing ps cs none p inside some =
    from (nat_lt 0 (part_at ps p).budget) (has_candidate ps p cs) (lt-ltb 0 (part_at ps p).budget some)
    (none_found (λ q. nat_lt 0 (part_at ps q).budget && not (has_candidate ps q cs)) (length ps) 0 none p (omega arith) (omega (arith, inside)))
  where
    from : (a b : Bool) → a ≡ true → (a && not b) ≡ false → b ≡ true
    from true true is none = refl
    from true false is none = absurd cc
    from false b is none = absurd cc

-- ---- a partition that doesn't exist

closed : (facts : Facts) → is_candidate facts no_part ≡ false
closed facts = by_mark facts.critical
  where
    by_mark : (critical : Bool) → is_candidate (record facts { critical = critical }) no_part ≡ false
    by_mark true = refl
    by_mark false = refl

-- the first of them isn't a candidate of it
not_first : (ps : List PartFacts) (p : ℕ) → length ps ≤ p → (c : Contender) (cs : List Contender) → has_candidate ps p cs ≡ false → (t : Bool) → is_candidate c.facts (part_at ps c.facts.partition) ≡ t
    → list_any (λ (k : Contender). nat_eq k.facts.partition p) (cond t (c ∷ candidates ps cs) (candidates ps cs)) ≡ false
not_first ps p past c cs others false is = others
not_first ps p past c cs others true is = elim (cases_Bool (nat_eq c.facts.partition p)) [
  | inr other ↦ ap (λ t. t || has_candidate ps p cs) other ∙ others
  | inl same ↦
      let number : c.facts.partition ≡ p = eqb-true c.facts.partition p same in
      let at : part_at ps c.facts.partition ≡ no_part = get_or_past ps c.facts.partition no_part (omega (arith, number, past)) in
      absurd (clash (sym is ∙ ap (is_candidate c.facts) at ∙ closed c.facts))
]
  where
    clash : true ≡ false → ⊥
    clash same = cc

-- nobody is a candidate of it
pub none_past : (ps : List PartFacts) (p : ℕ) → length ps ≤ p → (cs : List Contender) → has_candidate ps p cs ≡ false
none_past ps p past [] = refl
none_past ps p past (c ∷ cs) = not_first ps p past c cs (none_past ps p past cs) (is_candidate c.facts (part_at ps c.facts.partition)) refl
