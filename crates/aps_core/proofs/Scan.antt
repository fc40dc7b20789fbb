-- The candidates of a partition, found in one pass over the threads.
use Rattle.std.proofs.Common.{zero, suc, replicate, slice_index_or, nat_eq, ◌||◌, ◌&&◌, ◌≡◌, ℕ, ◌+◌, List, [], ◌∷◌, ◌++◌, refl, ◌∙◌, ap, cond, Bool, true, false, arith}
use Rattle.std.specs.List.{list_any}
use Rattle.std.proofs.lemmas.List.Folds.{list_any-append}
use Rattle.std.proofs.lemmas.List.Elements.{filter-append}
use Rattle.std.proofs.lemmas.List.FromFn.{filter_of_map_range_with_len_more}
use Rattle.aps_model.specs.declared.merit.PartFacts.{PartFacts}
use Rattle.aps_model.specs.declared.merit.Contender.{Contender}
use Rattle.aps_model.specs.Budget.{part_at}
use Rattle.aps_model.specs.Merit.{is_candidate}
use Rattle.aps_model.specs.Pick.{candidates, contender_of, is_ready}
use Rattle.aps_model.specs.SchedulerState.{SchedulerState, thread_at}
use Rattle.aps_core.specs.Scan.{has_candidate, ready_below}

-- this one, if it is ready
abbrev if_ready : SchedulerState → ℕ → List Contender
if_ready s x = cond (is_ready (thread_at s x).state) (contender_of s x ∷ []) []

below-more : (s : SchedulerState) (x : ℕ) → ready_below s (x + 1) ≡ ready_below s x ++ if_ready s x
below-more s x = filter_of_map_range_with_len_more (λ (c : Contender). is_ready (thread_at s c.thread).state) (contender_of s) 0 x x (omega arith)

candidates-append : (parts : List PartFacts) (xs ys : List Contender) → candidates parts (xs ++ ys) ≡ candidates parts xs ++ candidates parts ys
candidates-append parts xs ys = filter-append (λ (c : Contender). is_candidate c.facts (part_at parts c.facts.partition)) xs ys

pub none_marked : (n p : ℕ) → slice_index_or (replicate n false) p false ≡ false
none_marked zero p = refl
none_marked (suc n) zero = refl
none_marked (suc n) (suc p) = none_marked n p

any-more : (parts : List PartFacts) (s : SchedulerState) (p x : ℕ) (t : Bool) → is_ready (thread_at s x).state ≡ t
    → has_candidate parts p (ready_below s (x + 1)) ≡ (has_candidate parts p (ready_below s x) || has_candidate parts p (cond t (contender_of s x ∷ []) []))
any-more parts s p x t is =
    ap (has_candidate parts p) (below-more s x)
    ∙ ap (list_any (λ (c : Contender). nat_eq c.facts.partition p)) (candidates-append parts (ready_below s x) (if_ready s x))
    ∙ list_any-append (λ (c : Contender). nat_eq c.facts.partition p) (candidates parts (ready_below s x)) (candidates parts (if_ready s x))
    ∙ ap (λ b. has_candidate parts p (ready_below s x) || has_candidate parts p (cond b (contender_of s x ∷ []) [])) is

or_false : (b : Bool) → (b || false) ≡ b
or_false true = refl
or_false false = refl

pub any_ready : (parts : List PartFacts) (s : SchedulerState) (p x : ℕ) → is_ready (thread_at s x).state ≡ true
    → has_candidate parts p (ready_below s (x + 1)) ≡ (has_candidate parts p (ready_below s x) || (is_candidate (contender_of s x).facts (part_at parts (contender_of s x).facts.partition) && nat_eq (contender_of s x).facts.partition p))
any_ready parts s p x is =
    any-more parts s p x true is ∙ ap (λ b. has_candidate parts p (ready_below s x) || b) (by_test (is_candidate (contender_of s x).facts (part_at parts (contender_of s x).facts.partition)))
  where
    by_test : (t : Bool) → list_any (λ (c : Contender). nat_eq c.facts.partition p) (cond t (contender_of s x ∷ []) []) ≡ (t && nat_eq (contender_of s x).facts.partition p)
    by_test true = or_false (nat_eq (contender_of s x).facts.partition p)
    by_test false = refl

pub any_other : (parts : List PartFacts) (s : SchedulerState) (p x : ℕ) → is_ready (thread_at s x).state ≡ false
    → has_candidate parts p (ready_below s (x + 1)) ≡ has_candidate parts p (ready_below s x)
any_other parts s p x is = any-more parts s p x false is ∙ or_false (has_candidate parts p (ready_below s x))
