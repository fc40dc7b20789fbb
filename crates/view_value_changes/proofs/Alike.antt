-- When values are the same, and which of the signals change.
use Rattle.std.proofs.Common.{◌≡◌, ℕ, zero, suc, ◌+◌, ◌<◌, ◌≤◌, List, [], ◌∷◌, length, get_or, Bool, true, false, not, ◌&&◌, nat_eq, Option, Some, None, refl, sym, ap, subst, inl, inr, ◌∙◌, ◌≢◌, arith, min}
use Rattle.std.specs.List.{list_any, range_with_len}
use Rattle.std.proofs.Math.Nat.{min-le_left, min-le_right}
use Rattle.std.proofs.lemmas.Bool.{cases_eq}
use Rattle.std.proofs.lemmas.List.{get_or_default}
use Rattle.std.proofs.lemmas.List.Folds.{list_any-append, list_any_at}
use Rattle.std.proofs.lemmas.List.FromFn.{get_or-range_with_len, length-range_with_len}
use Rattle.aps_model.proofs.Ranges.{range_more}
use Rattle.laws_runs.proofs.WaitFacts.{test_eq, test_ne}
use Rattle.view_value_changes.specs.declared.kind.Kind.{Kind as State}
use Rattle.view_value_changes.specs.declared.kind.Kind.TheVariants.{Ready, Running, Sleeping, Sending, Receiving, Replying, Gone}
use Rattle.view_value_changes.specs.declared.value.Value.{Value}
use Rattle.view_value_changes.specs.declared.value.Value.TheVariants.{Thread, Partition, Kind, Number, Bit}
use Rattle.view_value_changes.specs.Changes.{changes, is_same, number_of_value, sort, value_at}

-- ---- a value from its sort and number

id_from : ℕ → Option ℕ
id_from zero = None
id_from (suc n) = Some n

state_from : ℕ → State
state_from zero = Ready
state_from (suc zero) = Running
state_from (suc (suc zero)) = Sleeping
state_from (suc (suc (suc zero))) = Sending
state_from (suc (suc (suc (suc zero)))) = Receiving
state_from (suc (suc (suc (suc (suc zero))))) = Replying
state_from (suc (suc (suc (suc (suc (suc n)))))) = Gone

bit_from : ℕ → Bool
bit_from zero = false
bit_from (suc n) = true

value_from : ℕ → ℕ → Value
value_from zero n = Thread (id_from n)
value_from (suc zero) n = Partition (id_from n)
value_from (suc (suc zero)) n = Kind (state_from n)
value_from (suc (suc (suc zero))) n = Number n
value_from (suc (suc (suc (suc s)))) n = Bit (bit_from n)

same_state : (kind : State) → value_from 2 (number_of_value (Kind kind)) ≡ Kind kind
unfolding value_from state_from
same_state Ready = refl
same_state Running = refl
same_state Sleeping = refl
same_state Sending = refl
same_state Receiving = refl
same_state Replying = refl
same_state Gone = refl

same_value : (v : Value) → value_from (sort v) (number_of_value v) ≡ v
unfolding value_from id_from bit_from
same_value (Thread None) = refl
same_value (Thread (Some x)) = refl
same_value (Partition None) = refl
same_value (Partition (Some p)) = refl
same_value (Kind kind) = same_state kind
same_value (Number n) = refl
same_value (Bit true) = refl
same_value (Bit false) = refl

-- ---- the test of equality

from_test : (a b : ℕ) → nat_eq a b ≡ true → a ≡ b
from_test a b e = elim (cases_eq a b) [
  | inl s ↦ s
  | inr ne ↦ absurd (let f = test_ne a b ne in cc)
]

first_true : (a b : Bool) → (a && b) ≡ true → a ≡ true
first_true true b e = refl
first_true false b e = absurd cc

second_true : (a b : Bool) → (a && b) ≡ true → b ≡ true
second_true true b e = e
second_true false b e = absurd cc

pub same_is : (a b : Value) → is_same a b ≡ true → a ≡ b
same_is a b e =
    let sorts : sort a ≡ sort b = from_test _ _ (first_true (nat_eq (sort a) (sort b)) _ e) in
    let numbers : number_of_value a ≡ number_of_value b = from_test _ _ (second_true (nat_eq (sort a) (sort b)) _ e) in
    sym (same_value a) ∙ ap (λ s. value_from s (number_of_value a)) sorts ∙ ap (value_from (sort b)) numbers ∙ same_value b

same_self : (v : Value) → is_same v v ≡ true
same_self v = rw (test_eq (sort v) (sort v) refl, test_eq (number_of_value v) (number_of_value v) refl) refl

is_same_by : (a b : Value) → a ≡ b → is_same a b ≡ true
is_same_by a b e = subst (λ v. is_same a v ≡ true) e (same_self a)

differs : (a b : Value) (s : Bool) → is_same a b ≡ s → a ≢ b → true ≡ not s
differs a b true e ne = absurd (ne (same_is a b e))
differs a b false e ne = refl

-- a test of equality answers so
pub by_test : (a b : Value) (r : Bool) → (r ≡ true → a ≢ b) → (r ≡ false → a ≡ b) → r ≡ not (is_same a b)
by_test a b true other same = differs a b (is_same a b) refl (other refl)
by_test a b false other same = sym (ap not (is_same_by a b (same refl)))

-- ---- whether a signal changes

read : (values : List Value) (k m : ℕ) (v d : Value) → k < m → m ≤ length values → v ≡ get_or values k v → v ≡ get_or values k d
read values k m v d less within is = is ∙ get_or_default values k v d (omega (arith, less, within))

-- the values that are read of a signal that had a value before and has one now
module _ (before now : List Value) (k m : ℕ) (less : k < m) (count : m ≡ min (length now) (length before)) where
  pub read_before : (v : Value) → v ≡ get_or before k v → v ≡ value_at before k
  read_before v is = read before k m v (Bit false) less (subst (λ n. n ≤ length before) (sym count) (min-le_right (length now) (length before))) is

  pub read_now : (v : Value) → v ≡ get_or now k v → v ≡ value_at now k
  read_now v is = read now k m v (Bit false) less (subst (λ n. n ≤ length now) (sym count) (min-le_left (length now) (length before))) is

  -- it changes as the test of these two says
  pub changes_as : (a b : Value) (told : Bool) → a ≡ get_or before k a → b ≡ get_or now k b → told ≡ not (is_same a b) → changes before now k ≡ told
  changes_as a b told was is test =
      ap (λ (v : Value). not (is_same v (value_at now k))) (sym (read_before a was)) ∙ ap (λ (v : Value). not (is_same a v)) (sym (read_now b is)) ∙ sym test

pub not_yet : (test : ℕ → Bool) (k : ℕ) → list_any test (range_with_len 0 k) ≡ false → test k ≡ false → list_any test (range_with_len 0 (k + 1)) ≡ false
not_yet test k none here =
    ap (list_any test) (range_more 0 k k (omega arith)) ∙ list_any-append test (range_with_len 0 k) (k ∷ []) ∙ rw (none, here) refl

pub changes_here : (test : ℕ → Bool) (k n : ℕ) → k < n → test k ≡ true → list_any test (range_with_len 0 n) ≡ true
changes_here test k n less here =
    list_any_at test (range_with_len 0 n) k 0 (rw (length-range_with_len 0 n) less) (ap test (get_or-range_with_len 0 n k 0 less ∙ omega arith) ∙ here)
