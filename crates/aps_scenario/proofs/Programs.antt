-- The programs that are read have the operations of a program.
use Rattle.std.proofs.Common.{◌≡◌, ℕ, suc, ◌+◌, ◌<◌, ◌≤◌, Bool, true, false, cond, ◌||◌, nat_eq, List, [], ◌∷◌, ◌++◌, length, Result, Ok, Err, inl, inr, refl, ap, sym, subst, ◌∙◌, arith, add-one, length-append, All}
use Rattle.std.proofs.lemmas.Bool.{cases_Bool}
use Rattle.std.proofs.lemmas.Bool.Decides.{nat_tests}
use Rattle.std.proofs.lemmas.List.Elements.{All-append, All-nil, All-from_recursion}
use Rattle.std.specs.List.{list_any}
use Rattle.toml.specs.Data.{Data, Members, as_str}
use Rattle.aps_model.specs.declared.program.Op.{Op}
use Rattle.aps_model.specs.Limits.{most_operations}
use Rattle.aps_model.specs.Program.{IsOp, IsProgram, is_last_op, ends_well}
use Rattle.aps_scenario.specs.declared.kind.Kind.{Kind}
use Rattle.aps_scenario.specs.declared.kind.Kind.TheVariants.{BadOperation}
use Rattle.aps_scenario.specs.declared.operation.OperationFault.{OperationFault}
use Rattle.aps_scenario.specs.declared.refusal.Place.TheVariants.{Thread}
use Rattle.aps_scenario.specs.Elements.{items_len}
use Rattle.aps_scenario.specs.Operation.{operation_of}
use Rattle.aps_scenario.specs.Program.{or_fault, same_truth, operation_in, at_operation, next_operation, ops_with_new, row_program, program_at}
use Rattle.aps_scenario.specs.Row.{or_wrong_kind, value_of}
use Rattle.aps_scenario.proofs.Elements.{HasLength, read_each-keeps, array_of-ok}
use Rattle.aps_scenario.proofs.Operations.{operation_of-ok}
use Rattle.aps_scenario.proofs.Values.{bind-ok, cond-ok, value_of-ok}

-- ---- the place of the last operation

ends_with_last : (ops : List Op) (op : Op) → list_any is_last_op ops ≡ false → is_last_op op ≡ true → ends_well (ops ++ op ∷ []) ≡ true
ends_with_last [] op none last = last
ends_with_last (x ∷ []) op none last =
    elim (cases_Bool (is_last_op x)) [
      | inl early ↦ let some : true ≡ false = rw early at none in absurd (cc)
      | inr other ↦ ap (λ b. cond b false (is_last_op op)) other ∙ last
    ]
ends_with_last (x ∷ y ∷ ops) op none last =
    elim (cases_Bool (is_last_op x)) [
      | inl early ↦ let some : true ≡ false = rw early at none in absurd (cc)
      | inr other ↦ ap (λ b. cond b false (ends_well (y ∷ ops ++ op ∷ []))) other ∙ ends_with_last (y ∷ ops) op (rw other at none) last
    ]

none_more : (ops : List Op) (op : Op) → list_any is_last_op ops ≡ false → is_last_op op ≡ false → list_any is_last_op (ops ++ op ∷ []) ≡ false
none_more [] op none other = ap (λ b. b || false) other
none_more (x ∷ ops) op none other =
    elim (cases_Bool (is_last_op x)) [
      | inl early ↦ let some : true ≡ false = rw early at none in absurd (cc)
      | inr first ↦ ap (λ b. b || list_any is_last_op (ops ++ op ∷ [])) first ∙ none_more ops op (rw first at none) other
    ]

same_truth-same : (a b : Bool) → same_truth a b ≡ true → a ≡ b
same_truth-same true b e = sym e
same_truth-same false true e = absurd (cc)
same_truth-same false false e = refl

module _ (count : ℕ) (channels joinable : List (List ℕ)) (thread : ℕ) where
  -- what is known of an operation that was read after so many
  record IsNew (i : ℕ) (op : Op) : Type 0 where
    pub valid : IsOp (length channels) joinable op
    pub placed : is_last_op op ≡ nat_eq (i + 1) count

  or_fault-ok : (i : ℕ) (r : Result Op OperationFault) (op : Op) → or_fault i r ≡ Ok op → r ≡ Ok op
  or_fault-ok i (Ok x) op e = cc
  or_fault-ok i (Err fault) op e = absurd (cc)

  at_operation-ok : (i : ℕ) (r : Result Op Kind) (op : Op) → at_operation thread i r ≡ Ok op → r ≡ Ok op
  at_operation-ok i (Ok x) op e = cc
  at_operation-ok i (Err kind) op e = absurd (cc)

  operation_in-ok : (i : ℕ) (d : Data) (op : Op) → operation_in count channels joinable i d ≡ Ok op → IsNew i op
  operation_in-ok i d op e =
      let text = bind-ok (or_wrong_kind (as_str d)) _ op e in
      let read = bind-ok (or_fault i (operation_of channels joinable text.0)) _ op text.2 in
      let placed = cond-ok (same_truth (is_last_op read.0) (nat_eq (i + 1) count)) read.0 op (BadOperation i) read.2 in
      let valid = operation_of-ok channels joinable read.0 text.0 (or_fault-ok i (operation_of channels joinable text.0) read.0 read.1) in
      subst (IsNew i) placed.1 (record { valid = valid; placed = same_truth-same (is_last_op read.0) (nat_eq (i + 1) count) placed.0 })

  -- the operations so far, of which there are n
  record AreRead (n : ℕ) (ops : List Op) : Type 0 where
    pub long : length ops ≡ n
    pub each : All (IsOp (length channels) joinable) ops
    pub going : n < count → list_any is_last_op ops ≡ false
    pub ended : n ≡ count → 0 < n → ends_well ops ≡ true

  more : (n : ℕ) (ops : List Op) (op : Op) → AreRead n ops → IsNew (length ops) op → AreRead (suc n) (ops_with_new ops op)
  more n ops op read is_new = record {
    long = length-append ops (op ∷ []) ∙ add-one (length ops) ∙ ap (λ m. suc m) read.long;
    each = All-append (IsOp (length channels) joinable) ops (op ∷ []) read.each (All-from_recursion (IsOp (length channels) joinable) (op ∷ []) (is_new.valid, tt));
    going = λ before.
        let long : length ops ≡ n = read.long in
        let not_end : nat_eq (length ops + 1) count ≡ false = grind (arith, nat_tests) in
        none_more ops op (read.going (omega arith)) (is_new.placed ∙ not_end);
    ended = λ here some.
        let long : length ops ≡ n = read.long in
        let at_end : nat_eq (length ops + 1) count ≡ true = grind (arith, nat_tests) in
        ends_with_last ops op (read.going (omega arith)) (is_new.placed ∙ at_end);
  }

-- a program of a thread
pub program_at-ok : (channels joinable : List (List ℕ)) (thread : ℕ) (t : Members) (ops : List Op) → program_at channels joinable thread t ≡ Ok ops
    → IsProgram (length channels) joinable ops
unfolding program_at
program_at-ok channels joinable thread t ops e =
    let elements = bind-ok (value_of row_program (Thread thread) t) _ ops e in
    let many : ℕ = items_len elements.0 in
    let range : HasLength 1 most_operations elements.0 =
    elim (value_of-ok row_program (Thread thread) t elements.0 elements.1) [ inl none ↦ absurd (cc) | inr p ↦ array_of-ok 1 most_operations p.0 elements.0 p.1 ] in
    let none : AreRead (items_len elements.0) channels joinable thread 0 [] =
    record { long = refl; each = All-nil (IsOp (length channels) joinable); going = λ before. refl; ended = λ here some. absurd (omega arith) } in
    let read : AreRead (items_len elements.0) channels joinable thread (0 + items_len elements.0) ops =
    read_each-keeps (next_operation (items_len elements.0) channels joinable thread) ops_with_new (AreRead (items_len elements.0) channels joinable thread)
    (λ n so_far d new before step.
    more (items_len elements.0) channels joinable thread n so_far new before
    (operation_in-ok (items_len elements.0) channels joinable thread (length so_far) d new (at_operation-ok (items_len elements.0) channels joinable thread (length so_far) _ new step)))
    elements.0 0 [] ops none elements.2 in
    let long : length ops ≡ 0 + items_len elements.0 = read.long in
    let few : items_len elements.0 ≤ most_operations = range.few in
    let some : 1 ≤ items_len elements.0 = range.some in
    record { each = read.each; few = omega arith; ends = read.ended (omega arith) (omega arith) }
