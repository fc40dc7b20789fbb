-- The program of a thread.
use Rattle.std.specs.Prelude.{ℕ, ◌+◌, Bool, true, not, nat_eq, List, [], ◌∷◌, ◌++◌, length, None, Result, Ok, Err, if◌then◌else◌}
use Rattle.aps_model.specs.Limits.{most_operations}
use Rattle.toml.specs.Data.{Data, Items, Members, as_str}
use Rattle.aps_model.specs.declared.program.Op.{Op}
use Rattle.aps_model.specs.Program.{is_last_op}
use Rattle.aps_scenario.specs.declared.key.Key.TheVariants as key
use Rattle.aps_scenario.specs.declared.kind.Kind.{Kind}
use Rattle.aps_scenario.specs.declared.kind.Kind.TheVariants.{UnknownName, BadOperation}
use Rattle.aps_scenario.specs.declared.operation.OperationFault.{OperationFault}
use Rattle.aps_scenario.specs.declared.operation.OperationFault.TheVariants.{Unknown, Bad}
use Rattle.aps_scenario.specs.declared.refusal.Finding.{Finding}
use Rattle.aps_scenario.specs.declared.refusal.Part.TheVariants.{Operation}
use Rattle.aps_scenario.specs.declared.refusal.Place.TheVariants.{Thread}
use Rattle.aps_scenario.specs.Elements.{items_len, row_array, read_each}
use Rattle.aps_scenario.specs.Operation.{operation_of}
use Rattle.aps_scenario.specs.Row.{◌>>=◌, Row, finds, or_wrong_kind, value_of}

abbrev pub fault_kind : ℕ → OperationFault → Kind
fault_kind i Unknown = UnknownName
fault_kind i Bad = BadOperation i

abbrev pub or_fault : ℕ → Result Op OperationFault → Result Op Kind
or_fault i (Ok op) = Ok op
or_fault i (Err fault) = Err (fault_kind i fault)

abbrev pub same_truth : Bool → Bool → Bool
same_truth true b = b
same_truth a b = not b

-- operation i of so many; a last operation stands at the end and nowhere else
abbrev pub operation_in : ℕ → List (List ℕ) → List (List ℕ) → ℕ → Data → Result Op Kind
operation_in count channels joinable i d = do
  text ← or_wrong_kind (as_str d)
  op ← or_fault i (operation_of channels joinable text)
  if same_truth (is_last_op op) (nat_eq (i + 1) count) then Ok op else Err (BadOperation i)

abbrev pub at_operation : ℕ → ℕ → Result Op Kind → Result Op Finding
at_operation thread i (Ok op) = Ok op
at_operation thread i (Err kind) = finds kind (Operation thread i)

-- the operation after these ones
abbrev pub next_operation : ℕ → List (List ℕ) → List (List ℕ) → ℕ → List Op → Data → Result Op Finding
next_operation count channels joinable thread ops d = at_operation thread (length ops) (operation_in count channels joinable (length ops) d)

abbrev pub ops_with_new : List Op → Op → List Op
ops_with_new ops new = ops ++ new ∷ []

-- the operations after these elements, so many in all
abbrev pub operations_from : ℕ → List (List ℕ) → List (List ℕ) → ℕ → List Op → Items → Result (List Op) Finding
operations_from count channels joinable thread = read_each (next_operation count channels joinable thread) ops_with_new

abbrev pub row_program : Row Items
row_program = row_array key.Program 1 most_operations None

-- the program of a thread by its index
unfoldable pub program_at : List (List ℕ) → List (List ℕ) → ℕ → Members → Result (List Op) Finding
program_at channels joinable thread t = do
  elements ← value_of row_program (Thread thread) t
  operations_from (items_len elements) channels joinable thread [] elements
