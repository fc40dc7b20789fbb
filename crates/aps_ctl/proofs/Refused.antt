-- What a refusal of the tree leaves of a command.
use Rattle.std.proofs.Common.{◌≡◌, ℕ, List, refl, sym, ◌∙◌, ap, Option, Some, None, Err}
use Rattle.aps_model.specs.declared.command.Answer.TheVariants.{Refused}
use Rattle.aps_model.specs.declared.partition.PartitionRow.{PartitionRow}
use Rattle.aps_model.specs.declared.partition.TreeRefusal.{TreeRefusal}
use Rattle.aps_model.specs.declared.shape.Shape.{Shape}
use Rattle.aps_model.specs.Command.{modified, modify_found, refusal_of}
use Rattle.aps_model.specs.Partition.{partition_named}
use Rattle.aps_model.specs.Tree.{modify_refusal}
use Rattle.aps_tree.specs.Tree.{unless_refused}

-- a refusal is the answer only where it is the cause
pub cause_of : {A : Type 0} (o : Option TreeRefusal) (why : TreeRefusal) (answer : A) → Err why ≡ unless_refused o answer → o ≡ Some why
cause_of None why answer e = absurd cc
cause_of (Some other) why answer e = cc

-- no modify changes the shape
pub shape_kept : (rows : List PartitionRow) (shape : Shape) (budget critical max : Option ℕ) (o : Option ℕ) → (modify_found rows shape budget critical max o).shape ≡ shape
shape_kept rows shape budget critical max None = refl
shape_kept rows shape budget critical max (Some p) = by (modify_refusal shape.parts rows p budget critical max)
  where
    by : (why : Option TreeRefusal) → (modified rows shape p budget critical max why).shape ≡ shape
    by None = refl
    by (Some why) = refl

-- a modify that the tree refuses
pub modify_refused : (rows : List PartitionRow) (parts : ℕ) (shape : Shape) (name : List ℕ) (p : ℕ) (budget critical max : Option ℕ) (why : TreeRefusal)
    → partition_named rows name ≡ Some p → parts ≡ shape.parts → modify_refusal parts rows p budget critical max ≡ Some why
    → modify_found rows shape budget critical max (partition_named rows name) ≡ record { answer = Refused (refusal_of why); rows = rows; shape = shape; mark = None; change = None }
modify_refused rows parts shape name p budget critical max why found same refused =
    ap (modify_found rows shape budget critical max) found
    ∙ (λ j. modified rows shape p budget critical max (modify_refusal (sym same j) rows p budget critical max))
    ∙ ap (modified rows shape p budget critical max) refused
