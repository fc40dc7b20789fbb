-- What came of reading the source.
use Rattle.std.specs.Prelude.{ℕ, List, Option}

-- a source before and after a call: the bytes that it has left, where it tells, and its count of faults
pub record Intake : Type 0 where
  pub before : Option (List ℕ)
  pub after : Option (List ℕ)
  pub faults_before : ℕ
  pub faults : ℕ

abbrev pub intake_of : (before after : Option (List ℕ)) → (faults_before faults : ℕ) → Intake
intake_of before after faults_before faults =
    record { before = before; after = after; faults_before = faults_before; faults = faults }
