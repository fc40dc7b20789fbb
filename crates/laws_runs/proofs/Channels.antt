-- The programs of a scenario name only channels that exist.
use Rattle.std.proofs.Common.{◌≡◌, ℕ, ◌<◌, length, sym, subst, slice_index_or, inl, inr}
use Rattle.std.proofs.lemmas.List.{get_or_past}
use Rattle.std.proofs.lemmas.List.Elements.{All-get_or}
use Rattle.std.proofs.lemmas.Bool.{cases_lt}
use Rattle.aps_model.specs.declared.program.Op.{Op}
use Rattle.aps_model.specs.declared.program.Op.TheVariants.{Send, Receive, Exit}
use Rattle.aps_model.specs.declared.scenario.ThreadRow.{ThreadRow}
use Rattle.laws_runs.specs.Bears.{NamesChannels}
use Rattle.aps_model.specs.Program.{IsOp}
use Rattle.aps_model.specs.Scenario.{Scenario, no_thread_row, op_at, thread_row}
use Rattle.aps_model.specs.Valid.{IsScenario, IsThreadRow, joinable}

-- a thread's operation is in range, or it is the exit that is read past a program's end
op_by : (scenario : Scenario) (x place : ℕ) (P : Op → Type 0) → IsScenario scenario → ((op : Op) → IsOp (length scenario.channels) (joinable scenario) op → P op) → P Exit → P (op_at scenario x place)
op_by scenario x place P valid each none = elim (cases_lt x (length scenario.threads)) [
  | inr past ↦ subst (λ (r : ThreadRow). P (slice_index_or r.program place Exit)) (sym (get_or_past scenario.threads x no_thread_row past)) none
  | inl below ↦
      let row = All-get_or (IsThreadRow (length scenario.partitions) (length scenario.channels) (joinable scenario)) scenario.threads x no_thread_row below valid.threads in
      elim (cases_lt place (length (thread_row scenario x).program)) [
        | inr past ↦ subst P (sym (get_or_past (thread_row scenario x).program place Exit past)) none
        | inl inside ↦ each (op_at scenario x place) (All-get_or (IsOp (length scenario.channels) (joinable scenario)) (thread_row scenario x).program place Exit inside row.program.each)
      ]
]

pub names_channels : (scenario : Scenario) → IsScenario scenario → NamesChannels scenario
names_channels scenario valid = record {
  sends = λ x place d e. op_by scenario x place (λ op. op ≡ Send d → d < length scenario.channels) valid (λ op fits same. subst (IsOp (length scenario.channels) (joinable scenario)) same fits) (λ same. absurd cc) e;
  receives = λ x place d e. op_by scenario x place (λ op. op ≡ Receive d → d < length scenario.channels) valid (λ op fits same. subst (IsOp (length scenario.channels) (joinable scenario)) same fits) (λ same. absurd cc) e;
}
