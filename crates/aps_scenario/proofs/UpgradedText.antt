-- A text that is upgraded twice.
use Rattle.std.proofs.Common.{◌≡◌, ◌≢◌, ◌∙◌, ℕ, List, Option, Some, None, Result, Ok, Err, refl, ap, subst, inl, inr, arith, nat_eq}
use Rattle.std.proofs.lemmas.Bool.{cases_Bool}
use Rattle.std.proofs.lemmas.Bool.Decides.{nat_tests}
use Rattle.aps_model.specs.Limits.{thousandths}
use Rattle.toml.specs.Data.{Members}
use Rattle.aps_model.specs.Scenario.{Scenario}
use Rattle.aps_model.specs.Upgrade.{upgraded}
use Rattle.aps_model.specs.Valid.{IsScenario}
use Rattle.aps_scenario.specs.declared.refusal.Finding.{Finding}
use Rattle.aps_scenario.specs.declared.refusal.Place.TheVariants.{Top}
use Rattle.aps_scenario.specs.Channels.{channels_at}
use Rattle.aps_scenario.specs.Commands.{commands_at}
use Rattle.aps_scenario.specs.Document.{or_told, table_reads}
use Rattle.aps_scenario.specs.Joinable.{joinable_at}
use Rattle.aps_scenario.specs.Partitions.{partitions_at}
use Rattle.aps_scenario.specs.Reading.{scenario_at, reads, top_keys}
use Rattle.aps_scenario.specs.Row.{only}
use Rattle.aps_scenario.specs.ScenarioText.{scenario_text, upgraded_text}
use Rattle.aps_scenario.specs.Sizes.{shape_at}
use Rattle.aps_scenario.specs.Threads.{threads_at}
use Rattle.aps_scenario.proofs.ScenarioText.{scenario_text-reads}
use Rattle.aps_scenario.proofs.Upgrades.{IsScenario-scaled, parts_small}
use Rattle.aps_scenario.proofs.Validity.{IsScenario-from_parts}
use Rattle.aps_scenario.proofs.Values.{bind-ok, ok-same}

-- ---- what is read is a scenario

scenario_at-IsScenario : (t : Members) (s : Scenario) → scenario_at t ≡ Ok s → IsScenario s
unfolding scenario_at
scenario_at-IsScenario t s e =
    let known = bind-ok (only top_keys Top t) _ s e in
    let shape = bind-ok (shape_at t) _ s known.2 in
    let partitions = bind-ok (partitions_at shape.0.parts t) _ s shape.2 in
    let channels = bind-ok (channels_at t) _ s partitions.2 in
    let threads = bind-ok (threads_at partitions.0 channels.0 (joinable_at partitions.0 t) t) _ s channels.2 in
    let commands = bind-ok (commands_at shape.0 threads.0 t) _ s threads.2 in
    let found : Scenario = record { shape = shape.0; partitions = partitions.0; channels = channels.0; threads = threads.0; commands = commands.0 } in
    let same : found ≡ s = ok-same found s _ refl commands.2 in
    subst IsScenario same (IsScenario-from_parts t shape.0 partitions.0 channels.0 threads.0 commands.0 shape.1 partitions.1 channels.1 threads.1 commands.1)

told-ok : (r : Result Scenario Finding) (s : Scenario) → or_told r ≡ Ok s → r ≡ Ok s
told-ok (Ok x) s e = let same : x ≡ s = cc in ap Ok same
told-ok (Err finding) s e = absurd (cc)

table-IsScenario : (found : Option Members) (s : Scenario) → table_reads scenario_at found ≡ Ok s → IsScenario s
table-IsScenario None s e = absurd (cc)
table-IsScenario (Some t) s e = scenario_at-IsScenario t s (told-ok (scenario_at t) s e)

reads-IsScenario : (bytes : List ℕ) (s : Scenario) → reads bytes ≡ Ok s → IsScenario s
reads-IsScenario bytes s e = table-IsScenario _ s e

-- ---- the upgrade

upgraded-IsScenario : (s : Scenario) → IsScenario s → IsScenario (upgraded s)
upgraded-IsScenario s is =
    elim (cases_Bool (nat_eq s.shape.parts thousandths)) [
      | inl same ↦ rw same is
      | inr other ↦
          let apart : s.shape.parts ≢ thousandths = grind (arith, nat_tests) in
          rw other (IsScenario-scaled s is (parts_small s.shape is.shape apart))
    ]

upgraded-twice : (s : Scenario) → upgraded (upgraded s) ≡ upgraded s
upgraded-twice s = elim (cases_Bool (nat_eq s.shape.parts thousandths)) [ inl same ↦ rw (same, same) refl | inr other ↦ rw other refl ]

pub upgraded_text-twice : (bytes text : List ℕ) → upgraded_text bytes ≡ Ok text → upgraded_text text ≡ Ok text
upgraded_text-twice bytes text e =
    let (s, read, written) = bind-ok (reads bytes) _ text e in
    let valid : IsScenario (upgraded s) = upgraded-IsScenario s (reads-IsScenario bytes s read) in
    let same : scenario_text (upgraded s) ≡ text = cc in
    let again : reads text ≡ Ok (upgraded s) = subst (λ (t : List ℕ). reads t ≡ Ok (upgraded s)) same (scenario_text-reads (upgraded s) valid) in
    rw again (ap Ok (ap scenario_text (upgraded-twice s) ∙ same))
