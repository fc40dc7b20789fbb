use Rattle.std.proofs.Common.{◌∙◌, ◌≡◌, ◌≤◌, true, Some, string_bytes, subst, sym, ap}
use Rattle.std.proofs.lemmas.Str.{IsUtf8-string_bytes}
use Rattle.toml.specs.View.{table_view}
use Rattle.toml.specs.Data.{Members, members_depth}
use Rattle.toml.specs.Parse.{parse_document}
use Rattle.toml.specs.Text.{IsDocumentText}
use Rattle.aps_scenario.specs.PrintedScenario.{scenario_members}
use Rattle.aps_scenario.proofs.PrintedScenario.{scenario-depth, reads-printed}
use Rattle.aps_scenario.proofs.ScenarioText.{scenario-text}
use Rattle.aps_scenario.proofs.printing.print.Goals as goal

pub returns-in-Ok-clause-reads_back : goal.returns-in-Ok-clause-reads_back
returns-in-Ok-clause-reads_back c =
    let s = c.args.scenario.now in
    let deep : members_depth (table_view c.in_ok-table.table) ≤ 80 = subst (λ (t : Members). members_depth t ≤ 80) (sym c.in_ok-table.ensures.table) (scenario-depth s) in
    let parsed : parse_document (string_bytes c.in-Ok.text) ≡ Some (scenario_members s) = c.in-Ok.ensures.reads_back deep ∙ ap (λ (t : Members). Some t) c.in_ok-table.ensures.table in
    reads-printed s (string_bytes c.in-Ok.text) c.in_ok-table.ensures.valid (IsUtf8-string_bytes c.in-Ok.text) parsed

pub returns-in-Ok-clause-text : goal.returns-in-Ok-clause-text
returns-in-Ok-clause-text c =
    let s = c.args.scenario.now in
    let written : IsDocumentText true (scenario_members s) (string_bytes c.in-Ok.text) =
    subst (λ (t : Members). IsDocumentText true t (string_bytes c.in-Ok.text)) c.in_ok-table.ensures.table c.in-Ok.ensures.text in
    scenario-text s (string_bytes c.in-Ok.text) c.in_ok-table.ensures.valid written
