use Rattle.aps_scenario.proofs.ScenarioText.{scenario_text-reads, scenario_text-apart}
use Rattle.aps_scenario.proofs.laws.text_reads_back.Goals as goal

pub returns-clause-back : goal.returns-clause-back
returns-clause-back c = scenario_text-reads

pub returns-clause-apart : goal.returns-clause-apart
returns-clause-apart c = scenario_text-apart
