use Rattle.aps_scenario.proofs.UpgradedText.{upgraded_text-twice}
use Rattle.aps_scenario.proofs.laws.upgraded_text_stays.Goals as goal

pub returns-clause-text : goal.returns-clause-text
returns-clause-text c = upgraded_text-twice
