use Rattle.aps_text.proofs.Journals.{one_list}
use Rattle.aps_text.proofs.laws.one_to_one.Goals as goal

pub returns-clause-list : goal.returns-clause-list
returns-clause-list c = one_list
