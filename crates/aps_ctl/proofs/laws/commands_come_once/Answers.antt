use Rattle.aps_ctl.proofs.InTurn.{next_first, next_left, none_next, others_left}
use Rattle.aps_ctl.proofs.laws.commands_come_once.Goals as goal

pub returns : goal.returns
returns c = record { first = next_first; others = next_left; none = none_next; elsewhere = others_left }
