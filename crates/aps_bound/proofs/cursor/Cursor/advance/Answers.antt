use Rattle.std.proofs.Common.{rules}
use Rattle.aps_bound.proofs.Overlaps.{tick_inside, tick_whole}
use Rattle.aps_bound.proofs.cursor.Cursor.advance.Goals as goal

pub returns-clause-whole : goal.returns-clause-whole
returns-clause-whole c = search (rules, tick_whole)

pub returns-clause-inside : goal.returns-clause-inside
returns-clause-inside c = search (rules, tick_inside)
