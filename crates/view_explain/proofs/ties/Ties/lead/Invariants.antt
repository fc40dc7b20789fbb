use Rattle.std.proofs.Common.{◌≡◌, drop}
use Rattle.view_explain.specs.Leads.{lead}
use Rattle.view_explain.proofs.ties.Ties.lead.Given as goal

abbrev pub invariant-loop-t : goal.invariant-loop-t
invariant-loop-t l = lead l.self (drop l.t-index l.self.triples) l.last l.priority ≡ lead l.self l.self.triples l.fn.x 0
