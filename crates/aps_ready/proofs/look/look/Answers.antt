use Rattle.std.proofs.Common.{inl, inr}
use Rattle.aps_levels.specs.Bits.{set_has}
use Rattle.aps_ready.specs.Firsts.{firsts_of}
use Rattle.aps_ready.proofs.Known.{first_known, second_known}
use Rattle.aps_ready.proofs.Tops.{kept}
use Rattle.aps_ready.proofs.Winner.{likely_wins, likely_second_occupied}
use Rattle.aps_ready.proofs.look.look.Goals as goal

pub highest_leader-requires-clause-occupied : goal.highest_leader-requires-clause-occupied
highest_leader-requires-clause-occupied c =
    likely_second_occupied c.args.free (firsts_of c.args.lists.now) c.args.gates.second c.likely_second.result c.likely_second.ensures

pub returns-in-Some : goal.returns-in-Some
returns-in-Some c =
    let row = c.args.lists.now in
    likely_wins c.args.free c.args.parts.now row (firsts_of row) c.args.gates c.in-Some.found.groups c.best_at_level.result
    c.requires.gates (kept row c.requires.queued) (inl c.in-Some.ensures.some) c.best_at_level.ensures

pub returns-in-None : goal.returns-in-None
returns-in-None c =
    let row = c.args.lists.now in
    likely_wins c.args.free c.args.parts.now row (firsts_of row) c.args.gates c.likely_second.result c.highest_leader.result
    c.requires.gates (kept row c.requires.queued) (inr (c.in-None.ensures.none, c.likely_second.ensures)) c.highest_leader.ensures

pub best_at_level-requires-clause-known : goal.best_at_level-requires-clause-known
best_at_level-requires-clause-known c =
    first_known c.args.parts.now (firsts_of c.args.lists.now) c.args.gates (set_has c.in-Some.found.groups) c.requires.gates c.in-Some.ensures.some

pub highest_leader-requires-clause-known : goal.highest_leader-requires-clause-known
highest_leader-requires-clause-known c =
    second_known c.args.free c.args.parts.now (firsts_of c.args.lists.now) c.args.gates c.likely_second.result c.requires.gates c.likely_second.ensures
