use Rattle.std.proofs.Common.{◌≡◌, arith, length, ap}
use Rattle.aps_model.specs.History.{History}
use Rattle.laws_runs.proofs.Counts.{counts_law}
use Rattle.aps_core.specs.Run.{history_of_run}
use Rattle.view_replay.proofs.Limits.{below_limit}
use Rattle.view_replay.proofs.Next.{IsNextEntry, next_entry}
use Rattle.view_replay.proofs.turn.take_turn.Goals as goal

pub step-requires : goal.step-requires
step-requires c =
    let run = c.args.core.now in
    let sizes = (counts_law run.setup.scenario run.setup.order run.entries c.history.ensures.valid c.history.ensures.legal).sizes.cpus in
    let exists = c.requires.turn.exists in
    omega (arith, exists, sizes)

next : (c : goal.In-Took) → IsNextEntry c.args.core.now c.args.cpu c.in-Took.e
next c = next_entry c.args.core.now c.args.cpu c.in-Took.e c.history.ensures.valid c.history.ensures.legal c.requires.goes_on c.requires.turn c.in-Took.ensures.turn.stepped

pub returns-clause-same : goal.returns-clause-same
returns-clause-same c = c.in-Took.ensures.turn.stepped

pub returns-clause-legal : goal.returns-clause-legal
returns-clause-legal c = (next c).legal

pub returns-clause-to : goal.returns-clause-to
returns-clause-to c = (next c).to

pub returns-clause-entry : goal.returns-clause-entry
returns-clause-entry c = (next c).fits

pub returns-clause-room : goal.returns-clause-room
returns-clause-room c =
    let told : c.history.result.now ≡ history_of_run c.args.core.now = c.history.ensures.same in
    let fits = c.entries-entries.ensures.keeps.entries_fit in
    let entries = ap (λ (h : History). length h.entries) told in
    let room = ap (λ (h : History). h.room.entries) told in
    below_limit c.args.core.now (omega (arith, fits, entries, room)) c.requires.goes_on
