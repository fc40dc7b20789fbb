use Rattle.std.proofs.Common.{◌∙◌, map, ap, sym, subst}
use Rattle.aps_ready.specs.Ready.{entrant_seat, HasThreads, IsQueued}
use Rattle.aps_ready.proofs.Queued.{queued_replicate, replicate_seats, threads_replicate}
use Rattle.aps_ready.proofs.ready.Ready.new.Goals as goal

pub invariant_of-result : goal.invariant_of-result
invariant_of-result c =
    let is = c.in_ok-lists.ensures in (
      subst IsQueued (sym is) (queued_replicate c.args.threads),
      subst HasThreads (sym is) (threads_replicate c.args.threads),
    )

pub returns : goal.returns
returns c = ap (map entrant_seat) c.in_ok-lists.ensures ∙ replicate_seats c.args.threads
