use Rattle.std.proofs.Common.{◌≡◌, ◌∙◌, ap, sym, None, slice_set}
use Rattle.aps_live.specs.Machine.{row_of}
use Rattle.aps_live.proofs.Rows.{row_unseated}
use Rattle.aps_live.proofs.machine.seat.unseat.Goals as goal

pub returns-clause-row : goal.returns-clause-row
returns-clause-row c =
    c.take.ensures ∙ ap (λ r. slice_set r c.args.x None) c.requires.row
    ∙ row_unseated c.args.threads.now.items c.args.x c.args.thread c.requires.gone
    ∙ ap (λ x. row_of (slice_set c.args.threads.now.items x c.args.thread)) (sym c.index.ensures.same)
