use Rattle.std.proofs.Common.{Some, sym, ◌∙◌, ap, ℕ}
use Rattle.std.specs.Option.{option_map}
use Rattle.aps_model.specs.declared.merit.Contender.{Contender}
use Rattle.aps_ready.proofs.Queued.{seat_in}
use Rattle.aps_ready.proofs.ready.Ready.best.Goals as goal

pub returns-then-near-lt64-clause-greatest : goal.returns-then-near-lt64-clause-greatest
returns-then-near-lt64-clause-greatest c =
    let near = c.nearest-near.result in
    let there = c.if-near-lt64.true in
    ap (λ (x : ℕ). Some x) c.at.ensures
    ∙ ap (option_map (λ (d : Contender). d.thread)) (sym (seat_in near there) ∙ c.nearest-near.ensures.greatest c.args.free there)
