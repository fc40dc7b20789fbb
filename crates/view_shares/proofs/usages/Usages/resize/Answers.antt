use Rattle.std.proofs.Common.{◌≤◌, ◌∙◌, ap, arith}
use Rattle.aps_model.specs.declared.shape.Shape.{Shape}
use Rattle.aps_model.specs.History.{History}
use Rattle.aps_model.specs.Limits.{longest_window}
use Rattle.aps_window.specs.Window.{Window}
use Rattle.view_shares.specs.declared.usages.Usages.{Usages}
use Rattle.view_shares.proofs.Counted.{fitted}
use Rattle.view_shares.proofs.usages.Usages.resize.Goals as goal

pub returns : goal.returns
returns c =
    let span = c.shape.result.now.window in
    let made : Window → Usages = λ w. record { window = w; span = span } in
    let short : span ≤ longest_window =
    let same = ap (λ (x : Shape). x.window) c.shape.ensures.same in
    let kept = c.shape.ensures.keeps.shape.window_short in omega (arith, same, kept) in
    fitted c.args.core.now c.args.self.now (made c.fit.new.window) span c.history.ensures.valid c.history.ensures.legal c.requires
    (ap (λ (x : Shape). x.window) (c.shape.ensures.same ∙ ap (λ (h : History). h.shape) c.history.ensures.same)) short (ap made c.fit.ensures)
