use Rattle.std.proofs.Common.{◌≡◌, ◌<◌, ◌+◌, ◌∙◌, List, ap, sym, arith}
use Rattle.aps_model.specs.declared.entry.Entry.{Entry}
use Rattle.aps_model.specs.declared.shape.Shape.{Shape}
use Rattle.aps_model.specs.Budget.{in_budget}
use Rattle.aps_model.specs.Usage.{window_used}
use Rattle.view_explain.specs.Again.{is_back}
use Rattle.view_explain.specs.Past.{state_of_past, tick_in}
use Rattle.view_explain.proofs.Finding.{found, further}
use Rattle.view_explain.proofs.scene.Scene.tick_back.Goals as goal

pub returns-then-is_back-clause-same : goal.returns-then-is_back-clause-same
returns-then-is_back-clause-same c =
    let past = c.args.self.now in
    let p = c.args.p in
    let k = c.loop-k.k in
    let s = (state_of_past past).shape in
    let window : c.from.result ≡ s.window = c.from.ensures ∙ ap (λ (shape : Shape). shape.window) c.shape-shape.ensures.same in
    let first = c.tick-first.ensures.same in
    let test = c.loop-k-test.true in
    let below : k < tick_in past + (s.window + 1) = omega (arith, test, first, window) in
    let told : c.is_back.result ≡ is_back past p k =
    c.is_back.ensures
    ∙ ap (λ (shape : Shape). in_budget shape (window_used shape c.entries.result.now k p) c.budget-budget.result) c.shape-shape.ensures.same
    ∙ ap (λ (es : List Entry). in_budget s (window_used s es k p) c.budget-budget.result) c.entries.ensures.same
    ∙ ap (λ budget. in_budget s (window_used s past.entries k p) budget) c.budget-budget.ensures.same in
    sym (c.loop-k.invariant ∙ found (is_back past p) k (tick_in past + (s.window + 1)) below (sym told ∙ c.if-is_back.true))

pub loop-k-preserved : goal.loop-k-preserved
loop-k-preserved c =
    let past = c.args.self.now in
    let p = c.args.p in
    let k = c.loop-k.k in
    let s = (state_of_past past).shape in
    let window : c.from.result ≡ s.window = c.from.ensures ∙ ap (λ (shape : Shape). shape.window) c.shape-shape.ensures.same in
    let first = c.tick-first.ensures.same in
    let test = c.loop-k-test.true in
    let below : k < tick_in past + (s.window + 1) = omega (arith, test, first, window) in
    let told : c.is_back.result ≡ is_back past p k =
    c.is_back.ensures
    ∙ ap (λ (shape : Shape). in_budget shape (window_used shape c.entries.result.now k p) c.budget-budget.result) c.shape-shape.ensures.same
    ∙ ap (λ (es : List Entry). in_budget s (window_used s es k p) c.budget-budget.result) c.entries.ensures.same
    ∙ ap (λ budget. in_budget s (window_used s past.entries k p) budget) c.budget-budget.ensures.same in
    c.loop-k.invariant ∙ further (is_back past p) k (tick_in past + (s.window + 1)) below (sym told ∙ c.if-is_back.false)
