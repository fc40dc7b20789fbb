use Rattle.std.proofs.Common.{◌≡◌, ◌∙◌, [], ap, sym, arith, Some}
use Rattle.aps_model.specs.Limits.{most_threads}
use Rattle.view_explain.specs.Chain.{Chain, chain_from, chain_gone_on}
use Rattle.view_explain.proofs.Ranges.{fold_range}
use Rattle.view_explain.proofs.chain.explained.Goals as goal

pub loop-preserved : goal.loop-preserved
loop-preserved c =
    let past = c.args.scene.now in
    let start : Chain = record { told = []; next = Some c.args.x } in
    record {
      same = c.in_ok-go_on.ensures.same ∙ ap (λ (chain : Chain). chain_gone_on past chain.told chain.next) c.loop.invariant.same
          ∙ sym (fold_range (λ (chain : Chain) _. chain_gone_on past chain.told chain.next) start c.loop.counter);
      known = c.in_ok-go_on.ensures.known;
    }

pub returns-clause-same : goal.returns-clause-same
returns-clause-same c =
    let all : c.loop.counter ≡ most_threads = omega arith in
    c.into_told.ensures ∙ ap (λ (chain : Chain). chain.told) (c.loop.invariant.same ∙ ap (chain_from c.args.scene.now c.args.x) all)
