use Rattle.std.proofs.Common.{◌≡◌, ◌∙◌, ◌++◌, ◌∷◌, [], List, ℕ, ap, sym, cond, nat_eq, true, None}
use Rattle.std.specs.List.{list_any}
use Rattle.aps_model.specs.SchedulerState.{thread_at}
use Rattle.view_explain.specs.Because.{waits_for}
use Rattle.view_explain.specs.Chain.{Chain, chain_gone_on}
use Rattle.view_explain.specs.Past.{state_of_past}
use Rattle.view_explain.proofs.chain.Chain.go_on.Goals as goal

pub returns-then-has_told-clause-same : goal.returns-then-has_told-clause-same
returns-then-has_told-clause-same c =
    let past = c.args.scene.now in
    let x = c.in-Some.x in
    let items = c.self.inside.told.items in
    let stops : Chain = record { told = items; next = None } in
    let goes : Chain = record { told = items ++ x ∷ []; next = waits_for past (thread_at (state_of_past past) x).state } in
    let told : list_any (λ y. nat_eq y x) items ≡ true = ap (λ (l : List ℕ). list_any (λ y. nat_eq y x) l) (sym c.as_slice.ensures.value) ∙ sym c.has_told.ensures ∙ c.if-has_told.true in
    sym (ap (λ t. cond t stops goes) told) ∙ sym (ap (λ o. chain_gone_on past items o) c.in-Some.is)
    ∙ ap (λ (chain : Chain). chain_gone_on past chain.told chain.next) c.self.view_is
