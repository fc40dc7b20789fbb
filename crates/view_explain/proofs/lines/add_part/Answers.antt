use Rattle.std.proofs.Common.{◌≡◌, ◌++◌, List, ℕ, OnOk, ◌∙◌, ap, subst, string_bytes}
use Rattle.aps_model.specs.declared.merit.PartFacts.{PartFacts}
use Rattle.aps_model.specs.Audit.{allowance}
use Rattle.aps_model.specs.SchedulerState.{row_at}
use Rattle.aps_model.specs.Usage.{window_critical}
use Rattle.view_explain.specs.Past.{state_of_past, tick_in}
use Rattle.view_explain.specs.Text.{allowed_words, critical_words, limits_line, used_words}
use Rattle.view_explain.proofs.Wording.{added_last, added_more}
use Rattle.view_explain.proofs.lines.add_part.Goals as goal

pub returns : goal.returns
returns c =
    let past = c.args.scene.now in
    let s = state_of_past past in
    let p = c.args.p in
    let start = string_bytes c.args.out.now in
    let facts = c.part-part.result in
    let allowed = c.allowance.result in
    let used = c.critical_used.result in
    let budget = c.critical_budget.result in
    let told : ℕ → ℕ → ℕ → PartFacts → List ℕ = λ allowed used budget facts.
    start ++ (used_words past p ++ allowed_words allowed facts.funded ++ critical_words used budget ++ limits_line facts.standing facts.shut) in
    let allows = allowance s.shape (row_at s p).budget in
    let uses = window_critical s.shape past.entries (tick_in past) p in
    let first = used_words past p in
    let second = allowed_words allowed facts.funded in
    let third = critical_words used budget in
    let last = limits_line facts.standing facts.shut in
    let t1 = string_bytes c.add_used.new.out in
    let t2 = string_bytes c.add_allowed.new.out in
    let t3 = string_bytes c.add_critical.new.out in
    let two = added_more start t1 t2 first second c.in_ok-add_used.ensures c.in_ok-add_allowed.ensures in
    let three = added_more start t2 t3 (first ++ second) third two c.in_ok-add_critical.ensures in
    let same =
    added_last start t3 (first ++ second ++ third) last three
    ∙ ap (λ n. told n used budget facts) c.allowance.ensures ∙ ap (λ n. told allows n budget facts) c.critical_used.ensures
    ∙ ap (λ n. told allows uses n facts) c.critical_budget.ensures ∙ ap (told allows uses (row_at s p).critical) c.part-part.ensures.same in
    subst (λ (l : List ℕ). OnOk c.add_limits.result (string_bytes c.add_limits.new.out ≡ l)) same c.add_limits.ensures
