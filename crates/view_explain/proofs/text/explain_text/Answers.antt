use Rattle.std.proofs.Common.{◌≡◌, ◌<◌, ◌++◌, ◌∙◌, List, ℕ, length, string_bytes, ap, subst, IfOk, OnOk}
use Rattle.std.specs.Prelude.{All}
use Rattle.std.specs.List.{flat_map}
use Rattle.aps_model.specs.declared.entry.Entry.{Entry}
use Rattle.laws_runs.specs.Moments.{moment}
use Rattle.view_explain.specs.Chain.{threads_explained}
use Rattle.view_explain.specs.Past.{Past, past_at}
use Rattle.view_explain.specs.Text.{explain_text, thread_by_lives, title_text, told_thread}
use Rattle.view_explain.proofs.Telling.{by_known, told_same}
use Rattle.view_explain.proofs.text.explain_text.Goals as goal

pub returns : goal.returns
returns c =
    let scenario = c.args.history.now.scenario in
    let h = c.args.history.now.entries in
    let at = c.args.at in
    let thread = c.args.thread in
    let lives = c.in_ok-lives.lives.items in
    let end = c.end_of-end.result in
    let told : Past → List ℕ = λ past. title_text at end ++ flat_map (thread_by_lives past at lives) (threads_explained past thread) in
    let text = subst (λ (past : Past). IfOk c.tell.result (λ text. string_bytes text ≡ told past)) c.in_ok-scene.ensures c.tell.ensures.text in
    let last : end ≡ moment h = c.end_of-end.ensures ∙ ap (λ (l : List Entry). moment l) c.entries.ensures.same in
    let known = subst (λ (past : Past). OnOk c.tell.result (All (λ x. x < length past.scenario.threads) (threads_explained past thread))) c.in_ok-scene.ensures c.tell.ensures.known in
    by_known c.tell.result (λ text. string_bytes text ≡ told (past_at scenario h at)) (λ text. string_bytes text ≡ explain_text scenario h thread at) text known
    (λ text each is. is
    ∙ ap (λ (t : List ℕ). title_text at end ++ t) (told_same scenario h at thread lives c.in_ok-lives.ensures each)
    ∙ ap (λ (e : ℕ). title_text at e ++ flat_map (told_thread scenario h at) (threads_explained (past_at scenario h at) thread)) last)
