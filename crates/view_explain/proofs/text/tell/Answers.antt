use Rattle.std.proofs.Common.{◌<◌, ◌++◌, ◌∙◌, ℕ, List, length, ap, subst}
use Rattle.std.specs.Prelude.{All}
use Rattle.std.specs.List.{flat_map}
use Rattle.view_explain.specs.Text.{thread_by_lives, title_text}
use Rattle.view_explain.proofs.text.tell.Goals as goal

pub returns-clause-text : goal.returns-clause-text
returns-clause-text c =
    let past = c.args.scene.now in
    let at = c.args.at in
    let end = c.args.end in
    let lives = c.args.lives.now.items in
    let threads : List ℕ → List ℕ = λ told. flat_map (thread_by_lives past at lives) told in
    c.in_ok-add_threads.ensures ∙ ap (λ (t : List ℕ). t ++ threads c.as_slice.result.now) (c.in_ok-add_title.ensures ∙ ap (λ (t : List ℕ). t ++ title_text at end) c.new-out.ensures.bytes)
    ∙ ap (λ (told : List ℕ). title_text at end ++ threads told) (c.as_slice.ensures.value ∙ c.in_ok-told.ensures.same)

pub returns-clause-known : goal.returns-clause-known
returns-clause-known c =
    subst (λ (told : List ℕ). All (λ x. x < length c.args.scene.now.scenario.threads) told) c.in_ok-told.ensures.same c.in_ok-told.ensures.known
