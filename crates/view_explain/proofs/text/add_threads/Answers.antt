use Rattle.std.proofs.Common.{◌≡◌, ◌<◌, ◌++◌, ◌∙◌, [], List, length, get_or, string_bytes, ap, sym, subst}
use Rattle.std.proofs.lemmas.List.{get_or_read}
use Rattle.view_lives.specs.declared.life.Segment.{Segment}
use Rattle.view_explain.specs.Text.{explained_thread, thread_by_lives}
use Rattle.view_explain.proofs.Telling.{lines_more}
use Rattle.view_explain.proofs.text.add_threads.Goals as goal

pub loop-x-preserved : goal.loop-x-preserved
loop-x-preserved c =
    let past = c.args.scene.now in
    let at = c.args.at in
    let lives = c.args.lives.now.items in
    let told = c.args.told.now in
    let i = c.loop-x.x-index in
    let x = c.x-item.result in
    let known : x < length lives = subst (λ y. y < length lives) (sym c.x-item.is) (c.requires.known i x c.loop-x-test.true) in
    let less : c.index.result < length lives = subst (λ y. y < length lives) (sym c.index.ensures.same) known in
    let read : c.index-in-loop-x.result.now ≡ get_or lives c.index.result [] =
    get_or_read lives c.index.result c.index-in-loop-x.result.now less c.index-in-loop-x.ensures [] in
    let life : c.index-in-loop-x.result.now ≡ get_or lives x [] = read ∙ ap (λ k. get_or lives k []) c.index.ensures.same in
    lines_more (thread_by_lives past at lives) _ _ _ told i x c.loop-x-test.true c.x-item.is c.loop-x.invariant
    (c.in_ok-add_thread.ensures ∙ ap (λ (l : List Segment). string_bytes c.loop-x.out ++ explained_thread past at l x) life)
