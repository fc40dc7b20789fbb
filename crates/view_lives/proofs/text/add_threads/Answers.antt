use Rattle.std.proofs.Common.{◌≡◌, ◌<◌, ◌++◌, ◌∙◌, [], length, get_or, string_bytes, ap, arith}
use Rattle.std.proofs.lemmas.List.{get_or_read}
use Rattle.view_lives.specs.Text.{cycle_lines, thread_cycle_lines}
use Rattle.view_texts.proofs.Rows.{row_more, rows_all}
use Rattle.view_lives.proofs.text.add_threads.Goals as goal

pub loop-x-preserved : goal.loop-x-preserved
loop-x-preserved c =
    let lives = c.args.lives.now.items in
    let less : c.loop-x.x < length lives = omega (arith, c.requires, c.loop-x-test.true) in
    let life : c.index.result.now ≡ get_or lives c.loop-x.x [] = get_or_read lives c.loop-x.x c.index.result.now less c.index.ensures [] in
    row_more (thread_cycle_lines lives) _ _ _ c.args.threads.now c.loop-x.x c.index-threads-x.result c.loop-x-test.true c.index-threads-x.is c.loop-x.invariant
    (c.in_ok-add_cycles.ensures ∙ ap (λ l. string_bytes c.loop-x.out ++ cycle_lines c.index-threads-x.result.name l) life)

pub returns : goal.returns
returns c = rows_all (thread_cycle_lines c.args.lives.now.items) _ _ c.args.threads.now c.loop-x.x (omega arith) c.loop-x.invariant
