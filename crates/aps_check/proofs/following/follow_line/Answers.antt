use Rattle.std.proofs.Common.{◌≡◌, ◌-◌, ◌++◌, length, take, drop, sym, ap, ◌∙◌, arith, length-drop}
use Rattle.std.proofs.lemmas.Bool.{false≢true}
use Rattle.std.proofs.lemmas.Bool.Decides.{Decides-eqb}
use Rattle.std.proofs.lemmas.List.{take_all}
use Rattle.std.proofs.lemmas.Slice.Eq.{starts_is}
use Rattle.aps_model.specs.Journal.{entry_line}
use Rattle.aps_check.proofs.following.follow_line.Goals as goal

pub returns-then-starts_with : goal.returns-then-starts_with
returns-then-starts_with c =
    let text = c.args.text.now in
    let line = c.line-line.result.now in
    let behind : text ≡ line ++ drop (length line) text = (starts_is Decides-eqb text line c.starts_with.result c.starts_with.ensures.value).0 c.if-starts_with.true in
    let all : take (length text - length line) (drop (length line) text) ≡ drop (length line) text =
    take_all (length text - length line) (drop (length line) text) (omega (arith, length-drop (length line) text)) in
    record {
      entry = c.in-Some.step;
      line = c.line-line.ensures.within c.in-Some.ensures.in_time;
      parts = behind ∙ ap (λ l. l ++ drop (length line) text) c.line-line.ensures.text ∙ ap (λ t. entry_line c.in-Some.step ++ t) (sym all);
      goes_on = c.in-Some.ensures.goes_on;
    }

pub returns : goal.returns
returns c = record {
  step = c.in-Some.ensures;
  other = λ rest same.
      let text = c.args.text.now in
      let line = c.line-line.result.now in
      let begins = (starts_is Decides-eqb text line c.starts_with.result c.starts_with.ensures.value).1 rest (same ∙ ap (λ l. l ++ rest) (sym c.line-line.ensures.text)) in
      false≢true (sym c.if-starts_with.false ∙ begins);
}
