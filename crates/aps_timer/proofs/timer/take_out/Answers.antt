use Rattle.std.proofs.Common.{◌≡◌, ◌∙◌, ◌+◌, ◌++◌, [], ◌∷◌, ℕ, List, Option, None, get_or, set, take, ap, sym, arith}
use Rattle.std.proofs.lemmas.List.{append_assoc, map_more, take_more}
use Rattle.std.proofs.lemmas.List.Sums.{fold-append}
use Rattle.aps_timer.specs.Sleepers.{numbers_of, without_all}
use Rattle.aps_timer.proofs.timer.take_out.Goals as goal

abbrev Row : Type 0
Row = List (Option ℕ)

pub loop-i-preserved : goal.loop-i-preserved
loop-i-preserved c =
    let due = c.args.due.now in
    let i = c.loop-i.i in
    let none : ℕ × ℕ = (0, 0) in
    let s : ℕ × ℕ = get_or due i none in
    let one : List (ℕ × ℕ) = s ∷ [] in
    let thread : c.x.inside.thread ≡ s.1 = ap (λ (s : ℕ × ℕ). s.1) (c.x.view_is ∙ c.at.ensures none) in
    let more : take (i + 1) due ≡ take i due ++ one = take_more due i none (omega arith) in
    record {
      row =
          c.set.ensures
          ∙ (λ j. set (c.loop-i.invariant.row j) (thread j) None)
          ∙ sym (ap (without_all c.args.asleep.now) more ∙ fold-append (λ (row : Row) (s : ℕ × ℕ). set row s.1 None) c.args.asleep.now (take i due) one);
      woken =
          c.push_reserved.ensures.items
          ∙ (λ j. c.loop-i.invariant.woken j ++ thread j ∷ [])
          ∙ append_assoc c.args.woken.now.items (numbers_of (take i due)) (s.1 ∷ [])
          ∙ ap (λ (l : List ℕ). c.args.woken.now.items ++ l) (sym (map_more (λ (s : ℕ × ℕ). s.1) due i none (omega arith)));
      room = c.push_reserved.ensures.capacity ∙ c.loop-i.invariant.room;
    }
