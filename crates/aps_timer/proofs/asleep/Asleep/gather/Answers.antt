use Rattle.std.proofs.Common.{◌≡◌, ◌∙◌, ℕ, ◌+◌, ◌*◌, ◌%◌, List, Option, ap, subst, sym, true, arith}
use Rattle.aps_levels.specs.Bits.{set_has}
use Rattle.aps_timer.specs.Sleepers.{SleepsUntil, all_due, due_below}
use Rattle.aps_timer.proofs.Kept.{placed}
use Rattle.aps_timer.proofs.OfWord.{whole_row}
use Rattle.aps_timer.proofs.asleep.Asleep.gather.Goals as goal

pub add_of_word-requires-clause-bits : goal.add_of_word-requires-clause-bits
add_of_word-requires-clause-bits c k until below asleep due =
    let row = c.self.inside.row.items in
    let buckets = c.self.inside.buckets in
    let x = 64 * c.loop-word.word + k in
    let sleeps : SleepsUntil row x until = subst (λ (r : List (Option ℕ)). SleepsUntil r x until) c.deref.ensures.value asleep in
    let here : set_has c.may_be_due-bits.result (x % 64) ≡ true =
    c.may_be_due-bits.ensures x until (omega (arith, below))
    (placed row buckets.lines.items buckets.begin buckets.further x until c.self.invariant sleeps) (c.last_due-last.ensures x until (subst (λ (r : List (Option ℕ)). SleepsUntil r x until) c.self.view_is sleeps) due) in
    subst (λ (i : ℕ). set_has c.may_be_due-bits.result i ≡ true) (omega (arith, below)) here

pub returns : goal.returns
returns c =
    let row = c.self.inside.row.items in
    let now = c.args.now in
    c.loop-word.invariant
    ∙ ap (λ (r : List (Option ℕ)). due_below r now (64 * c.loop-word.word)) (sym c.self.view_is)
    ∙ whole_row row now c.loop-word.word c.self.invariant.few (λ x below few. omega arith)
    ∙ ap (λ (r : List (Option ℕ)). all_due r now) c.self.view_is
