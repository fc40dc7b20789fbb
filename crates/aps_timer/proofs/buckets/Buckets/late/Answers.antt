use Rattle.std.proofs.Common.{◌+◌, ◌*◌, ◌%◌, ◌∙◌, ap, sym, get_or, rules, arith}
use Rattle.std.proofs.lemmas.List.{get_or_read}
use Rattle.aps_levels.specs.Bits.{set_has}
use Rattle.aps_levels.specs.declared.bits.Bits64.{Bits64}
use Rattle.aps_timer.specs.Lines.{no_bits, words_of_line}
use Rattle.aps_timer.proofs.buckets.Buckets.late.Goals as goal
use Rattle.aps_timer.specs.Buckets.{further_line}

pub returns-else-now-self : goal.returns-else-now-self
returns-else-now-self c x until of late due =
    let lines = c.args.self.now.lines.items in
    let read = get_or_read lines (16384 + c.args.word) c.index.result.now (search (rules, arith)) c.index.ensures no_bits in
    ap (λ (b : Bits64). set_has b (x % 64)) read
    ∙ ap (λ w. set_has (get_or lines (words_of_line * further_line + w) no_bits) (x % 64)) (sym of) ∙ late.stands further_line
