use Rattle.std.proofs.Common.{◌≡◌, length, refl, rules, arith}
use Rattle.std.proofs.lemmas.Iterator.{YieldsList-from_range}
use Rattle.std.proofs.lemmas.Iterator.Search.{find_from_yields_List}
use Rattle.std.specs.List.{find, range_with_len}
use Rattle.std.specs.Option.{option_map}
use Rattle.aps_text.specs.Separator.{separates}
use Rattle.aps_text.proofs.separator.journal_at.Goals as goal

pub returns : goal.returns
returns c =
    let bytes = c.args.bytes.now in
    let found : option_map (λ x. x) c.find.result ≡ find (separates bytes) (range_with_len 0 (length bytes)) =
    find_from_yields_List (separates bytes) _ _ c.find.result c.find.ensures.ran (YieldsList-from_range 0 (length bytes) (length bytes) refl (omega arith)) (λ x b q k. search rules) in
    rw (← found) (search rules)
