use Rattle.std.proofs.Common.{◌≡◌, ◌-◌, ◌∙◌, [], false, ap, arith, drop, take, length, map, rules, string_bytes, sym}
use Rattle.std.proofs.lemmas.List.{take_all, length-drop}
use Rattle.aps_words.specs.Plain.{is_plain}
use Rattle.view_words.proofs.Meaning.{unplain_none}
use Rattle.view_words.proofs.asked.asked_of.Goals as goal

pub returns-then-not-branch-clause-same : goal.returns-then-not-branch-clause-same
returns-then-not-branch-clause-same c =
    let words = c.args.words.now in
    let rest : take (length words - 1) (drop 1 words) ≡ drop 1 words = take_all (length words - 1) (drop 1 words) (omega (arith, length-drop 1 words)) in
    let refused : c.in_ok-is_plain.field-0 ≡ false = search rules in
    unplain_none words (ap (λ r. is_plain [] (map string_bytes r)) (sym rest) ∙ sym c.in_ok-is_plain.ensures ∙ refused)
