use Rattle.std.proofs.Common.{◌≡◌, [], map, drop, string_bytes}
use Rattle.aps_words.specs.Plain.{is_plain}
use Rattle.aps_words.proofs.plain.is_plain.Given as goal

abbrev pub invariant-loop-word : goal.invariant-loop-word
invariant-loop-word l =
    is_plain (map (λ n. n.now) l.seen.items) (map string_bytes (drop l.word-index l.words)) ≡ is_plain [] (map string_bytes l.words)
