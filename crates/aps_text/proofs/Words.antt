-- A word that is read byte by byte, as far as the text goes.
use Rattle.std.proofs.Common.{◌≡◌, ℕ, ◌<◌, List, [], length, drop, Err, refl, arith, drop-cons}
use Rattle.std.proofs.lemmas.List.{nil_from_length}
use Rattle.aps_text.specs.Reader.{word_at}

-- the text ends before the word
pub word_cut : (word rest : List ℕ) (i : ℕ) → i < length word → length rest < 1 → word_at (drop i word) rest ≡ Err rest
word_cut word rest i more short =
    let nothing : rest ≡ [] = nil_from_length rest (omega arith) in
    rw (drop-cons word i 0 more, nothing) refl
