-- Bytes below 128.
use Rattle.std.proofs.Common.{◌≡◌, ℕ, List, [], ◌∷◌, ◌++◌, ltb, sym, subst}
use Rattle.std.specs.Prelude.{IsTrue}
use Rattle.std.specs.Str.{IsAscii}
use Rattle.std.proofs.lemmas.Bool.{ltb-true, and_parts}
use Rattle.std.proofs.lemmas.Str.Ascii.{IsAscii-nil, IsAscii-cons}
use Rattle.std.proofs.lemmas.Str.{IsAscii-append}
use Rattle.aps_text.specs.Ascii.{is_ascii}

pub IsAscii-from_test : (bs : List ℕ) → IsTrue (is_ascii bs) → IsAscii bs
IsAscii-from_test [] t = IsAscii-nil
IsAscii-from_test (b ∷ bs) t =
    let parts = and_parts (ltb b 128) (is_ascii bs) t in
    IsAscii-cons b bs (ltb-true b 128 parts.0) (IsAscii-from_test bs parts.1)

-- a text put before a text
pub IsAscii-before : (new text old : List ℕ) → new ≡ text ++ old → IsAscii text → IsAscii old → IsAscii new
IsAscii-before new text old e front rest = subst (λ (bs : List ℕ). IsAscii bs) (sym e) (IsAscii-append text old front rest)
