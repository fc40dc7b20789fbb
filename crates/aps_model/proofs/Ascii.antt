-- A name is text.
use Rattle.std.proofs.Common.{◌≡◌, ℕ, zero, suc, ◌<◌, Bool, ◌&&◌, refl, true, false, List, [], ◌∷◌, arith}
use Rattle.std.proofs.lemmas.Bool.Decides.{nat_tests}
use Rattle.std.specs.List.{list_all}
use Rattle.std.specs.Str.{IsAscii, IsUtf8}
use Rattle.std.proofs.lemmas.Str.{IsUtf8-from_ascii}
use Rattle.aps_model.specs.Name.{is_name_byte, IsName}

small : (b : ℕ) → is_name_byte b ≡ true → b < 128
small b h = grind (arith, nat_tests)

both : (a b : Bool) → (a && b) ≡ true → (a ≡ true) × (b ≡ true)
both true b h = (refl, h)
both false b h = absurd (cc)

-- a name's bytes are ASCII
name-IsAscii : (text : List ℕ) → list_all is_name_byte text ≡ true → IsAscii text
name-IsAscii [] h i = omega arith
name-IsAscii (b ∷ bs) h zero = small b (both (is_name_byte b) (list_all is_name_byte bs) h).0
name-IsAscii (b ∷ bs) h (suc i) = name-IsAscii bs (both (is_name_byte b) (list_all is_name_byte bs) h).1 i

pub name-IsUtf8 : (text : List ℕ) → IsName text → IsUtf8 text
name-IsUtf8 text name = IsUtf8-from_ascii text (name-IsAscii text name.bytes)
