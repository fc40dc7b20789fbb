-- A number or '-', and the mark of critical time.
use lib.Chars.{codes}
use Rattle.std.proofs.Common.{◌≡◌, ℕ, ◌^◌, ◌<◌, ◌≤◌, Bool, true, false, List, [], ◌∷◌, ◌++◌, Option, Some, None, Ok, refl, inl, inr, arith}
use Rattle.std.specs.Prelude.{IfSome, if◌then◌else◌}
use Rattle.std.specs.Char.{is_ascii_digit}
use Rattle.aps_model.specs.Journal.{option_text}
use Rattle.aps_text.specs.Reader.{◌>>=◌, whole_word, number_at}
use Rattle.aps_text.specs.Fields.{option_at, mark_at}
use Rattle.aps_text.proofs.Readers.{IsReader, SpellsAfter, SpellsWord, SpellsMade, IsReader-after, IsReader-word, IsReader-made, IsReader-restated, made_begins_other, word_begins_other}
use Rattle.aps_text.proofs.Numbers.{SpellsNumber, IsReader-number, number_begins_other}

-- ---- a number or '-'

abbrev pub SpellsOption : (most stop : ℕ) → List ℕ → Option ℕ → Type 0
SpellsOption most stop text o = (text ≡ option_text o ++ stop ∷ []) × IfSome o (λ n. n ≤ most)

abbrev SpellsSome : (most stop : ℕ) → List ℕ → Option ℕ → Type 0
SpellsSome most stop = SpellsMade Some (SpellsNumber most stop)

abbrev SpellsEither : (most stop : ℕ) → List ℕ → Option ℕ → Type 0
SpellsEither most stop = SpellsAfter 45 (SpellsWord (stop ∷ []) None) (SpellsSome most stop)

none_to : (most stop : ℕ) (text s : List ℕ) (o : Option ℕ) → text ≡ 45 ∷ s → s ≡ stop ∷ [] → o ≡ None → SpellsOption most stop text o
none_to most stop text s o e f g = rw (g, e, f) (refl, tt)

some_to : (most stop : ℕ) (text : List ℕ) (o : Option ℕ) (n : ℕ) → SpellsNumber most stop text n → o ≡ Some n → SpellsOption most stop text o
some_to most stop text o n h e = rw e h

option_to : (most stop : ℕ) (text : List ℕ) (o : Option ℕ) → SpellsEither most stop text o → SpellsOption most stop text o
option_to most stop text o (inl h) = none_to most stop text h.0 o h.1 h.2.0 h.2.1
option_to most stop text o (inr h) = some_to most stop text o h.0 h.1 h.2

option_from : (most stop : ℕ) (text : List ℕ) (o : Option ℕ) → SpellsOption most stop text o → SpellsEither most stop text o
option_from most stop text None h = inl (stop ∷ [], h.0, (refl, refl))
option_from most stop text (Some n) h = inr (n, h, refl)

pub IsReader-option : (most stop : ℕ) → most < 2 ^ 64 → is_ascii_digit stop ≡ false → IsReader (option_at most stop) (SpellsOption most stop)
IsReader-option most stop fits plain =
    let some = IsReader-made Some (number_at most stop) (SpellsNumber most stop) (IsReader-number most stop fits plain) in
    let apart = made_begins_other 45 Some (SpellsNumber most stop) (number_begins_other 45 most stop fits (inl (omega arith))) in
    IsReader-restated (option_at most stop) (SpellsEither most stop) (SpellsOption most stop) (option_to most stop) (option_from most stop)
    (IsReader-after 45 (whole_word (stop ∷ []) None) (λ (bytes : List ℕ). number_at most stop bytes >>= λ n. Ok (Some n.0, n.1)) (SpellsWord (stop ∷ []) None) (SpellsSome most stop)
    (IsReader-word (stop ∷ []) None) (stop ∷ [], None, (refl, refl)) some apart)

-- ---- the mark

abbrev pub mark_text : Bool → List ℕ
mark_text b = if b then codes "c" else codes "-"

abbrev pub SpellsMark : List ℕ → Bool → Type 0
SpellsMark text b = text ≡ mark_text b ++ 32 ∷ []

abbrev SpellsEitherMark : List ℕ → Bool → Type 0
SpellsEitherMark = SpellsAfter 99 (SpellsWord (codes " ") true) (SpellsWord (codes "- ") false)

marked_to : (text s : List ℕ) (b : Bool) → text ≡ 99 ∷ s → s ≡ codes " " → b ≡ true → SpellsMark text b
marked_to text s b e f g = rw (g, e, f) refl

unmarked_to : (text : List ℕ) (b : Bool) → text ≡ codes "- " → b ≡ false → SpellsMark text b
unmarked_to text b e f = rw (f, e) refl

mark_to : (text : List ℕ) (b : Bool) → SpellsEitherMark text b → SpellsMark text b
mark_to text b (inl h) = marked_to text h.0 b h.1 h.2.0 h.2.1
mark_to text b (inr h) = unmarked_to text b h.0 h.1

mark_from : (text : List ℕ) (b : Bool) → SpellsMark text b → SpellsEitherMark text b
mark_from text true h = inl (codes " ", h, (refl, refl))
mark_from text false h = inr (h, refl)

pub IsReader-mark : IsReader mark_at SpellsMark
IsReader-mark =
    IsReader-restated mark_at SpellsEitherMark SpellsMark mark_to mark_from
    (IsReader-after 99 (whole_word (codes " ") true) (whole_word (codes "- ") false) (SpellsWord (codes " ") true) (SpellsWord (codes "- ") false)
    (IsReader-word (codes " ") true) (codes " ", true, (refl, refl)) (IsReader-word (codes "- ") false) (word_begins_other 99 45 (codes " ") false (λ e. omega arith)))
