-- Readers of the front of a text. Each gives a value and the text behind what it read, or the text
-- from the first byte on that no text of its kind goes on with.
use Rattle.std.specs.Prelude.{◌≡◌, ℕ, ◌+◌, ◌-◌, ◌*◌, ◌==◌, nat_le, ◌&&◌, List, [], ◌∷◌, Result, Ok, Err, if◌then◌else◌}
use Rattle.std.specs.Borrow.{Bor}
use Rattle.std.specs.Char.{is_ascii_digit}

abbrev pub ReadResult : Type 0 → Type 0
ReadResult A = Result (A × List ℕ) (List ℕ)

infixl 10 ◌>>=◌
abbrev pub ◌>>=◌ : {A B : Type 0} → Result A (List ℕ) → (A → Result B (List ℕ)) → Result B (List ℕ)
(Ok x) >>= f = f x
(Err rest) >>= f = Err rest

-- What a function answered, seen by view, is what the reader reads.
abbrev pub ReadsAs : {X Y : Type 0} → (X → Y) → Result X (Bor (List ℕ)) → Result Y (List ℕ) → Type 0
ReadsAs view (Ok x) reading = reading ≡ Ok (view x)
ReadsAs view (Err rest) reading = reading ≡ Err rest.now

-- the text behind this word
abbrev pub word_at : List ℕ → List ℕ → Result (List ℕ) (List ℕ)
word_at [] bytes = Ok bytes
word_at (w ∷ word) [] = Err []
word_at (w ∷ word) (c ∷ cs) = if c == w then word_at word cs else Err (c ∷ cs)

-- a word that stands for a value
abbrev pub whole_word : {A : Type 0} → List ℕ → A → List ℕ → ReadResult A
whole_word word value bytes = word_at word bytes >>= λ rest. Ok (value, rest)

-- read goes on behind this byte; where another stands, the other reader reads
abbrev pub after_byte : {A : Type 0} → ℕ → (List ℕ → ReadResult A) → (List ℕ → ReadResult A) → List ℕ → ReadResult A
after_byte byte read other [] = other []
after_byte byte read other (c ∷ cs) = if c == byte then read cs else other (c ∷ cs)

-- nothing fits
abbrev pub nothing_at : {A : Type 0} → List ℕ → ReadResult A
nothing_at bytes = Err bytes

-- the digits that go on a number up to its end, which is the stop; the number is at most `most`
abbrev pub digits_at : (most stop value : ℕ) → List ℕ → ReadResult ℕ
digits_at most stop value [] = Err []
digits_at most stop value (c ∷ cs) =
    if c == stop then Ok (value, cs)
    else (if is_ascii_digit c && nat_le (value * 10 + (c - 48)) most then digits_at most stop (value * 10 + (c - 48)) cs else Err (c ∷ cs))

-- a number, at most `most` and with no leading zero, and its stop
abbrev pub number_at : (most stop : ℕ) → List ℕ → ReadResult ℕ
number_at most stop [] = Err []
number_at most stop (c ∷ cs) =
    if c == 48 then whole_word (stop ∷ []) 0 cs
    else (if is_ascii_digit c && nat_le (c - 48) most then digits_at most stop (c - 48) cs else Err (c ∷ cs))
