-- Journals: each text is the journal of one list, and a text that is none is bad at one place.
use Rattle.std.proofs.Common.{◌≡◌, ℕ, true, ◌+◌, ◌-◌, ◌<◌, ◌≤◌, List, [], ◌∷◌, ◌++◌, length, Ok, Err, refl, sym, ap, ◌∙◌, ◌⊎◌, inl, inr, append_assoc, arith, length-append}
use Rattle.std.specs.List.{All}
use Rattle.std.proofs.lemmas.List.{append-nil}
use Rattle.std.proofs.lemmas.List.Elements.{All-head, All-tail, All-push}
use Rattle.aps_model.specs.declared.entry.Entry.{Entry}
use Rattle.aps_model.specs.Journal.{entry_line, journal_text, IsLine, IsJournal}
use Rattle.aps_text.specs.Line.{line_at}
use Rattle.aps_text.specs.Place.{Place, place_after_bytes}
use Rattle.aps_text.specs.Refusal.{BeginsJournal, IsBadNext, IsFirstBad}
use Rattle.aps_text.proofs.Readers.{IsBegun, ok_parts, cons_is}
use Rattle.aps_text.proofs.Lines.{journal_text-push}
use Rattle.aps_text.proofs.Entries.{SpellsLine, IsReader-line}
use Rattle.aps_text.proofs.Places.{is_one_line, one_line_front, line_body, one_line_body, line_is, place_behind}
use Rattle.aps_text.proofs.Numbers.{err_apart}

-- ---- the first line of a text

line_again : (e : Entry) (rest : List ℕ) → IsLine e → line_at (entry_line e ++ rest) ≡ Ok (e, rest)
line_again e rest h = IsReader-line.again (entry_line e) e rest (h, refl)

-- a line is never empty
pub line_apart : (e : Entry) (rest : List ℕ) → entry_line e ++ rest ≡ [] → ⊥
line_apart e rest same =
    let none : length ((line_body e ++ 10 ∷ []) ++ rest) ≡ 0 = ap length same in
    omega (arith, length-append (line_body e ++ 10 ∷ []) rest, length-append (line_body e) (10 ∷ []))

-- where a line can't be read, no journal begins
no_line : (es : List Entry) (bytes rest : List ℕ) → All IsLine es → (bytes ≡ [] → ⊥) → line_at bytes ≡ Err rest → bytes ≡ journal_text es → ⊥
no_line [] bytes rest h some e same = some same
no_line (x ∷ es) bytes rest h some e same =
    err_apart rest (x, journal_text es) (sym e ∙ ap line_at same ∙ line_again x (journal_text es) (All-head IsLine x es h))

-- ---- two journals, of which one goes on with the other's text

pub record GoesOn (fs es : List Entry) (s : List ℕ) : Type 0 where
  pub more : List Entry
  pub lines : All IsLine more
  pub whole : fs ≡ es ++ more
  pub rest : s ≡ journal_text more

pub goes_on : (fs es : List Entry) (s : List ℕ) → All IsLine fs → All IsLine es → journal_text fs ≡ journal_text es ++ s → GoesOn fs es s
goes_on fs [] s hf he e = record { more = fs; lines = hf; whole = refl; rest = sym e }
goes_on [] (x ∷ es) s hf he e = absurd (line_apart x (journal_text es ++ s) (sym (append_assoc (entry_line x) (journal_text es) s) ∙ sym e))
goes_on (f ∷ fs) (x ∷ es) s hf he e =
    let there : line_at (entry_line f ++ journal_text fs) ≡ Ok (x, journal_text es ++ s) = ap line_at (e ∙ append_assoc (entry_line x) (journal_text es) s) ∙ line_again x (journal_text es ++ s) (All-head IsLine x es he) in
    let same = ok_parts f (journal_text fs) x (journal_text es ++ s) (sym (line_again f (journal_text fs) (All-head IsLine f fs hf)) ∙ there) in
    let inner = goes_on fs es s (All-tail IsLine f fs hf) (All-tail IsLine x es he) same.1 in
    record { more = inner.more; lines = inner.lines; whole = ap (λ (e : Entry). e ∷ fs) same.0 ∙ ap (λ (t : List Entry). x ∷ t) inner.whole; rest = inner.rest }

none_left : (es : List Entry) → [] ≡ journal_text es → es ≡ []
none_left [] e = refl
none_left (x ∷ es) e = absurd (line_apart x (journal_text es) (sym e))

-- a text is the journal of one list
pub one_list : (es fs : List Entry) (bytes : List ℕ) → IsJournal es bytes → IsJournal fs bytes → es ≡ fs
one_list es fs bytes j k =
    let g = goes_on es fs [] j.lines k.lines (sym j.text ∙ k.text ∙ sym (append-nil (journal_text fs))) in
    g.whole ∙ ap (λ (t : List Entry). fs ++ t) (none_left g.more g.rest) ∙ append-nil fs

-- ---- a beginning of a beginning

pub begins_down : (front more : List ℕ) → BeginsJournal (front ++ more) → BeginsJournal front
begins_down front more (es, rest, j) = (es, more ++ rest, record { lines = j.lines; text = sym (append_assoc front more rest) ∙ j.text })

-- ---- where a line can't be read

cons_apart : (front : List ℕ) (x : ℕ) (xs : List ℕ) → front ++ x ∷ xs ≡ [] → ⊥
cons_apart [] x xs e = cc
cons_apart (f ∷ fs) x xs e = cc

nothing_behind : (xs ys : List ℕ) → xs ++ ys ≡ [] → ys ≡ []
nothing_behind [] ys e = e
nothing_behind (x ∷ xs) ys e = cc

whole_front : (text front more : List ℕ) → more ≡ [] → text ≡ front ++ more → front ≡ text
whole_front text front more none e = sym (append-nil front) ∙ ap (λ (t : List ℕ). front ++ t) (sym none) ∙ sym e

-- the part of a line in front of its newline
part_of_body : (front more body : List ℕ) (last : ℕ) → front ++ more ≡ body ++ last ∷ [] → (more ≡ [] → ⊥) → (m : List ℕ) × (body ≡ front ++ m)
part_of_body [] more body last e some = (body, refl)
part_of_body (f ∷ fs) more [] last e some =
    let nothing : fs ++ more ≡ [] = cc in
    absurd (some (nothing_behind fs more nothing))
part_of_body (f ∷ fs) more (b ∷ bs) last e some =
    let first : f ≡ b = cc in
    let others : fs ++ more ≡ bs ++ last ∷ [] = cc in
    let inner = part_of_body fs more bs last others some in
    (inner.0, cons_is b f bs (fs ++ inner.0) (sym first) inner.1)

-- what a reader of a line took of it has no newline
one_line_begun : (bytes rest front : List ℕ) → line_at bytes ≡ Err rest → bytes ≡ front ++ rest → (front ≡ []) ⊎ IsBegun SpellsLine front → is_one_line front ≡ true
one_line_begun bytes rest front e parts (inl none) = rw none refl
one_line_begun bytes rest front e parts (inr b) =
    let whole : line_body b.value ++ 10 ∷ [] ≡ front ++ b.more = sym (line_is b.value) ∙ sym b.spells.1 ∙ b.parts in
    let some : b.more ≡ [] → ⊥ = λ none. err_apart rest (b.value, rest) (sym e ∙ ap line_at parts ∙ ap (λ (t : List ℕ). line_at (t ++ rest)) (whole_front b.text front b.more none b.parts) ∙ IsReader-line.again b.text b.value rest b.spells) in
    let part = part_of_body front b.more (line_body b.value) 10 (sym whole) some in
    one_line_front front part.0 (ap is_one_line (sym part.1) ∙ one_line_body b.value b.spells.0)

begins_behind : (es : List Entry) (front : List ℕ) → All IsLine es → (front ≡ []) ⊎ IsBegun SpellsLine front → BeginsJournal (journal_text es ++ front)
begins_behind es front h (inl none) =
    (es, [], record { lines = h; text = append-nil (journal_text es ++ front) ∙ ap (λ (t : List ℕ). journal_text es ++ t) none ∙ append-nil (journal_text es) })
begins_behind es front h (inr b) = (
  es ++ b.value ∷ [],
  b.more,
  record {
    lines = All-push IsLine es b.value h b.spells.0;
    text = append_assoc (journal_text es) front b.more ∙ ap (λ (t : List ℕ). journal_text es ++ t) (sym b.parts ∙ b.spells.1) ∙ sym (journal_text-push es b.value);
  },
)

bad_behind : (es : List Entry) (bytes rest front : List ℕ) → All IsLine es → (bytes ≡ [] → ⊥) → line_at bytes ≡ Err rest → bytes ≡ front ++ rest
    → ((x : ℕ) (xs ys : List ℕ) → rest ≡ x ∷ xs → line_at (front ++ x ∷ ys) ≡ Err (x ∷ ys)) → IsBadNext (journal_text es ++ front) rest
bad_behind es bytes [] front h some e parts local = λ fs j.
    let g = goes_on fs es front j.lines h (sym j.text) in
    no_line g.more bytes [] g.lines some e (parts ∙ append-nil front ∙ g.rest)
bad_behind es bytes (x ∷ xs) front h some e parts local = λ (fs, more, j).
    let regrouped : journal_text fs ≡ journal_text es ++ (front ++ x ∷ more) = sym j.text ∙ simp append_assoc in
    let g = goes_on fs es (front ++ x ∷ more) j.lines h regrouped in
    no_line g.more (front ++ x ∷ more) (x ∷ more) g.lines (cons_apart front x more) (local x xs more refl) g.rest

-- the text is bad first where this rest begins
pub record IsBadFrom (bytes rest : List ℕ) (place : Place) : Type 0 where
  pub front : List ℕ
  pub parts : bytes ≡ front ++ rest
  pub begun : BeginsJournal front
  pub bad : IsBadNext front rest
  pub here : place ≡ place_after_bytes front

-- behind whole lines, bytes that are no line: the text is bad where their reader stopped
pub bad_from : (es : List Entry) (whole bytes rest : List ℕ) → All IsLine es → whole ≡ journal_text es ++ bytes → (bytes ≡ [] → ⊥) → line_at bytes ≡ Err rest
    → IsBadFrom whole rest (record { line = 1 + length es; column = 1 + (length bytes - length rest) })
bad_from es whole bytes rest h same some e =
    let s = IsReader-line.stuck bytes rest e in
    let long : length bytes - length rest ≡ length s.front = omega (arith, ap length s.parts, length-append s.front rest) in
    record {
      front = journal_text es ++ s.front;
      parts = same ∙ ap (λ (t : List ℕ). journal_text es ++ t) s.parts ∙ sym (append_assoc (journal_text es) s.front rest);
      begun = begins_behind es s.front h s.begun;
      bad = bad_behind es bytes rest s.front h some e s.parts s.local;
      here = rw long (sym (place_behind es s.front h (one_line_begun bytes rest s.front e s.parts s.begun)));
    }

pub first_bad : (bytes rest : List ℕ) (place : Place) → IsBadFrom bytes rest place → IsFirstBad bytes place
first_bad bytes rest place b = record { front = b.front; rest = rest; parts = b.parts; begun = b.begun; bad = b.bad; here = b.here }

-- ---- one line more

pub record ReadsOn (es : List Entry) (bytes rest after : List ℕ) : Type 0 where
  pub lines : All IsLine es
  pub parts : bytes ≡ journal_text es ++ after
  pub shorter : length after < length rest

pub reads_on : (es : List Entry) (bytes rest : List ℕ) (e : Entry) (after : List ℕ) → All IsLine es → bytes ≡ journal_text es ++ rest → line_at rest ≡ Ok (e, after) → ReadsOn (es ++ e ∷ []) bytes rest after
reads_on es bytes rest e after h same read =
    let t = IsReader-line.takes rest e after read in
    let parts : rest ≡ (line_body e ++ 10 ∷ []) ++ after = t.parts ∙ ap (λ (s : List ℕ). s ++ after) t.spells.1 in
    record {
      lines = All-push IsLine es e h t.spells.0;
      parts = same ∙ ap (λ (s : List ℕ). journal_text es ++ s) parts ∙ sym (append_assoc (journal_text es) (entry_line e) after) ∙ ap (λ (s : List ℕ). s ++ after) (sym (journal_text-push es e));
      shorter = omega (arith, ap length parts, length-append (line_body e ++ 10 ∷ []) after, length-append (line_body e) (10 ∷ []));
    }

pub not_longer : (bytes rest : List ℕ) → line_at bytes ≡ Err rest → length rest ≤ length bytes
not_longer bytes rest e =
    let s = IsReader-line.stuck bytes rest e in
    omega (arith, ap length s.parts, length-append s.front rest)
