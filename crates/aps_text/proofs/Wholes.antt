-- What reading a whole text computes, in the words of the grammar.
use Rattle.std.proofs.Common.{◌≡◌, ℕ, zero, suc, ◌+◌, ◌-◌, ◌≤◌, true, List, [], ◌∷◌, ◌++◌, length, take, Option, Some, None, Result, Ok, Err, refl, sym, ap, subst, ◌∙◌, ◌⊎◌, inl, inr, append_assoc, arith, length-append}
use Rattle.std.specs.Prelude.{◌↔◌, IsTrue}
use Rattle.std.specs.List.{All}
use Rattle.std.proofs.lemmas.Bool.{false≢true}
use Rattle.std.proofs.lemmas.List.{append-nil, take_at}
use Rattle.std.proofs.lemmas.List.Elements.{All-nil, All-cons}
use Rattle.aps_model.specs.declared.entry.Entry.{Entry}
use Rattle.aps_model.specs.Journal.{entry_line, journal_text, IsLine, IsJournal}
use Rattle.aps_text.specs.Reader.{◌>>=◌}
use Rattle.aps_text.specs.Line.{line_at}
use Rattle.aps_text.specs.Place.{Place, place_after_bytes}
use Rattle.aps_text.specs.Refusal.{BeginsJournal, IsBadNext, IsFirstBad}
use Rattle.aps_text.specs.Whole.{lines_at, journal_at, reads_on, begins_journal, place_of, first_bad_place}
use Rattle.aps_text.proofs.Readers.{bind_ok, bind_err, cons_is}
use Rattle.aps_text.proofs.Entries.{IsReader-line}
use Rattle.aps_text.proofs.Places.{line_body}
use Rattle.aps_text.proofs.Journals.{begins_down, IsBadFrom, bad_from, first_bad}

-- ---- one place at most

cons_apart : (c : ℕ) (cs : List ℕ) → c ∷ cs ≡ [] → ⊥
cons_apart c cs e = cc

-- of two fronts of a text one goes on with the other
fronts : (f g r s : List ℕ) → f ++ r ≡ g ++ s → ((m : List ℕ) × (f ≡ g ++ m) × (s ≡ m ++ r)) ⊎ ((m : List ℕ) × (g ≡ f ++ m) × (r ≡ m ++ s))
fronts [] g r s e = inr (g, refl, e)
fronts (x ∷ f) [] r s e = inl (x ∷ f, refl, sym e)
fronts (x ∷ f) (y ∷ g) r s e =
    let first : x ≡ y = cc in
    let others : f ++ r ≡ g ++ s = cc in
    elim (fronts f g r s others) [
      | inl h ↦ inl (h.0, cons_is x y f (g ++ h.0) first h.1, h.2)
      | inr h ↦ inr (h.0, cons_is y x g (f ++ h.0) (sym first) h.1, h.2)
    ]

-- a beginning of a journal doesn't pass a bad byte
not_longer : (front m rest : List ℕ) → BeginsJournal (front ++ m) → IsBadNext front (m ++ rest) → m ≡ []
not_longer front [] rest begun bad = refl
not_longer front (x ∷ m) rest begun bad =
    absurd (bad (begins_down (front ++ x ∷ []) m (subst (λ (t : List ℕ). BeginsJournal t) (sym (append_assoc front (x ∷ []) m)) begun)))

same_front : (f g m r s : List ℕ) → BeginsJournal f → IsBadNext g s → f ≡ g ++ m → s ≡ m ++ r → f ≡ g
same_front f g m r s begun bad e h =
    let none = not_longer g m r (subst (λ (t : List ℕ). BeginsJournal t) e begun) (subst (λ (t : List ℕ). IsBadNext g t) h bad) in
    e ∙ ap (λ (t : List ℕ). g ++ t) none ∙ append-nil g

pub one_place : (bytes : List ℕ) (p q : Place) → IsFirstBad bytes p → IsFirstBad bytes q → p ≡ q
one_place bytes p q b c =
    elim (fronts b.front c.front b.rest c.rest (sym b.parts ∙ c.parts)) [
      | inl (m, e, h) ↦ b.here ∙ ap place_after_bytes (same_front b.front c.front m b.rest c.rest b.begun c.bad e h) ∙ sym c.here
      | inr (m, e, h) ↦ b.here ∙ ap place_after_bytes (sym (same_front c.front b.front m c.rest b.rest c.begun b.bad e h)) ∙ sym c.here
    ]

-- a text that is bad somewhere is no journal
pub bad_no_journal : (bytes : List ℕ) (p : Place) (es : List Entry) → IsFirstBad bytes p → IsJournal es bytes → ⊥
bad_no_journal bytes p es b j = no_journal b.front b.rest es b.bad (record { lines = j.lines; text = sym b.parts ∙ j.text }) where
  no_journal : (front rest : List ℕ) (es : List Entry) → IsBadNext front rest → IsJournal es (front ++ rest) → ⊥
  no_journal front [] es bad j = bad es (record { lines = j.lines; text = sym (append-nil front) ∙ j.text })
  no_journal front (x ∷ rest) es bad j = bad (es, rest, record { lines = j.lines; text = append_assoc front (x ∷ []) rest ∙ j.text })

-- ---- line after line

journal_cons : (e : Entry) (es : List Entry) (bytes rest : List ℕ) → IsLine e → bytes ≡ entry_line e ++ rest → IsJournal es rest → IsJournal (e ∷ es) bytes
journal_cons e es bytes rest h same j = record { lines = All-cons IsLine e es h j.lines; text = same ∙ ap (λ (t : List ℕ). entry_line e ++ t) j.text }

-- what a line leaves is shorter
shorter : (e : Entry) (c : ℕ) (cs rest : List ℕ) → c ∷ cs ≡ entry_line e ++ rest → length rest ≤ length cs
shorter e c cs rest same =
    let long : suc (length cs) ≡ length ((line_body e ++ 10 ∷ []) ++ rest) = ap length same in
    omega (arith, length-append (line_body e ++ 10 ∷ []) rest, length-append (line_body e) (10 ∷ []))

-- the first line, as it was read
record IsFirstLine (c : ℕ) (cs : List ℕ) (e : Entry) (rest : List ℕ) : Type 0 where
  within : IsLine e
  parts : c ∷ cs ≡ entry_line e ++ rest
  short : length rest ≤ length cs

first_line : (c : ℕ) (cs : List ℕ) (e : Entry) (rest : List ℕ) → line_at (c ∷ cs) ≡ Ok (e, rest) → IsFirstLine c cs e rest
first_line c cs e rest read =
    let t = IsReader-line.takes (c ∷ cs) e rest read in
    let parts : c ∷ cs ≡ entry_line e ++ rest = t.parts ∙ ap (λ (s : List ℕ). s ++ rest) t.spells.1 in
    record { within = t.spells.0; parts = parts; short = shorter e c cs rest parts }

abbrev entries_are : List Entry → Result (List Entry) (List ℕ)
entries_are es = Ok es

ok_is : (es fs : List Entry) → entries_are es ≡ entries_are fs → es ≡ fs
ok_is es fs e = cc

ok_apart : (es : List Entry) (rest : List ℕ) → entries_are es ≡ Err rest → ⊥
ok_apart es rest e = cc

abbrev more_lines : ℕ → Entry × List ℕ → Result (List Entry) (List ℕ)
more_lines n line = lines_at n line.1 >>= λ others. Ok (line.0 ∷ others)

empty_journal : (es : List Entry) → entries_are [] ≡ entries_are es → IsJournal es []
empty_journal es e = subst (λ (t : List Entry). IsJournal t []) (ok_is [] es e) (record { lines = All-nil IsLine; text = refl })

lines_ok : (n : ℕ) (bytes : List ℕ) (es : List Entry) → length bytes ≤ n → lines_at n bytes ≡ Ok es → IsJournal es bytes
lines_ok zero [] es short e = empty_journal es e
lines_ok zero (c ∷ cs) es short e = absurd (omega arith)
lines_ok (suc n) [] es short e = empty_journal es e
lines_ok (suc n) (c ∷ cs) es short e =
    let x = bind_ok (line_at (c ∷ cs)) (more_lines n) es e in
    let y = bind_ok (lines_at n x.0.1) (λ others. Ok (x.0.0 ∷ others)) es x.2 in
    let first = first_line c cs x.0.0 x.0.1 x.1 in
    let others = lines_ok n x.0.1 y.0 (omega (arith, first.short)) y.1 in
    subst (λ (t : List Entry). IsJournal t (c ∷ cs)) (ok_is (x.0.0 ∷ y.0) es y.2) (journal_cons x.0.0 y.0 (c ∷ cs) x.0.1 first.within first.parts others)

-- whole lines, and then bytes that are no line
record IsHalted (bytes rest : List ℕ) : Type 0 where
  entries : List Entry
  tail : List ℕ
  lines : All IsLine entries
  parts : bytes ≡ journal_text entries ++ tail
  some : tail ≡ [] → ⊥
  err : line_at tail ≡ Err rest

lines_err : (n : ℕ) (bytes rest : List ℕ) → length bytes ≤ n → lines_at n bytes ≡ Err rest → IsHalted bytes rest
lines_err zero bytes rest short e = absurd (ok_apart [] rest e)
lines_err (suc n) [] rest short e = absurd (ok_apart [] rest e)
lines_err (suc n) (c ∷ cs) rest short e =
    elim (bind_err (line_at (c ∷ cs)) (more_lines n) rest e) [
      | inl here ↦ record { entries = []; tail = c ∷ cs; lines = All-nil IsLine; parts = refl; some = λ none. cons_apart c cs none; err = here }
      | inr (line, read, later) ↦
          let first = first_line c cs line.0 line.1 read in
          let inner = elim (bind_err (lines_at n line.1) (λ others. Ok (line.0 ∷ others)) rest later) as (λ x. IsHalted line.1 rest) [
            | inl there ↦ lines_err n line.1 rest (omega (arith, first.short)) there
            | inr (others, was, wrong) ↦ absurd (ok_apart (line.0 ∷ others) rest wrong)
          ] in
          record {
            entries = line.0 ∷ inner.entries;
            tail = inner.tail;
            lines = All-cons IsLine line.0 inner.entries first.within inner.lines;
            parts = first.parts ∙ ap (λ (s : List ℕ). entry_line line.0 ++ s) inner.parts ∙ sym (append_assoc (entry_line line.0) (journal_text inner.entries) inner.tail);
            some = inner.some;
            err = inner.err;
          }
    ]

-- ---- the computed answers

-- where reading stopped, the text is bad
stops_bad : (bytes rest : List ℕ) → journal_at bytes ≡ Err rest → (p : Place) × IsBadFrom bytes rest p
stops_bad bytes rest e =
    let h = lines_err (length bytes) bytes rest (omega arith) e in
    (record { line = 1 + length h.entries; column = 1 + (length h.tail - length rest) }, bad_from h.entries bytes h.tail rest h.lines h.parts h.some h.err)

computed_place : (bytes rest : List ℕ) (p : Place) → IsBadFrom bytes rest p → place_after_bytes (take (length bytes - length rest) bytes) ≡ p
computed_place bytes rest p b =
    let long : length b.front ≡ length bytes - length rest = omega (arith, ap length b.parts, length-append b.front rest) in
    let front : take (length bytes - length rest) bytes ≡ b.front = ap (take (length bytes - length rest)) b.parts ∙ take_at b.front rest (length bytes - length rest) long in
    ap place_after_bytes front ∙ sym b.here

read_whole : (bytes : List ℕ) (r : Result (List Entry) (List ℕ)) → journal_at bytes ≡ r → ((es : List Entry) × IsJournal es bytes × (r ≡ Ok es)) ⊎ ((rest : List ℕ) × (p : Place) × IsBadFrom bytes rest p × (r ≡ Err rest))
read_whole bytes (Ok es) e = inl (es, lines_ok (length bytes) bytes es (omega arith) e, refl)
read_whole bytes (Err rest) e = let stop = stops_bad bytes rest e in inr (rest, stop.0, stop.1, refl)

-- the computed test says whether a journal begins so
pub begins_is : (bytes : List ℕ) → IsTrue (begins_journal bytes) ↔ BeginsJournal bytes
begins_is bytes = (to, from) where
  reads : (rest : List ℕ) (p : Place) → IsBadFrom bytes rest p → reads_on (Err rest) ≡ true → BeginsJournal bytes
  reads [] p b e = subst (λ (t : List ℕ). BeginsJournal t) (sym (append-nil b.front) ∙ sym b.parts) b.begun
  reads (x ∷ rest) p b e = absurd (false≢true e)

  stops : (rest : List ℕ) (p : Place) → IsBadFrom bytes rest p → BeginsJournal bytes → reads_on (Err rest) ≡ true
  stops [] p b begun = refl
  stops (x ∷ rest) p b begun =
      absurd (b.bad (begins_down (b.front ++ x ∷ []) rest (subst (λ (t : List ℕ). BeginsJournal t) (b.parts ∙ sym (append_assoc b.front (x ∷ []) rest)) begun)))

  to : IsTrue (begins_journal bytes) → BeginsJournal bytes
  to e =
      elim (read_whole bytes (journal_at bytes) refl) [
        | inl (es, j, was) ↦ (es, [], record { lines = j.lines; text = append-nil bytes ∙ j.text })
        | inr (rest, p, b, was) ↦ reads rest p b (sym (ap reads_on was) ∙ e)
      ]

  from : BeginsJournal bytes → IsTrue (begins_journal bytes)
  from begun =
      elim (read_whole bytes (journal_at bytes) refl) [
        | inl (es, j, was) ↦ ap reads_on was
        | inr (rest, p, b, was) ↦ ap reads_on was ∙ stops rest p b begun
      ]

some_is : (p q : Place) → (λ (o : Option Place). o) (Some p) ≡ Some q → p ≡ q
some_is p q e = cc

none_apart : (p : Place) → (λ (o : Option Place). o) None ≡ Some p → ⊥
none_apart p e = cc

-- the computed place is the one at which the text is bad first
pub first_bad_is : (bytes : List ℕ) (p : Place) → (first_bad_place bytes ≡ Some p) ↔ IsFirstBad bytes p
first_bad_is bytes p = (to, from) where
  to : first_bad_place bytes ≡ Some p → IsFirstBad bytes p
  to e =
      elim (read_whole bytes (journal_at bytes) refl) [
        | inl (es, j, was) ↦ absurd (none_apart p (sym (ap (place_of bytes) was) ∙ e))
        | inr (rest, q, b, was) ↦
            let same = some_is (place_after_bytes (take (length bytes - length rest) bytes)) p (sym (ap (place_of bytes) was) ∙ e) in
            subst (λ (t : Place). IsFirstBad bytes t) (sym (computed_place bytes rest q b) ∙ same) (first_bad bytes rest q b)
      ]

  from : IsFirstBad bytes p → first_bad_place bytes ≡ Some p
  from bad =
      elim (read_whole bytes (journal_at bytes) refl) [
        | inl (es, j, was) ↦ absurd (bad_no_journal bytes p es bad j)
        | inr (rest, q, b, was) ↦ ap (place_of bytes) was ∙ ap (λ (t : Place). Some t) (computed_place bytes rest q b ∙ one_place bytes q p (first_bad bytes rest q b) bad)
      ]

-- no place is bad exactly in a journal
pub none_bad_is : (bytes : List ℕ) → (first_bad_place bytes ≡ None) ↔ ((es : List Entry) × IsJournal es bytes)
none_bad_is bytes = (to, from) where
  to : first_bad_place bytes ≡ None → (es : List Entry) × IsJournal es bytes
  to e =
      elim (read_whole bytes (journal_at bytes) refl) [
        | inl (es, j, was) ↦ (es, j)
        | inr (rest, q, b, was) ↦ absurd (none_apart (place_after_bytes (take (length bytes - length rest) bytes)) (sym e ∙ ap (place_of bytes) was))
      ]

  from : (es : List Entry) × IsJournal es bytes → first_bad_place bytes ≡ None
  from (fs, k) =
      elim (read_whole bytes (journal_at bytes) refl) [
        | inl (es, j, was) ↦ ap (place_of bytes) was
        | inr (rest, q, b, was) ↦ absurd (bad_no_journal bytes q fs (first_bad bytes rest q b) k)
      ]
