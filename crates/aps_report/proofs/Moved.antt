use Rattle.std.proofs.Common.{◌≡◌, ℕ, ◌+◌, ◌<◌, ◌≤◌, List, [], ◌∷◌, ◌++◌, length, take, drop, get_or, Option, Result, Ok, Err, OnErr, sym, ap, ◌∙◌, append_assoc, append-nil, length-append, take-append-drop, arith}
use Rattle.std.proofs.lemmas.Grind.{flat_map-append}
use Rattle.std.specs.Io.KnownBytes.{Appends}
use Rattle.std.proofs.KnownBytes.{Appends-nil, Appends-trans}
use Rattle.std.proofs.lemmas.List.{take-append-le}
use Rattle.std.proofs.Math.Seq.{take-append-add}
use Rattle.aps_model.specs.declared.entry.Entry.{Entry}
use Rattle.aps_model.specs.Journal.{entry_line, journal_text}
use Rattle.aps_report.specs.Pieces.{IsMoved, IsPrefixWritten}
use Rattle.aps_model.proofs.Ends.{taken}

-- a front was written, then a further front of what waited
pub moved-trans : (a b c : Option (List ℕ)) (text waiting later : List ℕ) → IsMoved a b text waiting → IsMoved b c waiting later → IsMoved a c text later
moved-trans a b c text waiting later p q = record {
  front = p.front ++ q.front;
  written = Appends-trans a b c p.front q.front p.written q.written;
  rest = p.rest ∙ ap (λ t. p.front ++ t) q.rest ∙ sym (append_assoc p.front q.front later);
}

-- more was added to what waits
pub moved_more : (a b : Option (List ℕ)) (text waiting longer waits more : List ℕ) → longer ≡ text ++ more → waits ≡ waiting ++ more
    → IsMoved a b text waiting → IsMoved a b longer waits
moved_more a b text waiting longer waits more l w p = record {
  front = p.front;
  written = p.written;
  rest = l ∙ ap (λ t. t ++ more) p.rest ∙ append_assoc p.front waiting more ∙ ap (λ t. p.front ++ t) (sym w);
}

-- then a prefix of what waited was written
pub moved-prefix : (a b c : Option (List ℕ)) (text waiting rest whole : List ℕ) → whole ≡ text ++ rest → IsMoved a b text waiting → IsPrefixWritten b c waiting
    → IsPrefixWritten a c whole
moved-prefix a b c text waiting rest whole is p q =
    let all : whole ≡ p.front ++ (waiting ++ rest) = is ∙ ap (λ t. t ++ rest) p.rest ∙ append_assoc p.front waiting rest in
    let long = length-append p.front (waiting ++ rest) in
    let longer = length-append waiting rest in
    record {
      count = length p.front + q.count;
      within = rw (all, long, longer) (omega (arith, q.within));
      written = rw (all, take-append-add p.front (waiting ++ rest) q.count, take-append-le q.count waiting rest q.within)
          (Appends-trans a b c p.front (take q.count waiting) p.written q.written);
    }

none_more : (b : Option (List ℕ)) (waiting : List ℕ) → IsPrefixWritten b b waiting
none_more b waiting = record { count = 0; within = omega arith; written = Appends-nil b }

pub moved-none : (a b : Option (List ℕ)) (text waiting rest whole : List ℕ) → whole ≡ text ++ rest → IsMoved a b text waiting → IsPrefixWritten a b whole
moved-none a b text waiting rest whole is p = moved-prefix a b b text waiting rest whole is p (none_more b waiting)

-- the lines of the first entries, and those of the others
pub journal-parts : (h : List Entry) (i : ℕ) → journal_text h ≡ journal_text (take i h) ++ journal_text (drop i h)
journal-parts h i = ap journal_text (sym (take-append-drop i h)) ∙ flat_map-append entry_line (take i h) (drop i h)

-- one line more
pub journal_more : (h : List Entry) (i : ℕ) (e : Entry) → i < length h → e ≡ get_or h i e → journal_text (take (i + 1) h) ≡ journal_text (take i h) ++ entry_line e
journal_more h i e inside is = ap journal_text (taken h i e inside is) ∙ flat_map-append entry_line (take i h) (e ∷ []) ∙ ap (λ t. journal_text (take i h) ++ t) (append-nil (entry_line e))

pub on_err : {T E : Type 0} (P : Type 0) (r : Result T E) → P → OnErr r P
on_err P (Ok v) p = tt
on_err P (Err e) p = p

-- a prefix of what a slice has
pub slice-prefix : (a b : Option (List ℕ)) (slice items : List ℕ) → slice ≡ items → (n : ℕ) × (n ≤ length slice) × Appends a b (take n slice) → IsPrefixWritten a b items
slice-prefix a b slice items is p = rw (← is) (record { count = p.0; within = p.1; written = p.2 })
