-- A line has one newline, at its end: so lines count the entries, and columns start again behind each.
use lib.Chars.{codes}
use Rattle.std.proofs.Common.{◌≡◌, ℕ, suc, ◌+◌, ◌%◌, ◌^◌, ◌<◌, ◌≤◌, Bool, true, false, not, eqb, List, [], ◌∷◌, ◌++◌, length, Option, Some, None, fold, refl, sym, ap, ◌∙◌, arith}
use Rattle.std.specs.Prelude.{IfSome}
use Rattle.std.specs.Fmt.{decimal}
use Rattle.std.specs.List.{All, list_all, join_with_byte}
use Rattle.std.proofs.lemmas.Bool.{ne_eqb, and_parts, and_from, not-true}
use Rattle.std.proofs.lemmas.Fmt.{decimal_by_steps}
use Rattle.std.proofs.lemmas.List.Folds.{list_all-append}
use Rattle.std.proofs.lemmas.List.Sums.{fold-append}
use Rattle.std.proofs.lemmas.List.Elements.{All-head, All-tail}
use Rattle.aps_model.specs.declared.entry.Entry.{Entry}
use Rattle.aps_model.specs.declared.entry.Done.{Done}
use Rattle.aps_model.specs.declared.entry.Done.TheVariants.{Nothing, Run, Yield, SendBlocked, SendTo, ReceiveBlocked, ReceiveGot, ReceiveHolding, ReplyFreed, ReplyNoClient, Join, JoinNone, Priority, CriticalOn, CriticalOff, Repeat, Exit}
use Rattle.aps_model.specs.Journal.{option_text, done_text, thread_in, entry_line, journal_text, IsLine}
use Rattle.aps_model.specs.Limits.{last_cpu, last_partition, last_thread}
use Rattle.aps_text.specs.Place.{Place, next_place, place_after_bytes}
use Rattle.aps_text.proofs.Options.{mark_text}

-- ---- no newline

abbrev pub is_one_line : List ℕ → Bool
is_one_line bytes = list_all (λ c. not (eqb c 10)) bytes

one_line_both : (xs ys : List ℕ) → is_one_line xs ≡ true → is_one_line ys ≡ true → is_one_line (xs ++ ys) ≡ true
one_line_both xs ys e f = list_all-append (λ c. not (eqb c 10)) xs ys ∙ and_from (is_one_line xs) (is_one_line ys) e f

pub one_line_front : (xs ys : List ℕ) → is_one_line (xs ++ ys) ≡ true → is_one_line xs ≡ true
one_line_front xs ys e = (and_parts (is_one_line xs) (is_one_line ys) (sym (list_all-append (λ c. not (eqb c 10)) xs ys) ∙ e)).0

one_line_digit : (d : ℕ) → is_one_line ((48 + d) ∷ []) ≡ true
one_line_digit d = rw (ne_eqb (48 + d) 10 (λ e. omega arith)) refl

one_line_number : (n : ℕ) → n < 2 ^ 64 → is_one_line (decimal n) ≡ true
one_line_number n fits =
    decimal_by_steps (λ (n : ℕ) (ds : List ℕ). is_one_line ds ≡ true) (λ n small. one_line_digit n)
    (λ n ds large h. one_line_both ds ((48 + n % 10) ∷ []) h (one_line_digit (n % 10))) n fits

one_line_option : (o : Option ℕ) → IfSome o (λ n. n < 2 ^ 64) → is_one_line (option_text o) ≡ true
one_line_option None h = refl
one_line_option (Some n) h = one_line_number n h

one_line_mark : (b : Bool) → is_one_line (mark_text b) ≡ true
one_line_mark true = refl
one_line_mark false = refl

one_line_named : (word : List ℕ) (n : ℕ) → is_one_line word ≡ true → n ≤ last_thread → is_one_line (word ++ decimal n) ≡ true
one_line_named word n e within = one_line_both word (decimal n) e (one_line_number n (omega arith))

one_line_done : (done : Done) → IfSome (thread_in done) (λ x. x ≤ last_thread) → is_one_line (done_text done) ≡ true
one_line_done (SendTo n) h = one_line_named (codes "send:") n refl h
one_line_done (ReceiveGot n) h = one_line_named (codes "receive:") n refl h
one_line_done (ReceiveHolding n) h = one_line_named (codes "receive:holding:") n refl h
one_line_done (ReplyFreed n) h = one_line_named (codes "reply:") n refl h
one_line_done Nothing h = refl
one_line_done Run h = refl
one_line_done Yield h = refl
one_line_done SendBlocked h = refl
one_line_done ReceiveBlocked h = refl
one_line_done ReplyNoClient h = refl
one_line_done Join h = refl
one_line_done JoinNone h = refl
one_line_done Priority h = refl
one_line_done CriticalOn h = refl
one_line_done CriticalOff h = refl
one_line_done Repeat h = refl
one_line_done Exit h = refl

-- ---- a line's text without its newline

abbrev pub line_body : Entry → List ℕ
line_body e = join_with_byte 32 (
    decimal e.cpu ∷ decimal e.from ∷ decimal e.to ∷ option_text e.ran ∷ option_text e.billed ∷ mark_text e.critical
    ∷ done_text e.done ∷ option_text e.picked ∷ option_text e.starved ∷ option_text e.flagged ∷ [])

space_before : (xs ys : List ℕ) → is_one_line xs ≡ true → is_one_line ys ≡ true → is_one_line (xs ++ (32 ∷ ys)) ≡ true
space_before xs ys e f = one_line_both xs (32 ∷ ys) e f

small : (o : Option ℕ) (most : ℕ) → most < 2 ^ 64 → IfSome o (λ n. n ≤ most) → IfSome o (λ n. n < 2 ^ 64)
small None most fits h = tt
small (Some n) most fits h = omega arith

pub one_line_body : (e : Entry) → IsLine e → is_one_line (line_body e) ≡ true
one_line_body e h =
    space_before (decimal e.cpu) _ (one_line_number e.cpu (omega (arith, h.cpu)))
    (space_before (decimal e.from) _ (one_line_number e.from (omega (arith, h.from)))
    (space_before (decimal e.to) _ (one_line_number e.to (omega (arith, h.to)))
    (space_before (option_text e.ran) _ (one_line_option e.ran (small e.ran last_thread (omega arith) h.ran))
    (space_before (option_text e.billed) _ (one_line_option e.billed (small e.billed last_partition (omega arith) h.billed))
    (space_before (mark_text e.critical) _ (one_line_mark e.critical)
    (space_before (done_text e.done) _ (one_line_done e.done h.done)
    (space_before (option_text e.picked) _ (one_line_option e.picked (small e.picked last_thread (omega arith) h.picked))
    (space_before (option_text e.starved) (option_text e.flagged) (one_line_option e.starved (small e.starved last_partition (omega arith) h.starved))
    (one_line_option e.flagged (small e.flagged last_cpu (omega arith) h.flagged))))))))))

pub line_is : (e : Entry) → entry_line e ≡ line_body e ++ 10 ∷ []
line_is e = refl

-- ---- places

same_place : (line column other : ℕ) → column ≡ other → (λ (p : Place). p) (record { line = line; column = column }) ≡ record { line = line; column = other }
same_place line column other e = rw e refl

same_line : (line other : ℕ) → line ≡ other → (λ (p : Place). p) (record { line = line; column = 1 }) ≡ record { line = other; column = 1 }
same_line line other e = rw e refl

along : (bytes : List ℕ) (here : Place) → is_one_line bytes ≡ true → fold next_place here bytes ≡ record { line = here.line; column = here.column + length bytes }
along [] here e = same_place here.line here.column (here.column + 0) (omega arith)
along (c ∷ cs) here e =
    let parts = and_parts (not (eqb c 10)) (is_one_line cs) e in
    let step : next_place here c ≡ record { line = here.line; column = here.column + 1 } = rw (not-true (eqb c 10) parts.0) refl in
    ap (λ (p : Place). fold next_place p cs) step ∙ along cs (record { line = here.line; column = here.column + 1 }) parts.1 ∙ same_place here.line (here.column + 1 + length cs) (here.column + suc (length cs)) (omega arith)

over_line : (e : Entry) (line : ℕ) → IsLine e → fold next_place (record { line = line; column = 1 }) (entry_line e) ≡ record { line = line + 1; column = 1 }
over_line e line h =
    let start : Place = record { line = line; column = 1 } in
    fold-append next_place start (line_body e) (10 ∷ []) ∙ ap (λ (p : Place). next_place p 10) (along (line_body e) start (one_line_body e h))

over_lines : (es : List Entry) (line : ℕ) → All IsLine es → fold next_place (record { line = line; column = 1 }) (journal_text es) ≡ record { line = line + length es; column = 1 }
over_lines [] line h = same_line line (line + 0) (omega arith)
over_lines (e ∷ es) line h =
    let start : Place = record { line = line; column = 1 } in
    fold-append next_place start (entry_line e) (journal_text es) ∙ ap (λ (p : Place). fold next_place p (journal_text es)) (over_line e line (All-head IsLine e es h))
    ∙ over_lines es (line + 1) (All-tail IsLine e es h) ∙ same_line (line + 1 + length es) (line + suc (length es)) (omega arith)

-- behind these lines and a part of the next
pub place_behind : (es : List Entry) (front : List ℕ) → All IsLine es → is_one_line front ≡ true → place_after_bytes (journal_text es ++ front) ≡ record { line = 1 + length es; column = 1 + length front }
place_behind es front h e =
    let start : Place = record { line = 1; column = 1 } in
    fold-append next_place start (journal_text es) front ∙ ap (λ (p : Place). fold next_place p front) (over_lines es 1 h) ∙ along front (record { line = 1 + length es; column = 1 }) e
