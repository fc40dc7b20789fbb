-- The own entries of a seat: nothing comes of its processors but by its turns.
use Rattle.std.proofs.Common.{◌≡◌, ℕ, ◌+◌, ◌≤◌, true, false, ◌&&◌, nat_le, if◌then◌else◌, List, [], ◌∷◌, ◌++◌, refl, ap, ◌∙◌, append-nil, arith}
use Rattle.std.proofs.lemmas.List.Elements.{filter-append}
use Rattle.std.proofs.lemmas.Bool.Decides.{nat_tests}
use Rattle.aps_seats.specs.Log.{Log}
use Rattle.aps_seats.specs.Own.{own_in_log}
use Rattle.aps_seats.specs.Seen.{AreOfOthers, IsOutside, IsSeenIn}
use Rattle.aps_seats.proofs.Others.{seen_list}

skips : (first last cpu : ℕ) → IsOutside first (last + 1) cpu → (nat_le first cpu && nat_le cpu last) ≡ false
skips first last cpu out = grind (arith, nat_tests)

keeps : (first last cpu : ℕ) → first ≤ cpu → cpu ≤ last → (nat_le first cpu && nat_le cpu last) ≡ true
keeps first last cpu low high = grind (arith, nat_tests)

module _ {Run : Type 0} (log : Log Run) where
  own_of_others : (first last cpus : ℕ) (es : List log.Entry) → AreOfOthers log first (last + 1) cpus es → own_in_log log first last es ≡ []
  own_of_others first last cpus [] h = refl
  own_of_others first last cpus (e ∷ es) h = rw (skips first last (log.cpu_of e) h.0) (own_of_others first last cpus es h.2)

  own-append : (first last : ℕ) (xs ys : List log.Entry) → own_in_log log first last (xs ++ ys) ≡ own_in_log log first last xs ++ own_in_log log first last ys
  own-append first last = filter-append (λ (e : log.Entry). nat_le first (log.cpu_of e) && nat_le (log.cpu_of e) last)

  -- what has come since the seat looked is of others
  pub seen_own : (first last : ℕ) (seen run : Run) → IsSeenIn log first (last + 1) seen run → own_in_log log first last (log.entries_of run) ≡ own_in_log log first last (log.entries_of seen)
  seen_own first last seen run h =
      ap (own_in_log log first last) (seen_list log first (last + 1) seen run h)
      ∙ own-append first last (log.entries_of seen) h.0
      ∙ ap (λ l. own_in_log log first last (log.entries_of seen) ++ l) (own_of_others first last _ h.0 h.2)
      ∙ append-nil (own_in_log log first last (log.entries_of seen))

  -- an entry of one of these processors is added to theirs
  pub own_one : (first last : ℕ) (es : List log.Entry) (e : log.Entry) → first ≤ log.cpu_of e → log.cpu_of e ≤ last → own_in_log log first last (es ++ e ∷ []) ≡ own_in_log log first last es ++ e ∷ []
  own_one first last es e low high =
      own-append first last es (e ∷ []) ∙ ap (λ b. own_in_log log first last es ++ (if b then e ∷ [] else [])) (keeps first last (log.cpu_of e) low high)
