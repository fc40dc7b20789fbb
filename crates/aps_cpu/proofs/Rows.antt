-- Seats in a row.
use Rattle.std.proofs.Common.{◌≡◌, ℕ, zero, suc, ◌+◌, ◌<◌, Bool, true, false, nat_le, if◌then◌else◌, List, [], ◌∷◌, ◌++◌, take, drop, length, slice_index_or, sym, refl, ap, ◌∙◌, subst, arith}
use Rattle.std.proofs.lemmas.Grind.{common_steps}
use Rattle.aps_core.specs.Run.{IsLater, Run}
use Rattle.aps_lock.specs.Seats.{DispatchData, IsSeatOf, SeatData}
use Rattle.aps_lock.specs.RunLog.{run_log}
use Rattle.aps_seats.specs.Seen.{longer}
use Rattle.aps_cpu.specs.Driven.{IsOnFrom}
use Rattle.aps_cpu.specs.Row.{HasSeenFrom, IsFresh, IsDrivable, AreSeatsInRow}
use Rattle.aps_cpu.proofs.Turns.{later_self, later_trans, on_seat}

-- one seat more, below the others
pub row_more : (d : DispatchData) (holds : SeatData → Type 0) (ss : List SeatData) (end first : ℕ) (s : SeatData) → AreSeatsInRow d holds ss end first → IsSeatOf d s → holds s → s.last + 1 ≡ first → AreSeatsInRow d holds (ss ++ s ∷ []) end s.first
row_more d holds [] end first s row of it last = ((of, it), last ∙ sym row, refl)
row_more d holds (x ∷ ss) end first s row of it last = (row.0, row.1, row_more d holds ss x.first first s row.2 of it last)

-- the row without its lowest seat, and what holds of that
pub row_less : (d : DispatchData) (holds : SeatData → Type 0) (ss : List SeatData) (end first : ℕ) (s : SeatData) → AreSeatsInRow d holds (ss ++ s ∷ []) end first → AreSeatsInRow d holds ss end (s.last + 1) × (IsSeatOf d s × holds s) × (s.first ≡ first)
row_less d holds [] end first s row = (sym row.1, row.0, row.2)
row_less d holds (x ∷ ss) end first s row = let less = row_less d holds ss x.first first s row.2 in ((row.0, row.1, less.0), less.1, less.2)

pub row_ready : (d : DispatchData) (run : Run) (ss : List SeatData) (end first : ℕ) → AreSeatsInRow d (IsFresh run) ss end first → (k : ℕ) (s : SeatData) → k < length ss → IsDrivable d (slice_index_or ss k s)
row_ready d run [] end first row k s l = absurd (omega arith)
row_ready d run (x ∷ ss) end first row zero s l = (row.0.0, row.0.1.0)
row_ready d run (x ∷ ss) end first row (suc k) s l = row_ready d run ss x.first first row.2 k s (omega arith)

-- the row after each of its seats was driven
pub row_driven : (d : DispatchData) (run : Run) (ss ts : List SeatData) (end first : ℕ) → length ts ≡ length ss → ((i : ℕ) (s : SeatData) → i < length ss → IsOnFrom (slice_index_or ss i s) (slice_index_or ts i s))
    → AreSeatsInRow d (IsFresh run) ss end first → AreSeatsInRow d (HasSeenFrom run) ts end first
row_driven d run [] [] end first len each row = row
row_driven d run [] (t ∷ ts) end first len each row = absurd (omega arith)
row_driven d run (s ∷ ss) [] end first len each row = absurd (omega arith)
row_driven d run (s ∷ ss) (t ∷ ts) end first len each row =
    let on = each 0 s (omega arith) in (
      (on_seat d s t row.0.0 on, later_trans run s.seen t.seen row.0.1.1 on.seen),
      ap (λ (n : ℕ). n + 1) on.last ∙ row.1,
      subst (λ (n : ℕ). AreSeatsInRow d (HasSeenFrom run) ts n first) (sym on.first) (row_driven d run ss ts s.first first (omega arith) (λ i z l. each (suc i) z (omega arith)) row.2),
    )

pub later_longer : (run a b : Run) → IsLater run a → IsLater run b → IsLater run (longer run_log a b)
later_longer run a b p q = one (nat_le (length b.entries) (length a.entries))
  where
    one : (t : Bool) → IsLater run (if t then a else b)
    one true = p
    one false = q

pub fresh : (run : Run) (s : SeatData) → s.seen ≡ run → s.waited ≡ 0 → IsFresh run s
fresh run s seen waited = (waited, subst (IsLater run) (sym seen) (later_self run))

pub whole_slice : (n : ℕ) (ys xs : List SeatData) → length ys ≡ length xs → n ≡ length xs → take n (ys ++ drop (length ys) xs) ≡ ys
whole_slice n ys xs e f = grind (arith, common_steps)
