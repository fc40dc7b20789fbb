-- Turns of a seat, one after the other.
use Rattle.std.proofs.Common.{◌≡◌, ℕ, List, [], ◌∷◌, ◌++◌, sym, refl, ap, ◌∙◌, subst, append_assoc, append-nil}
use Rattle.aps_model.specs.declared.entry.Entry.{Entry}
use Rattle.aps_core.specs.declared.turn.Turn.{Turn}
use Rattle.aps_core.specs.declared.turn.Turn.TheVariants.{Ended, NotYet, Took}
use Rattle.aps_core.specs.Run.{IsLater, Run}
use Rattle.aps_core.specs.Turn.{after_turn}
use Rattle.aps_model.specs.Seat.{own_entries}
use Rattle.aps_lock.specs.Seats.{DispatchData, HasCpu, IsSeatOf, IsSeatTurn, SeatData, taken}
use Rattle.aps_cpu.specs.Driven.{AreTurns, EndsWith, IsOnFrom, OwnGrewBy, taken_by}

abbrev with_entries : Run → List Entry → Run
with_entries run es = record run { entries = es }

pub later_self : (run : Run) → IsLater run run
later_self run = ([], ap (with_entries run) (sym (append-nil run.entries)))

later_by_turn : (run : Run) (turn : Turn) → IsLater run (after_turn run turn)
later_by_turn run (Took e) = (e ∷ [], refl)
later_by_turn run (NotYet cpu due) = later_self run
later_by_turn run (Ended end) = later_self run

pub later_trans : (a b c : Run) → IsLater a b → IsLater b c → IsLater a c
later_trans a b c p q = (p.0 ++ q.0, q.1 ∙ ap (λ (x : Run). with_entries x (x.entries ++ q.0)) p.1 ∙ ap (with_entries a) (append_assoc a.entries p.0 q.0))

pub on_trans : (s t u : SeatData) → IsOnFrom s t → IsOnFrom t u → IsOnFrom s u
on_trans s t u p q = record { table = q.table ∙ p.table; first = q.first ∙ p.first; last = q.last ∙ p.last; seen = later_trans s.seen t.seen u.seen p.seen q.seen }

pub on_turn : (s : SeatData) (cpu : ℕ) (turn : Turn) (t : SeatData) → IsSeatTurn s cpu turn t → IsOnFrom s t
on_turn s cpu turn t h =
    let found : Run = h.0 in record {
      table = ap (λ x. x.table) h.3;
      first = ap (λ x. x.first) h.3;
      last = ap (λ x. x.last) h.3;
      seen = subst (IsLater s.seen) (sym (ap (λ x. x.seen) h.3)) (later_trans s.seen found (after_turn found turn) (h.1.0, h.1.1) (later_by_turn found turn));
    }

-- a seat stays its dispatcher's
pub on_seat : (d : DispatchData) (s t : SeatData) → IsSeatOf d s → IsOnFrom s t → IsSeatOf d t
on_seat d s t h on = (on.table ∙ h.0, ap (λ run. run.setup) on.seen.1 ∙ h.1)

-- some turns of the seat lead from the one to the other
abbrev pub HasMade : SeatData → SeatData → Type 0
HasMade seat later = (turns : List (ℕ × Turn)) × AreTurns turns seat later × OwnGrewBy turns seat later

pub made_none : (s : SeatData) → HasMade s s
made_none s = ([], refl, sym (append-nil (own_entries s.first s.last s.seen.entries)))

own_grows : (turns : List (ℕ × Turn)) (s t u : SeatData) (cpu : ℕ) (turn : Turn) → OwnGrewBy turns s t → t.first ≡ s.first → t.last ≡ s.last
    → own_entries t.first t.last u.seen.entries ≡ own_entries t.first t.last t.seen.entries ++ taken turn
    → OwnGrewBy ((cpu, turn) ∷ turns) s u
own_grows turns s t u cpu turn so_far first last own =
    let here : own_entries s.first s.last u.seen.entries ≡ own_entries s.first s.last t.seen.entries ++ taken turn = subst (λ (x : ℕ × ℕ). own_entries x.0 x.1 u.seen.entries ≡ own_entries x.0 x.1 t.seen.entries ++ taken turn) (λ i. (first i, last i)) own in
    here ∙ ap (λ l. l ++ taken turn) so_far ∙ append_assoc (own_entries s.first s.last s.seen.entries) (taken_by turns) (taken turn)

-- one turn more, which gave this answer
pub made_one : (s t u : SeatData) (cpu : ℕ) (turn : Turn) → HasMade s t → IsOnFrom s t → HasCpu t cpu → IsSeatTurn t cpu turn u
    → own_entries t.first t.last u.seen.entries ≡ own_entries t.first t.last t.seen.entries ++ taken turn
    → EndsWith s turn u
made_one s t u cpu turn made on has turned own = (cpu, made.0, (t, made.1, has, turned), own_grows made.0 s t u cpu turn made.2 on.first on.last own)

pub made_more : (s t : SeatData) (turn : Turn) → EndsWith s turn t → HasMade s t
made_more s t turn ends = ((ends.0, turn) ∷ ends.1, ends.2, ends.3)
