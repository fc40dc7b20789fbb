use Rattle.std.proofs.Common.{◌≡◌, ◌≢◌, ◌⊎◌, inl, inr, ℕ, ◌<◌, ◌≤◌, Bool, false, cond, nat_lt, List, length, map, get_or, Option, Some, None, refl, sym, ◌∙◌, ap, subst, arith}
use Rattle.std.proofs.lemmas.Bool.Decides.{nat_tests}
use Rattle.std.proofs.lemmas.List.{length-map}
use Rattle.aps_model.specs.declared.shape.Free.{Free}
use Rattle.aps_model.specs.declared.merit.PartFacts.{PartFacts}
use Rattle.aps_model.specs.declared.merit.Contender.{Contender}
use Rattle.aps_model.specs.Limits.{last_thread}
use Rattle.aps_model.specs.Pick.{greatest}
use Rattle.aps_ready.specs.declared.entrant.Entrant.{Entrant}
use Rattle.aps_ready.specs.Ready.{members, entrant_contender, entrant_seat, HasThreads, IsQueued}
use Rattle.aps_ready.specs.Winner.{IsWinner}
use Rattle.aps_ready.proofs.Queued.{seat_in}
use Rattle.aps_ready.proofs.Winner.{best_is_greatest, none_is_greatest, place_by, thread_small}
use Rattle.aps_ready.specs.Group.{group_count}

pub nobody_seen : (e : Entrant) → group_count ≤ e.group → entrant_seat e ≡ None
nobody_seen e none = ap (λ (t : Bool). cond t (Some (entrant_contender e)) None) (not_less e.group group_count none)
  where
    not_less : (a b : ℕ) → b ≤ a → nat_lt a b ≡ false
    not_less a b h = grind (arith, nat_tests)

-- the winner is the greatest candidate
pub winner_is : (free : Free) (parts : List PartFacts) (row : List Entrant) (best : Entrant) → IsQueued row → IsWinner free parts row best
    → entrant_seat best ≡ greatest free parts (members (map entrant_seat row))
winner_is free parts row best queued is_winner = elim (below_or_not best.group group_count) [
  | inl g ↦ seat_in best g ∙ sym (best_is_greatest free parts row best queued is_winner g)
  | inr none ↦ nobody_seen best none ∙ sym (none_is_greatest free parts row best is_winner (λ g. omega (arith, g, none)))
]
  where
    below_or_not : (a b : ℕ) → (a < b) ⊎ (b ≤ a)
    below_or_not a b = search arith

-- ---- who is the greatest of all, and where

pub record IsGreatestOf (free : Free) (parts : List PartFacts) (seats : List (Option Contender)) (e : Entrant) : Type 0 where
  pub is : entrant_seat e ≡ greatest free parts (members seats)
  pub few : e.group < group_count → e.thread ≤ last_thread
  pub inside : e.group < group_count → e.thread < length seats
  pub present : e.group < group_count → get_or seats e.thread None ≢ None

pub greatest_by : (free : Free) (parts : List PartFacts) (row : List Entrant) (e : Entrant) (seats : List (Option Contender)) → HasThreads row
    → IsQueued row → map entrant_seat row ≡ seats → IsWinner free parts row e → IsGreatestOf free parts seats e
greatest_by free parts row e seats few queued view is_winner = record {
  is = winner_is free parts row e queued is_winner ∙ ap (λ (l : List (Option Contender)). greatest free parts (members l)) view;
  few = λ g. thread_small row e few queued (is_winner.sits g) g;
  inside = λ g. omega (arith, (place_by row e e.thread queued (is_winner.sits g) g refl).within, length-map row entrant_seat, ap length view);
  present = λ g.
      subst (λ (l : List (Option Contender)). get_or l e.thread None ≢ None) view (place_by row e e.thread queued (is_winner.sits g) g refl).present;
}
