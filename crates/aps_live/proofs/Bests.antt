-- The greatest candidate is a ready thread.
use Rattle.std.proofs.Common.{◌≡◌, ℕ, zero, suc, ◌+◌, ◌<◌, Bool, true, false, cond, List, [], ◌∷◌, length, map, slice_index_or, Option, Some, None, refl, sym, ◌∙◌, ap, subst, arith, inl, inr}
use Rattle.std.specs.List.{Contains, filter}
use Rattle.std.specs.Option.{option_map}
use Rattle.aps_model.specs.declared.merit.Contender.{Contender}
use Rattle.aps_model.specs.declared.merit.PartFacts.{PartFacts}
use Rattle.aps_model.specs.declared.shape.Free.{Free}
use Rattle.aps_model.specs.Budget.{part_at}
use Rattle.aps_model.specs.Merit.{is_candidate}
use Rattle.aps_model.specs.Pick.{candidates, greatest}
use Rattle.aps_model.proofs.GreatestLaws.{greatest-is}
use Rattle.aps_live.specs.declared.thread.LiveThread.{LiveThread}
use Rattle.aps_live.specs.declared.thread.Doing.{Doing}
use Rattle.aps_live.specs.declared.thread.Doing.TheVariants.{Waiting, Ready, Running}
use Rattle.aps_live.specs.LiveState.{no_live_thread}
use Rattle.aps_live.specs.LiveStep.{is_waking}
use Rattle.aps_live.specs.Machine.{AreNumbered, IsReadyAmong}

abbrev waking : List LiveThread → List Contender
waking threads = map (λ (t : LiveThread). t.contender) (filter (λ (t : LiveThread). is_waking t.doing) threads)

-- where the contender stands among the threads
pub record Stands (threads : List LiveThread) (c : Contender) : Type 0 where
  pub place : ℕ
  pub within : place < length threads
  pub is : (slice_index_or threads place no_live_thread).contender ≡ c
  pub ready : is_waking (slice_index_or threads place no_live_thread).doing ≡ true

later : (t : LiveThread) (threads : List LiveThread) (c : Contender) → Stands threads c → Stands (t ∷ threads) c
later t threads c s = record { place = suc s.place; within = omega (arith, s.within); is = s.is; ready = s.ready }

pub stands : (parts : List PartFacts) (threads : List LiveThread) (c : Contender) → Contains (candidates parts (waking threads)) c → Stands threads c
stands parts [] c (k, within, is) = absurd (omega (arith, within))
stands parts (t ∷ threads) c among = by_waking (is_waking t.doing) refl (λ found. later t threads c (stands parts threads c found)) among
  where
    by_candidate : (b : Bool) → is_waking t.doing ≡ true → (Contains (candidates parts (waking threads)) c → Stands (t ∷ threads) c)
        → Contains (cond b (t.contender ∷ candidates parts (waking threads)) (candidates parts (waking threads))) c → Stands (t ∷ threads) c
    by_candidate true h rest (zero, within, is) = record { place = 0; within = omega arith; is = is; ready = h }
    by_candidate true h rest (suc k, within, is) = rest (k, omega (arith, within), is)
    by_candidate false h rest found = rest found

    by_waking : (b : Bool) → is_waking t.doing ≡ b → (Contains (candidates parts (waking threads)) c → Stands (t ∷ threads) c)
        → Contains (candidates parts (map (λ (u : LiveThread). u.contender) (cond b (t ∷ filter (λ (u : LiveThread). is_waking u.doing) threads) (filter (λ (u : LiveThread). is_waking u.doing) threads)))) c → Stands (t ∷ threads) c
    by_waking true h rest found = by_candidate (is_candidate t.contender.facts (part_at parts t.contender.facts.partition)) h rest found
    by_waking false h rest found = rest found

is_ready : (d : Doing) → is_waking d ≡ true → d ≡ Ready
is_ready Waiting e = absurd cc
is_ready Ready e = refl
is_ready (Running c) e = absurd cc

pub ready_best : (free : Free) (parts : List PartFacts) (threads : List LiveThread) (stamps : ℕ) (best : Contender) → AreNumbered threads stamps → greatest free parts (waking threads) ≡ Some best → IsReadyAmong threads best
ready_best free parts threads stamps best m is =
    let s = stands parts threads best (greatest-is free parts (waking threads) best is).candidate in
    let place : s.place ≡ best.thread = sym (m.numbered s.place s.within) ∙ ap (λ (c : Contender). c.thread) s.is in
    record {
      inside = subst (λ z. z < length threads) place s.within;
      ready = ap (λ z. (slice_index_or threads z no_live_thread).doing) (sym place) ∙ is_ready _ s.ready;
      itself = ap (λ z. (slice_index_or threads z no_live_thread).contender) (sym place) ∙ s.is;
    }

-- the one of this number
pub best_of : (free : Free) (parts : List PartFacts) (threads : List LiveThread) (stamps x : ℕ) → AreNumbered threads stamps
    → Some x ≡ option_map (λ (c : Contender). c.thread) (greatest free parts (waking threads))
    → (Some (slice_index_or threads x no_live_thread).contender ≡ greatest free parts (waking threads)) × IsReadyAmong threads (slice_index_or threads x no_live_thread).contender × (x < length threads)
best_of free parts threads stamps x m is = by_best (greatest free parts (waking threads)) refl is
  where
    some_same : (a b : ℕ) → Some a ≡ Some b → a ≡ b
    some_same a b e = cc

    by_best : (o : Option Contender) → greatest free parts (waking threads) ≡ o → Some x ≡ option_map (λ (c : Contender). c.thread) o
        → (Some (slice_index_or threads x no_live_thread).contender ≡ o) × IsReadyAmong threads (slice_index_or threads x no_live_thread).contender × (x < length threads)
    by_best None e h = absurd cc
    by_best (Some b) e h =
        let r = ready_best free parts threads stamps b m e in
        let number : x ≡ b.thread = some_same x b.thread h in
        let same : (slice_index_or threads x no_live_thread).contender ≡ b = ap (λ z. (slice_index_or threads z no_live_thread).contender) number ∙ r.itself in
        (ap (λ (k : Contender). Some k) same, subst (λ (k : Contender). IsReadyAmong threads k) (sym same) r, omega (arith, number, r.inside))

pub best_none : (free : Free) (parts : List PartFacts) (threads : List LiveThread) → None ≡ option_map (λ (c : Contender). c.thread) (greatest free parts (waking threads)) → None ≡ greatest free parts (waking threads)
best_none free parts threads is = by_best (greatest free parts (waking threads)) is
  where
    by_best : (o : Option Contender) → None ≡ option_map (λ (c : Contender). c.thread) o → None ≡ o
    by_best None h = refl
    by_best (Some b) h = absurd cc
