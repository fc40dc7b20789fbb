-- The ready threads, as a row with a place for each thread.
use Rattle.std.proofs.Common.{◌≡◌, ◌≢◌, ℕ, zero, suc, ◌+◌, ◌<◌, ◌≤◌, Bool, true, false, cond, List, [], ◌∷◌, length, map, set, slice_set, slice_index_or, get_or, Option, Some, None, All, refl, sym, ◌∙◌, ap, subst, arith, inl, inr, length-set}
use Rattle.std.specs.List.{filter}
use Rattle.std.proofs.lemmas.Bool.{cases_eq}
use Rattle.std.proofs.lemmas.List.{map-set}
use Rattle.aps_model.specs.declared.merit.Contender.{Contender}
use Rattle.aps_ready.specs.Ready.{members, IsStampFree}
use Rattle.aps_live.specs.declared.thread.LiveThread.{LiveThread}
use Rattle.aps_live.specs.LiveState.{no_live_thread}
use Rattle.aps_live.specs.LiveStep.{is_waking}
use Rattle.aps_live.specs.Machine.{row_of, seat_of}

-- ---- one thread changes

pub row_set : (threads : List LiveThread) (x : ℕ) (t : LiveThread) → row_of (slice_set threads x t) ≡ slice_set (row_of threads) x (seat_of t)
row_set threads x t = map-set seat_of threads x t

pub seat_out : (t : LiveThread) → is_waking t.doing ≡ false → seat_of t ≡ None
seat_out t is = ap (λ b. cond b (Some t.contender) None) is

pub seat_in : (t : LiveThread) → is_waking t.doing ≡ true → seat_of t ≡ Some t.contender
seat_in t is = ap (λ b. cond b (Some t.contender) None) is

pub row_at : (threads : List LiveThread) (x : ℕ) → slice_index_or (row_of threads) x None ≡ seat_of (slice_index_or threads x no_live_thread)
row_at [] x = refl
row_at (t ∷ threads) zero = refl
row_at (t ∷ threads) (suc x) = row_at threads x

-- a place that is empty stays so
stays : (row : List (Option Contender)) (x : ℕ) → slice_index_or row x None ≡ None → slice_set row x None ≡ row
stays [] x e = refl
stays (o ∷ row) zero e = ap (λ p. p ∷ row) (sym e)
stays (o ∷ row) (suc x) e = ap (λ r. o ∷ r) (stays row x e)

-- a thread that wasn't ready and isn't
pub row_unready : (threads : List LiveThread) (x : ℕ) (t : LiveThread) → is_waking (slice_index_or threads x no_live_thread).doing ≡ false → is_waking t.doing ≡ false
    → row_of threads ≡ row_of (slice_set threads x t)
row_unready threads x t was is =
    sym (stays (row_of threads) x (row_at threads x ∙ seat_out (slice_index_or threads x no_live_thread) was))
    ∙ ap (slice_set (row_of threads) x) (sym (seat_out t is)) ∙ sym (row_set threads x t)

pub row_unseated : (threads : List LiveThread) (x : ℕ) (t : LiveThread) → is_waking t.doing ≡ false → slice_set (row_of threads) x None ≡ row_of (slice_set threads x t)
row_unseated threads x t is = ap (slice_set (row_of threads) x) (sym (seat_out t is)) ∙ sym (row_set threads x t)

pub row_seated : (threads : List LiveThread) (x : ℕ) (t : LiveThread) → is_waking t.doing ≡ true → t.contender.thread ≡ x
    → slice_set (row_of threads) x (Some (record { thread = x; facts = t.contender.facts; stamp = t.contender.stamp })) ≡ row_of (slice_set threads x t)
row_seated threads x t is number =
    ap (λ n. slice_set (row_of threads) x (Some (record { thread = n; facts = t.contender.facts; stamp = t.contender.stamp }))) (sym number)
    ∙ ap (slice_set (row_of threads) x) (sym (seat_in t is)) ∙ sym (row_set threads x t)

-- ---- the members of the row

pub members_of : (threads : List LiveThread) → members (row_of threads) ≡ map (λ (t : LiveThread). t.contender) (filter (λ (t : LiveThread). is_waking t.doing) threads)
members_of [] = refl
members_of (t ∷ threads) = by_test (is_waking t.doing) (members_of threads)
  where
    by_test : (b : Bool) → members (row_of threads) ≡ map (λ (u : LiveThread). u.contender) (filter (λ (u : LiveThread). is_waking u.doing) threads)
        → members (cond b (Some t.contender) None ∷ row_of threads)
        ≡ map (λ (u : LiveThread). u.contender) (cond b (t ∷ filter (λ (u : LiveThread). is_waking u.doing) threads) (filter (λ (u : LiveThread). is_waking u.doing) threads))
    by_test true rest = ap (λ cs. t.contender ∷ cs) rest
    by_test false rest = rest

-- the row of threads that wait
pub row_empty : (f : ℕ → LiveThread) (xs : List ℕ) → ((x : ℕ) → is_waking (f x).doing ≡ false) → row_of (map f xs) ≡ map (λ x. None) xs
row_empty f [] waits = refl
row_empty f (x ∷ xs) waits = ap (λ o. o ∷ row_of (map f xs)) (seat_out (f x) (waits x)) ∙ ap (λ r. None ∷ r) (row_empty f xs waits)

-- ---- stamps

-- no one who is ready has the stamp
pub free_row : (threads : List LiveThread) (stamp : ℕ)
    → ((y : ℕ) → y < length threads → is_waking (slice_index_or threads y no_live_thread).doing ≡ true → (slice_index_or threads y no_live_thread).contender.stamp ≢ stamp)
    → All (IsStampFree stamp) (row_of threads)
free_row [] stamp others = λ k d inside. absurd (omega (arith, inside))
free_row (t ∷ threads) stamp others = λ k d inside. by_place (free_row threads stamp (λ y below. others (suc y) (omega (arith, below)))) k d inside
  where
    here : (b : Bool) → is_waking t.doing ≡ b → IsStampFree stamp (cond b (Some t.contender) None)
    here true is = others 0 (omega arith) is
    here false is = tt

    by_place : All (IsStampFree stamp) (row_of threads) → (k : ℕ) (d : Option Contender) → k < length (row_of (t ∷ threads)) → IsStampFree stamp (get_or (row_of (t ∷ threads)) k d)
    by_place rest zero d inside = here (is_waking t.doing) refl
    by_place rest (suc k) d inside = rest k d (omega (arith, inside))
