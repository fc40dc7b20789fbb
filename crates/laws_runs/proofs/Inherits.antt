-- The ranges of inherited values, and whose values a triple changes.
use Rattle.std.proofs.Common.{◌≡◌, ℕ, zero, suc, ◌<◌, ◌≤◌, max, List, [], ◌∷◌, map, length, refl, sym, subst, Bool, true, false, cond, nat_eq, Option, Some, None, slice_index_or, arith}
use Rattle.std.specs.Prelude.{unwrap_or, All}
use Rattle.std.specs.List.{fold}
use Rattle.aps_model.specs.Limits.{greatest_priority}
use Rattle.laws_runs.specs.Ids.{AreFactsFit}
use Rattle.aps_model.specs.Inherit.{Inheritance, facts_of, follow, inheritance_of, top_at, top_of}
use Rattle.aps_model.specs.SchedulerState.{ChannelNow, Message, SchedulerState, Triple, channel_at, no_channel, no_facts, thread_at}
use Rattle.laws_runs.proofs.Chains.{own_at}

-- ---- lists whose elements all have a property

pub all_head : {X : Type 0} (P : X → Type 0) (x : X) (xs : List X) → All P (x ∷ xs) → P x
all_head P x xs each = each 0 x (omega arith)

pub all_tail : {X : Type 0} (P : X → Type 0) (x : X) (xs : List X) → All P (x ∷ xs) → All P xs
all_tail P x xs each k d below = each (suc k) d (omega arith)

pub all_more : {X : Type 0} (P Q : X → Type 0) (xs : List X) → ((x : X) → P x → Q x) → All P xs → All Q xs
all_more P Q xs f each k d below = f (slice_index_or xs k d) (each k d below)

pub all_both : {X : Type 0} (P Q R : X → Type 0) (xs : List X) → ((x : X) → P x → Q x → R x) → All P xs → All Q xs → All R xs
all_both P Q R xs f a b k d below = f (slice_index_or xs k d) (a k d below) (b k d below)

-- ---- ranges

-- where each own value has its range and no channel has a high priority, so has what a chain leads to
follow_fits : (i : Inheritance) (n rows : ℕ) (ts : List Triple) (x priority : ℕ) → ((y : ℕ) → y < n → AreFactsFit rows (slice_index_or i.own y no_facts)) → ((d : ℕ) → top_at i.tops d ≤ greatest_priority) → All (λ (t : Triple). t.client < n) ts
    → x < n → priority ≤ greatest_priority → AreFactsFit rows (follow i ts x priority)
follow_fits i n rows [] x priority own tops clients below small =
    let f = own x below in
    let a = f.priority.some in
    let b = f.priority.few in
    record { partition = f.partition; priority = record { some = omega (arith, a); few = omega (arith, b, small) } }
follow_fits i n rows (t ∷ older) x priority own tops clients below small =
    by_test (nat_eq t.server x) (λ y p inside few. follow_fits i n rows older y p own tops (all_tail (λ (t : Triple). t.client < n) t older clients) inside few)
  where
    by_test : (is : Bool) → ((y p : ℕ) → y < n → p ≤ greatest_priority → AreFactsFit rows (follow i older y p)) → AreFactsFit rows (follow i older (cond is t.client x) (cond is (max priority (top_at i.tops t.channel)) priority))
    by_test true f = let top = tops t.channel in f t.client (max priority (top_at i.tops t.channel)) (all_head (λ (t : Triple). t.client < n) t older clients) (omega (arith, top, small))
    by_test false f = f x priority below small

top_small : (ms : List Message) (best : Option ℕ) → All (λ (m : Message). m.priority ≤ greatest_priority) ms → unwrap_or best 0 ≤ greatest_priority → unwrap_or (fold (λ best (m : Message). Some (max m.priority (unwrap_or best 0))) best ms) 0 ≤ greatest_priority
top_small [] best each small = small
top_small (m ∷ ms) best each small = let a = all_head (λ (m : Message). m.priority ≤ greatest_priority) m ms each in top_small ms (Some (max m.priority (unwrap_or best 0))) (all_tail (λ (m : Message). m.priority ≤ greatest_priority) m ms each) (omega (arith, a, small))

tops_at : (cs : List ChannelNow) (d : ℕ) → slice_index_or (map (λ (c : ChannelNow). top_of c.messages) cs) d None ≡ top_of (slice_index_or cs d no_channel).messages
tops_at [] d = refl
tops_at (c ∷ cs) zero = refl
tops_at (c ∷ cs) (suc d) = tops_at cs d

pub facts_fit : (s : SchedulerState) (rows x : ℕ) → ((y : ℕ) → y < length s.threads → AreFactsFit rows (thread_at s y).own) → ((d : ℕ) → All (λ (m : Message). m.priority ≤ greatest_priority) (channel_at s d).messages)
    → All (λ (t : Triple). t.client < length s.threads) s.triples → x < length s.threads → AreFactsFit rows (facts_of s x)
facts_fit s rows x own messages clients below =
    follow_fits (inheritance_of s) (length s.threads) rows s.triples x 0
    (λ y inside. subst (AreFactsFit rows) (sym (own_at s.threads y)) (own y inside))
    (λ d. subst (λ o. unwrap_or o 0 ≤ greatest_priority) (sym (tops_at s.channels d)) (top_small (channel_at s d).messages None (messages d) (omega arith)))
    clients below (omega arith)
