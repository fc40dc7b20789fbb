-- How the entries of a legal history lie to the beginnings of ticks.
use Rattle.std.proofs.Common.{◌≡◌, ℕ, ◌/◌, ◌+◌, ◌*◌, ◌<◌, ◌≤◌, List, [], ◌∷◌, ◌++◌, true, false, ◌&&◌, length, take, drop, get_or, nat_eq, nat_lt, Option, Some, None, All, refl, sym, ap, subst, ◌∙◌, inl, inr, arith, length-drop}
use Rattle.std.specs.Prelude.{unwrap_or}
use Rattle.std.proofs.lemmas.Bool.{and_parts, cases_lt, eqb-true}
use Rattle.std.proofs.lemmas.Bool.Decides.{nat_tests}
use Rattle.std.proofs.lemmas.List.{get_or-drop, get_or-take, length-take-le}
use Rattle.std.proofs.lemmas.List.Folds.{Any-from_list_any}
use Rattle.aps_model.specs.declared.entry.Entry.{Entry}
use Rattle.aps_model.specs.declared.entry.Order.{Order}
use Rattle.aps_model.specs.Due.{last_end, last_to, next_boundary}
use Rattle.aps_model.specs.History.{IsEntry}
use Rattle.aps_model.specs.Legal.{IsLegal}
use Rattle.aps_model.specs.Loaded.{finished_ticks}
use Rattle.aps_model.specs.Scenario.{Scenario}
use Rattle.aps_model.specs.Valid.{IsScenario}
use Rattle.laws_runs.specs.Boundaries.{steps_at}
use Rattle.laws_runs.proofs.BoundaryLaws.{boundaries, entries_fit, latest}
use Rattle.laws_runs.proofs.MomentLaws.{moment-append}
use Rattle.laws_runs.proofs.Prefixes.{legal_up_to}
use Rattle.laws_runs.proofs.Sound.{sound}
use Rattle.laws_runs.proofs.Words.{tiled}
use Rattle.laws_bounds.proofs.Finished.{finished_end}
use Rattle.aps_window.specs.Entries.{IsInOneTick}
use Rattle.view_samples.specs.Pass.{IsCut, RunsIn, entry_at, is_before, no_entry}
use Rattle.view_samples.proofs.Fill.{same_read}
use Rattle.view_replay.proofs.Retraced.{one_more, parted}

-- ---- single entries

-- the history up to and with an entry is legal
pub legal_to : (scenario : Scenario) (order : Order) (h : List Entry) (i : ℕ) → IsLegal scenario order h → i < length h → IsLegal scenario order (take i h ++ entry_at h i ∷ [])
legal_to scenario order h i legal less =
    legal_up_to scenario order (take i h) (drop (i + 1) h) (entry_at h i) (subst (IsLegal scenario order) (parted h i (entry_at h i) less (same_read h i (entry_at h i) no_entry less)) legal)

pub one_longer : (h : List Entry) (i : ℕ) → i < length h → take (i + 1) h ≡ take i h ++ entry_at h i ∷ []
one_longer h i less = one_more h i (entry_at h i) less (same_read h i (entry_at h i) no_entry less)

-- it crosses no boundary
pub in_one_tick : (scenario : Scenario) (order : Order) (h : List Entry) (i : ℕ) → IsScenario scenario → IsLegal scenario order h → i < length h → IsInOneTick scenario.shape.tick (entry_at h i)
in_one_tick scenario order h i valid legal less =
    (tiled scenario order h valid legal (take i h) (drop (i + 1) h) (entry_at h i) (parted h i (entry_at h i) less (same_read h i (entry_at h i) no_entry less))).within

pub entry_fits : (scenario : Scenario) (order : Order) (h : List Entry) (i : ℕ) → IsScenario scenario → IsLegal scenario order h → i < length h → IsEntry (entry_at h i)
entry_fits scenario order h i valid legal less = entries_fit scenario order h valid legal i no_entry less

-- entries end one after the other
pub rises : (scenario : Scenario) (order : Order) (h : List Entry) (i k : ℕ) → IsScenario scenario → IsLegal scenario order h → i ≤ k → k < length h → (entry_at h i).to ≤ (entry_at h k).to
rises scenario order h i k valid legal le less =
    let now = moment-append (take k h) (entry_at h k) in
    let count : i < length (take (k + 1) h) = let n = length-take-le (k + 1) h (omega (arith, less)) in omega (arith, n, le) in
    let all = latest scenario order (take k h ++ entry_at h k ∷ []) valid (legal_to scenario order h k legal less) i no_entry (subst (λ (g : List Entry). i < length g) (one_longer h k less) count) in
    let read : get_or (take k h ++ entry_at h k ∷ []) i no_entry ≡ entry_at h i =
    ap (λ (g : List Entry). get_or g i no_entry) (sym (one_longer h k less)) ∙ get_or-take (k + 1) h i no_entry (omega (arith, le)) in
    let same = ap (λ (e : Entry). e.to) read in
    omega (arith, all, now, same)

-- ---- cuts

-- it is cut where the first entry is found that doesn't end before the bound
pub cut_at : (scenario : Scenario) (order : Order) (h : List Entry) (bound i : ℕ) → IsScenario scenario → IsLegal scenario order h → i ≤ length h → is_before h i bound ≡ false
    → ((k : ℕ) → k < i → (entry_at h k).to < bound) → IsCut h bound i
cut_at scenario order h bound i valid legal le none past = record {
  past = past;
  later = λ k from less.
      let rise = rises scenario order h i k valid legal from less in
      let here = not_before i (length h) (entry_at h i).to none in
      let at = here (omega (arith, from, less)) in
      omega (arith, rise, at);
}
  where
    not_before : (i n to : ℕ) → (nat_lt i n && nat_lt to bound) ≡ false → i < n → bound ≤ to
    not_before i n to none less = grind (arith, nat_tests)

pub is_there : (h : List Entry) (i bound : ℕ) → is_before h i bound ≡ true → (i < length h) × ((entry_at h i).to < bound)
is_there h i bound is =
    let parts = and_parts (nat_lt i (length h)) (nat_lt (entry_at h i).to bound) is in
    (less i (length h) parts.0, less (entry_at h i).to bound parts.1)
  where
    less : (a b : ℕ) → nat_lt a b ≡ true → a < b
    less a b is = grind (arith, nat_tests)

some_before : (h : List Entry) (i bound : ℕ) → i < length h → (entry_at h i).to < bound → is_before h i bound ≡ true
some_before h i bound less early = both i (length h) (entry_at h i).to less early
  where
    both : (i n to : ℕ) → i < n → to < bound → (nat_lt i n && nat_lt to bound) ≡ true
    both i n to less early = grind (arith, nat_tests)

-- an entry that ends at the bound isn't past
pub cut_same : (h : List Entry) (a b i : ℕ) → a ≡ b → IsCut h a i → IsCut h b i
cut_same h a b i is cut = subst (λ n. IsCut h n i) is cut

-- ---- boundaries

-- the tick of what takes time and ends in a tick or with it
tick_of : (tick j from to : ℕ) → 0 < tick → j * tick < to → to ≤ (j + 1) * tick → from < to → to ≤ next_boundary tick from → from / tick ≡ j
tick_of tick j from to pos low high some short = search (arith)

pub runs_after : (scenario : Scenario) (order : Order) (h : List Entry) (i bound j : ℕ) → IsScenario scenario → IsLegal scenario order h → bound ≤ (j + 1) * scenario.shape.tick + 1
    → ((k : ℕ) → i ≤ k → k < length h → j * scenario.shape.tick < (entry_at h k).to) → RunsIn scenario.shape.tick h i bound j
runs_after scenario order h i bound j valid legal short low = λ k from less early some.
    let long = valid.shape.tick_long in
    tick_of scenario.shape.tick j (entry_at h k).from (entry_at h k).to (omega (arith, long)) (low k from less) (omega (arith, early, short)) some (in_one_tick scenario order h k valid legal less)

-- what ends later than a tick begins later
begins_late : (tick j from to : ℕ) → 0 < tick → (j + 1) * tick < to → to ≤ next_boundary tick from → (j + 1) * tick ≤ from
begins_late tick j from to pos low short = search (arith)

-- each processor that has passed a boundary stepped there; so where it is finished, some entry ends there
pub meets : (scenario : Scenario) (order : Order) (h : List Entry) (j i : ℕ) → IsScenario scenario → IsLegal scenario order h → j ≤ finished_ticks scenario.shape h → 0 < finished_ticks scenario.shape h
    → IsCut h (j * scenario.shape.tick) i → is_before h i (j * scenario.shape.tick + 1) ≡ true
meets scenario order h j i valid legal finished some cut = by_last (last_to h 0) refl
  where
    tick : ℕ
    tick = scenario.shape.tick

    exists : 0 < scenario.shape.cpus
    exists = let cpu = valid.shape.some_cpu in omega (arith, cpu)

    by_place : (k : ℕ) → k < length h → (entry_at h k).to ≡ j * tick → is_before h i (j * tick + 1) ≡ true
    by_place k less to = elim (cases_lt k i) [
      | inl early ↦ let past = cut.past k early in absurd (omega (arith, past, to))
      | inr from ↦
          let rise = rises scenario order h i k valid legal from less in
          some_before h i (j * tick + 1) (omega (arith, from, less)) (omega (arith, rise, to))
    ]

    by_last : (o : Option ℕ) → last_to h 0 ≡ o → is_before h i (j * tick + 1) ≡ true
    by_last None is =
        let end : last_end h 0 ≡ 0 = ap (λ o. unwrap_or o 0) is in
        let past = finished_end scenario.shape h 1 0 (omega (arith, some)) exists in
        let long = valid.shape.tick_long in
        absurd (omega (arith, end, past, long))
    by_last (Some z) is =
        let end : last_end h 0 ≡ z = ap (λ o. unwrap_or o 0) is in
        let past = finished_end scenario.shape h j 0 finished exists in
        let same = (sound scenario order valid h legal).grounded.sizes.tick in
        let stepped : steps_at h 0 (j * tick) ≡ true =
        subst (λ n. steps_at h 0 (j * n) ≡ true) same ((boundaries scenario order h valid legal).own 0 j z is (subst (λ n. j * n ≤ z) (sym same) (omega (arith, end, past)))) in
        let found = Any-from_list_any (λ (e : Entry). nat_eq e.cpu 0 && nat_eq e.to (j * tick)) h stepped in
        let at : found.1.to ≡ j * tick = eqb-true found.1.to (j * tick) (and_parts (nat_eq found.1.cpu 0) (nat_eq found.1.to (j * tick)) found.4).1 in
        let read : entry_at h found.0 ≡ found.1 = same_read h found.0 no_entry found.1 found.2 ∙ found.3 in
        let to : (entry_at h found.0).to ≡ j * tick = ap (λ (e : Entry). e.to) read ∙ at in
        by_place found.0 found.2 to

-- ---- as lists

pub all_before : (h : List Entry) (bound i : ℕ) → i ≤ length h → IsCut h bound i → All (λ (e : Entry). e.to < bound) (take i h)
all_before h bound i le cut = λ k d less.
    let count = length-take-le i h le in
    let inside : k < i = omega (arith, less, count) in
    let read : get_or (take i h) k d ≡ entry_at h k = get_or-take i h k d inside ∙ same_read h k d no_entry (omega (arith, inside, le)) in
    subst (λ (e : Entry). e.to < bound) (sym read) (cut.past k inside)

pub all_later : (h : List Entry) (bound i : ℕ) → i ≤ length h → IsCut h bound i → All (λ (e : Entry). bound ≤ e.to) (drop i h)
all_later h bound i le cut = λ k d less.
    let count = length-drop i h in
    let inside : i + k < length h = omega (arith, less, count, le) in
    let read : get_or (drop i h) k d ≡ entry_at h (i + k) = get_or-drop i h k d ∙ same_read h (i + k) d no_entry inside in
    subst (λ (e : Entry). bound ≤ e.to) (sym read) (cut.later (i + k) (omega arith) inside)

pub begin_later : (scenario : Scenario) (order : Order) (h : List Entry) (j i : ℕ) → IsScenario scenario → IsLegal scenario order h → i ≤ length h → IsCut h ((j + 1) * scenario.shape.tick + 1) i
    → All (λ (e : Entry). (j + 1) * scenario.shape.tick ≤ e.from) (drop i h)
begin_later scenario order h j i valid legal le cut = λ k d less.
    let count = length-drop i h in
    let inside : i + k < length h = omega (arith, less, count, le) in
    let read : get_or (drop i h) k d ≡ entry_at h (i + k) = get_or-drop i h k d ∙ same_read h (i + k) d no_entry inside in
    let long = valid.shape.tick_long in
    let low = cut.later (i + k) (omega arith) inside in
    subst (λ (e : Entry). (j + 1) * scenario.shape.tick ≤ e.from) (sym read)
    (begins_late scenario.shape.tick j (entry_at h (i + k)).from (entry_at h (i + k)).to (omega (arith, long)) (omega (arith, low)) (in_one_tick scenario order h (i + k) valid legal inside))
