-- What entries bill in ticks.
use Rattle.std.proofs.Common.{◌≡◌, ℕ, ◌+◌, ◌-◌, ◌*◌, ◌/◌, ◌<◌, ◌≤◌, List, [], ◌∷◌, length, take, drop, get_or, All, cond, Bool, true, false, ◌&&◌, refl, sym, subst, ◌∙◌, ap, inl, inr, arith}
use Rattle.std.specs.List.{sum_by}
use Rattle.std.proofs.lemmas.Bool.{cases_lt}
use Rattle.std.proofs.lemmas.List.{drop-drop, drop-take, get_or-drop, length-drop}
use Rattle.std.proofs.lemmas.List.Elements.{All-drop, All-take}
use Rattle.std.proofs.lemmas.List.Sums.{sum_by-cons, sum_by-le, sum_by-take-drop}
use Rattle.std.proofs.lemmas.Nat.{div_below, mul-le}
use Rattle.aps_model.specs.declared.entry.Entry.{Entry}
use Rattle.aps_model.specs.Due.{next_boundary}
use Rattle.aps_model.specs.History.{IsEntry}
use Rattle.aps_model.specs.Limits.{longest_tick}
use Rattle.aps_model.specs.Usage.{billed_by, critical_by, critical_used, names, overlap, used}
use Rattle.aps_bound.specs.Cursor.{HasAllOf, IsInTick}
use Rattle.aps_bound.specs.Order.{IsInOrder}

-- ---- one entry

-- what lies in ticks a to c-1 lies before tick b or from it on
overlap_split : (tick a b c from to : ℕ) → a ≤ b → b ≤ c → overlap tick a c from to ≡ overlap tick a b from to + overlap tick b c from to
overlap_split tick a b c from to ab bc =
    let first = mul-le a tick b tick ab (omega arith) in
    let last = mul-le b tick c tick bc (omega arith) in
    omega arith

by_test : (t : Bool) (x y z : ℕ) → x ≡ y + z → cond t x 0 ≡ cond t y 0 + cond t z 0
by_test true x y z is = is
by_test false x y z is = refl

none_by_test : (t : Bool) (x : ℕ) → x ≡ 0 → cond t x 0 ≡ 0
none_by_test true x is = is
none_by_test false x is = refl

few_by_test : (t : Bool) (x most : ℕ) → x ≤ most → cond t x 0 ≤ most
few_by_test true x most few = few
few_by_test false x most few = omega arith

-- an entry ended by the beginning of tick a, or began at the end of tick b-1 or later
overlap_before : (tick a b from to : ℕ) → to ≤ a * tick → overlap tick a b from to ≡ 0
overlap_before tick a b from to past = omega arith

overlap_after : (tick a b from to : ℕ) → b * tick ≤ from → overlap tick a b from to ≡ 0
overlap_after tick a b from to later = omega arith

-- which ends in a later tick and by the first boundary after its beginning
begins_later : (tick b from to : ℕ) → 0 < tick → b * tick < to → to ≤ next_boundary tick from → b * tick ≤ from
begins_later tick b from to some later within = elim (cases_lt from (b * tick)) [
  | inr le ↦ le
  | inl early ↦
      let row = div_below from tick b some early in
      let end = mul-le (from / tick + 1) tick b tick (omega arith) (omega arith) in
      absurd (omega arith)
]

-- ---- many entries

sum_split : (f g k : Entry → ℕ) (h : List Entry) → ((e : Entry) → f e ≡ g e + k e) → sum_by f h ≡ sum_by g h + sum_by k h
sum_split f g k [] each = refl
sum_split f g k (e ∷ h) each = omega (arith, sum_by-cons f e h, sum_by-cons g e h, sum_by-cons k e h, each e, sum_split f g k h each)

pub used_split : (tick : ℕ) (h : List Entry) (p a b c : ℕ) → a ≤ b → b ≤ c → used tick h p a c ≡ used tick h p a b + used tick h p b c
used_split tick h p a b c ab bc =
    sum_split (billed_by tick p a c) (billed_by tick p a b) (billed_by tick p b c) h (λ e. by_test (names e.billed p) _ _ _ (overlap_split tick a b c e.from e.to ab bc))

pub critical_split : (tick : ℕ) (h : List Entry) (p a b c : ℕ) → a ≤ b → b ≤ c → critical_used tick h p a c ≡ critical_used tick h p a b + critical_used tick h p b c
critical_split tick h p a b c ab bc =
    sum_split (critical_by tick p a c) (critical_by tick p a b) (critical_by tick p b c) h (λ e. by_test (names e.billed p && e.critical) _ _ _ (overlap_split tick a b c e.from e.to ab bc))

-- it is small
entry_few : (tick a b from to : ℕ) → to - from ≤ longest_tick → overlap tick a b from to ≤ longest_tick
entry_few tick a b from to short = omega arith

pub used_few : (tick : ℕ) (h : List Entry) (p a b : ℕ) → All IsEntry h → used tick h p a b ≤ length h * longest_tick
used_few tick h p a b entries = sum_by-le (billed_by tick p a b) longest_tick h (λ k d inside. few_by_test _ _ longest_tick (entry_few tick a b _ _ (entries k d inside).short))

pub critical_few : (tick : ℕ) (h : List Entry) (p a b : ℕ) → All IsEntry h → critical_used tick h p a b ≤ length h * longest_tick
critical_few tick h p a b entries = sum_by-le (critical_by tick p a b) longest_tick h (λ k d inside. few_by_test _ _ longest_tick (entry_few tick a b _ _ (entries k d inside).short))

sum_none : (f : Entry → ℕ) (h : List Entry) → All (λ (e : Entry). f e ≡ 0) h → sum_by f h ≡ 0
sum_none f h none =
    let most = sum_by-le f 0 h (λ k d inside. let here = none k d inside in omega arith) in
    omega arith

-- in no ticks it is nothing
pub used_none : (tick : ℕ) (h : List Entry) (p a : ℕ) → used tick h p a a ≡ 0
used_none tick h p a = let twice = used_split tick h p a a a (omega arith) (omega arith) in omega arith

pub critical_none : (tick : ℕ) (h : List Entry) (p a : ℕ) → critical_used tick h p a a ≡ 0
critical_none tick h p a = let twice = critical_split tick h p a a a (omega arith) (omega arith) in omega arith

-- the entries from one place to another have the whole sum, where the others add nothing
sum_part : (f : Entry → ℕ) (h : List Entry) (from next : ℕ) → from ≤ next → All (λ (e : Entry). f e ≡ 0) (take from h) → All (λ (e : Entry). f e ≡ 0) (drop next h)
    → sum_by f (take (next - from) (drop from h)) ≡ sum_by f h
sum_part f h from next le before after =
    let whole = sum_by-take-drop f h from in
    let rest = sum_by-take-drop f (drop from h) (next - from) in
    let same : drop (next - from) (drop from h) ≡ drop next h = drop-drop (next - from) from h ∙ ap (λ n. drop n h) (omega arith) in
    let last : sum_by f (drop (next - from) (drop from h)) ≡ 0 = ap (sum_by f) same ∙ sum_none f (drop next h) after in
    let first = sum_none f (take from h) before in
    omega arith

-- ---- the entries of one tick

-- the entries from a place on begin in the tick or after it, where the first of them ends after its beginning
later_entries : (tick j next : ℕ) (h : List Entry) → 0 < tick → IsInOrder tick h → ((d : Entry) → next < length h → j * tick < (get_or h next d).to)
    → All (λ (e : Entry). j * tick ≤ e.from) (drop next h)
later_entries tick j next h some order first = λ k d inside.
    let there : next + k < length h = omega (arith, length-drop next h) in
    let from = order.rising next (next + k) d (omega arith) there in
    let later = first d (omega arith) in
    let begins = begins_later tick j (get_or h (next + k) d).from (get_or h (next + k) d).to some (omega arith) (order.within (next + k) d there) in
    subst (λ (e : Entry). j * tick ≤ e.from) (sym (get_or-drop next h k d)) begins

pub tick_whole : (tick j from next : ℕ) (h : List Entry) → 0 < tick → IsInOrder tick h → from ≤ next → All (λ (e : Entry). e.to ≤ j * tick) (take from h)
    → ((d : Entry) → next < length h → (j + 1) * tick < (get_or h next d).to) → HasAllOf tick j h (take (next - from) (drop from h))
tick_whole tick j from next h some order le past first = record {
  used = λ p. sum_part (billed_by tick p j (j + 1)) h from next le
      (λ k d inside. none_by_test _ _ (overlap_before tick j (j + 1) _ _ (past k d inside)))
      (λ k d inside. none_by_test _ _ (overlap_after tick j (j + 1) _ _ (later k d inside)));
  critical = λ p. sum_part (critical_by tick p j (j + 1)) h from next le
      (λ k d inside. none_by_test _ _ (overlap_before tick j (j + 1) _ _ (past k d inside)))
      (λ k d inside. none_by_test _ _ (overlap_after tick j (j + 1) _ _ (later k d inside)));
}
  where
    later : All (λ (e : Entry). (j + 1) * tick ≤ e.from) (drop next h)
    later = later_entries tick (j + 1) next h some order first

-- those between the places of a tick and of the next one lie in it
pub tick_inside : (tick j from next : ℕ) (h : List Entry) → 0 < tick → IsInOrder tick h → from ≤ next → ((d : Entry) → from < length h → j * tick < (get_or h from d).to)
    → All (λ (e : Entry). e.to ≤ (j + 1) * tick) (take next h) → All (IsInTick tick j) (take (next - from) (drop from h))
tick_inside tick j from next h some order le first past = λ k d inside. record { begins = begins k d inside; ends = ends k d inside }
  where
    begins : All (λ (e : Entry). j * tick ≤ e.from) (take (next - from) (drop from h))
    begins = All-take (λ (e : Entry). j * tick ≤ e.from) (next - from) (drop from h) (later_entries tick j from h some order first)

    part : drop from (take next h) ≡ take (next - from) (drop from h)
    part = let whole : next ≡ from + (next - from) = omega arith in ap (λ n. drop from (take n h)) whole ∙ drop-take from (next - from) h

    ends : All (λ (e : Entry). e.to ≤ (j + 1) * tick) (take (next - from) (drop from h))
    ends = subst (All (λ (e : Entry). e.to ≤ (j + 1) * tick)) part (All-drop (λ (e : Entry). e.to ≤ (j + 1) * tick) from (take next h) past)

-- which bills all its time there
pub overlap_inside : (tick j : ℕ) (e : Entry) → IsInTick tick j e → e.to - e.from ≡ overlap tick j (j + 1) e.from e.to
overlap_inside tick j e is = omega (arith, is.begins, is.ends)
