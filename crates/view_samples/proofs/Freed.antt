-- The entries of a history with marks of free time, and what they bill.
use Rattle.std.proofs.Common.{◌≡◌, ℕ, ◌*◌, ◌≤◌, List, [], ◌∷◌, ◌++◌, Bool, true, false, cond, ◌&&◌, refl, sym, ap, ◌∙◌, append_assoc, append-nil, arith}
use Rattle.std.specs.List.{AllByRecursion}
use Rattle.std.proofs.lemmas.List.Sums.{sum_by-append, sum_by-cons}
use Rattle.aps_model.specs.declared.entry.Entry.{Entry}
use Rattle.aps_model.specs.Scenario.{Scenario}
use Rattle.aps_model.specs.Usage.{billed_by, critical_by, critical_used, names, overlap, used}
use Rattle.laws_bounds.specs.FreeTime.{free_by, free_used, sum_along}
use Rattle.laws_bounds.specs.Kinds.{is_free, last_kind}
use Rattle.view_samples.specs.Sums.{freed, freed_from, entry_marked}

-- the entry with its mark
abbrev pub freed_at : Scenario → List Entry → Entry → Entry
freed_at scenario before e = entry_marked e (is_free (last_kind scenario before e.cpu))

append_from : (scenario : Scenario) (before xs ys : List Entry) → freed_from scenario before (xs ++ ys) ≡ freed_from scenario before xs ++ freed_from scenario (before ++ xs) ys
append_from scenario before [] ys = ap (λ g. freed_from scenario g ys) (sym (append-nil before))
append_from scenario before (d ∷ xs) ys =
    ap (λ l. freed_at scenario before d ∷ l)
    (append_from scenario (before ++ d ∷ []) xs ys ∙ ap (λ g. freed_from scenario (before ++ d ∷ []) xs ++ freed_from scenario g ys) (append_assoc before (d ∷ []) xs))

pub freed_none : (scenario : Scenario) → freed scenario [] ≡ []
unfolding freed
freed_none scenario = refl

pub freed_more : (scenario : Scenario) (h : List Entry) (e : Entry) → freed scenario (h ++ e ∷ []) ≡ freed scenario h ++ freed_at scenario h e ∷ []
unfolding freed
freed_more scenario h e = append_from scenario [] h (e ∷ [])

-- ---- what they bill

used_from : (scenario : Scenario) (tick p a b : ℕ) (before h : List Entry) → used tick (freed_from scenario before h) p a b ≡ used tick h p a b
used_from scenario tick p a b before [] = refl
used_from scenario tick p a b before (e ∷ h) =
    let rest = used_from scenario tick p a b (before ++ e ∷ []) h in
    let one = sum_by-cons (billed_by tick p a b) (freed_at scenario before e) (freed_from scenario (before ++ e ∷ []) h) in
    let other = sum_by-cons (billed_by tick p a b) e h in
    omega (arith, rest, one, other)

pub freed_used : (scenario : Scenario) (tick p a b : ℕ) (h : List Entry) → used tick (freed scenario h) p a b ≡ used tick h p a b
unfolding freed
freed_used scenario tick p a b h = used_from scenario tick p a b [] h

free_from : (scenario : Scenario) (tick p a b : ℕ) (before h : List Entry) → critical_used tick (freed_from scenario before h) p a b ≡ sum_along (free_by scenario tick p a b) before h
free_from scenario tick p a b before [] = refl
free_from scenario tick p a b before (e ∷ h) =
    let rest = free_from scenario tick p a b (before ++ e ∷ []) h in
    let one = sum_by-cons (critical_by tick p a b) (freed_at scenario before e) (freed_from scenario (before ++ e ∷ []) h) in
    omega (arith, rest, one)

pub freed_free : (scenario : Scenario) (tick p a b : ℕ) (h : List Entry) → critical_used tick (freed scenario h) p a b ≡ free_used scenario tick h p a b
unfolding freed
freed_free scenario tick p a b h = free_from scenario tick p a b [] h

-- ---- entries that begin after these ticks

-- they begin at the end of the ticks before b, or later
abbrev pub BeginLater : ℕ → ℕ → List Entry → Type 0
BeginLater tick b h = AllByRecursion (λ (e : Entry). b * tick ≤ e.from) h

no_overlap : (tick a b from to : ℕ) → b * tick ≤ from → overlap tick a b from to ≡ 0
no_overlap tick a b from to later = let m = b * tick in let n = a * tick in let l : m ≤ from = later in omega (arith, l)

nothing : (test : Bool) (n : ℕ) → n ≡ 0 → cond test n 0 ≡ 0
nothing true n is = is
nothing false n is = refl

used_none : (tick p a b : ℕ) (later : List Entry) → BeginLater tick b later → used tick later p a b ≡ 0
used_none tick p a b [] after = refl
used_none tick p a b (e ∷ later) after =
    let one = sum_by-cons (billed_by tick p a b) e later in
    let here = nothing (names e.billed p) (overlap tick a b e.from e.to) (no_overlap tick a b e.from e.to after.0) in
    let rest = used_none tick p a b later after.1 in
    omega (arith, one, here, rest)

critical_none : (tick p a b : ℕ) (later : List Entry) → BeginLater tick b later → critical_used tick later p a b ≡ 0
critical_none tick p a b [] after = refl
critical_none tick p a b (e ∷ later) after =
    let one = sum_by-cons (critical_by tick p a b) e later in
    let here = nothing (names e.billed p && e.critical) (overlap tick a b e.from e.to) (no_overlap tick a b e.from e.to after.0) in
    let rest = critical_none tick p a b later after.1 in
    omega (arith, one, here, rest)

pub used_longer : (tick p a b : ℕ) (h later : List Entry) → BeginLater tick b later → used tick (h ++ later) p a b ≡ used tick h p a b
used_longer tick p a b h later after =
    let both = sum_by-append (billed_by tick p a b) h later in
    let none = used_none tick p a b later after in
    omega (arith, both, none)

pub critical_longer : (tick p a b : ℕ) (h later : List Entry) → BeginLater tick b later → critical_used tick (h ++ later) p a b ≡ critical_used tick h p a b
critical_longer tick p a b h later after =
    let both = sum_by-append (critical_by tick p a b) h later in
    let none = critical_none tick p a b later after in
    omega (arith, both, none)

later_from : (scenario : Scenario) (tick b : ℕ) (before h : List Entry) → BeginLater tick b h → BeginLater tick b (freed_from scenario before h)
later_from scenario tick b before [] after = tt
later_from scenario tick b before (e ∷ h) after = (after.0, later_from scenario tick b (before ++ e ∷ []) h after.1)

pub free_longer : (scenario : Scenario) (tick p a b : ℕ) (h later : List Entry) → BeginLater tick b later → free_used scenario tick (h ++ later) p a b ≡ free_used scenario tick h p a b
unfolding freed
free_longer scenario tick p a b h later after =
    sym (freed_free scenario tick p a b (h ++ later))
    ∙ ap (λ l. critical_used tick l p a b) (append_from scenario [] h later)
    ∙ critical_longer tick p a b (freed_from scenario [] h) (freed_from scenario h later) (later_from scenario tick b h later after)
    ∙ freed_free scenario tick p a b h
