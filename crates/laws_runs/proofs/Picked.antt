-- What a pick and a flag leave.
use Rattle.std.proofs.Common.{◌≡◌, ◌≢◌, ℕ, ◌<◌, ◌≤◌, List, [], ◌∷◌, map, length, refl, sym, ◌∙◌, ap, subst, Bool, true, false, cond, not, ◌&&◌, nat_eq, nat_lt, Option, Some, None, slice_index_or, slice_set, arith, inl, inr, ◌⊎◌, length-set}
use Rattle.std.specs.List.{filter, fold, range_with_len}
use Rattle.std.specs.Option.{option_map}
use Rattle.std.proofs.lemmas.Bool.{cases_eq, cases_lt, ltb-true}
use Rattle.std.proofs.lemmas.List.{get_or-set_same, get_or-set_other, get_or_past}
use Rattle.aps_model.specs.declared.state.State.{State}
use Rattle.aps_model.specs.declared.state.State.TheVariants.{Ready, Running, Sleeping, Sending, Receiving, Replying, Gone}
use Rattle.aps_model.specs.declared.state.ThreadNow.{ThreadNow}
use Rattle.aps_model.specs.declared.state.CpuNow.{CpuNow}
use Rattle.aps_model.specs.declared.state.Pick.{Pick}
use Rattle.aps_model.specs.declared.shape.Free.{Free}
use Rattle.aps_model.specs.declared.merit.PartFacts.{PartFacts}
use Rattle.aps_model.specs.declared.merit.Contender.{Contender}
use Rattle.aps_model.specs.declared.merit.Merit.{Merit}
use Rattle.aps_model.specs.declared.merit.Rank.{Rank}
use Rattle.aps_model.specs.declared.entry.Entry.{Entry}
use Rattle.laws_runs.specs.Waits.{IsPlain, state_at}
use Rattle.laws_runs.specs.Untouched.{AgreesOnRunning, thread_kept}
use Rattle.laws_runs.proofs.ThreadFacts.{within, set_same, set_other}
use Rattle.laws_runs.proofs.WaitBears.{waiting_put}
use Rattle.laws_runs.proofs.WaitMoves.{IsUnlisted}
use Rattle.std.proofs.lemmas.Bool.Decides.{nat_tests}
use Rattle.aps_model.specs.Budget.{part_at}
use Rattle.aps_model.specs.Due.{due}
use Rattle.aps_model.specs.Flag.{at_most, flag_for, looked_at, lower_ranked, rank_of, with_flag}
use Rattle.aps_model.specs.Merit.{is_candidate, is_critical_pick, is_greater}
use Rattle.aps_model.specs.Pick.{better, contender_of, contenders, greatest, is_ready, merit_among}
use Rattle.aps_model.specs.Scenario.{Scenario}
use Rattle.aps_model.specs.SchedulerState.{SchedulerState, channel_at, cpu_at, idle, thread_at}
use Rattle.aps_model.specs.Step.{chosen}

-- ---- the greatest candidate is a ready thread

-- the value comes from one of these, and passes the test
abbrev pub IsFrom : (ℕ → Contender) → (Contender → Bool) → Contender → Type 0
IsFrom f p b = (x : ℕ) × (b ≡ f x) × (p b ≡ true)

abbrev IsFromSome : (ℕ → Contender) → (Contender → Bool) → Option Contender → Type 0
IsFromSome f p None = Unit {0}
IsFromSome f p (Some b) = IsFrom f p b

better_from : (free : Free) (ps : List PartFacts) (f : ℕ → Contender) (p : Contender → Bool) (best : Option Contender) (x : ℕ) → p (f x) ≡ true → IsFromSome f p best → IsFromSome f p (better free ps best (f x))
better_from free ps f p None x e m = (x, refl, e)
better_from free ps f p (Some best) x e m = by_test (is_greater free (merit_among ps (f x)) (merit_among ps best))
  where
    by_test : (t : Bool) → IsFrom f p (cond t (f x) best)
    by_test true = (x, refl, e)
    by_test false = m

found_from : (free : Free) (ps : List PartFacts) (f : ℕ → Contender) (p r : Contender → Bool) (xs : List ℕ) (best : Option Contender) → IsFromSome f p best → IsFromSome f p (fold (better free ps) best (filter r (filter p (map f xs))))
found_from free ps f p r [] best m = m
found_from free ps f p r (x ∷ xs) best m =
    by_p (p (f x)) refl (found_from free ps f p r xs best m) (λ e. found_from free ps f p r xs (better free ps best (f x)) (better_from free ps f p best x e m))
  where
    by_r : (t : Bool) → IsFromSome f p (fold (better free ps) best (filter r (filter p (map f xs)))) → IsFromSome f p (fold (better free ps) (better free ps best (f x)) (filter r (filter p (map f xs))))
        → IsFromSome f p (fold (better free ps) best (cond t (f x ∷ filter r (filter p (map f xs))) (filter r (filter p (map f xs)))))
    by_r true same more = more
    by_r false same more = same

    by_p : (t : Bool) → p (f x) ≡ t → IsFromSome f p (fold (better free ps) best (filter r (filter p (map f xs))))
        → (p (f x) ≡ true → IsFromSome f p (fold (better free ps) (better free ps best (f x)) (filter r (filter p (map f xs)))))
        → IsFromSome f p (fold (better free ps) best (filter r (cond t (f x ∷ filter p (map f xs)) (filter p (map f xs)))))
    by_p true e same more = by_r (r (f x)) same (more e)
    by_p false e same more = same

ready_from : (st : State) → is_ready st ≡ true → st ≡ Ready
ready_from Ready e = refl
ready_from (Running c) e = absurd cc
ready_from (Sleeping until) e = absurd cc
ready_from (Sending d) e = absurd cc
ready_from (Receiving d) e = absurd cc
ready_from (Replying x) e = absurd cc
ready_from Gone e = absurd cc

-- the greatest candidate is a ready thread, with its values as they stand
pub record IsReadyBest (s : SchedulerState) (b : Contender) : Type 0 where
  pub ready : state_at s b.thread ≡ Ready
  pub same : b ≡ contender_of s b.thread

pub greatest_ready : (s : SchedulerState) (free : Free) (ps : List PartFacts) (b : Contender) → greatest free ps (contenders s) ≡ Some b → IsReadyBest s b
greatest_ready s free ps b e =
    let p : Contender → Bool = λ c. is_ready (thread_at s c.thread).state in
    let from : IsFrom (contender_of s) p b = subst (IsFromSome (contender_of s) p) e (found_from free ps (contender_of s) p (λ c. is_candidate c.facts (part_at ps c.facts.partition)) (range_with_len 0 (length s.threads)) None tt) in
    let number : b.thread ≡ from.0 = ap (λ (c : Contender). c.thread) from.1 in
    record {
      ready = ready_from (state_at s b.thread) from.2;
      same = from.1 ∙ ap (contender_of s) (sym number);
    }

-- ---- processors

pub cpu_same : (cpus : List CpuNow) (c : ℕ) (cpu : CpuNow) → c < length cpus → slice_index_or (slice_set cpus c cpu) c idle ≡ cpu
cpu_same cpus c cpu below = get_or-set_same cpus c cpu idle below

pub cpu_other : (cpus : List CpuNow) (c d : ℕ) (cpu : CpuNow) → d ≢ c → slice_index_or (slice_set cpus c cpu) d idle ≡ slice_index_or cpus d idle
cpu_other cpus c d cpu ne = get_or-set_other cpus c d cpu idle ne

-- a flag changes no processor's thread
pub flag_running : (s : SchedulerState) (now : ℕ) (o : Option ℕ) (d : ℕ) → (cpu_at (with_flag s now o) d).running ≡ (cpu_at s d).running
flag_running s now None d = refl
flag_running s now (Some k) d = elim (cases_eq d k) [
  | inr ne ↦ ap (λ (z : CpuNow). z.running) (cpu_other s.cpus k d _ ne)
  | inl e ↦
      subst (λ z. (cpu_at (with_flag s now (Some k)) z).running ≡ (cpu_at s z).running) (sym e)
      (elim (cases_lt k (length s.cpus)) [
        | inl below ↦ ap (λ (z : CpuNow). z.running) (cpu_same s.cpus k _ below)
        | inr past ↦
            let past' : length (slice_set s.cpus k (record (cpu_at s k) { flag = Some now })) ≤ k = rw length-set past in
            ap (λ (z : CpuNow). z.running) (get_or_past (slice_set s.cpus k (record (cpu_at s k) { flag = Some now })) k idle past')
            ∙ ap (λ (z : CpuNow). z.running) (sym (get_or_past s.cpus k idle past))
      ])
]

pub flag_other : (s : SchedulerState) (now : ℕ) (o : Option ℕ) (d : ℕ) → (o ≡ Some d → ⊥) → cpu_at (with_flag s now o) d ≡ cpu_at s d
flag_other s now None d ne = refl
flag_other s now (Some k) d ne = cpu_other s.cpus k d _ (λ e. ne (ap (λ z. Some z) (sym e)))

pub flag_threads : (s : SchedulerState) (now : ℕ) (o : Option ℕ) → (with_flag s now o).threads ≡ s.threads
flag_threads s now None = refl
flag_threads s now (Some k) = refl

pub flag_shape : (s : SchedulerState) (now : ℕ) (o : Option ℕ) → (with_flag s now o).shape ≡ s.shape
flag_shape s now None = refl
flag_shape s now (Some k) = refl

pub flag_rows : (s : SchedulerState) (now : ℕ) (o : Option ℕ) → (with_flag s now o).rows ≡ s.rows
flag_rows s now None = refl
flag_rows s now (Some k) = refl

pub flag_stamps : (s : SchedulerState) (now : ℕ) (o : Option ℕ) → (with_flag s now o).stamps ≡ s.stamps
flag_stamps s now None = refl
flag_stamps s now (Some k) = refl

pub flag_pairs : (s : SchedulerState) (now : ℕ) (o : Option ℕ) → (with_flag s now o).triples ≡ s.triples
flag_pairs s now None = refl
flag_pairs s now (Some k) = refl

pub flag_count : (s : SchedulerState) (now : ℕ) (o : Option ℕ) → length (with_flag s now o).cpus ≡ length s.cpus
flag_count s now None = refl
flag_count s now (Some k) = length-set s.cpus k _

pub flag_plain : (scenario : Scenario) (s : SchedulerState) (now : ℕ) (o : Option ℕ) → IsPlain scenario s → IsPlain scenario (with_flag s now o)
flag_plain scenario s now None p = p
flag_plain scenario s now (Some k) p = record { waiting = p.waiting; channels = p.channels }

pub flag_kept : (s : SchedulerState) (now : ℕ) (o : Option ℕ) → AgreesOnRunning s → AgreesOnRunning (with_flag s now o)
flag_kept s now None k = k
flag_kept s now (Some d) k = record {
  runs = λ c p e. k.runs c p (sym (flag_running s now (Some d) c) ∙ e);
  kept = λ y c e. ap thread_kept (flag_running s now (Some d) c) ∙ k.kept y c e;
}

-- a processor's flag is as it was, or it is the one that is flagged
pub flag_flag : (s : SchedulerState) (now : ℕ) (o : Option ℕ) (d : ℕ) → ((cpu_at (with_flag s now o) d).flag ≡ (cpu_at s d).flag) ⊎ (((cpu_at (with_flag s now o) d).flag ≡ Some now) × (o ≡ Some d))
flag_flag s now None d = inl refl
flag_flag s now (Some k) d = elim (cases_eq d k) [
  | inr ne ↦ inl (ap (λ (z : CpuNow). z.flag) (cpu_other s.cpus k d _ ne))
  | inl e ↦ elim (cases_lt k (length s.cpus)) [
    | inl below ↦ inr (ap (λ z. (cpu_at (with_flag s now (Some k)) z).flag) e ∙ ap (λ (z : CpuNow). z.flag) (cpu_same s.cpus k _ below), ap (λ z. Some z) (sym e))
    | inr past ↦
        let past' : length (slice_set s.cpus k (record (cpu_at s k) { flag = Some now })) ≤ k = rw length-set past in
        inl (ap (λ z. (cpu_at (with_flag s now (Some k)) z).flag) e
        ∙ ap (λ (z : CpuNow). z.flag) (get_or_past (slice_set s.cpus k (record (cpu_at s k) { flag = Some now })) k idle past')
        ∙ ap (λ (z : CpuNow). z.flag) (sym (get_or_past s.cpus k idle past))
        ∙ ap (λ z. (cpu_at s z).flag) (sym e))
  ]
]

-- ---- who is flagged

abbrev pub IsGood : (ℕ → Type 0) → Option (ℕ × Rank) → Type 0
IsGood P None = Unit {0}
IsGood P (Some b) = P b.0

ranked_good : (P : ℕ → Type 0) (d : ℕ) (rank : Option Rank) (best : Option (ℕ × Rank)) → ((r : Rank) → rank ≡ Some r → P d) → IsGood P best → IsGood P (lower_ranked d rank best)
ranked_good P d None best looked good = good
ranked_good P d (Some r) None looked good = looked r refl
ranked_good P d (Some r) (Some (e, other)) looked good = by_test (at_most r other)
  where
    by_test : (t : Bool) → IsGood P (cond t (Some (d, r)) (Some (e, other)))
    by_test true = looked r refl
    by_test false = good

fold_good : (P : ℕ → Type 0) (look : ℕ → Option Rank) → ((d : ℕ) (r : Rank) → look d ≡ Some r → P d) → (xs : List ℕ) (best : Option (ℕ × Rank)) → IsGood P best
    → IsGood P (fold (λ best d. lower_ranked d (look d) best) best xs)
fold_good P look looked [] best good = good
fold_good P look looked (d ∷ xs) best good = fold_good P look looked xs _ (ranked_good P d (look d) best (looked d) good)

-- only another processor that is due later is flagged
abbrev pub IsLater : SchedulerState → List Entry → ℕ → ℕ → ℕ → Type 0
IsLater s h c now d = (d ≢ c) × (now < due s h d)

later_looked : (s : SchedulerState) (h : List Entry) (ps : List PartFacts) (left : Merit) (c now d : ℕ) (r : Rank) → looked_at s h ps left c now d ≡ Some r → IsLater s h c now d
later_looked s h ps left c now d r e = by_test (nat_eq d c) (nat_lt now (due s h d)) refl refl e
  where
    never : ◌≡◌ {A = Bool} true false → ⊥
    never z = cc

    test_eq : (a b : ℕ) → a ≡ b → nat_eq a b ≡ true
    test_eq a b z = grind (arith, nat_tests)

    by_test : (t u : Bool) → nat_eq d c ≡ t → nat_lt now (due s h d) ≡ u
        → cond (not t && u) (rank_of s ps left (cpu_at s d).running) None ≡ Some r → IsLater s h c now d
    by_test true u f g k = absurd cc
    by_test false false f g k = absurd cc
    by_test false true f g k = (λ same. never (sym (test_eq d c same) ∙ f), ltb-true now (due s h d) g)

pub flagged_later : (s : SchedulerState) (h : List Entry) (ps : List PartFacts) (c now d : ℕ) (left : Option Contender) → flag_for s h ps c now left ≡ Some d → IsLater s h c now d
flagged_later s h ps c now d None e = absurd cc
flagged_later s h ps c now d (Some left) e =
    at_best (fold (λ best k. lower_ranked k (looked_at s h ps (merit_among ps left) c now k) best) None (range_with_len 0 s.shape.cpus))
    (fold_good (IsLater s h c now) (looked_at s h ps (merit_among ps left) c now) (later_looked s h ps (merit_among ps left) c now) (range_with_len 0 s.shape.cpus) None tt) e
  where
    some_same : (a b : ℕ) → Some a ≡ Some b → a ≡ b
    some_same a b k = cc

    at_best : (best : Option (ℕ × Rank)) → IsGood (IsLater s h c now) best → option_map (λ (b : ℕ × Rank). b.0) best ≡ Some d → IsLater s h c now d
    at_best None good k = absurd cc
    at_best (Some b) good k = subst (IsLater s h c now) (some_same b.0 d k) good

-- ---- the pick

-- before the pick nobody runs on c, and all else is kept
pub record IsOpen (r : SchedulerState) (c : ℕ) : Type 0 where
  pub runs : (d : ℕ) (p : Pick) → d ≢ c → (cpu_at r d).running ≡ Some p → state_at r p.thread ≡ Running d
  pub kept : (y d : ℕ) → d ≢ c → state_at r y ≡ Running d → thread_kept (cpu_at r d).running ≡ Some y
  pub off : (y : ℕ) → state_at r y ≡ Running c → ⊥

-- what the pick leaves
pub record IsPicked (scenario : Scenario) (r : SchedulerState) (c : ℕ) (t : SchedulerState) : Type 0 where
  pub plain : IsPlain scenario t
  pub kept : AgreesOnRunning t
  pub cpus : (d : ℕ) → d ≢ c → cpu_at t d ≡ cpu_at r d
  pub flag : (cpu_at t c).flag ≡ None
  pub threads : (y d : ℕ) → state_at r y ≡ Running d → thread_at t y ≡ thread_at r y
  pub shape : t.shape ≡ r.shape
  pub rows : t.rows ≡ r.rows
  pub count : length t.threads ≡ length r.threads
  pub cpu_count : length t.cpus ≡ length r.cpus

pub picked : (scenario : Scenario) (r : SchedulerState) (ps : List PartFacts) (c : ℕ) (best : Option Contender) → c < length r.cpus → IsPlain scenario r → IsOpen r c
    → ((b : Contender) → best ≡ Some b → IsReadyBest r b) → IsPicked scenario r c (chosen r ps c best)
picked scenario r ps c None below plain open' ready = record {
  plain = record { waiting = plain.waiting; channels = plain.channels };
  kept = record {
    runs = λ d p e. elim (cases_eq d c) [
      | inl same ↦ absurd (none p (sym (ap (λ (z : CpuNow). z.running) (cpu_same r.cpus c _ below)) ∙ ap (λ k. (cpu_at (chosen r ps c None) k).running) (sym same) ∙ e))
      | inr ne ↦ open'.runs d p ne (sym (ap (λ (z : CpuNow). z.running) (cpu_other r.cpus c d _ ne)) ∙ e)
    ];
    kept = λ y d e. elim (cases_eq d c) [
      | inl same ↦ absurd (open'.off y (e ∙ ap (λ k. Running k) same))
      | inr ne ↦ ap (λ (z : CpuNow). thread_kept z.running) (cpu_other r.cpus c d _ ne) ∙ open'.kept y d ne e
    ];
  };
  cpus = λ d ne. cpu_other r.cpus c d _ ne;
  flag = ap (λ (z : CpuNow). z.flag) (cpu_same r.cpus c _ below);
  threads = λ y d e. refl;
  shape = refl;
  rows = refl;
  count = refl;
  cpu_count = length-set r.cpus c _;
}
  where
    none : (p : Pick) → None ≡ Some p → ⊥
    none p e = cc
picked scenario r ps c (Some b) below plain open' ready =
    let is = ready b refl in
    let inside : b.thread < length r.threads = within r.threads b.thread (λ g. clash (sym is.ready ∙ g)) in
    let new : ThreadNow = record (thread_at r b.thread) { state = Running c } in
    let cpu : CpuNow = record {
      running = Some (record { thread = b.thread; partition = b.facts.partition; critical = is_critical_pick b.facts (part_at ps b.facts.partition) });
      flag = None;
    } in
    let t = chosen r ps c (Some b) in
    record {
      plain = record {
        waiting = waiting_put r.threads b.thread new (channel_at r) r.triples inside (unlisted (state_at r b.thread) is.ready) tt plain.waiting;
        channels = plain.channels;
      };
      kept = record {
        runs = λ d p e. elim (cases_eq d c) [
          | inl same ↦
              let thread : Some b.thread ≡ Some p.thread =
              sym (ap (λ (z : CpuNow). thread_kept z.running) (cpu_same r.cpus c cpu below)) ∙ ap (λ k. thread_kept (cpu_at t k).running) (sym same) ∙ ap thread_kept e in
              ap (state_at t) (sym (some_same b.thread p.thread thread)) ∙ ap (λ (z : ThreadNow). z.state) (set_same r.threads b.thread new inside) ∙ ap (λ k. Running k) (sym same)
          | inr ne ↦
              let run : state_at r p.thread ≡ Running d = open'.runs d p ne (sym (ap (λ (z : CpuNow). z.running) (cpu_other r.cpus c d cpu ne)) ∙ e) in
              ap (λ (z : ThreadNow). z.state) (set_other r.threads b.thread p.thread new (λ k. clash_run (sym is.ready ∙ ap (state_at r) (sym k) ∙ run))) ∙ run
        ];
        kept = λ y d e. elim (cases_eq y b.thread) [
          | inl same ↦
              let on : c ≡ d = same_cpu c d (sym (ap (λ (z : ThreadNow). z.state) (set_same r.threads b.thread new inside)) ∙ ap (state_at t) (sym same) ∙ e) in
              ap (λ k. thread_kept (cpu_at t k).running) (sym on) ∙ ap (λ (z : CpuNow). thread_kept z.running) (cpu_same r.cpus c cpu below) ∙ ap (λ k. Some k) (sym same)
          | inr ny ↦
              let run : state_at r y ≡ Running d = sym (ap (λ (z : ThreadNow). z.state) (set_other r.threads b.thread y new ny)) ∙ e in
              elim (cases_eq d c) [
                | inl on ↦ absurd (open'.off y (run ∙ ap (λ k. Running k) on))
                | inr ne ↦ ap (λ (z : CpuNow). thread_kept z.running) (cpu_other r.cpus c d cpu ne) ∙ open'.kept y d ne run
              ]
        ];
      };
      cpus = λ d ne. cpu_other r.cpus c d cpu ne;
      flag = ap (λ (z : CpuNow). z.flag) (cpu_same r.cpus c cpu below);
      threads = λ y d e. set_other r.threads b.thread y new (λ k. clash_run (sym is.ready ∙ ap (state_at r) (sym k) ∙ e));
      shape = refl;
      rows = refl;
      count = length-set r.threads b.thread new;
      cpu_count = length-set r.cpus c cpu;
    }
  where
    clash : ◌≡◌ {A = State} Ready Gone → ⊥
    clash e = cc

    clash_run : {a : ℕ} → ◌≡◌ {A = State} Ready (Running a) → ⊥
    clash_run e = cc

    some_same : (a b : ℕ) → Some a ≡ Some b → a ≡ b
    some_same a b e = cc

    same_cpu : (a b : ℕ) → Running a ≡ Running b → a ≡ b
    same_cpu a b e = cc

    unlisted : (st : State) → st ≡ Ready → IsUnlisted st
    unlisted st e = subst IsUnlisted (sym e) tt
