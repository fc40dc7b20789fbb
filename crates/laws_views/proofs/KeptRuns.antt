-- Who runs at a moment is who the processor's next entry says ran.
use Rattle.std.proofs.Common.{◌≡◌, ℕ, ◌<◌, ◌≤◌, List, [], ◌∷◌, ◌++◌, refl, sym, ap, subst, ◌∙◌, append_assoc, Bool, true, false, cond, nat_le, Option, Some, None, inl, inr, arith}
use Rattle.std.specs.Prelude.{unwrap_or}
use Rattle.std.specs.List.{AllByRecursion}
use Rattle.std.proofs.lemmas.Bool.{cases_eq, cases_lt, le-leb, lt-leb}
use Rattle.std.proofs.lemmas.List.Elements.{recursion_from_All}
use Rattle.aps_model.specs.declared.entry.Entry.{Entry}
use Rattle.aps_model.specs.declared.entry.Order.{Order}
use Rattle.aps_model.specs.declared.state.Pick.{Pick}
use Rattle.aps_model.specs.declared.state.State.{State}
use Rattle.aps_model.specs.declared.state.State.TheVariants as state
use Rattle.aps_model.specs.After.{state_after}
use Rattle.aps_model.specs.Due.{last_end}
use Rattle.aps_model.specs.Legal.{IsLegal}
use Rattle.aps_model.specs.Scenario.{Scenario}
use Rattle.aps_model.specs.SchedulerState.{SchedulerState, cpu_at}
use Rattle.aps_model.specs.Valid.{IsScenario}
use Rattle.laws_runs.specs.Untouched.{AgreesOnRunning, mark_kept, partition_kept, thread_kept}
use Rattle.laws_runs.specs.Waits.{state_at}
use Rattle.laws_runs.proofs.BoundaryLaws.{latest}
use Rattle.laws_runs.proofs.MomentLaws.{last_other, last_own, moment-append}
use Rattle.laws_runs.proofs.Prefixes.{by_entries}
use Rattle.laws_runs.proofs.Sound.{legal_last, sound, step_law}
use Rattle.laws_runs.proofs.Words.{prefix_legal, up_to}
use Rattle.view_lives.specs.declared.doing.Doing.TheVariants.{Running}
use Rattle.view_lives.specs.Doing.{doing_by, doing_of, running_by}
use Rattle.view_lives.specs.Whole.{doing_at, until}
use Rattle.laws_views.specs.Billed.{IsBilledAt, RunsAsBilled}

-- ---- the entries up to a moment

until_front : (m : ℕ) (h rest : List Entry) (d : Entry) → AllByRecursion (λ (x : Entry). x.to ≤ m) h → m < d.to → until m (h ++ d ∷ rest) ≡ h
until_front m [] rest d all late = rw (lt-leb d.to m late) refl
until_front m (x ∷ h) rest d all late = rw (le-leb x.to m all.0) (ap (λ l. x ∷ l) (until_front m h rest d all.1 late))

-- they are the beginning of a history
until_part : (m : ℕ) (h : List Entry) → (rest : List Entry) × (h ≡ until m h ++ rest)
until_part m [] = ([], refl)
until_part m (x ∷ h) = by_test (nat_le x.to m) (until_part m h)
  where
    by_test : (t : Bool) → (rest : List Entry) × (h ≡ until m h ++ rest) → (rest : List Entry) × (x ∷ h ≡ cond t (x ∷ until m h) [] ++ rest)
    by_test true part = (part.0, ap (λ l. x ∷ l) part.1)
    by_test false part = (x ∷ h, refl)

-- ---- what a processor keeps

abbrev pub running_in : Scenario → List Entry → ℕ → Option Pick
running_in scenario h c = (cpu_at (state_after scenario h) c).running

module _ (scenario : Scenario) (order : Order) (r : IsScenario scenario) (c m : ℕ) where
  -- before its next entry ends a processor keeps what it kept at the moment
  abbrev SameSince : List Entry → Type 0
  SameSince b = (d : Entry) (rest : List Entry) → m < d.to → last_end b c ≤ m → running_in scenario (until m (b ++ d ∷ rest)) c ≡ running_in scenario b c

  none : SameSince []
  none d rest late last = ap (λ l. running_in scenario l c) (until_front m [] rest d tt late)

  more : (b : List Entry) (e : Entry) → IsLegal scenario order (b ++ e ∷ []) → SameSince b → SameSince (b ++ e ∷ [])
  more b e legal same d rest late last = elim (cases_lt m e.to) [
    | inl after ↦ elim (cases_eq e.cpu c) [
      | inl own ↦
          let end : last_end (b ++ e ∷ []) c ≡ e.to = ap (λ o. unwrap_or o 0) (last_own b e c own) in
          absurd (omega (arith, end, last, after))
      | inr other ↦
          let end : last_end (b ++ e ∷ []) c ≡ last_end b c = ap (λ o. unwrap_or o 0) (last_other b e c other) in
          let step = step_law scenario order b e r legal in
          ap (λ l. running_in scenario (until m l) c) (append_assoc b (e ∷ []) (d ∷ rest))
          ∙ same e (d ∷ rest) after (omega (arith, end, last))
          ∙ sym (step.others_running c (λ is. other (sym is)))
    ]
    | inr past ↦
        let all = latest scenario order (b ++ e ∷ []) r legal in
        let now = moment-append b e in
        let early : AllByRecursion (λ (x : Entry). x.to ≤ m) (b ++ e ∷ []) =
        recursion_from_All (λ (x : Entry). x.to ≤ m) (b ++ e ∷ []) (λ k x less. let at = all k x less in omega (arith, at, now, past)) in
        ap (λ l. running_in scenario l c) (until_front m (b ++ e ∷ []) rest d early late)
  ]

  pub kept_since : (b : List Entry) → IsLegal scenario order b → SameSince b
  kept_since b legal = by_entries scenario order SameSince more b legal none

-- ---- who runs

some_kept : (o : Option Pick) (x : ℕ) → thread_kept o ≡ Some x → (pick : Pick) × (o ≡ Some pick) × (pick.thread ≡ x)
some_kept None x is = absurd cc
some_kept (Some pick) x is = (pick, refl, same pick.thread x is)
  where
    same : (a b : ℕ) → Some a ≡ Some b → a ≡ b
    same a b k = cc

-- what a thread does that runs
does : (s : SchedulerState) (x c : ℕ) (pick : Pick) → state_at s x ≡ state.Running c → (cpu_at s c).running ≡ Some pick → doing_of s x ≡ Running c pick.partition pick.critical
does s x c pick runs keeps = ap (doing_by s) runs ∙ ap (running_by c) keeps

module _ (scenario : Scenario) (order : Order) (h : List Entry) (r : IsScenario scenario) (legal : IsLegal scenario order h) where
  kept_at : (m : ℕ) → AgreesOnRunning (state_after scenario (until m h))
  kept_at m =
      let part = until_part m h in
      (sound scenario order r (until m h) (prefix_legal scenario order (until m h) part.0 (subst (IsLegal scenario order) part.1 legal))).grounded.kept

  -- at each moment of an entry
  same_at : (before later : List Entry) (e : Entry) (m : ℕ) → h ≡ before ++ e ∷ later → e.from ≤ m → m < e.to → running_in scenario (until m h) e.cpu ≡ running_in scenario before e.cpu
  same_at before later e m same from to =
      let front = up_to scenario order h before later e same legal in
      let last = legal_last scenario order before e front in
      let step = step_law scenario order before e r front in
      let begins = step.from in
      ap (λ l. running_in scenario (until m l) e.cpu) same ∙ kept_since scenario order r e.cpu m before last.0 e later to (omega (arith, begins, from))

  pub runs_as_billed : (before later : List Entry) (e : Entry) (x : ℕ) → h ≡ before ++ e ∷ later → e.ran ≡ Some x → RunsAsBilled scenario h e x
  runs_as_billed before later e x same ran =
      let front = up_to scenario order h before later e same legal in
      let step = step_law scenario order before e r front in
      let kept = some_kept (running_in scenario before e.cpu) x (sym step.ran ∙ ran) in
      let pick = kept.0 in
      let mark : e.critical ≡ pick.critical = step.critical ∙ ap mark_kept kept.1 in
      record {
        partition = pick.partition;
        billed = step.billed ∙ ap partition_kept kept.1;
        runs = λ m from to.
            let u = state_after scenario (until m h) in
            let keeps : (cpu_at u e.cpu).running ≡ Some pick = same_at before later e m same from to ∙ kept.1 in
            let runs : state_at u x ≡ state.Running e.cpu = subst (λ y. state_at u y ≡ state.Running e.cpu) kept.2 ((kept_at m).runs e.cpu pick keeps) in
            does u x e.cpu pick runs keeps ∙ ap (Running e.cpu pick.partition) (sym mark);
      }

-- ---- the entry that runs at a moment

record Covers (b : List Entry) (c m : ℕ) : Type 0 where
  before : List Entry
  later : List Entry
  e : Entry
  same : b ≡ before ++ e ∷ later
  cpu : e.cpu ≡ c
  from : e.from ≤ m
  to : m < e.to

covers_more : (b : List Entry) (d : Entry) (c m : ℕ) → Covers b c m → Covers (b ++ d ∷ []) c m
covers_more b d c m found = record {
  before = found.before;
  later = found.later ++ d ∷ [];
  e = found.e;
  same = ap (λ l. l ++ d ∷ []) found.same ∙ append_assoc found.before (found.e ∷ found.later) (d ∷ []);
  cpu = found.cpu;
  from = found.from;
  to = found.to;
}

module _ (scenario : Scenario) (order : Order) (r : IsScenario scenario) (c m : ℕ) where
  abbrev CoversBefore : List Entry → Type 0
  CoversBefore b = m < last_end b c → Covers b c m

  one_more : (b : List Entry) (e : Entry) → IsLegal scenario order (b ++ e ∷ []) → CoversBefore b → CoversBefore (b ++ e ∷ [])
  one_more b e legal found past = elim (cases_eq e.cpu c) [
    | inl own ↦
        let step = step_law scenario order b e r legal in
        let end : last_end (b ++ e ∷ []) c ≡ e.to = ap (λ o. unwrap_or o 0) (last_own b e c own) in
        let begins : e.from ≡ last_end b c = step.from ∙ ap (last_end b) own in
        elim (cases_lt m e.from) [
          | inl early ↦ covers_more b e c m (found (omega (arith, begins, early)))
          | inr from ↦ record { before = b; later = []; e = e; same = refl; cpu = own; from = from; to = omega (arith, end, past) }
        ]
    | inr other ↦
        let end : last_end (b ++ e ∷ []) c ≡ last_end b c = ap (λ o. unwrap_or o 0) (last_other b e c other) in
        covers_more b e c m (found (omega (arith, end, past)))
  ]

  nobody : CoversBefore []
  nobody past = absurd (omega (arith, past))

  covers : (h : List Entry) → IsLegal scenario order h → CoversBefore h
  covers h legal = by_entries scenario order CoversBefore one_more h legal nobody

-- who does so runs there
record RunsThere (s : SchedulerState) (x c p : ℕ) (critical : Bool) : Type 0 where
  state : state_at s x ≡ state.Running c
  runs : running_by c (cpu_at s c).running ≡ Running c p critical

runs_there : (s : SchedulerState) (x c p : ℕ) (critical : Bool) (st : State) → state_at s x ≡ st → doing_by s st ≡ Running c p critical → RunsThere s x c p critical
runs_there s x c p critical (state.Running d) is does =
    let same : d ≡ c = by_pick (cpu_at s d).running does in
    record {
      state = is ∙ ap (λ k. state.Running k) same;
      runs = subst (λ k. running_by k (cpu_at s k).running ≡ Running c p critical) same does;
    }
  where
    by_pick : (o : Option Pick) → running_by d o ≡ Running c p critical → d ≡ c
    by_pick None k = cc
    by_pick (Some pick) k = cc
runs_there s x c p critical state.Ready is does = absurd cc
runs_there s x c p critical (state.Sleeping until) is does = absurd cc
runs_there s x c p critical (state.Sending d) is does = absurd cc
runs_there s x c p critical (state.Receiving d) is does = absurd cc
runs_there s x c p critical (state.Replying y) is does = absurd cc
runs_there s x c p critical state.Gone is does = absurd cc

-- what is kept of such a pick
kept_bill : (o : Option Pick) (x c p : ℕ) (critical : Bool) → thread_kept o ≡ Some x → running_by c o ≡ Running c p critical → (partition_kept o ≡ Some p) × (mark_kept o ≡ critical)
kept_bill None x c p critical kept runs = absurd cc
kept_bill (Some pick) x c p critical kept runs = (ap (λ (n : ℕ). Some n) (partition_same pick.partition p pick.critical critical runs), mark_same pick.partition p pick.critical critical runs)
  where
    partition_same : (q p : ℕ) (a b : Bool) → Running c q a ≡ Running c p b → q ≡ p
    partition_same q p a b k = cc

    mark_same : (q p : ℕ) (a b : Bool) → Running c q a ≡ Running c p b → a ≡ b
    mark_same q p a b k = cc

pub is_billed : (scenario : Scenario) (order : Order) (h : List Entry) → IsScenario scenario → IsLegal scenario order h → (x m c p : ℕ) (critical : Bool) → doing_at scenario h x m ≡ Running c p critical → m < last_end h c
    → IsBilledAt h x m c p critical
is_billed scenario order h r legal x m c p critical does past =
    let u = state_after scenario (until m h) in
    let there = runs_there u x c p critical (state_at u x) refl does in
    let kept = (kept_at scenario order h r legal m).kept x c there.state in
    let found = covers scenario order r c m h legal past in
    let front = up_to scenario order h found.before found.later found.e found.same legal in
    let step = step_law scenario order found.before found.e r front in
    let keeps : (cpu_at u c).running ≡ running_in scenario found.before found.e.cpu =
    ap (λ k. (cpu_at u k).running) (sym found.cpu) ∙ same_at scenario order h r legal found.before found.later found.e m found.same found.from found.to in
    let bill = kept_bill (cpu_at u c).running x c p critical kept there.runs in
    record {
      before = found.before;
      later = found.later;
      e = found.e;
      same = found.same;
      cpu = found.cpu;
      from = found.from;
      to = found.to;
      ran = step.ran ∙ ap thread_kept (sym keeps) ∙ kept;
      billed = step.billed ∙ ap partition_kept (sym keeps) ∙ bill.0;
      mark = step.critical ∙ ap mark_kept (sym keeps) ∙ bill.1;
    }
