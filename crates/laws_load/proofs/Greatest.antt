-- The greatest candidate, and the one that is left when it is picked.
use Rattle.std.proofs.Common.{◌≡◌, ◌≢◌, ℕ, ◌<◌, List, [], ◌∷◌, length, refl, sym, ◌∙◌, ap, subst, Bool, true, false, cond, Option, Some, None, arith}
use Rattle.std.specs.List.{fold}
use Rattle.aps_model.specs.declared.merit.Contender.{Contender}
use Rattle.aps_model.specs.declared.merit.Merit.{Merit}
use Rattle.aps_model.specs.declared.merit.PartFacts.{PartFacts}
use Rattle.aps_model.specs.declared.shape.Free.{Free}
use Rattle.aps_model.specs.declared.state.CpuNow.{CpuNow}
use Rattle.aps_model.specs.declared.state.Facts.{Facts}
use Rattle.aps_model.specs.declared.state.State.{State}
use Rattle.aps_model.specs.declared.state.State.TheVariants.{Gone, Ready, Receiving, Replying, Running, Sending, Sleeping}
use Rattle.aps_model.specs.declared.state.ThreadNow.{ThreadNow}
use Rattle.aps_model.specs.Budget.{part_at}
use Rattle.aps_model.specs.Flag.{merit_now}
use Rattle.aps_model.specs.Inherit.{facts_of}
use Rattle.aps_model.specs.Merit.{is_below, is_candidate, is_greater, merit_of}
use Rattle.aps_model.specs.Pick.{better, candidates, contender_of, contenders, greatest, is_ready, merit_among}
use Rattle.aps_model.specs.SchedulerState.{SchedulerState, cpu_at, thread_at}
use Rattle.aps_model.specs.Step.{chosen}
use Rattle.aps_model.proofs.GreatestLaws.{beats, greatest-unbeaten}
use Rattle.laws_runs.specs.Waits.{state_at}
use Rattle.laws_runs.proofs.Picked.{IsReadyBest, cpu_same, greatest_ready}
use Rattle.laws_runs.proofs.PickSays.{facts_picked}
use Rattle.laws_runs.proofs.ThreadFacts.{set_other, set_same, within}
use Rattle.laws_load.proofs.Flags.{RunsNotBelow, each_filtered, not_below}

-- ---- the greatest candidate is a candidate

abbrev pub may_run : List PartFacts → Contender → Bool
may_run ps c = is_candidate c.facts (part_at ps c.facts.partition)

abbrev MayRun : List PartFacts → Option Contender → Type 0
MayRun ps None = Unit {0}
MayRun ps (Some c) = may_run ps c ≡ true

better_runs : (free : Free) (ps : List PartFacts) (best : Option Contender) (c : Contender) → may_run ps c ≡ true → MayRun ps best → MayRun ps (better free ps best c)
better_runs free ps None c here so_far = here
better_runs free ps (Some best) c here so_far = by_test (is_greater free (merit_among ps c) (merit_among ps best))
  where
    by_test : (t : Bool) → may_run ps (cond t c best) ≡ true
    by_test true = here
    by_test false = so_far

scan_runs : (free : Free) (ps : List PartFacts) (best : Option Contender) (cs : List Contender) → MayRun ps best → MayRun ps (fold (better free ps) best (candidates ps cs))
scan_runs free ps best [] so_far = so_far
scan_runs free ps best (c ∷ cs) so_far = by_test (may_run ps c) refl (scan_runs free ps best cs so_far) (λ here. scan_runs free ps (better free ps best c) cs (better_runs free ps best c here so_far))
  where
    by_test : (t : Bool) → may_run ps c ≡ t → MayRun ps (fold (better free ps) best (candidates ps cs))
        → (may_run ps c ≡ true → MayRun ps (fold (better free ps) (better free ps best c) (candidates ps cs)))
        → MayRun ps (fold (better free ps) best (cond t (c ∷ candidates ps cs) (candidates ps cs)))
    by_test true is skip take = take is
    by_test false is skip take = skip

pub greatest_runs : (free : Free) (ps : List PartFacts) (cs : List Contender) (b : Contender) → greatest free ps cs ≡ Some b → may_run ps b ≡ true
greatest_runs free ps cs b is = subst (MayRun ps) is (scan_runs free ps None cs tt)

-- ---- whom a ready candidate can't beat

ready_is : (st : State) → st ≡ Ready → is_ready st ≡ true
ready_is st e = ap is_ready e

pub ready_from : (st : State) → is_ready st ≡ true → st ≡ Ready
ready_from Ready is = refl
ready_from (Running c) is = absurd cc
ready_from (Sleeping until) is = absurd cc
ready_from (Sending c) is = absurd cc
ready_from (Receiving c) is = absurd cc
ready_from (Replying y) is = absurd cc
ready_from Gone is = absurd cc

-- a ready thread that is a candidate doesn't beat the greatest one
pub ready_unbeaten : (s : SchedulerState) (free : Free) (ps : List PartFacts) (b : Contender) (x : ℕ) → greatest free ps (contenders s) ≡ Some b
    → state_at s x ≡ Ready → may_run ps (contender_of s x) ≡ true → beats free ps (contender_of s x) b ≡ false
ready_unbeaten s free ps b x is ready runs =
    let below : x < length s.threads = within s.threads x (λ g. clash (sym ready ∙ g)) in
    each_filtered (contender_of s) (λ (c : Contender). is_ready (thread_at s c.thread).state) (may_run ps) (λ (c : Contender). beats free ps c b ≡ false) 0 (length s.threads) x
    (greatest-unbeaten free ps (contenders s) b is) (omega arith) (omega (arith, below)) (ready_is (state_at s x) ready) runs
  where
    clash : ◌≡◌ {A = State} Ready Gone → ⊥
    clash e = cc

-- ---- the one that is left

module _ (r : SchedulerState) (ps : List PartFacts) (c : ℕ) (b : Contender) (best : greatest r.shape.free ps (contenders r) ≡ Some b) where
  abbrev q : SchedulerState
  q = chosen r ps c (Some b)

  is_best : IsReadyBest r b
  is_best = greatest_ready r r.shape.free ps b best

  inside : b.thread < length r.threads
  inside = within r.threads b.thread (λ g. clash (sym is_best.ready ∙ g))
    where
      clash : ◌≡◌ {A = State} Ready Gone → ⊥
      clash e = cc

  -- the thread that is picked keeps its values
  merit_kept : merit_now q ps b.thread ≡ merit_among ps b
  merit_kept =
      let merit : Facts → ℕ → Merit = λ f n. merit_of f n (part_at ps f.partition) in
      let facts : facts_of q b.thread ≡ b.facts = facts_picked r ps c (Some b) b.thread ∙ sym (ap (λ (k : Contender). k.facts) is_best.same) in
      let stamp : (thread_at q b.thread).stamp ≡ b.stamp =
      ap (λ (t : ThreadNow). t.stamp) (set_same r.threads b.thread (record (thread_at r b.thread) { state = Running c }) inside)
      ∙ sym (ap (λ (k : Contender). k.stamp) is_best.same) in
      ap (λ f. merit f (thread_at q b.thread).stamp) facts ∙ ap (merit b.facts) stamp

  -- whoever is left was a contender
  left_was : (left : Contender) → greatest r.shape.free ps (contenders q) ≡ Some left → (state_at r left.thread ≡ Ready) × (left ≡ contender_of r left.thread)
  left_was left is =
      let new = record (thread_at r b.thread) { state = Running c } in
      let found = greatest_ready q r.shape.free ps left is in
      let ne : left.thread ≢ b.thread = λ same.
      clash c (sym found.ready ∙ ap (state_at q) same ∙ ap (λ (t : ThreadNow). t.state) (set_same r.threads b.thread new inside)) in
      let thread : thread_at q left.thread ≡ thread_at r left.thread = set_other r.threads b.thread left.thread new ne in (
        sym (ap (λ (t : ThreadNow). t.state) thread) ∙ found.ready,
        found.same
            ∙ ap (λ f. record { thread = left.thread; facts = f; stamp = (thread_at q left.thread).stamp }) (facts_picked r ps c (Some b) left.thread)
            ∙ ap (λ (t : ThreadNow). record { thread = left.thread; facts = facts_of r left.thread; stamp = t.stamp }) thread,
      )
    where
      clash : (c : ℕ) → ◌≡◌ {A = State} Ready (Running c) → ⊥
      clash c e = cc

  -- the picked thread isn't below the one that is left
  pub picked_not_below : (left : Contender) → greatest r.shape.free ps (contenders q) ≡ Some left → c < length r.cpus → RunsNotBelow q ps (merit_among ps left) (cpu_at q c).running
  picked_not_below left is below =
      let was = left_was left is in
      let runs = greatest_runs r.shape.free ps (contenders q) left is in
      let unbeaten = ready_unbeaten r r.shape.free ps b left.thread best was.0 (subst (λ k. may_run ps k ≡ true) was.1 runs) in
      let unbeaten' : is_greater r.shape.free (merit_among ps left) (merit_among ps b) ≡ false = subst (λ k. beats r.shape.free ps k b ≡ false) (sym was.1) unbeaten in
      record {
        pick = _;
        runs = ap (λ (z : CpuNow). z.running) (cpu_same r.cpus c _ below);
        no_less = ap (λ m. is_below r.shape.free m (merit_among ps left)) merit_kept ∙ not_below r.shape.free (merit_among ps b) (merit_among ps left) unbeaten';
      }
