-- What a live step leaves as it was: how many threads and processors there are. It gives one stamp at most.
use Rattle.std.proofs.Common.{◌≡◌, ◌≢◌, ℕ, ◌+◌, ◌<◌, ◌≤◌, List, length, slice_index_or, slice_set, Option, Some, None, refl, sym, ◌∙◌, ap, arith, length-set}
use Rattle.std.proofs.lemmas.List.{get_or-set_same}
use Rattle.aps_model.specs.declared.entry.Entry.{Entry}
use Rattle.aps_model.specs.declared.merit.Contender.{Contender}
use Rattle.aps_model.specs.declared.merit.PartFacts.{PartFacts}
use Rattle.aps_model.specs.declared.state.Pick.{Pick}
use Rattle.aps_model.specs.Pick.{greatest}
use Rattle.aps_model.specs.Scenario.{Scenario}
use Rattle.aps_live.specs.declared.event.LiveEvent.{LiveEvent}
use Rattle.aps_live.specs.declared.event.LiveEvent.TheVariants.{Stay, Block, Wake}
use Rattle.aps_live.specs.declared.thread.LiveThread.{LiveThread}
use Rattle.aps_live.specs.declared.thread.Doing.{Doing}
use Rattle.aps_live.specs.declared.thread.Doing.TheVariants.{Waiting, Ready, Running}
use Rattle.aps_live.specs.LiveState.{LiveState, live_cpu_at, live_thread_at}
use Rattle.aps_live.specs.LiveStep.{doing_after, live_bill, live_chosen, live_contenders, live_parts, live_settled, live_step, ready_again, released, woken}

-- the same lists as long, and at most so many stamps more
pub record IsSized (s t : LiveState) (more : ℕ) : Type 0 where
  pub threads : length t.threads ≡ length s.threads
  pub cpus : length t.cpus ≡ length s.cpus
  pub stamps : t.stamps ≤ s.stamps + more

released_sized : (s : LiveState) (c : ℕ) (doing : Doing) (o : Option Pick) → IsSized s (released s c doing o) 0
released_sized s c doing None = record { threads = refl; cpus = refl; stamps = omega arith }
released_sized s c doing (Some pick) = record {
  threads = length-set s.threads pick.thread (record (live_thread_at s pick.thread) { doing = doing });
  cpus = length-set s.cpus c None;
  stamps = omega arith;
}

again_sized : (s : LiveState) (x : ℕ) (thread : LiveThread) (doing : Doing) → IsSized s (ready_again s x thread doing) 1
again_sized s x thread Waiting = record {
  threads = length-set s.threads x (record thread { contender = record thread.contender { stamp = s.stamps }; doing = Ready });
  cpus = refl;
  stamps = omega arith;
}
again_sized s x thread Ready = record { threads = refl; cpus = refl; stamps = omega arith }
again_sized s x thread (Running c) = record { threads = refl; cpus = refl; stamps = omega arith }

woken_sized : (s : LiveState) (event : LiveEvent) → IsSized s (woken s event) 1
woken_sized s Stay = record { threads = refl; cpus = refl; stamps = omega arith }
woken_sized s Block = record { threads = refl; cpus = refl; stamps = omega arith }
woken_sized s (Wake x) = again_sized s x (live_thread_at s x) (live_thread_at s x).doing

chosen_sized : (s : LiveState) (parts : List PartFacts) (c : ℕ) (best : Option Contender) → IsSized s (live_chosen s parts c best) 0
chosen_sized s parts c None = record { threads = refl; cpus = length-set s.cpus c None; stamps = omega arith }
chosen_sized s parts c (Some best) = record {
  threads = length-set s.threads best.thread (record (live_thread_at s best.thread) { doing = Running c });
  cpus = length-set s.cpus c _;
  stamps = omega arith;
}

then : (s t u : LiveState) (j k : ℕ) → IsSized s t j → IsSized t u k → IsSized s u (j + k)
then s t u j k p q = record {
  threads = q.threads ∙ p.threads;
  cpus = q.cpus ∙ p.cpus;
  stamps = omega (arith, p.stamps, q.stamps);
}

pub settled_sized : (s : LiveState) (c : ℕ) (event : LiveEvent) → IsSized s (live_settled s c event) 1
settled_sized s c event =
    then s (released s c (doing_after event) (live_cpu_at s c)) (live_settled s c event) 0 1 (released_sized s c (doing_after event) (live_cpu_at s c))
    (woken_sized (released s c (doing_after event) (live_cpu_at s c)) event)

pub step_sized : (scenario : Scenario) (s : LiveState) (h : List Entry) (c now : ℕ) (event : LiveEvent) → IsSized s (live_step scenario s h c now event).state 1
step_sized scenario s h c now event =
    let t = live_settled s c event in
    let parts = live_parts scenario h now (live_bill s h c now) in
    let best = greatest scenario.shape.free parts (live_contenders t) in
    then s t (live_chosen t parts c best) 1 0 (settled_sized s c event) (chosen_sized t parts c best)

-- ---- the processor runs nobody before its pick

released_idle : (s : LiveState) (c : ℕ) (doing : Doing) (o : Option Pick) → c < length s.cpus → live_cpu_at s c ≡ o → live_cpu_at (released s c doing o) c ≡ None
released_idle s c doing None there is = is
released_idle s c doing (Some pick) there is = get_or-set_same s.cpus c None None there

again_cpus : (s : LiveState) (x : ℕ) (thread : LiveThread) (doing : Doing) → (ready_again s x thread doing).cpus ≡ s.cpus
again_cpus s x thread Waiting = refl
again_cpus s x thread Ready = refl
again_cpus s x thread (Running c) = refl

pub woken_cpus : (s : LiveState) (event : LiveEvent) → (woken s event).cpus ≡ s.cpus
woken_cpus s Stay = refl
woken_cpus s Block = refl
woken_cpus s (Wake x) = again_cpus s x (live_thread_at s x) (live_thread_at s x).doing

pub settled_idle : (s : LiveState) (c : ℕ) (event : LiveEvent) → c < length s.cpus → live_cpu_at (live_settled s c event) c ≡ None
settled_idle s c event there =
    let r = released s c (doing_after event) (live_cpu_at s c) in
    ap (λ (cpus : List (Option Pick)). slice_index_or cpus c None) (woken_cpus r event) ∙ released_idle s c (doing_after event) (live_cpu_at s c) there refl
