-- What is kept of each processor, through a step.
use Rattle.std.proofs.Common.{◌≡◌, ◌≢◌, ℕ, ◌<◌, List, length, refl, sym, ◌∙◌, ap, subst, Option, Some, None, length-set, arith, inl, inr}
use Rattle.std.specs.Option.{option_map}
use Rattle.std.proofs.lemmas.Bool.{cases_eq}
use Rattle.aps_model.specs.declared.merit.Contender.{Contender}
use Rattle.aps_model.specs.declared.merit.PartFacts.{PartFacts}
use Rattle.aps_model.specs.declared.shape.Free.{Free}
use Rattle.aps_model.specs.declared.state.CpuNow.{CpuNow}
use Rattle.aps_model.specs.declared.state.Facts.{Facts}
use Rattle.aps_model.specs.declared.state.Pick.{Pick}
use Rattle.aps_model.specs.declared.state.State.TheVariants.{Running}
use Rattle.aps_model.specs.Flag.{with_flag}
use Rattle.aps_model.specs.Inherit.{facts_of}
use Rattle.aps_model.specs.Pick.{contender_of, contenders, greatest}
use Rattle.aps_model.specs.SchedulerState.{SchedulerState, cpu_at, thread_at}
use Rattle.aps_model.specs.Step.{chosen}
use Rattle.laws_runs.proofs.Picked.{cpu_same, flag_running, greatest_ready}
use Rattle.aps_ready.specs.Ready.{members}
use Rattle.aps_core.specs.Seats.{seats_of}
use Rattle.aps_core.specs.declared.posts.Post.{Post}
use Rattle.aps_core.specs.Posts.{AreOthersPosts, ArePosts, IsPost, facts_now, post_at}
use Rattle.aps_core.proofs.NextDues.{chosen_count, chosen_cpu}
use Rattle.aps_core.proofs.Seats.{facts_stay, missing_in}

-- ---- before the pick

some_pick : (p q : Pick) → Some p ≡ Some q → p ≡ q
some_pick p q e = cc

running_same : (d c : ℕ) → Running d ≡ Running c → d ≡ c
running_same d c e = cc

-- two processors run two threads
pub runs_apart : (s : SchedulerState) (c d : ℕ) (p q : Pick) → ((d : ℕ) (p : Pick) → (cpu_at s d).running ≡ Some p → (thread_at s p.thread).state ≡ Running d)
    → d ≢ c → (cpu_at s c).running ≡ Some p → (cpu_at s d).running ≡ Some q → q.thread ≢ p.thread
runs_apart s c d p q runs ne own other same =
    ne (running_same d c (sym (runs d q other) ∙ ap (λ x. (thread_at s x).state) same ∙ runs c p own))

-- whoever another processor runs has the values that it had
pub posts_stay : (s t : SchedulerState) (c : ℕ) (posts : List Post) → length t.cpus ≡ length s.cpus → ((d : ℕ) → d ≢ c → cpu_at t d ≡ cpu_at s d)
    → ((d : ℕ) (q : Pick) → d ≢ c → (cpu_at s d).running ≡ Some q → facts_of t q.thread ≡ facts_of s q.thread) → AreOthersPosts s c posts → AreOthersPosts t c posts
posts_stay s t c posts count cpus facts are d inside ne =
    subst (λ (z : CpuNow). IsPost (facts_now t z.running) (post_at posts d)) (sym (cpus d ne))
    (by_running (cpu_at s d).running refl (are d (omega (arith, inside, count)) ne))
  where
    by_running : (o : Option Pick) → (cpu_at s d).running ≡ o → IsPost (facts_now s o) (post_at posts d) → IsPost (facts_now t o) (post_at posts d)
    by_running None is post = post
    by_running (Some q) is post = subst (λ (f : Facts). IsPost (Some f) (post_at posts d)) (sym (facts d q ne is)) post

-- ---- after the choice

chosen_facts : (s : SchedulerState) (parts : List PartFacts) (c : ℕ) (best : Option Contender) (y : ℕ) → facts_of (chosen s parts c best) y ≡ facts_of s y
chosen_facts s parts c None y = refl
chosen_facts s parts c (Some b) y = facts_stay s b.thread y (record (thread_at s b.thread) { state = Running c }) refl

-- what the own processor runs then
chosen_own : (s : SchedulerState) (parts : List PartFacts) (c : ℕ) (best : Option Contender) → c < length s.cpus → ((b : Contender) → best ≡ Some b → b ≡ contender_of s b.thread)
    → facts_now (chosen s parts c best) (cpu_at (chosen s parts c best) c).running ≡ option_map (λ (b : Contender). b.facts) best
chosen_own s parts c None inside from = ap (λ (z : CpuNow). facts_now (chosen s parts c None) z.running) (cpu_same s.cpus c _ inside)
chosen_own s parts c (Some b) inside from =
    ap (λ (z : CpuNow). facts_now (chosen s parts c (Some b)) z.running) (cpu_same s.cpus c _ inside)
    ∙ ap (λ (f : Facts). Some f) (chosen_facts s parts c (Some b) b.thread ∙ sym (ap (λ (k : Contender). k.facts) (from b refl)))

pub posts_chosen : (s s1 : SchedulerState) (parts : List PartFacts) (c : ℕ) (best : Option Contender) (facts : Option Facts) (posts after : List Post)
    → s1 ≡ chosen s parts c best → c < length s.cpus → facts ≡ option_map (λ (b : Contender). b.facts) best → ((b : Contender) → best ≡ Some b → b ≡ contender_of s b.thread)
    → AreOthersPosts s c posts → IsPost facts (post_at after c) → ((e : ℕ) → e ≢ c → post_at after e ≡ post_at posts e) → ArePosts s1 after
posts_chosen s s1 parts c best facts posts after chose inside are from others here rest =
    subst (λ t. ArePosts t after) (sym chose)
    (λ d below. elim (cases_eq d c) [
      | inl same ↦
          subst (λ k. IsPost (facts_now (chosen s parts c best) (cpu_at (chosen s parts c best) k).running) (post_at after k)) (sym same)
          (subst (λ (o : Option Facts). IsPost o (post_at after c)) (are ∙ sym (chosen_own s parts c best inside from)) here)
      | inr ne ↦
          subst (IsPost (facts_now (chosen s parts c best) (cpu_at (chosen s parts c best) d).running)) (sym (rest d ne))
          (posts_stay s (chosen s parts c best) c posts (chosen_count s parts c best) (chosen_cpu s parts c best)
          (λ e q other is. chosen_facts s parts c best q.thread) others d below ne)
    ])

-- the same, where the greatest of those in the queues was chosen
pub posts_picked : (s s1 : SchedulerState) (free : Free) (parts : List PartFacts) (c : ℕ) (best : Option Contender) (facts : Option Facts) (seats : List (Option Contender)) (posts after : List Post)
    → free ≡ s.shape.free → best ≡ greatest free parts (members seats) → seats ≡ seats_of s → s1 ≡ chosen s parts c best → c < length s.cpus → facts ≡ option_map (λ (b : Contender). b.facts) best
    → AreOthersPosts s c posts → IsPost facts (post_at after c) → ((e : ℕ) → e ≢ c → post_at after e ≡ post_at posts e) → ArePosts s1 after
posts_picked s s1 free parts c best facts seats posts after same greatest_is sit chose inside are others here rest =
    let found : best ≡ greatest free parts (contenders s) = greatest_is ∙ ap (greatest free parts) (missing_in s seats sit) in
    posts_chosen s s1 parts c best facts posts after chose inside are (λ b is. (greatest_ready s free parts b (sym found ∙ is)).same) others here rest

-- where all stand by other classes
pub posts_raised : (s : SchedulerState) (posts after : List Post) → ((d : ℕ) (o : Option Facts) → IsPost o (post_at posts d) → IsPost o (post_at after d)) → ArePosts s posts → ArePosts s after
posts_raised s posts after same are = λ d inside. same d (facts_now s (cpu_at s d).running) (are d inside)

-- ---- after the flag

flagged_facts : (s : SchedulerState) (now : ℕ) (o : Option ℕ) (running : Option Pick) → facts_now (with_flag s now o) running ≡ facts_now s running
flagged_facts s now None running = refl
flagged_facts s now (Some d) None = refl
flagged_facts s now (Some d) (Some p) = refl

flagged_count : (s : SchedulerState) (now : ℕ) (o : Option ℕ) → length (with_flag s now o).cpus ≡ length s.cpus
flagged_count s now None = refl
flagged_count s now (Some d) = length-set s.cpus d _

pub posts_flagged : (s t : SchedulerState) (now : ℕ) (o : Option ℕ) (posts : List Post) → t ≡ with_flag s now o → ArePosts s posts → ArePosts t posts
posts_flagged s t now o posts is are =
    subst (λ u. ArePosts u posts) (sym is)
    (λ d inside.
    subst (λ f. IsPost f (post_at posts d)) (sym (flagged_facts s now o (cpu_at (with_flag s now o) d).running ∙ ap (facts_now s) (flag_running s now o d)))
    (are d (omega (arith, inside, flagged_count s now o))))
