use Rattle.std.proofs.Common.{◌≡◌, ◌+◌, ◌<◌, ◌≤◌, ◌∙◌, ℕ, List, [], length, length-set, get_or, refl, set, ap, subst, arith}
use Rattle.std.proofs.lemmas.List.{get_or_read, get_or-set_other}
use Rattle.aps_model.specs.declared.state.ThreadNow.{ThreadNow}
use Rattle.aps_model.specs.SchedulerState.{thread_at}
use Rattle.aps_core.specs.Run.{state_of_run}
use Rattle.view_lives.specs.declared.doing.Doing.{Doing}
use Rattle.view_lives.specs.declared.growing.Aside.{Aside}
use Rattle.view_lives.specs.declared.life.Segment.{Segment}
use Rattle.view_lives.specs.Doing.{doing_by, doing_of}
use Rattle.view_lives.specs.Growing.{LifeGoesOnWith, nothing_aside}
use Rattle.view_lives.proofs.Asides.{both_more, passed_more}
use Rattle.view_lives.proofs.growing.pass.Goals as goal

pub loop-x-init : goal.loop-x-init
loop-x-init c =
    let lives = c.args.lives.now.items in
    let aside = c.args.aside.now.items in
    let both = c.requires.both in
    let most = c.next_other-x.ensures.inside in
    record {
      lives = refl;
      aside = refl;
      inside = omega (arith, both, most);
      done = passed_more (state_of_run c.args.core.now) c.args.until c.args.from 0 c.next_other-x.result lives lives aside aside (λ k less. absurd (omega (arith, less))) (λ k past. refl) (λ k past. refl)
          c.next_other-x.ensures.kept;
      others = λ k past. refl;
      others_aside = λ k past. refl;
    }

pub loop-x-preserved : goal.loop-x-preserved
loop-x-preserved c =
    let s = state_of_run c.args.core.now in
    let x = c.loop-x.x in
    let lives = c.loop-x.lives.items in
    let aside = c.loop-x.aside.items in
    let start = c.args.lives.now.items in
    let start_aside = c.args.aside.now.items in
    let longer = c.turn.new.life in
    let newer = c.turn.new.aside in
    let kept = c.loop-x.invariant in
    let less = c.loop-x-test.true in
    let later = c.next_other-x-in-loop-x.ensures.later in
    let most = c.next_other-x-in-loop-x.ensures.inside in
    let both = c.requires.both in
    let count = kept.lives in
    let count_aside = kept.aside in
    let inside : x < length lives = omega (arith, less, count) in
    let inside_aside : x < length aside = omega (arith, less, both, count_aside) in
    let read : c.index_mut.result.now ≡ get_or start x [] = get_or_read lives x c.index_mut.result.now inside c.index_mut.ensures.value [] ∙ kept.others x (omega arith) in
    let read_aside : c.index_mut-in-loop-x.result.now ≡ get_or start_aside x nothing_aside =
    get_or_read aside x c.index_mut-in-loop-x.result.now inside_aside c.index_mut-in-loop-x.ensures.value nothing_aside ∙ kept.others_aside x (omega arith) in
    let thread : c.doing_by-doing.result ≡ doing_of s x = c.doing_by-doing.ensures ∙ ap (λ (t : ThreadNow). doing_by s t.state) (c.thread-thread.ensures ∙ ap (λ y. thread_at s y) c.at.ensures) in
    let Passed : Doing → List Segment → Aside → Type 0 = λ d l a. LifeGoesOnWith c.args.until c.args.from d l a longer newer in
    let here : Passed (doing_of s x) (get_or start x []) (get_or start_aside x nothing_aside) =
    subst (λ d. Passed d (get_or start x []) (get_or start_aside x nothing_aside)) thread
    (subst (λ l. Passed c.doing_by-doing.result l (get_or start_aside x nothing_aside)) read
    (subst (λ a. Passed c.doing_by-doing.result c.index_mut.result.now a) read_aside c.in_ok-turn.ensures)) in
    let others : (k : ℕ) → x + 1 ≤ k → get_or (set lives x longer) k [] ≡ get_or start k [] =
    λ k past. get_or-set_other lives x k longer [] (λ same. omega (arith, same, past)) ∙ kept.others k (omega (arith, past)) in
    let others_aside : (k : ℕ) → x + 1 ≤ k → get_or (set aside x newer) k nothing_aside ≡ get_or start_aside k nothing_aside =
    λ k past. get_or-set_other aside x k newer nothing_aside (λ same. omega (arith, same, past)) ∙ kept.others_aside k (omega (arith, past)) in
    let long : length (set lives x longer) ≡ length lives = length-set lives x longer in
    let long_aside : length (set aside x newer) ≡ length aside = length-set aside x newer in
    record {
      lives = long ∙ kept.lives;
      aside = long_aside ∙ kept.aside;
      inside = omega (arith, most, long_aside, count_aside, both);
      done = passed_more s c.args.until c.args.from (x + 1) c.next_other-x-in-loop-x.result start (set lives x longer) start_aside (set aside x newer)
          (both_more (λ k l a. LifeGoesOnWith c.args.until c.args.from (doing_of s k) (get_or start k []) (get_or start_aside k nothing_aside) l a) [] nothing_aside lives aside x longer newer
          inside (omega (arith, both, count, count_aside)) kept.done here)
          others others_aside c.next_other-x-in-loop-x.ensures.kept;
      others = λ k past. others k (omega (arith, past, later));
      others_aside = λ k past. others_aside k (omega (arith, past, later));
    }
