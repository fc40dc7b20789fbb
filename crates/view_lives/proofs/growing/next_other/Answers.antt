use Rattle.std.proofs.Common.{◌≡◌, ◌∙◌, get_or, true, inl, inr, ap, subst, sym, arith}
use Rattle.std.proofs.lemmas.Bool.{cases_lt}
use Rattle.std.proofs.lemmas.List.{get_or_read}
use Rattle.aps_model.specs.declared.state.ThreadNow.{ThreadNow}
use Rattle.aps_model.specs.SchedulerState.{thread_at}
use Rattle.aps_core.specs.Run.{state_of_run}
use Rattle.view_lives.specs.Doing.{doing_by, doing_of}
use Rattle.view_lives.specs.Growing.{keeps_on, nothing_aside}
use Rattle.view_lives.proofs.growing.next_other.Goals as goal

pub loop-x-preserved : goal.loop-x-preserved
loop-x-preserved c =
    let s = state_of_run c.args.core.now in
    let aside = c.args.aside.now.items in
    let x = c.loop-x.x in
    let read : c.index.result.now ≡ get_or aside x nothing_aside = get_or_read aside x c.index.result.now (omega arith) c.index.ensures nothing_aside in
    let thread : c.thread-thread.result ≡ thread_at s x = c.thread-thread.ensures ∙ ap (λ y. thread_at s y) c.at.ensures in
    let here : keeps_on c.args.until c.args.from (get_or aside x nothing_aside) (doing_of s x) ≡ true =
    subst (λ a. keeps_on c.args.until c.args.from a (doing_of s x) ≡ true) read
    (subst (λ (t : ThreadNow). keeps_on c.args.until c.args.from c.index.result.now (doing_by s t.state) ≡ true) thread (sym c.keeps_on.ensures ∙ c.if-not-keeps_on.false)) in
    λ k later less. elim (cases_lt k x) [
      | inl before ↦ c.loop-x.invariant k later before
      | inr past ↦ subst (λ y. keeps_on c.args.until c.args.from (get_or aside y nothing_aside) (doing_of s y) ≡ true) (omega (arith, less, past)) here
    ]
