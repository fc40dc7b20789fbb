use Rattle.std.proofs.Common.{◌≡◌, ◌≢◌, ◌<◌, ◌∙◌, ℕ, length, get_or, ap, refl, sym, subst, arith, length-set, inl, inr}
use Rattle.std.proofs.Math.ListN.{set}
use Rattle.std.proofs.lemmas.Bool.{cases_lt}
use Rattle.std.proofs.lemmas.List.{get_or_read, get_or-set_other, get_or-set_same}
use Rattle.aps_model.specs.History.{History}
use Rattle.aps_model.specs.Scenario.{Scenario}
use Rattle.aps_model.specs.SchedulerState.{SchedulerState, thread_at}
use Rattle.aps_core.specs.Run.{state_of_run}
use Rattle.view_latency.specs.declared.news.News.{News}
use Rattle.view_latency.specs.declared.seen.Seen.{Seen}
use Rattle.view_latency.specs.declared.seen.Seen.TheVariants.{Other}
use Rattle.view_latency.specs.Callers.{caller_at}
use Rattle.view_latency.specs.Calls.{Calls, HasRoomInCall, no_calls, with_news, calls_with_entry}
use Rattle.view_latency.specs.News.{news_of}
use Rattle.view_latency.specs.Seen.{AreSeen, news_by, seen_of}
use Rattle.view_latency.proofs.Quiet.{all_longer, apart, done_more, others_more}
use Rattle.view_latency.proofs.SeenBefore.{news_seen}
use Rattle.view_latency.proofs.calling.add_news.Goals as goal

pub add-requires-clause-room : goal.add-requires-clause-room
add-requires-clause-room c =
    let scenario = c.args.core.now.setup.scenario in
    let callers = c.args.callers.now in
    let k = c.loop-k.k in
    let x = caller_at callers k in
    let less = c.loop-k-test.true in
    let below = c.requires.callers.below k less in
    let one_each = c.requires.one_each in
    let count = c.loop-k.invariant.count in
    let inside : x < length c.args.calls.now.items = omega (arith, below, one_each) in
    let there : x < length c.loop-k.calls.items = omega (arith, inside, count) in
    let read = get_or_read c.loop-k.calls.items x c.index_mut.result.now there c.index_mut.ensures.value no_calls in
    let same = c.loop-k.invariant.others x (λ j order. apart scenario (length scenario.threads) callers k j c.requires.callers less order) in
    subst (λ (a : Calls). HasRoomInCall a.current) (sym (read ∙ same)) (c.requires.room x inside)

pub loop-k-preserved : goal.loop-k-preserved
loop-k-preserved c =
    let scenario = c.args.core.now.setup.scenario in
    let callers = c.args.callers.now in
    let e = c.args.e.now in
    let k = c.loop-k.k in
    let x = caller_at callers k in
    let now = c.loop-k.calls.items in
    let start = c.args.calls.now.items in
    let seen = c.loop-k.seen.items in
    let v = c.seen_of.result in
    let less = c.loop-k-test.true in
    let below = c.requires.callers.below k less in
    let one_each = c.requires.one_each in
    let count = c.loop-k.invariant.count in
    let kept = c.loop-k.invariant.seen_count in
    let there : x < length now = omega (arith, below, one_each, count) in
    let place : k < length seen = omega (arith, less, kept) in
    let read : c.index_mut.result.now ≡ get_or now x no_calls = get_or_read now x c.index_mut.result.now there c.index_mut.ensures.value no_calls in
    let unlike : (j : ℕ) → j < k → caller_at callers j ≢ x = λ j order. apart scenario (length scenario.threads) callers k j c.requires.callers less order in
    let told : (s : SchedulerState) → AreSeen s callers c.args.seen.now.items → news_by c.scenario-scenario.result.now c.at-thread.result c.index.result.now e ≡ news_of scenario s x e =
    λ s are.
    ap (λ (z : Scenario). news_by z c.at-thread.result c.index.result.now e) (c.scenario-scenario.ensures ∙ ap (λ (h : History). h.scenario) c.history.ensures.same)
    ∙ ap (λ y. news_by scenario y c.index.result.now e) c.at-thread.ensures
    ∙ ap (λ (w : Seen). news_by scenario x w e) (get_or_read seen k c.index.result.now place c.index.ensures Other ∙ c.loop-k.invariant.before k (omega arith) ∙ are.each k less)
    ∙ news_seen scenario x (thread_at s x).place (thread_at s x).state e in
    let new : (s : SchedulerState) → AreSeen s callers c.args.seen.now.items → c.add.new.self ≡ calls_with_entry scenario s x (get_or now x no_calls) e =
    λ s are.
    c.in_ok-add.ensures
    ∙ ap (λ (a : Calls). with_news a e.to c.news_by-news.result) read
    ∙ ap (λ (n : News). with_news (get_or now x no_calls) e.to n) (c.news_by-news.ensures.same ∙ told s are) in
    record {
      count = length-set now x c.add.new.self ∙ count;
      seen_count = length-set seen k v ∙ kept;
      anew = λ j order. elim (cases_lt j k) [
        | inl before ↦ get_or-set_other seen k j v Other (λ same. omega (arith, same, before)) ∙ c.loop-k.invariant.anew j before
        | inr past ↦
            let last : j ≡ k = omega (arith, order, past) in
            ap (λ i. get_or (set seen k v) i Other) last ∙ get_or-set_same seen k v Other place ∙ c.seen_of.ensures ∙ ap (seen_of (state_of_run c.args.core.now)) c.at-thread.ensures ∙ sym (ap (λ i. seen_of (state_of_run c.args.core.now) (caller_at callers i)) last)
      ];
      before = λ j order. get_or-set_other seen k j v Other (λ same. omega (arith, same, order)) ∙ c.loop-k.invariant.before j (omega (arith, order));
      done = λ s are. done_more (λ y a. calls_with_entry scenario s y a e) callers k x c.add.new.self no_calls start now refl there unlike (c.loop-k.invariant.others x unlike) (new s are) (c.loop-k.invariant.done s are);
      others = others_more callers k x c.add.new.self no_calls start now refl c.loop-k.invariant.others;
    }

pub returns-clause-seen : goal.returns-clause-seen
returns-clause-seen c =
    let past = c.loop-k-test.false in
    record {
      count = c.loop-k.invariant.seen_count;
      each = λ j less. c.loop-k.invariant.anew j (omega (arith, less, past));
    }

pub returns-clause-longer : goal.returns-clause-longer
returns-clause-longer c = λ s are fits.
    let run = c.args.core.now in
    let past = c.loop-k-test.false in
    let end = c.loop-k.auto.k-end in
    all_longer run.setup.scenario (length s.rows) s c.args.e.now c.args.callers.now c.args.calls.now.items c.loop-k.calls.items c.requires.callers c.loop-k.invariant.count c.requires.one_each fits
    (λ j less. c.loop-k.invariant.done s are j (omega (arith, less, past)))
    (λ x unlike. c.loop-k.invariant.others x (λ j less. unlike j (omega (arith, less, end))))
