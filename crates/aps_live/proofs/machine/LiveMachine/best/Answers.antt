use Rattle.std.proofs.Common.{◌≡◌, ℕ, ◌<◌, ◌∙◌, ap, sym, subst, Option, Some, None, List, length, slice_index_or, arith}
use Rattle.std.specs.Option.{option_map}
use Rattle.std.proofs.lemmas.List.{get_or_default}
use Rattle.aps_model.specs.declared.merit.Contender.{Contender}
use Rattle.aps_model.specs.Pick.{greatest}
use Rattle.aps_ready.specs.Ready.{members}
use Rattle.aps_live.specs.declared.thread.LiveThread.{LiveThread}
use Rattle.aps_live.specs.LiveState.{LiveState, no_live_thread}
use Rattle.aps_live.specs.LiveStep.{live_contenders}
use Rattle.aps_live.specs.Machine.{IsReadyAmong}
use Rattle.aps_live.proofs.Bests.{best_none, best_of}
use Rattle.aps_live.proofs.Rows.{members_of}
use Rattle.aps_live.proofs.machine.LiveMachine.best.Goals as goal

pub returns-in-None-clause-greatest : goal.returns-in-None-clause-greatest
returns-in-None-clause-greatest c =
    let threads = c.self.inside.threads.items in
    let found = sym c.in-None.is ∙ c.best.ensures.greatest
    ∙ ap (λ r. option_map (λ (b : Contender). b.thread) (greatest c.args.free c.args.parts.now (members r))) c.self.invariant.row
    ∙ ap (λ r. option_map (λ (b : Contender). b.thread) (greatest c.args.free c.args.parts.now r)) (members_of threads) in
    best_none c.args.free c.args.parts.now threads found
    ∙ ap (λ (s : LiveState). greatest c.args.free c.args.parts.now (live_contenders s)) c.self.view_is

-- the thread that was read, and what is known of it
module _ (c : goal.After-result-1) where
  abbrev threads : List LiveThread
  threads = c.self.inside.threads.items

  found : Some c.in-Some.x ≡ option_map (λ (b : Contender). b.thread) (greatest c.args.free c.args.parts.now (live_contenders (record { threads = threads; stamps = c.self.inside.stamps; cpus = c.self.inside.cpus.items })))
  found = sym c.in-Some.is ∙ c.best.ensures.greatest
      ∙ ap (λ r. option_map (λ (b : Contender). b.thread) (greatest c.args.free c.args.parts.now (members r))) c.self.invariant.row
      ∙ ap (λ r. option_map (λ (b : Contender). b.thread) (greatest c.args.free c.args.parts.now r)) (members_of threads)

  is_best : (Some (slice_index_or threads c.in-Some.x no_live_thread).contender ≡ greatest c.args.free c.args.parts.now (live_contenders (record { threads = threads; stamps = c.self.inside.stamps; cpus = c.self.inside.cpus.items })))
      × IsReadyAmong threads (slice_index_or threads c.in-Some.x no_live_thread).contender × (c.in-Some.x < length threads)
  is_best = best_of c.args.free c.args.parts.now threads c.self.inside.stamps c.in-Some.x c.self.invariant.numbered found

  seen : c.index-in-Some.result.now ≡ slice_index_or threads c.in-Some.x no_live_thread
  seen =
      c.index-in-Some.ensures ∙ ap (λ x. slice_index_or threads x c.index-in-Some.result.now) c.index.ensures.same ∙ get_or_default threads c.in-Some.x c.index-in-Some.result.now no_live_thread is_best.2

pub returns-in-Some-clause-greatest : goal.returns-in-Some-clause-greatest
returns-in-Some-clause-greatest c =
    ap (λ (t : LiveThread). Some t.contender) (seen c) ∙ (is_best c).0
    ∙ ap (λ (s : LiveState). greatest c.args.free c.args.parts.now (live_contenders s)) c.self.view_is

pub returns-in-Some-clause-ready : goal.returns-in-Some-clause-ready
returns-in-Some-clause-ready c =
    subst (λ (s : LiveState). IsReadyAmong s.threads c.index-in-Some.result.now.contender) c.self.view_is
    (subst (λ (t : LiveThread). IsReadyAmong c.self.inside.threads.items t.contender) (sym (seen c)) (is_best c).1)
