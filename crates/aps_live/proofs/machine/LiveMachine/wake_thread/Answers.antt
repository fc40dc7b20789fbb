use Rattle.std.proofs.Common.{◌≡◌, ℕ, ◌<◌, ◌∙◌, ◌+◌, ap, sym, refl, subst, Some, None, false, true, List, length, slice_index_or, length-set, arith, ◌^◌, lit<}
use Rattle.std.proofs.lemmas.List.{get_or_default}
use Rattle.aps_ready.specs.Ready.{IsStampFree}
use Rattle.std.specs.Prelude.{All}
use Rattle.aps_live.specs.declared.thread.LiveThread.{LiveThread}
use Rattle.aps_live.specs.declared.thread.Doing.TheVariants.{Ready}
use Rattle.aps_live.specs.LiveState.{LiveState, no_live_thread}
use Rattle.aps_live.specs.Machine.{IsMachine, row_of}
use Rattle.aps_live.proofs.Machines.{free_new, machine_woken}
use Rattle.aps_live.proofs.machine.LiveMachine.wake_thread.Goals as goal

pub seat-requires-clause-stamp : goal.seat-requires-clause-stamp
seat-requires-clause-stamp c =
    let few : c.self.inside.stamps < 2 ^ 63 = let l = c.requires.room in omega (arith, l, ap (λ (s : LiveState). s.stamps) c.self.view_is) in
    subst (All (IsStampFree c.self.inside.stamps)) (sym c.self.invariant.row) (free_new c.self.inside.threads.items c.self.inside.stamps c.self.inside.stamps c.self.invariant.numbered few refl)

pub invariant_of-self : goal.invariant_of-self
invariant_of-self c =
    let threads = c.self.inside.threads.items in
    let few : c.self.inside.stamps < 2 ^ 63 = let l = c.requires.room in omega (arith, l, ap (λ (s : LiveState). s.stamps) c.self.view_is) in
    let inside : c.args.x < length threads = subst (λ (s : LiveState). c.args.x < length s.threads) (sym c.self.view_is) c.requires.inside in
    let seen : c.index-thread.result.now ≡ slice_index_or threads c.args.x no_live_thread =
    c.index-thread.ensures ∙ ap (λ x. slice_index_or threads x c.index-thread.result.now) c.index.ensures.same ∙ get_or_default threads c.args.x c.index-thread.result.now no_live_thread inside in
    let t : LiveThread = record { contender = record { thread = c.index-thread.result.now.contender.thread; facts = c.index-thread.result.now.contender.facts; stamp = c.self.inside.stamps }; doing = Ready } in
    let new = machine_woken threads c.self.inside.stamps c.self.inside.cpus.items c.self.inside.ready c.seat.new.ready c.args.x t c.self.invariant inside few
    (ap (λ (u : LiveThread). u.doing) (sym seen) ∙ c.in-Waiting.is) (ap (λ (u : LiveThread). u.contender.thread) seen) refl (c.seat.ensures.row ∙ ap row_of c.seat.ensures.threads) in
    subst (λ (ts : List LiveThread). IsMachine (record { threads = ts; stamps = c.self.inside.stamps + 1; cpus = c.self.inside.cpus.items }) c.seat.new.ready) (sym c.seat.ensures.threads) new
