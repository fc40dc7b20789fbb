use Rattle.std.proofs.Common.{◌≡◌, ℕ, ◌<◌, ◌∙◌, ap, sym, subst, subst₂, Some, None, false, List, Option, length, slice_index_or, slice_set, arith}
use Rattle.std.specs.Prelude.{All}
use Rattle.aps_ready.specs.Ready.{IsStampFree}
use Rattle.aps_model.specs.declared.state.Pick.{Pick}
use Rattle.aps_live.specs.declared.thread.LiveThread.{LiveThread}
use Rattle.aps_live.specs.LiveState.{LiveState, no_live_thread}
use Rattle.aps_live.specs.LiveStep.{is_waking}
use Rattle.aps_live.specs.Machine.{IsMachine, row_of}
use Rattle.aps_live.proofs.Machines.{free_own, machine_released}
use Rattle.aps_live.proofs.ReadAt.{read_at}
use Rattle.aps_live.proofs.machine.LiveMachine.release.Goals as goal

has_pick : (cpus : List (Option Pick)) (k c : ℕ) (o : Option Pick) (pick : Pick) → c < length cpus → k ≡ c → o ≡ slice_index_or cpus k o → o ≡ Some pick → slice_index_or cpus c None ≡ Some pick
has_pick cpus k c o pick inside same is found = sym (read_at cpus k c o None inside same is) ∙ found

pub index-requires-in-Some-3 : goal.index-requires-in-Some-3
index-requires-in-Some-3 c =
    let there : c.args.cpu < length c.self.inside.cpus.items = subst (λ (s : LiveState). c.args.cpu < length s.cpus) (sym c.self.view_is) c.requires in
    let r = c.self.invariant.runs c.args.cpu c.in-Some.pick (has_pick c.self.inside.cpus.items c.index.result c.args.cpu c.index-2.result.now c.in-Some.pick there c.index.ensures.same c.index-2.ensures c.in-Some.is) in
    omega (arith, r.inside, c.index-in-Some-2.ensures.same, c.self.inside.threads.ok.0)

pub seat-requires-clause-stamp : goal.seat-requires-clause-stamp
seat-requires-clause-stamp c =
    let threads = c.self.inside.threads.items in
    let there : c.args.cpu < length c.self.inside.cpus.items = subst (λ (s : LiveState). c.args.cpu < length s.cpus) (sym c.self.view_is) c.requires in
    let r = c.self.invariant.runs c.args.cpu c.in-Some.pick (has_pick c.self.inside.cpus.items c.index.result c.args.cpu c.index-2.result.now c.in-Some.pick there c.index.ensures.same c.index-2.ensures c.in-Some.is) in
    let seen = read_at threads c.index-in-Some-2.result c.in-Some.pick.thread c.index-in-Some-3.result.now no_live_thread r.inside c.index-in-Some-2.ensures.same c.index-in-Some-3.ensures in
    let out : is_waking (slice_index_or threads c.in-Some.pick.thread no_live_thread).doing ≡ false = ap is_waking r.running in
    subst (All (IsStampFree c.index-in-Some-3.result.now.contender.stamp)) (sym c.self.invariant.row)
    (free_own threads c.self.inside.stamps c.in-Some.pick.thread c.index-in-Some-3.result.now.contender.stamp c.self.invariant.numbered r.inside out (ap (λ (t : LiveThread). t.contender.stamp) seen))

pub invariant_of-self : goal.invariant_of-self
invariant_of-self c =
    let threads = c.self.inside.threads.items in
    let cpus = c.self.inside.cpus.items in
    let there : c.args.cpu < length cpus = subst (λ (s : LiveState). c.args.cpu < length s.cpus) (sym c.self.view_is) c.requires in
    let has = has_pick cpus c.index.result c.args.cpu c.index-2.result.now c.in-Some.pick there c.index.ensures.same c.index-2.ensures c.in-Some.is in
    let r = c.self.invariant.runs c.args.cpu c.in-Some.pick has in
    let seen = read_at threads c.index-in-Some-2.result c.in-Some.pick.thread c.index-in-Some-3.result.now no_live_thread r.inside c.index-in-Some-2.ensures.same c.index-in-Some-3.ensures in
    let t : LiveThread = record { contender = c.index-in-Some-3.result.now.contender; doing = c.doing_after.result } in
    let new = machine_released threads c.self.inside.stamps cpus c.self.inside.ready c.seat.new.ready c.args.cpu c.in-Some.pick t c.self.invariant there has
    (ap (λ (u : LiveThread). u.contender) seen) (c.seat.ensures.row ∙ ap row_of c.seat.ensures.threads) in
    subst₂ (λ (ts : List LiveThread) (k : ℕ). IsMachine (record { threads = ts; stamps = c.self.inside.stamps; cpus = slice_set cpus k None }) c.seat.new.ready)
    (sym c.seat.ensures.threads) (sym c.index-in-Some.ensures.same) new
