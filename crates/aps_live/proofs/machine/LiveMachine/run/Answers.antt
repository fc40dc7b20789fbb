use Rattle.std.proofs.Common.{◌≡◌, ℕ, ◌<◌, ◌∙◌, ap, sym, refl, subst, subst₂, Some, None, List, Option, length, slice_index_or, slice_set, arith}
use Rattle.aps_model.specs.declared.state.Pick.{Pick}
use Rattle.aps_live.specs.declared.thread.LiveThread.{LiveThread}
use Rattle.aps_live.specs.declared.thread.Doing.TheVariants.{Running}
use Rattle.aps_live.specs.LiveState.{LiveState, no_live_thread}
use Rattle.aps_live.specs.Machine.{IsMachine, IsReadyAmong, row_of}
use Rattle.aps_live.proofs.Machines.{machine_chosen}
use Rattle.aps_live.proofs.ReadAt.{read_at}
use Rattle.aps_live.proofs.machine.LiveMachine.run.Goals as goal

pub invariant_of-self : goal.invariant_of-self
invariant_of-self c =
    let threads = c.self.inside.threads.items in
    let cpus = c.self.inside.cpus.items in
    let there : c.args.cpu < length cpus = subst (λ (s : LiveState). c.args.cpu < length s.cpus) (sym c.self.view_is) c.requires.cpu in
    let r : IsReadyAmong threads c.args.best = subst (λ (s : LiveState). IsReadyAmong s.threads c.args.best) (sym c.self.view_is) c.requires.ready in
    let pick : Pick = record { thread = c.args.best.thread; partition = c.args.best.facts.partition; critical = c.is_critical_pick-critical.result } in
    let seen = read_at threads c.index.result c.args.best.thread c.index-2.result.now no_live_thread r.inside c.index.ensures.same c.index-2.ensures in
    let t : LiveThread = record { contender = c.index-2.result.now.contender; doing = Running c.args.cpu } in
    let new = machine_chosen threads c.self.inside.stamps cpus c.self.inside.ready c.unseat.new.ready c.args.cpu pick t c.self.invariant there r.inside r.ready refl
    (ap (λ (u : LiveThread). u.contender) seen) (c.unseat.ensures.row ∙ ap row_of c.unseat.ensures.threads) in
    subst₂ (λ (ts : List LiveThread) (k : ℕ). IsMachine (record { threads = ts; stamps = c.self.inside.stamps; cpus = slice_set cpus k (Some pick) }) c.unseat.new.ready)
    (sym c.unseat.ensures.threads) (sym c.index-3.ensures.same) new
