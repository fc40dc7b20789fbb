use Rattle.std.proofs.Common.{◌≡◌, ℕ, ◌<◌, sym, subst, None, List, length, slice_set}
use Rattle.aps_live.specs.LiveState.{LiveState}
use Rattle.aps_live.specs.Machine.{IsMachine}
use Rattle.aps_live.proofs.Machines.{machine_emptied}
use Rattle.aps_live.proofs.machine.LiveMachine.choose.Goals as goal

pub invariant_of-self : goal.invariant_of-self
invariant_of-self c =
    let cpus = c.self.inside.cpus.items in
    let there : c.args.cpu < length cpus = subst (λ (s : LiveState). c.args.cpu < length s.cpus) (sym c.self.view_is) c.requires.cpu in
    subst (λ (k : ℕ). IsMachine (record { threads = c.self.inside.threads.items; stamps = c.self.inside.stamps; cpus = slice_set cpus k None }) c.self.inside.ready)
    (sym c.index.ensures.same) (machine_emptied c.self.inside.threads.items c.self.inside.stamps cpus c.self.inside.ready c.args.cpu c.self.invariant there)
