use Rattle.std.proofs.Common.{◌≡◌, ℕ, ◌≤◌, ◌∙◌, ap, sym, subst, subst₂, List, Option, length, replicate, None, refl}
use Rattle.aps_model.specs.declared.merit.Contender.{Contender}
use Rattle.aps_model.specs.declared.scenario.ThreadRow.{ThreadRow}
use Rattle.aps_model.specs.declared.shape.Shape.{Shape}
use Rattle.aps_model.specs.declared.state.Pick.{Pick}
use Rattle.aps_live.specs.declared.thread.LiveThread.{LiveThread}
use Rattle.aps_live.specs.LiveState.{live_opening}
use Rattle.aps_live.specs.Machine.{IsMachine}
use Rattle.aps_live.proofs.Starts.{machine_start}
use Rattle.aps_live.proofs.machine.LiveMachine.start.Goals as goal

pub invariant_of-result : goal.invariant_of-result
invariant_of-result c =
    let scenario = c.args.scenario.now in
    let valid = c.shape.ensures.valid in
    let row = c.in_ok-ready.ensures in
    let start = machine_start scenario c.in_ok-ready.ready valid.few_threads valid.shape.few_cpus (row ∙ ap (λ (rows : List ThreadRow). replicate (length rows) None) c.threads.ensures.same) in
    subst₂ (λ (threads : List LiveThread) (cpus : List (Option Pick)). IsMachine (record { threads = threads; stamps = 0; cpus = cpus }) c.in_ok-ready.ready)
    (sym c.in_ok-threads.ensures) (sym (c.in_ok-cpus.ensures ∙ ap (λ (s : Shape). replicate s.cpus None) c.shape.ensures.same)) start
