-- The programs of a scenario are short, and so are their sleeps.
use Rattle.std.proofs.Common.{ℕ, ◌<◌, List, length, map, get_or, sym, subst, All, arith}
use Rattle.std.proofs.lemmas.List.{get_or-map, length-map}
use Rattle.aps_model.specs.declared.program.Op.{Op}
use Rattle.aps_model.specs.declared.program.Op.TheVariants.{Run, Forever, Sleep, Yield, Send, Receive, Reply, Join, Priority, CriticalOn, CriticalOff, Repeat, Exit}
use Rattle.aps_model.specs.Program.{IsOp, IsProgram}
use Rattle.aps_model.specs.Scenario.{Scenario, no_thread_row}
use Rattle.aps_model.specs.Valid.{IsScenario}
use Rattle.aps_tasks.specs.Kept.{IsPlan, IsShort}
use Rattle.aps_tasks.specs.Start.{plan_of}

pub op_short : (channels : ℕ) (names : List (List ℕ)) (op : Op) → IsOp channels names op → IsShort op
op_short channels names (Run ns) is = tt
op_short channels names Forever is = tt
op_short channels names (Sleep ns) is = is.short
op_short channels names Yield is = tt
op_short channels names (Send c) is = tt
op_short channels names (Receive c) is = tt
op_short channels names Reply is = tt
op_short channels names (Join name) is = tt
op_short channels names (Priority n) is = tt
op_short channels names CriticalOn is = tt
op_short channels names CriticalOff is = tt
op_short channels names Repeat is = tt
op_short channels names Exit is = tt

program_short : (channels : ℕ) (names : List (List ℕ)) (ops : List Op) → IsProgram channels names ops → All IsShort ops
program_short channels names ops is k d within = op_short channels names (get_or ops k d) (is.each k d within)

pub plans_short : (s : Scenario) → IsScenario s → All IsPlan (map plan_of s.threads)
plans_short s valid k d within =
    let inside : k < length s.threads = omega (arith, within, length-map s.threads plan_of) in
    let row = get_or s.threads k no_thread_row in
    let program = (valid.threads k no_thread_row inside).program in
    let is : IsPlan (plan_of row) = record { few = program.few; short = program_short _ _ row.program program } in
    subst IsPlan (sym (get_or-map plan_of s.threads k no_thread_row d inside)) is
