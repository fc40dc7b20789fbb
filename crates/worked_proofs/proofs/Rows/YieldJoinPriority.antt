use lib.Chars.{codes}
use Rattle.std.proofs.Common.{◌≡◌, [], ◌∷◌, ◌++◌, refl, Some, None, false}
use Rattle.std.specs.Fmt.{digits}
use Rattle.aps_model.specs.declared.entry.Done.TheVariants.{Exit as DidExit, Join as DidJoin, Nothing as DidNothing, Priority as DidPriority, Run as DidRun, Yield as DidYield}
use Rattle.aps_model.specs.declared.program.Op.TheVariants.{Exit, Join, Priority, Run, Yield}
use Rattle.aps_model.specs.declared.scenario.Policy.TheVariants.{Fifo}
use Rattle.aps_model.specs.declared.shape.Bankruptcy.TheVariants.{Basic}
use Rattle.aps_model.specs.declared.shape.Free.TheVariants.{Priority as ByPriority}
use Rattle.aps_model.specs.Scenario.{Scenario}
use Rattle.aps_model.specs.Legal.{fixed_run}
use Rattle.worked_proofs.proofs.Line.{line, run_summary, run_windows}

abbrev pub scenario : Scenario
scenario = record {
  shape = record { parts = 100; cpus = 1; tick = 1000000; window = 10; ticks = 1; call_ns = 1000; free = ByPriority; limit = false; bankruptcy = Basic };
  partitions =
      record { name = codes "System"; parent = 0; budget = 50; critical = 0; max = 100 }
      ∷ record { name = codes "A"; parent = 0; budget = 50; critical = 0; max = 100 }
      ∷ [];
  channels = [];
  threads =
      record { name = codes "x"; partition = 0; priority = 10; policy = Fifo; critical = false; program = Run 1000 ∷ Yield ∷ Join (codes "A") ∷ Priority 5 ∷ Exit ∷ [] }
      ∷ record { name = codes "y"; partition = 0; priority = 10; policy = Fifo; critical = false; program = Run 3000 ∷ Exit ∷ [] }
      ∷ [];
  commands = [];
}

entries : fixed_run scenario 1000 ≡
    line 0 0 0 None None false DidNothing (Some 0) (Some 1) None
    ∷ line 0 0 1000 (Some 0) (Some 0) false DidRun (Some 0) (Some 1) None
    ∷ line 0 1000 2000 (Some 0) (Some 0) false DidYield (Some 1) (Some 1) None
    ∷ line 0 2000 5000 (Some 1) (Some 0) false DidRun (Some 1) (Some 1) None
    ∷ line 0 5000 6000 (Some 1) (Some 0) false DidExit (Some 0) (Some 1) None
    ∷ line 0 6000 7000 (Some 0) (Some 0) false DidJoin (Some 0) (Some 0) None
    ∷ line 0 7000 8000 (Some 0) (Some 1) false DidPriority (Some 0) (Some 0) None
    ∷ line 0 8000 9000 (Some 0) (Some 1) false DidExit None (Some 0) None
    ∷ line 0 9000 1000000 None None false DidNothing None None None
    ∷ []
entries = refl

summary : run_summary scenario 1000 ≡
    codes "aps summary 1\n"
    ++ codes "end horizon\n"
    ++ codes "shape cpus 1 tick 1000000 window 10 ticks 1\n"
    ++ codes "entries 9\n"
    ++ codes "partition 0 System budget 50 billed 7000 critical 0\n"
    ++ codes "partition 1 A budget 50 billed 2000 critical 0\n"
    ++ codes "idle 991000\n"
    ++ codes "thread 0 x ran 5000\n"
    ++ codes "thread 1 y ran 4000\n"
    ++ codes "loaded 1\n"
    ++ codes "over none\n"
    ++ codes "short none\n"
    ++ codes "overcritical none\n"
unfolding run_summary digits
summary = refl

windows : run_windows scenario 1000 ≡
    codes "aps windows 1\n"
    ++ codes "end horizon\n"
unfolding run_windows digits
windows = refl
