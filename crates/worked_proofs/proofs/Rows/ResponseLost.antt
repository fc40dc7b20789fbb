use lib.Chars.{codes}
use Rattle.std.proofs.Common.{◌≡◌, [], ◌∷◌, ◌++◌, refl, Some, None, true, false}
use Rattle.std.specs.Fmt.{digits}
use Rattle.aps_model.specs.declared.entry.Done.TheVariants.{Nothing as DidNothing, Run as DidRun}
use Rattle.aps_model.specs.declared.program.Op.TheVariants.{Exit, Forever, Run, Sleep}
use Rattle.aps_model.specs.declared.scenario.Policy.TheVariants.{Fifo}
use Rattle.aps_model.specs.declared.shape.Bankruptcy.TheVariants.{Basic}
use Rattle.aps_model.specs.declared.shape.Free.TheVariants.{Priority as ByPriority}
use Rattle.aps_model.specs.Scenario.{Scenario}
use Rattle.aps_model.specs.Legal.{fixed_run}
use Rattle.worked_proofs.proofs.Line.{line, run_summary, run_windows}

abbrev pub scenario : Scenario
scenario = record {
  shape = record { parts = 100; cpus = 2; tick = 100000; window = 8; ticks = 2; call_ns = 1000; free = ByPriority; limit = false; bankruptcy = Basic };
  partitions =
      record { name = codes "System"; parent = 0; budget = 100; critical = 0; max = 100 }
      ∷ record { name = codes "P"; parent = 0; budget = 0; critical = 100000; max = 100 }
      ∷ [];
  channels = [];
  threads =
      record { name = codes "z"; partition = 0; priority = 40; policy = Fifo; critical = false; program = Forever ∷ [] }
      ∷ record { name = codes "y"; partition = 1; priority = 30; policy = Fifo; critical = true; program = Run 100000 ∷ Sleep 900000 ∷ Exit ∷ [] }
      ∷ record { name = codes "s"; partition = 0; priority = 5; policy = Fifo; critical = false; program = Forever ∷ [] }
      ∷ record { name = codes "x"; partition = 1; priority = 50; policy = Fifo; critical = true; program = Sleep 1 ∷ Forever ∷ [] }
      ∷ [];
  commands = [];
}

entries : fixed_run scenario 1000 ≡
    line 0 0 0 None None false DidNothing (Some 0) None None
    ∷ line 1 0 0 None None false DidNothing (Some 1) None None
    ∷ line 0 0 100000 (Some 0) (Some 0) false DidNothing (Some 3) None None
    ∷ line 1 0 100000 (Some 1) (Some 1) true DidRun (Some 0) None (Some 0)
    ∷ line 0 100000 100000 (Some 3) (Some 1) true DidNothing (Some 2) None None
    ∷ line 0 100000 200000 (Some 2) (Some 0) false DidNothing None None None
    ∷ line 1 100000 200000 (Some 0) (Some 0) false DidNothing None None None
    ∷ []
entries = refl

summary : run_summary scenario 1000 ≡
    codes "aps summary 1\n"
    ++ codes "end horizon\n"
    ++ codes "shape cpus 2 tick 100000 window 8 ticks 2\n"
    ++ codes "entries 7\n"
    ++ codes "partition 0 System budget 100 billed 300000 critical 0\n"
    ++ codes "partition 1 P budget 0 billed 100000 critical 100000\n"
    ++ codes "idle 0\n"
    ++ codes "thread 0 z ran 200000\n"
    ++ codes "thread 1 y ran 100000\n"
    ++ codes "thread 2 s ran 100000\n"
    ++ codes "thread 3 x ran 0\n"
    ++ codes "loaded 0\n"
    ++ codes "over none\n"
    ++ codes "short none\n"
    ++ codes "overcritical none\n"
unfolding run_summary digits
summary = refl

windows : run_windows scenario 1000 ≡
    codes "aps windows 1\n"
    ++ codes "end horizon\n"
unfolding run_windows digits
windows = refl
