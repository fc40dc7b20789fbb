use lib.Chars.{codes}
use Rattle.std.proofs.Common.{◌≡◌, [], ◌∷◌, ◌++◌, refl, Some, None, false}
use Rattle.std.specs.Fmt.{digits}
use Rattle.aps_model.specs.declared.entry.Done.TheVariants.{Nothing as DidNothing, Repeat as DidRepeat, Run as DidRun}
use Rattle.aps_model.specs.declared.program.Op.TheVariants.{Forever, Repeat, Run, Sleep}
use Rattle.aps_model.specs.declared.scenario.Policy.TheVariants.{Fifo}
use Rattle.aps_model.specs.declared.shape.Bankruptcy.TheVariants.{Basic}
use Rattle.aps_model.specs.declared.shape.Free.TheVariants.{Priority as ByPriority}
use Rattle.aps_model.specs.Scenario.{Scenario}
use Rattle.aps_model.specs.Legal.{fixed_run}
use Rattle.worked_proofs.proofs.Line.{line, run_summary, run_windows}

abbrev pub scenario : Scenario
scenario = record {
  shape = record { parts = 100; cpus = 1; tick = 1000000; window = 10; ticks = 3; call_ns = 1000; free = ByPriority; limit = false; bankruptcy = Basic };
  partitions =
      record { name = codes "System"; parent = 0; budget = 50; critical = 0; max = 100 }
      ∷ record { name = codes "A"; parent = 0; budget = 50; critical = 0; max = 100 }
      ∷ [];
  channels = [];
  threads =
      record { name = codes "s"; partition = 0; priority = 10; policy = Fifo; critical = false; program = Forever ∷ [] }
      ∷ record { name = codes "w"; partition = 1; priority = 20; policy = Fifo; critical = false; program = Run 400000 ∷ Sleep 600000 ∷ Repeat ∷ [] }
      ∷ [];
  commands = [];
}

entries : fixed_run scenario 1000 ≡
    line 0 0 0 None None false DidNothing (Some 1) None None
    ∷ line 0 0 400000 (Some 1) (Some 1) false DidRun (Some 0) (Some 1) None
    ∷ line 0 400000 1000000 (Some 0) (Some 0) false DidNothing (Some 1) None None
    ∷ line 0 1000000 1001000 (Some 1) (Some 1) false DidRepeat (Some 1) None None
    ∷ line 0 1001000 1401000 (Some 1) (Some 1) false DidRun (Some 0) (Some 1) None
    ∷ line 0 1401000 2000000 (Some 0) (Some 0) false DidNothing (Some 0) (Some 1) None
    ∷ line 0 2000000 3000000 (Some 0) (Some 0) false DidNothing None None None
    ∷ []
entries = refl

summary : run_summary scenario 1000 ≡
    codes "aps summary 1\n"
    ++ codes "end horizon\n"
    ++ codes "shape cpus 1 tick 1000000 window 10 ticks 3\n"
    ++ codes "entries 7\n"
    ++ codes "partition 0 System budget 50 billed 2199000 critical 0\n"
    ++ codes "partition 1 A budget 50 billed 801000 critical 0\n"
    ++ codes "idle 0\n"
    ++ codes "thread 0 s ran 2199000\n"
    ++ codes "thread 1 w ran 801000\n"
    ++ codes "loaded 3\n"
    ++ codes "over none\n"
    ++ codes "short none\n"
    ++ codes "overcritical none\n"
unfolding run_summary digits
summary = refl

windows : run_windows scenario 1000 ≡
    codes "aps windows 1\n"
    ++ codes "end horizon\n"
unfolding run_windows digits
windows = refl
