use lib.Chars.{codes}
use Rattle.std.proofs.Common.{◌≡◌, [], ◌∷◌, ◌++◌, refl, Some, None, false}
use Rattle.std.specs.Fmt.{digits}
use Rattle.aps_model.specs.declared.entry.Done.TheVariants.{Exit as DidExit, Nothing as DidNothing, Run as DidRun}
use Rattle.aps_model.specs.declared.program.Op.TheVariants.{Exit, Forever, Run, Sleep}
use Rattle.aps_model.specs.declared.scenario.Policy.TheVariants.{Fifo}
use Rattle.aps_model.specs.declared.shape.Bankruptcy.TheVariants.{Basic}
use Rattle.aps_model.specs.declared.shape.Free.TheVariants.{Priority as ByPriority}
use Rattle.aps_model.specs.Scenario.{Scenario}
use Rattle.aps_model.specs.Legal.{fixed_run}
use Rattle.worked_proofs.proofs.Line.{line, run_summary, run_windows}

abbrev pub scenario : Scenario
scenario = record {
  shape = record { parts = 1000; cpus = 2; tick = 100000; window = 8; ticks = 9; call_ns = 1; free = ByPriority; limit = false; bankruptcy = Basic };
  partitions =
      record { name = codes "System"; parent = 0; budget = 937; critical = 0; max = 1000 }
      ∷ record { name = codes "A"; parent = 0; budget = 63; critical = 0; max = 1000 }
      ∷ [];
  channels = [];
  threads =
      record { name = codes "h0"; partition = 0; priority = 20; policy = Fifo; critical = false; program = Run 50000 ∷ Exit ∷ [] }
      ∷ record { name = codes "h1"; partition = 0; priority = 20; policy = Fifo; critical = false; program = Run 50000 ∷ Exit ∷ [] }
      ∷ record { name = codes "p0"; partition = 1; priority = 10; policy = Fifo; critical = false; program = Run 49999 ∷ Sleep 600000 ∷ Forever ∷ [] }
      ∷ record { name = codes "p1"; partition = 1; priority = 10; policy = Fifo; critical = false; program = Run 49999 ∷ Sleep 600000 ∷ Forever ∷ [] }
      ∷ [];
  commands = [];
}

entries : fixed_run scenario 1000 ≡
    line 0 0 0 None None false DidNothing (Some 0) None None
    ∷ line 1 0 0 None None false DidNothing (Some 1) None None
    ∷ line 0 0 50000 (Some 0) (Some 0) false DidRun (Some 0) None None
    ∷ line 1 0 50000 (Some 1) (Some 0) false DidRun (Some 1) None None
    ∷ line 0 50000 50001 (Some 0) (Some 0) false DidExit (Some 2) (Some 0) None
    ∷ line 1 50000 50001 (Some 1) (Some 0) false DidExit (Some 3) (Some 0) None
    ∷ line 0 50001 100000 (Some 2) (Some 1) false DidRun None (Some 0) None
    ∷ line 1 50001 100000 (Some 3) (Some 1) false DidRun None (Some 0) None
    ∷ line 0 100000 200000 None None false DidNothing None (Some 0) None
    ∷ line 1 100000 200000 None None false DidNothing None (Some 0) None
    ∷ line 0 200000 300000 None None false DidNothing None (Some 0) None
    ∷ line 1 200000 300000 None None false DidNothing None (Some 0) None
    ∷ line 0 300000 400000 None None false DidNothing None (Some 0) None
    ∷ line 1 300000 400000 None None false DidNothing None (Some 0) None
    ∷ line 0 400000 500000 None None false DidNothing None (Some 0) None
    ∷ line 1 400000 500000 None None false DidNothing None (Some 0) None
    ∷ line 0 500000 600000 None None false DidNothing None (Some 0) None
    ∷ line 1 500000 600000 None None false DidNothing None (Some 0) None
    ∷ line 0 600000 700000 None None false DidNothing (Some 2) (Some 0) None
    ∷ line 1 600000 700000 None None false DidNothing (Some 3) (Some 0) None
    ∷ line 0 700000 800000 (Some 2) (Some 1) false DidNothing (Some 2) (Some 0) None
    ∷ line 1 700000 800000 (Some 3) (Some 1) false DidNothing (Some 3) (Some 0) None
    ∷ line 0 800000 900000 (Some 2) (Some 1) false DidNothing None None None
    ∷ line 1 800000 900000 (Some 3) (Some 1) false DidNothing None None None
    ∷ []
entries = refl

summary : run_summary scenario 1000 ≡
    codes "aps summary 1\n"
    ++ codes "end horizon\n"
    ++ codes "shape cpus 2 tick 100000 window 8 ticks 9\n"
    ++ codes "entries 24\n"
    ++ codes "partition 0 System budget 937 billed 100002 critical 0\n"
    ++ codes "partition 1 A budget 63 billed 499998 critical 0\n"
    ++ codes "idle 1200000\n"
    ++ codes "thread 0 h0 ran 50001\n"
    ++ codes "thread 1 h1 ran 50001\n"
    ++ codes "thread 2 p0 ran 249999\n"
    ++ codes "thread 3 p1 ran 249999\n"
    ++ codes "loaded 9\n"
    ++ codes "over none\n"
    ++ codes "short none\n"
    ++ codes "overcritical none\n"
unfolding run_summary digits
summary = refl

windows : run_windows scenario 1000 ≡
    codes "aps windows 1\n"
    ++ codes "end horizon\n"
    ++ codes "window 0 100002 299998\n"
unfolding run_windows digits
windows = refl
