use lib.Chars.{codes}
use Rattle.std.proofs.Common.{◌≡◌, [], ◌∷◌, ◌++◌, refl, Some, None, true, false}
use Rattle.std.specs.Fmt.{digits}
use Rattle.aps_model.specs.declared.entry.Done.TheVariants.{Exit as DidExit, Join as DidJoin, Nothing as DidNothing, Priority as DidPriority, ReceiveBlocked as DidReceiveBlocked, Run as DidRun, Yield as DidYield}
use Rattle.aps_model.specs.declared.program.Op.TheVariants.{Exit, Forever, Join, Priority, Receive, Repeat, Reply, Run, Sleep, Yield}
use Rattle.aps_model.specs.declared.scenario.Policy.TheVariants.{Fifo, Rr}
use Rattle.aps_model.specs.declared.shape.Bankruptcy.TheVariants.{Cancel}
use Rattle.aps_model.specs.declared.shape.Free.TheVariants.{Ratio as ByRatio}
use Rattle.aps_model.specs.Scenario.{Scenario}
use Rattle.aps_model.specs.Legal.{fixed_run}
use Rattle.worked_proofs.proofs.Line.{line, run_summary, run_windows}

abbrev pub scenario : Scenario
scenario = record {
  shape = record { parts = 1000; cpus = 1; tick = 101000; window = 8; ticks = 34; call_ns = 1; free = ByRatio; limit = false; bankruptcy = Cancel };
  partitions =
      record { name = codes "System"; parent = 0; budget = 0; critical = 0; max = 1000 }
      ∷ record { name = codes "A"; parent = 0; budget = 184; critical = 101000; max = 185 }
      ∷ record { name = codes "B"; parent = 0; budget = 815; critical = 0; max = 1000 }
      ∷ record { name = codes "C"; parent = 0; budget = 0; critical = 202001; max = 172 }
      ∷ record { name = codes "D"; parent = 1; budget = 1; critical = 0; max = 101 }
      ∷ [];
  channels = codes "c" ∷ codes "d" ∷ [];
  threads =
      record { name = codes "t0"; partition = 3; priority = 11; policy = Rr; critical = false; program = Reply ∷ Exit ∷ [] }
      ∷ record { name = codes "t1"; partition = 1; priority = 20; policy = Rr; critical = true; program = Receive 1 ∷ Run 101000 ∷ Reply ∷ Repeat ∷ [] }
      ∷ record { name = codes "t2"; partition = 4; priority = 20; policy = Fifo; critical = true; program = Yield ∷ Join (codes "A") ∷ Priority 10 ∷ Forever ∷ [] }
      ∷ record { name = codes "t3"; partition = 0; priority = 10; policy = Fifo; critical = false; program = Receive 1 ∷ Run 48662 ∷ Reply ∷ Repeat ∷ [] }
      ∷ record { name = codes "t4"; partition = 2; priority = 10; policy = Fifo; critical = false; program = Run 86957 ∷ Sleep 202000 ∷ Exit ∷ [] }
      ∷ [];
  commands = [];
}

entries : fixed_run scenario 1000 ≡
    line 0 0 0 None None false DidNothing (Some 1) None None
    ∷ line 0 0 1 (Some 1) (Some 1) false DidReceiveBlocked (Some 2) (Some 1) None
    ∷ line 0 1 2 (Some 2) (Some 4) false DidYield (Some 2) (Some 1) None
    ∷ line 0 2 3 (Some 2) (Some 4) false DidJoin (Some 2) (Some 4) None
    ∷ line 0 3 4 (Some 2) (Some 1) false DidPriority (Some 4) (Some 4) None
    ∷ line 0 4 86961 (Some 4) (Some 2) false DidRun (Some 2) (Some 2) None
    ∷ line 0 86961 101000 (Some 2) (Some 1) false DidNothing (Some 2) (Some 2) None
    ∷ line 0 101000 202000 (Some 2) (Some 1) false DidNothing (Some 2) (Some 2) None
    ∷ line 0 202000 303000 (Some 2) (Some 1) false DidNothing (Some 4) (Some 4) None
    ∷ line 0 303000 303001 (Some 4) (Some 2) false DidExit (Some 2) (Some 2) None
    ∷ line 0 303001 404000 (Some 2) (Some 1) true DidNothing (Some 2) (Some 2) None
    ∷ line 0 404000 505000 (Some 2) (Some 1) true DidNothing (Some 2) (Some 2) None
    ∷ line 0 505000 606000 (Some 2) (Some 1) false DidNothing (Some 2) (Some 2) None
    ∷ line 0 606000 707000 (Some 2) (Some 1) false DidNothing (Some 2) (Some 2) None
    ∷ line 0 707000 808000 (Some 2) (Some 1) false DidNothing (Some 2) (Some 2) None
    ∷ line 0 808000 909000 (Some 2) (Some 1) false DidNothing (Some 2) (Some 2) None
    ∷ line 0 909000 1010000 (Some 2) (Some 1) false DidNothing (Some 2) (Some 2) None
    ∷ line 0 1010000 1111000 (Some 2) (Some 1) false DidNothing (Some 2) (Some 2) None
    ∷ line 0 1111000 1212000 (Some 2) (Some 1) false DidNothing (Some 2) (Some 2) None
    ∷ line 0 1212000 1313000 (Some 2) (Some 1) false DidNothing (Some 2) (Some 2) None
    ∷ line 0 1313000 1414000 (Some 2) (Some 1) false DidNothing (Some 2) (Some 2) None
    ∷ line 0 1414000 1515000 (Some 2) (Some 1) false DidNothing (Some 2) (Some 2) None
    ∷ line 0 1515000 1616000 (Some 2) (Some 1) false DidNothing (Some 2) (Some 2) None
    ∷ line 0 1616000 1717000 (Some 2) (Some 1) false DidNothing (Some 2) (Some 2) None
    ∷ line 0 1717000 1818000 (Some 2) (Some 1) false DidNothing (Some 2) (Some 2) None
    ∷ line 0 1818000 1919000 (Some 2) (Some 1) false DidNothing (Some 2) (Some 2) None
    ∷ line 0 1919000 2020000 (Some 2) (Some 1) false DidNothing (Some 2) (Some 2) None
    ∷ line 0 2020000 2121000 (Some 2) (Some 1) false DidNothing (Some 2) (Some 2) None
    ∷ line 0 2121000 2222000 (Some 2) (Some 1) false DidNothing (Some 2) (Some 2) None
    ∷ line 0 2222000 2323000 (Some 2) (Some 1) false DidNothing (Some 2) (Some 2) None
    ∷ line 0 2323000 2424000 (Some 2) (Some 1) false DidNothing (Some 2) (Some 2) None
    ∷ line 0 2424000 2525000 (Some 2) (Some 1) false DidNothing (Some 2) (Some 2) None
    ∷ line 0 2525000 2626000 (Some 2) (Some 1) false DidNothing (Some 2) (Some 2) None
    ∷ line 0 2626000 2727000 (Some 2) (Some 1) false DidNothing (Some 2) (Some 2) None
    ∷ line 0 2727000 2828000 (Some 2) (Some 1) false DidNothing (Some 2) (Some 2) None
    ∷ line 0 2828000 2929000 (Some 2) (Some 1) false DidNothing (Some 2) (Some 2) None
    ∷ line 0 2929000 3030000 (Some 2) (Some 1) false DidNothing (Some 2) (Some 2) None
    ∷ line 0 3030000 3131000 (Some 2) (Some 1) false DidNothing (Some 2) (Some 2) None
    ∷ line 0 3131000 3232000 (Some 2) (Some 1) false DidNothing (Some 2) (Some 2) None
    ∷ line 0 3232000 3333000 (Some 2) (Some 1) false DidNothing (Some 2) (Some 2) None
    ∷ line 0 3333000 3434000 (Some 2) (Some 1) false DidNothing None None None
    ∷ []
entries = refl

summary : run_summary scenario 1000 ≡
    codes "aps summary 1\n"
    ++ codes "end horizon\n"
    ++ codes "shape cpus 1 tick 101000 window 8 ticks 34\n"
    ++ codes "entries 41\n"
    ++ codes "partition 0 System budget 0 billed 0 critical 0\n"
    ++ codes "partition 1 A budget 184 billed 3347040 critical 201999\n"
    ++ codes "partition 2 B budget 815 billed 86958 critical 0\n"
    ++ codes "partition 3 C budget 0 billed 0 critical 0\n"
    ++ codes "partition 4 D budget 1 billed 2 critical 0\n"
    ++ codes "idle 0\n"
    ++ codes "thread 0 t0 ran 0\n"
    ++ codes "thread 1 t1 ran 1\n"
    ++ codes "thread 2 t2 ran 3347041\n"
    ++ codes "thread 3 t3 ran 0\n"
    ++ codes "thread 4 t4 ran 86958\n"
    ++ codes "loaded 34\n"
    ++ codes "over none\n"
    ++ codes "short none\n"
    ++ codes "overcritical none\n"
unfolding run_summary digits
summary = refl

windows : run_windows scenario 1000 ≡
    codes "aps windows 1\n"
    ++ codes "end horizon\n"
    ++ codes "window 0 0 721040 86958 0 2\n"
    ++ codes "window 8 0 808000 0 0 0\n"
    ++ codes "window 16 0 808000 0 0 0\n"
    ++ codes "window 24 0 808000 0 0 0\n"
unfolding run_windows digits
windows = refl
