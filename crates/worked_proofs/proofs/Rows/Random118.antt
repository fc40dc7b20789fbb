use lib.Chars.{codes}
use Rattle.std.proofs.Common.{◌≡◌, [], ◌∷◌, ◌++◌, refl, Some, None, true, false}
use Rattle.std.specs.Fmt.{digits}
use Rattle.aps_model.specs.declared.entry.Done.TheVariants.{Exit as DidExit, Nothing as DidNothing, Run as DidRun, SendBlocked as DidSendBlocked}
use Rattle.aps_model.specs.declared.program.Op.TheVariants.{Exit, Forever, Join, Repeat, Run, Send, Sleep}
use Rattle.aps_model.specs.declared.scenario.Policy.TheVariants.{Fifo, Rr}
use Rattle.aps_model.specs.declared.shape.Bankruptcy.TheVariants.{Basic}
use Rattle.aps_model.specs.declared.shape.Free.TheVariants.{Priority as ByPriority}
use Rattle.aps_model.specs.Scenario.{Scenario}
use Rattle.aps_model.specs.Legal.{fixed_run}
use Rattle.worked_proofs.proofs.Line.{line, run_summary, run_windows}

abbrev pub scenario : Scenario
scenario = record {
  shape = record { parts = 1000; cpus = 2; tick = 250000; window = 9; ticks = 38; call_ns = 1000; free = ByPriority; limit = false; bankruptcy = Basic };
  partitions =
      record { name = codes "System"; parent = 0; budget = 449; critical = 0; max = 1000 }
      ∷ record { name = codes "A"; parent = 0; budget = 117; critical = 500000; max = 1000 }
      ∷ record { name = codes "B"; parent = 1; budget = 91; critical = 0; max = 91 }
      ∷ record { name = codes "C"; parent = 0; budget = 343; critical = 0; max = 1000 }
      ∷ [];
  channels = codes "c" ∷ codes "d" ∷ codes "e" ∷ [];
  threads =
      record { name = codes "t0"; partition = 2; priority = 195; policy = Rr; critical = true; program = Send 0 ∷ Run 93767 ∷ Exit ∷ [] }
      ∷ record { name = codes "t1"; partition = 3; priority = 10; policy = Fifo; critical = false; program = Sleep 250000 ∷ Forever ∷ [] }
      ∷ record { name = codes "t2"; partition = 1; priority = 10; policy = Fifo; critical = false; program = Join (codes "C") ∷ Sleep 382505 ∷ Run 249000 ∷ Forever ∷ [] }
      ∷ record { name = codes "t3"; partition = 1; priority = 109; policy = Fifo; critical = true; program = Run 500000 ∷ Forever ∷ [] }
      ∷ record { name = codes "t4"; partition = 1; priority = 96; policy = Fifo; critical = false; program = Sleep 249000 ∷ Forever ∷ [] }
      ∷ record { name = codes "t5"; partition = 1; priority = 11; policy = Rr; critical = false; program = Run 1 ∷ Sleep 1 ∷ Repeat ∷ [] }
      ∷ record { name = codes "t6"; partition = 0; priority = 10; policy = Rr; critical = false; program = Run 249999 ∷ Sleep 1 ∷ Exit ∷ [] }
      ∷ [];
  commands = [];
}

entries : fixed_run scenario 1000 ≡
    line 0 0 0 None None false DidNothing (Some 0) (Some 3) None
    ∷ line 1 0 0 None None false DidNothing (Some 3) (Some 2) None
    ∷ line 0 0 1000 (Some 0) (Some 2) false DidSendBlocked (Some 5) (Some 2) None
    ∷ line 0 1000 1001 (Some 5) (Some 1) false DidRun (Some 6) (Some 2) None
    ∷ line 0 1001 250000 (Some 6) (Some 0) false DidNothing (Some 4) (Some 2) None
    ∷ line 1 0 250000 (Some 3) (Some 1) false DidNothing (Some 3) (Some 2) None
    ∷ line 0 250000 500000 (Some 4) (Some 1) false DidNothing (Some 4) (Some 2) None
    ∷ line 1 250000 500000 (Some 3) (Some 1) false DidRun (Some 3) (Some 2) (Some 0)
    ∷ line 0 500000 500000 (Some 4) (Some 1) false DidNothing (Some 1) (Some 2) None
    ∷ line 0 500000 750000 (Some 1) (Some 3) false DidNothing (Some 6) (Some 2) None
    ∷ line 1 500000 750000 (Some 3) (Some 1) true DidNothing (Some 3) (Some 0) None
    ∷ line 0 750000 751000 (Some 6) (Some 0) false DidRun (Some 1) (Some 0) None
    ∷ line 0 751000 1000000 (Some 1) (Some 3) false DidNothing (Some 6) (Some 2) None
    ∷ line 1 750000 1000000 (Some 3) (Some 1) true DidNothing (Some 1) (Some 0) None
    ∷ line 0 1000000 1001000 (Some 6) (Some 0) false DidExit (Some 3) (Some 0) None
    ∷ line 0 1001000 1250000 (Some 3) (Some 1) false DidNothing (Some 3) (Some 0) None
    ∷ line 1 1000000 1250000 (Some 1) (Some 3) false DidNothing (Some 1) (Some 0) None
    ∷ line 0 1250000 1500000 (Some 3) (Some 1) false DidNothing (Some 3) (Some 0) None
    ∷ line 1 1250000 1500000 (Some 1) (Some 3) false DidNothing (Some 1) (Some 0) None
    ∷ line 0 1500000 1750000 (Some 3) (Some 1) false DidNothing (Some 3) (Some 0) None
    ∷ line 1 1500000 1750000 (Some 1) (Some 3) false DidNothing (Some 1) (Some 0) None
    ∷ line 0 1750000 2000000 (Some 3) (Some 1) false DidNothing (Some 3) (Some 0) None
    ∷ line 1 1750000 2000000 (Some 1) (Some 3) false DidNothing (Some 1) (Some 0) None
    ∷ line 0 2000000 2250000 (Some 3) (Some 1) false DidNothing (Some 3) (Some 0) None
    ∷ line 1 2000000 2250000 (Some 1) (Some 3) false DidNothing (Some 4) (Some 0) None
    ∷ line 0 2250000 2500000 (Some 3) (Some 1) false DidNothing (Some 3) (Some 0) None
    ∷ line 1 2250000 2500000 (Some 4) (Some 1) false DidNothing (Some 4) (Some 0) None
    ∷ line 0 2500000 2750000 (Some 3) (Some 1) false DidNothing (Some 3) (Some 0) None
    ∷ line 1 2500000 2750000 (Some 4) (Some 1) false DidNothing (Some 1) (Some 0) None
    ∷ line 0 2750000 3000000 (Some 3) (Some 1) true DidNothing (Some 3) (Some 0) None
    ∷ line 1 2750000 3000000 (Some 1) (Some 3) false DidNothing (Some 1) (Some 0) None
    ∷ line 0 3000000 3250000 (Some 3) (Some 1) true DidNothing (Some 3) (Some 0) None
    ∷ line 1 3000000 3250000 (Some 1) (Some 3) false DidNothing (Some 1) (Some 0) None
    ∷ line 0 3250000 3500000 (Some 3) (Some 1) false DidNothing (Some 3) (Some 0) None
    ∷ line 1 3250000 3500000 (Some 1) (Some 3) false DidNothing (Some 1) (Some 0) None
    ∷ line 0 3500000 3750000 (Some 3) (Some 1) false DidNothing (Some 3) (Some 0) None
    ∷ line 1 3500000 3750000 (Some 1) (Some 3) false DidNothing (Some 1) (Some 0) None
    ∷ line 0 3750000 4000000 (Some 3) (Some 1) false DidNothing (Some 3) (Some 0) None
    ∷ line 1 3750000 4000000 (Some 1) (Some 3) false DidNothing (Some 1) (Some 0) None
    ∷ line 0 4000000 4250000 (Some 3) (Some 1) false DidNothing (Some 3) (Some 0) None
    ∷ line 1 4000000 4250000 (Some 1) (Some 3) false DidNothing (Some 1) (Some 0) None
    ∷ line 0 4250000 4500000 (Some 3) (Some 1) false DidNothing (Some 3) (Some 0) None
    ∷ line 1 4250000 4500000 (Some 1) (Some 3) false DidNothing (Some 4) (Some 0) None
    ∷ line 0 4500000 4750000 (Some 3) (Some 1) false DidNothing (Some 3) (Some 0) None
    ∷ line 1 4500000 4750000 (Some 4) (Some 1) false DidNothing (Some 4) (Some 0) None
    ∷ line 0 4750000 5000000 (Some 3) (Some 1) false DidNothing (Some 3) (Some 0) None
    ∷ line 1 4750000 5000000 (Some 4) (Some 1) false DidNothing (Some 1) (Some 0) None
    ∷ line 0 5000000 5250000 (Some 3) (Some 1) true DidNothing (Some 3) (Some 0) None
    ∷ line 1 5000000 5250000 (Some 1) (Some 3) false DidNothing (Some 1) (Some 0) None
    ∷ line 0 5250000 5500000 (Some 3) (Some 1) true DidNothing (Some 3) (Some 0) None
    ∷ line 1 5250000 5500000 (Some 1) (Some 3) false DidNothing (Some 1) (Some 0) None
    ∷ line 0 5500000 5750000 (Some 3) (Some 1) false DidNothing (Some 3) (Some 0) None
    ∷ line 1 5500000 5750000 (Some 1) (Some 3) false DidNothing (Some 1) (Some 0) None
    ∷ line 0 5750000 6000000 (Some 3) (Some 1) false DidNothing (Some 3) (Some 0) None
    ∷ line 1 5750000 6000000 (Some 1) (Some 3) false DidNothing (Some 1) (Some 0) None
    ∷ line 0 6000000 6250000 (Some 3) (Some 1) false DidNothing (Some 3) (Some 0) None
    ∷ line 1 6000000 6250000 (Some 1) (Some 3) false DidNothing (Some 1) (Some 0) None
    ∷ line 0 6250000 6500000 (Some 3) (Some 1) false DidNothing (Some 3) (Some 0) None
    ∷ line 1 6250000 6500000 (Some 1) (Some 3) false DidNothing (Some 1) (Some 0) None
    ∷ line 0 6500000 6750000 (Some 3) (Some 1) false DidNothing (Some 3) (Some 0) None
    ∷ line 1 6500000 6750000 (Some 1) (Some 3) false DidNothing (Some 4) (Some 0) None
    ∷ line 0 6750000 7000000 (Some 3) (Some 1) false DidNothing (Some 3) (Some 0) None
    ∷ line 1 6750000 7000000 (Some 4) (Some 1) false DidNothing (Some 4) (Some 0) None
    ∷ line 0 7000000 7250000 (Some 3) (Some 1) false DidNothing (Some 3) (Some 0) None
    ∷ line 1 7000000 7250000 (Some 4) (Some 1) false DidNothing (Some 1) (Some 0) None
    ∷ line 0 7250000 7500000 (Some 3) (Some 1) true DidNothing (Some 3) (Some 0) None
    ∷ line 1 7250000 7500000 (Some 1) (Some 3) false DidNothing (Some 1) (Some 0) None
    ∷ line 0 7500000 7750000 (Some 3) (Some 1) true DidNothing (Some 3) (Some 0) None
    ∷ line 1 7500000 7750000 (Some 1) (Some 3) false DidNothing (Some 1) (Some 0) None
    ∷ line 0 7750000 8000000 (Some 3) (Some 1) false DidNothing (Some 3) (Some 0) None
    ∷ line 1 7750000 8000000 (Some 1) (Some 3) false DidNothing (Some 1) (Some 0) None
    ∷ line 0 8000000 8250000 (Some 3) (Some 1) false DidNothing (Some 3) (Some 0) None
    ∷ line 1 8000000 8250000 (Some 1) (Some 3) false DidNothing (Some 1) (Some 0) None
    ∷ line 0 8250000 8500000 (Some 3) (Some 1) false DidNothing (Some 3) (Some 0) None
    ∷ line 1 8250000 8500000 (Some 1) (Some 3) false DidNothing (Some 1) (Some 0) None
    ∷ line 0 8500000 8750000 (Some 3) (Some 1) false DidNothing (Some 3) (Some 0) None
    ∷ line 1 8500000 8750000 (Some 1) (Some 3) false DidNothing (Some 1) (Some 0) None
    ∷ line 0 8750000 9000000 (Some 3) (Some 1) false DidNothing (Some 3) (Some 0) None
    ∷ line 1 8750000 9000000 (Some 1) (Some 3) false DidNothing (Some 4) (Some 0) None
    ∷ line 0 9000000 9250000 (Some 3) (Some 1) false DidNothing (Some 3) (Some 0) None
    ∷ line 1 9000000 9250000 (Some 4) (Some 1) false DidNothing (Some 4) (Some 0) None
    ∷ line 0 9250000 9500000 (Some 3) (Some 1) false DidNothing None None None
    ∷ line 1 9250000 9500000 (Some 4) (Some 1) false DidNothing None None None
    ∷ []
entries = refl

summary : run_summary scenario 1000 ≡
    codes "aps summary 1\n"
    ++ codes "end horizon\n"
    ++ codes "shape cpus 2 tick 250000 window 9 ticks 38\n"
    ++ codes "entries 83\n"
    ++ codes "partition 0 System budget 449 billed 250999 critical 0\n"
    ++ codes "partition 1 A budget 117 billed 11749001 critical 2000000\n"
    ++ codes "partition 2 B budget 91 billed 1000 critical 0\n"
    ++ codes "partition 3 C budget 343 billed 6999000 critical 0\n"
    ++ codes "idle 0\n"
    ++ codes "thread 0 t0 ran 1000\n"
    ++ codes "thread 1 t1 ran 6999000\n"
    ++ codes "thread 2 t2 ran 0\n"
    ++ codes "thread 3 t3 ran 9499000\n"
    ++ codes "thread 4 t4 ran 2250000\n"
    ++ codes "thread 5 t5 ran 1\n"
    ++ codes "thread 6 t6 ran 250999\n"
    ++ codes "loaded 38\n"
    ++ codes "over none\n"
    ++ codes "short none\n"
    ++ codes "overcritical none\n"
unfolding run_summary digits
summary = refl

windows : run_windows scenario 1000 ≡
    codes "aps windows 1\n"
    ++ codes "end horizon\n"
    ++ codes "window 0 250999 2499001 1000 1749000\n"
    ++ codes "window 9 0 2750000 0 1750000\n"
    ++ codes "window 18 0 2750000 0 1750000\n"
    ++ codes "window 27 0 2750000 0 1750000\n"
unfolding run_windows digits
windows = refl
