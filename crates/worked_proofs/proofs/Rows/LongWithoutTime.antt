use lib.Chars.{codes}
use Rattle.std.proofs.Common.{◌≡◌, [], ◌∷◌, ◌++◌, refl, Some, None, true, false}
use Rattle.std.specs.Fmt.{digits}
use Rattle.aps_model.specs.declared.entry.Done.TheVariants.{Nothing as DidNothing, Run as DidRun}
use Rattle.aps_model.specs.declared.program.Op.TheVariants.{CriticalOn, Forever, Repeat, Run, Sleep}
use Rattle.aps_model.specs.declared.scenario.Policy.TheVariants.{Fifo, Rr}
use Rattle.aps_model.specs.declared.shape.Bankruptcy.TheVariants.{Basic}
use Rattle.aps_model.specs.declared.shape.Free.TheVariants.{Priority as ByPriority}
use Rattle.aps_model.specs.Scenario.{Scenario}
use Rattle.aps_model.specs.Legal.{fixed_run}
use Rattle.worked_proofs.proofs.Line.{line, run_summary, run_windows}

abbrev pub scenario : Scenario
scenario = record {
  shape = record { parts = 100; cpus = 1; tick = 100000; window = 11; ticks = 36; call_ns = 33333; free = ByPriority; limit = false; bankruptcy = Basic };
  partitions =
      record { name = codes "System"; parent = 0; budget = 85; critical = 0; max = 100 }
      ∷ record { name = codes "A"; parent = 0; budget = 0; critical = 0; max = 18 }
      ∷ record { name = codes "B"; parent = 0; budget = 15; critical = 500000; max = 68 }
      ∷ [];
  channels = [];
  threads =
      record { name = codes "t4"; partition = 0; priority = 8; policy = Fifo; critical = true; program = Sleep 1099999 ∷ Forever ∷ [] }
      ∷ record { name = codes "t22"; partition = 1; priority = 4; policy = Fifo; critical = false; program = Forever ∷ [] }
      ∷ record { name = codes "t26"; partition = 2; priority = 5; policy = Fifo; critical = false; program = Sleep 421 ∷ Run 200000 ∷ Sleep 8017 ∷ Run 988 ∷ Repeat ∷ [] }
      ∷ record { name = codes "t29"; partition = 2; priority = 3; policy = Fifo; critical = false; program = Run 370883 ∷ Sleep 198762 ∷ Repeat ∷ [] }
      ∷ record { name = codes "t33"; partition = 1; priority = 1; policy = Fifo; critical = true; program = Run 169062 ∷ Sleep 1100000 ∷ Repeat ∷ [] }
      ∷ record { name = codes "t24"; partition = 0; priority = 3; policy = Fifo; critical = true; program = Sleep 1035588 ∷ Run 200000 ∷ Repeat ∷ [] }
      ∷ record { name = codes "t17"; partition = 1; priority = 2; policy = Rr; critical = false; program = Sleep 774567 ∷ Run 100000 ∷ CriticalOn ∷ Sleep 232001 ∷ Run 199999 ∷ Repeat ∷ [] }
      ∷ record { name = codes "t32"; partition = 1; priority = 4; policy = Rr; critical = false; program = Sleep 1099998 ∷ Run 399998 ∷ CriticalOn ∷ Sleep 47317 ∷ Run 299998 ∷ Repeat ∷ [] }
      ∷ record { name = codes "t16"; partition = 1; priority = 188; policy = Fifo; critical = false; program = Forever ∷ [] }
      ∷ record { name = codes "t14"; partition = 2; priority = 3; policy = Fifo; critical = false; program = Sleep 23800 ∷ Run 300000 ∷ CriticalOn ∷ Repeat ∷ [] }
      ∷ record { name = codes "t15"; partition = 0; priority = 8; policy = Fifo; critical = true; program = Sleep 1099999 ∷ Forever ∷ [] }
      ∷ record { name = codes "t19"; partition = 2; priority = 4; policy = Fifo; critical = false; program = Sleep 399999 ∷ Run 300000 ∷ CriticalOn ∷ Repeat ∷ [] }
      ∷ record { name = codes "t20"; partition = 1; priority = 188; policy = Fifo; critical = true; program = Forever ∷ [] }
      ∷ record { name = codes "t21"; partition = 1; priority = 1; policy = Fifo; critical = true; program = Run 169062 ∷ Sleep 1100000 ∷ Repeat ∷ [] }
      ∷ record { name = codes "t23"; partition = 1; priority = 6; policy = Fifo; critical = false; program = Forever ∷ [] }
      ∷ record { name = codes "t25"; partition = 2; priority = 4; policy = Fifo; critical = false; program = Sleep 399999 ∷ Run 300000 ∷ CriticalOn ∷ Repeat ∷ [] }
      ∷ record { name = codes "t27"; partition = 2; priority = 5; policy = Fifo; critical = false; program = Sleep 421 ∷ Run 200000 ∷ Sleep 8017 ∷ Run 988 ∷ Repeat ∷ [] }
      ∷ record { name = codes "t28"; partition = 2; priority = 3; policy = Rr; critical = false; program = Sleep 100000 ∷ Run 300000 ∷ Repeat ∷ [] }
      ∷ record { name = codes "t18"; partition = 2; priority = 4; policy = Fifo; critical = false; program = Sleep 399999 ∷ Run 300000 ∷ CriticalOn ∷ Repeat ∷ [] }
      ∷ [];
  commands = [];
}

entries : fixed_run scenario 1000 ≡
    line 0 0 0 None None false DidNothing (Some 3) (Some 0) None
    ∷ line 0 0 100000 (Some 3) (Some 2) false DidNothing (Some 2) (Some 0) None
    ∷ line 0 100000 200000 (Some 2) (Some 2) false DidNothing (Some 8) (Some 0) None
    ∷ line 0 200000 300000 (Some 8) (Some 1) false DidNothing (Some 8) (Some 0) None
    ∷ line 0 300000 400000 (Some 8) (Some 1) false DidNothing (Some 8) (Some 0) None
    ∷ line 0 400000 500000 (Some 8) (Some 1) false DidNothing (Some 8) (Some 0) None
    ∷ line 0 500000 600000 (Some 8) (Some 1) false DidNothing (Some 8) (Some 0) None
    ∷ line 0 600000 700000 (Some 8) (Some 1) false DidNothing (Some 8) (Some 0) None
    ∷ line 0 700000 800000 (Some 8) (Some 1) false DidNothing (Some 8) (Some 0) None
    ∷ line 0 800000 900000 (Some 8) (Some 1) false DidNothing (Some 8) (Some 0) None
    ∷ line 0 900000 1000000 (Some 8) (Some 1) false DidNothing (Some 8) (Some 0) None
    ∷ line 0 1000000 1100000 (Some 8) (Some 1) false DidNothing (Some 0) None None
    ∷ line 0 1100000 1200000 (Some 0) (Some 0) false DidNothing (Some 0) None None
    ∷ line 0 1200000 1300000 (Some 0) (Some 0) false DidNothing (Some 0) None None
    ∷ line 0 1300000 1400000 (Some 0) (Some 0) false DidNothing (Some 0) None None
    ∷ line 0 1400000 1500000 (Some 0) (Some 0) false DidNothing (Some 0) None None
    ∷ line 0 1500000 1600000 (Some 0) (Some 0) false DidNothing (Some 0) None None
    ∷ line 0 1600000 1700000 (Some 0) (Some 0) false DidNothing (Some 0) None None
    ∷ line 0 1700000 1800000 (Some 0) (Some 0) false DidNothing (Some 0) None None
    ∷ line 0 1800000 1900000 (Some 0) (Some 0) false DidNothing (Some 0) None None
    ∷ line 0 1900000 2000000 (Some 0) (Some 0) false DidNothing (Some 0) None None
    ∷ line 0 2000000 2100000 (Some 0) (Some 0) false DidNothing (Some 2) None None
    ∷ line 0 2100000 2200000 (Some 2) (Some 2) false DidRun (Some 0) None None
    ∷ line 0 2200000 2300000 (Some 0) (Some 0) false DidNothing (Some 0) None None
    ∷ line 0 2300000 2400000 (Some 0) (Some 0) false DidNothing (Some 0) None None
    ∷ line 0 2400000 2500000 (Some 0) (Some 0) false DidNothing (Some 0) None None
    ∷ line 0 2500000 2600000 (Some 0) (Some 0) false DidNothing (Some 0) None None
    ∷ line 0 2600000 2700000 (Some 0) (Some 0) false DidNothing (Some 0) None None
    ∷ line 0 2700000 2800000 (Some 0) (Some 0) false DidNothing (Some 0) None None
    ∷ line 0 2800000 2900000 (Some 0) (Some 0) false DidNothing (Some 0) None None
    ∷ line 0 2900000 3000000 (Some 0) (Some 0) false DidNothing (Some 0) None None
    ∷ line 0 3000000 3100000 (Some 0) (Some 0) false DidNothing (Some 0) None None
    ∷ line 0 3100000 3200000 (Some 0) (Some 0) false DidNothing (Some 16) None None
    ∷ line 0 3200000 3300000 (Some 16) (Some 2) false DidNothing (Some 0) None None
    ∷ line 0 3300000 3400000 (Some 0) (Some 0) false DidNothing (Some 0) None None
    ∷ line 0 3400000 3500000 (Some 0) (Some 0) false DidNothing (Some 0) None None
    ∷ line 0 3500000 3600000 (Some 0) (Some 0) false DidNothing None None None
    ∷ []
entries = refl

summary : run_summary scenario 1000 ≡
    codes "aps summary 1\n"
    ++ codes "end horizon\n"
    ++ codes "shape cpus 1 tick 100000 window 11 ticks 36\n"
    ++ codes "entries 37\n"
    ++ codes "partition 0 System budget 85 billed 2300000 critical 0\n"
    ++ codes "partition 1 A budget 0 billed 900000 critical 0\n"
    ++ codes "partition 2 B budget 15 billed 400000 critical 0\n"
    ++ codes "idle 0\n"
    ++ codes "thread 0 t4 ran 2300000\n"
    ++ codes "thread 1 t22 ran 0\n"
    ++ codes "thread 2 t26 ran 200000\n"
    ++ codes "thread 3 t29 ran 100000\n"
    ++ codes "thread 4 t33 ran 0\n"
    ++ codes "thread 5 t24 ran 0\n"
    ++ codes "thread 6 t17 ran 0\n"
    ++ codes "thread 7 t32 ran 0\n"
    ++ codes "thread 8 t16 ran 900000\n"
    ++ codes "thread 9 t14 ran 0\n"
    ++ codes "thread 10 t15 ran 0\n"
    ++ codes "thread 11 t19 ran 0\n"
    ++ codes "thread 12 t20 ran 0\n"
    ++ codes "thread 13 t21 ran 0\n"
    ++ codes "thread 14 t23 ran 0\n"
    ++ codes "thread 15 t25 ran 0\n"
    ++ codes "thread 16 t27 ran 100000\n"
    ++ codes "thread 17 t28 ran 0\n"
    ++ codes "thread 18 t18 ran 0\n"
    ++ codes "loaded 11\n"
    ++ codes "over 65000 partition 0 window 11\n"
    ++ codes "short 65000 partition 2 window 11\n"
    ++ codes "overcritical 0 partition 0 window 11\n"
unfolding run_summary digits
summary = refl

windows : run_windows scenario 1000 ≡
    codes "aps windows 1\n"
    ++ codes "end horizon\n"
    ++ codes "window 0 0 900000 200000\n"
    ++ codes "window 11 1000000 0 100000\n"
    ++ codes "window 22 1000000 0 100000\n"
unfolding run_windows digits
windows = refl
