use lib.Chars.{codes}
use Rattle.std.proofs.Common.{◌≡◌, [], ◌∷◌, ◌++◌, refl, Some, None, true, false}
use Rattle.std.specs.Fmt.{digits}
use Rattle.aps_model.specs.declared.entry.Done.TheVariants.{Nothing as DidNothing, ReceiveBlocked as DidReceiveBlocked, ReceiveGot as DidReceiveGot, ReceiveHolding as DidReceiveHolding, Repeat as DidRepeat, Run as DidRun, SendBlocked as DidSendBlocked}
use Rattle.aps_model.specs.declared.program.Op.TheVariants.{Exit, Forever, Receive, Repeat, Reply, Run, Send, Sleep, Yield}
use Rattle.aps_model.specs.declared.scenario.Policy.TheVariants.{Fifo, Rr}
use Rattle.aps_model.specs.declared.shape.Bankruptcy.TheVariants.{Cancel}
use Rattle.aps_model.specs.declared.shape.Free.TheVariants.{Priority as ByPriority}
use Rattle.aps_model.specs.Scenario.{Scenario}
use Rattle.aps_model.specs.Legal.{fixed_run}
use Rattle.worked_proofs.proofs.Line.{line, run_summary, run_windows}

abbrev pub scenario : Scenario
scenario = record {
  shape = record { parts = 100; cpus = 1; tick = 100000; window = 16; ticks = 41; call_ns = 7000; free = ByPriority; limit = false; bankruptcy = Cancel };
  partitions =
      record { name = codes "System"; parent = 0; budget = 15; critical = 0; max = 100 }
      ∷ record { name = codes "A"; parent = 0; budget = 29; critical = 0; max = 39 }
      ∷ record { name = codes "B"; parent = 0; budget = 30; critical = 50000; max = 40 }
      ∷ record { name = codes "C"; parent = 0; budget = 24; critical = 300000; max = 34 }
      ∷ record { name = codes "D"; parent = 0; budget = 2; critical = 0; max = 12 }
      ∷ [];
  channels = codes "c" ∷ codes "d" ∷ [];
  threads =
      record { name = codes "t0"; partition = 3; priority = 11; policy = Fifo; critical = true; program = Forever ∷ [] }
      ∷ record { name = codes "t1"; partition = 2; priority = 10; policy = Rr; critical = false; program = Forever ∷ [] }
      ∷ record { name = codes "t2"; partition = 4; priority = 169; policy = Rr; critical = false; program = Forever ∷ [] }
      ∷ record { name = codes "t3"; partition = 1; priority = 12; policy = Rr; critical = false; program = Forever ∷ [] }
      ∷ record { name = codes "t4"; partition = 1; priority = 76; policy = Rr; critical = false; program = Sleep 382674 ∷ Send 1 ∷ Exit ∷ [] }
      ∷ record { name = codes "t5"; partition = 2; priority = 11; policy = Rr; critical = false; program = Receive 1 ∷ Run 73054 ∷ Repeat ∷ [] }
      ∷ record { name = codes "t6"; partition = 0; priority = 20; policy = Fifo; critical = false; program = Forever ∷ [] }
      ∷ record { name = codes "t7"; partition = 1; priority = 20; policy = Rr; critical = true; program = Receive 0 ∷ Run 99999 ∷ Run 100000 ∷ Reply ∷ Repeat ∷ [] }
      ∷ record { name = codes "t8"; partition = 2; priority = 18; policy = Fifo; critical = false; program = Receive 0 ∷ Send 1 ∷ Yield ∷ Reply ∷ Repeat ∷ [] }
      ∷ [];
  commands = [];
}

entries : fixed_run scenario 1000 ≡
    line 0 0 0 None None false DidNothing (Some 2) None None
    ∷ line 0 0 100000 (Some 2) (Some 4) false DidNothing (Some 6) None None
    ∷ line 0 100000 200000 (Some 6) (Some 0) false DidNothing (Some 7) None None
    ∷ line 0 200000 207000 (Some 7) (Some 1) false DidReceiveBlocked (Some 6) None None
    ∷ line 0 207000 300000 (Some 6) (Some 0) false DidNothing (Some 6) None None
    ∷ line 0 300000 400000 (Some 6) (Some 0) false DidNothing (Some 4) None None
    ∷ line 0 400000 407000 (Some 4) (Some 1) false DidSendBlocked (Some 8) None None
    ∷ line 0 407000 414000 (Some 8) (Some 2) false DidReceiveBlocked (Some 3) None None
    ∷ line 0 414000 500000 (Some 3) (Some 1) false DidNothing (Some 3) None None
    ∷ line 0 500000 600000 (Some 3) (Some 1) false DidNothing (Some 3) None None
    ∷ line 0 600000 700000 (Some 3) (Some 1) false DidNothing (Some 3) None None
    ∷ line 0 700000 800000 (Some 3) (Some 1) false DidNothing (Some 3) None None
    ∷ line 0 800000 900000 (Some 3) (Some 1) false DidNothing (Some 0) None None
    ∷ line 0 900000 1000000 (Some 0) (Some 3) false DidNothing (Some 5) None None
    ∷ line 0 1000000 1007000 (Some 5) (Some 2) false (DidReceiveGot 4) (Some 0) None None
    ∷ line 0 1007000 1100000 (Some 0) (Some 3) false DidNothing (Some 0) None None
    ∷ line 0 1100000 1200000 (Some 0) (Some 3) false DidNothing (Some 0) None None
    ∷ line 0 1200000 1300000 (Some 0) (Some 3) false DidNothing (Some 0) None None
    ∷ line 0 1300000 1400000 (Some 0) (Some 3) true DidNothing (Some 0) None None
    ∷ line 0 1400000 1500000 (Some 0) (Some 3) true DidNothing (Some 0) None None
    ∷ line 0 1500000 1600000 (Some 0) (Some 3) true DidNothing (Some 2) None None
    ∷ line 0 1600000 1700000 (Some 2) (Some 4) false DidNothing (Some 6) None None
    ∷ line 0 1700000 1800000 (Some 6) (Some 0) false DidNothing (Some 6) None None
    ∷ line 0 1800000 1900000 (Some 6) (Some 0) false DidNothing (Some 6) None None
    ∷ line 0 1900000 2000000 (Some 6) (Some 0) false DidNothing (Some 5) None None
    ∷ line 0 2000000 2073054 (Some 5) (Some 1) false DidRun (Some 1) None None
    ∷ line 0 2073054 2100000 (Some 1) (Some 2) false DidNothing (Some 5) None None
    ∷ line 0 2100000 2107000 (Some 5) (Some 1) false DidRepeat (Some 5) None None
    ∷ line 0 2107000 2114000 (Some 5) (Some 1) false (DidReceiveHolding 4) (Some 5) None None
    ∷ line 0 2114000 2187054 (Some 5) (Some 1) false DidRun (Some 5) None None
    ∷ line 0 2187054 2194054 (Some 5) (Some 1) false DidRepeat (Some 1) None None
    ∷ line 0 2194054 2200000 (Some 1) (Some 2) false DidNothing (Some 5) None None
    ∷ line 0 2200000 2207000 (Some 5) (Some 1) false (DidReceiveHolding 4) (Some 5) None None
    ∷ line 0 2207000 2280054 (Some 5) (Some 1) false DidRun (Some 5) None None
    ∷ line 0 2280054 2287054 (Some 5) (Some 1) false DidRepeat (Some 5) None None
    ∷ line 0 2287054 2294054 (Some 5) (Some 1) false (DidReceiveHolding 4) (Some 5) None None
    ∷ line 0 2294054 2300000 (Some 5) (Some 1) false DidNothing (Some 5) None None
    ∷ line 0 2300000 2367108 (Some 5) (Some 1) false DidRun (Some 5) None None
    ∷ line 0 2367108 2374108 (Some 5) (Some 1) false DidRepeat (Some 5) None None
    ∷ line 0 2374108 2381108 (Some 5) (Some 1) false (DidReceiveHolding 4) (Some 5) None None
    ∷ line 0 2381108 2400000 (Some 5) (Some 1) false DidNothing (Some 5) None None
    ∷ line 0 2400000 2454162 (Some 5) (Some 1) false DidRun (Some 5) None None
    ∷ line 0 2454162 2461162 (Some 5) (Some 1) false DidRepeat (Some 5) None None
    ∷ line 0 2461162 2468162 (Some 5) (Some 1) false (DidReceiveHolding 4) (Some 5) None None
    ∷ line 0 2468162 2500000 (Some 5) (Some 1) false DidNothing (Some 1) None None
    ∷ line 0 2500000 2600000 (Some 1) (Some 2) false DidNothing (Some 1) None None
    ∷ line 0 2600000 2700000 (Some 1) (Some 2) false DidNothing (Some 1) None None
    ∷ line 0 2700000 2800000 (Some 1) (Some 2) false DidNothing (Some 0) None None
    ∷ line 0 2800000 2900000 (Some 0) (Some 3) false DidNothing (Some 0) None None
    ∷ line 0 2900000 3000000 (Some 0) (Some 3) false DidNothing (Some 0) None None
    ∷ line 0 3000000 3100000 (Some 0) (Some 3) false DidNothing (Some 0) None None
    ∷ line 0 3100000 3200000 (Some 0) (Some 3) false DidNothing (Some 2) None None
    ∷ line 0 3200000 3300000 (Some 2) (Some 4) false DidNothing (Some 6) None None
    ∷ line 0 3300000 3400000 (Some 6) (Some 0) false DidNothing (Some 6) None None
    ∷ line 0 3400000 3500000 (Some 6) (Some 0) false DidNothing (Some 6) None None
    ∷ line 0 3500000 3600000 (Some 6) (Some 0) false DidNothing (Some 5) None None
    ∷ line 0 3600000 3641216 (Some 5) (Some 1) false DidRun (Some 5) None None
    ∷ line 0 3641216 3648216 (Some 5) (Some 1) false DidRepeat (Some 5) None None
    ∷ line 0 3648216 3655216 (Some 5) (Some 1) false (DidReceiveHolding 4) (Some 5) None None
    ∷ line 0 3655216 3700000 (Some 5) (Some 1) false DidNothing (Some 5) None None
    ∷ line 0 3700000 3728270 (Some 5) (Some 1) false DidRun (Some 5) None None
    ∷ line 0 3728270 3735270 (Some 5) (Some 1) false DidRepeat (Some 5) None None
    ∷ line 0 3735270 3742270 (Some 5) (Some 1) false (DidReceiveHolding 4) (Some 5) None None
    ∷ line 0 3742270 3800000 (Some 5) (Some 1) false DidNothing (Some 5) None None
    ∷ line 0 3800000 3815324 (Some 5) (Some 1) false DidRun (Some 5) None None
    ∷ line 0 3815324 3822324 (Some 5) (Some 1) false DidRepeat (Some 5) None None
    ∷ line 0 3822324 3829324 (Some 5) (Some 1) false (DidReceiveHolding 4) (Some 5) None None
    ∷ line 0 3829324 3900000 (Some 5) (Some 1) false DidNothing (Some 5) None None
    ∷ line 0 3900000 3902378 (Some 5) (Some 1) false DidRun (Some 5) None None
    ∷ line 0 3902378 3909378 (Some 5) (Some 1) false DidRepeat (Some 5) None None
    ∷ line 0 3909378 3916378 (Some 5) (Some 1) false (DidReceiveHolding 4) (Some 5) None None
    ∷ line 0 3916378 3989432 (Some 5) (Some 1) false DidRun (Some 0) None None
    ∷ line 0 3989432 4000000 (Some 0) (Some 3) true DidNothing (Some 5) None None
    ∷ line 0 4000000 4007000 (Some 5) (Some 1) false DidRepeat (Some 5) None None
    ∷ line 0 4007000 4014000 (Some 5) (Some 1) false (DidReceiveHolding 4) (Some 5) None None
    ∷ line 0 4014000 4087054 (Some 5) (Some 1) false DidRun (Some 0) None None
    ∷ line 0 4087054 4100000 (Some 0) (Some 3) true DidNothing None None None
    ∷ []
entries = refl

summary : run_summary scenario 1000 ≡
    codes "aps summary 1\n"
    ++ codes "end horizon\n"
    ++ codes "shape cpus 1 tick 100000 window 16 ticks 41\n"
    ++ codes "entries 77\n"
    ++ codes "partition 0 System budget 15 billed 893000 critical 0\n"
    ++ codes "partition 1 A budget 29 billed 1443594 critical 0\n"
    ++ codes "partition 2 B budget 30 billed 346892 critical 0\n"
    ++ codes "partition 3 C budget 24 billed 1116514 critical 323514\n"
    ++ codes "partition 4 D budget 2 billed 300000 critical 0\n"
    ++ codes "idle 0\n"
    ++ codes "thread 0 t0 ran 1116514\n"
    ++ codes "thread 1 t1 ran 332892\n"
    ++ codes "thread 2 t2 ran 300000\n"
    ++ codes "thread 3 t3 ran 486000\n"
    ++ codes "thread 4 t4 ran 7000\n"
    ++ codes "thread 5 t5 ran 950594\n"
    ++ codes "thread 6 t6 ran 893000\n"
    ++ codes "thread 7 t7 ran 7000\n"
    ++ codes "thread 8 t8 ran 7000\n"
    ++ codes "loaded 0\n"
    ++ codes "over 309000 partition 3 window 0\n"
    ++ codes "short 466000 partition 2 window 0\n"
    ++ codes "overcritical 0 partition 0 window 0\n"
unfolding run_summary digits
summary = refl

windows : run_windows scenario 1000 ≡
    codes "aps windows 1\n"
    ++ codes "end horizon\n"
    ++ codes "window 0 293000 500000 14000 693000 100000\n"
    ++ codes "window 16 300000 467108 332892 400000 100000\n"
unfolding run_windows digits
windows = refl
