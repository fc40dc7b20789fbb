use lib.Chars.{codes}
use Rattle.std.proofs.Common.{◌≡◌, [], ◌∷◌, ◌++◌, refl, Some, None, true, false}
use Rattle.std.specs.Fmt.{digits}
use Rattle.aps_model.specs.declared.command.Call.TheVariants.{ClearCritical, Create, Lookup}
use Rattle.aps_model.specs.declared.entry.Done.TheVariants.{Nothing as DidNothing, SendBlocked as DidSendBlocked}
use Rattle.aps_model.specs.declared.program.Op.TheVariants.{CriticalOff, CriticalOn, Exit, Forever, Join, Priority, Receive, Repeat, Run, Send, Sleep, Yield}
use Rattle.aps_model.specs.declared.scenario.Policy.TheVariants.{Fifo, Rr}
use Rattle.aps_model.specs.declared.shape.Bankruptcy.TheVariants.{Cancel}
use Rattle.aps_model.specs.declared.shape.Free.TheVariants.{Ratio as ByRatio}
use Rattle.aps_model.specs.Scenario.{Scenario}
use Rattle.aps_model.specs.Legal.{fixed_run}
use Rattle.worked_proofs.proofs.Line.{line, run_summary, run_windows}

abbrev pub scenario : Scenario
scenario = record {
  shape = record { parts = 1000; cpus = 2; tick = 137000; window = 12; ticks = 34; call_ns = 10000; free = ByRatio; limit = true; bankruptcy = Cancel };
  partitions =
      record { name = codes "System"; parent = 0; budget = 934; critical = 0; max = 1000 }
      ∷ record { name = codes "A"; parent = 0; budget = 16; critical = 0; max = 871 }
      ∷ record { name = codes "B"; parent = 1; budget = 50; critical = 137000; max = 150 }
      ∷ record { name = codes "C"; parent = 0; budget = 0; critical = 0; max = 1000 }
      ∷ [];
  channels = codes "c" ∷ codes "d" ∷ codes "e" ∷ [];
  threads =
      record { name = codes "t0"; partition = 0; priority = 49; policy = Rr; critical = true; program = Forever ∷ [] }
      ∷ record { name = codes "t1"; partition = 0; priority = 153; policy = Rr; critical = false; program = Forever ∷ [] }
      ∷ record { name = codes "t2"; partition = 1; priority = 11; policy = Fifo; critical = false; program = Forever ∷ [] }
      ∷ record { name = codes "t3"; partition = 1; priority = 164; policy = Fifo; critical = true; program = Forever ∷ [] }
      ∷ record { name = codes "t4"; partition = 2; priority = 33; policy = Fifo; critical = false; program = Forever ∷ [] }
      ∷ record { name = codes "t5"; partition = 0; priority = 10; policy = Rr; critical = true; program = Join (codes "N2") ∷ Priority 10 ∷ Priority 255 ∷ Receive 2 ∷ Sleep 127000 ∷ Repeat ∷ [] }
      ∷ record { name = codes "t6"; partition = 1; priority = 10; policy = Rr; critical = true; program = Run 1 ∷ Forever ∷ [] }
      ∷ record { name = codes "t7"; partition = 3; priority = 10; policy = Fifo; critical = true; program = Yield ∷ Send 2 ∷ Yield ∷ Priority 10 ∷ Sleep 402011 ∷ Sleep 136999 ∷ Exit ∷ [] }
      ∷ record { name = codes "t8"; partition = 2; priority = 145; policy = Rr; critical = true; program = Send 2 ∷ Send 0 ∷ Join (codes "N1") ∷ Sleep 550727 ∷ Exit ∷ [] }
      ∷ record { name = codes "t9"; partition = 2; priority = 9; policy = Fifo; critical = false; program = CriticalOn ∷ Run 634445 ∷ Join (codes "A") ∷ CriticalOff ∷ Run 423550 ∷ Exit ∷ [] }
      ∷ record { name = codes "t10"; partition = 0; priority = 20; policy = Fifo; critical = true; program = Exit ∷ [] }
      ∷ record { name = codes "t11"; partition = 1; priority = 74; policy = Fifo; critical = true; program = Run 127000 ∷ Forever ∷ [] }
      ∷ record { name = codes "t12"; partition = 2; priority = 107; policy = Fifo; critical = true; program = Sleep 1 ∷ Forever ∷ [] }
      ∷ record { name = codes "t13"; partition = 3; priority = 147; policy = Fifo; critical = true; program = Run 137001 ∷ Forever ∷ [] }
      ∷ [];
  commands =
      record { tick = 11; call = Create (codes "N1") (codes "N1") 201 137000 478 }
      ∷ record { tick = 33; call = Create (codes "N2") (codes "C") 0 0 1000 }
      ∷ record { tick = 33; call = Lookup (codes "B") }
      ∷ record { tick = 7; call = Lookup (codes "N2") }
      ∷ record { tick = 0; call = ClearCritical 0 }
      ∷ record { tick = 33; call = Create (codes "N1") (codes "A") 662 0 1000 }
      ∷ [];
}

entries : fixed_run scenario 1000 ≡
    line 0 0 0 None None false DidNothing (Some 3) None None
    ∷ line 1 0 0 None None false DidNothing (Some 1) None None
    ∷ line 0 0 137000 (Some 3) (Some 1) false DidNothing (Some 8) None None
    ∷ line 1 0 137000 (Some 1) (Some 0) false DidNothing (Some 1) None None
    ∷ line 0 137000 147000 (Some 8) (Some 2) false DidSendBlocked (Some 12) None None
    ∷ line 0 147000 274000 (Some 12) (Some 2) false DidNothing (Some 12) None None
    ∷ line 1 137000 274000 (Some 1) (Some 0) false DidNothing (Some 1) None None
    ∷ line 0 274000 411000 (Some 12) (Some 2) false DidNothing (Some 12) None None
    ∷ line 1 274000 411000 (Some 1) (Some 0) false DidNothing (Some 1) None None
    ∷ line 0 411000 548000 (Some 12) (Some 2) true DidNothing (Some 0) None None
    ∷ line 1 411000 548000 (Some 1) (Some 0) false DidNothing (Some 1) None None
    ∷ line 0 548000 685000 (Some 0) (Some 0) false DidNothing (Some 0) None None
    ∷ line 1 548000 685000 (Some 1) (Some 0) false DidNothing (Some 1) None None
    ∷ line 0 685000 822000 (Some 0) (Some 0) false DidNothing (Some 0) None None
    ∷ line 1 685000 822000 (Some 1) (Some 0) false DidNothing (Some 1) None None
    ∷ line 0 822000 959000 (Some 0) (Some 0) false DidNothing (Some 0) None None
    ∷ line 1 822000 959000 (Some 1) (Some 0) false DidNothing (Some 1) None None
    ∷ line 0 959000 1096000 (Some 0) (Some 0) false DidNothing (Some 0) None None
    ∷ line 1 959000 1096000 (Some 1) (Some 0) false DidNothing (Some 1) None None
    ∷ line 0 1096000 1233000 (Some 0) (Some 0) false DidNothing (Some 0) None None
    ∷ line 1 1096000 1233000 (Some 1) (Some 0) false DidNothing (Some 1) None None
    ∷ line 0 1233000 1370000 (Some 0) (Some 0) false DidNothing (Some 0) None None
    ∷ line 1 1233000 1370000 (Some 1) (Some 0) false DidNothing (Some 1) None None
    ∷ line 0 1370000 1507000 (Some 0) (Some 0) false DidNothing (Some 0) None None
    ∷ line 1 1370000 1507000 (Some 1) (Some 0) false DidNothing (Some 1) None None
    ∷ line 0 1507000 1644000 (Some 0) (Some 0) false DidNothing (Some 3) None None
    ∷ line 1 1507000 1644000 (Some 1) (Some 0) false DidNothing (Some 1) None None
    ∷ line 0 1644000 1781000 (Some 3) (Some 1) false DidNothing (Some 0) None None
    ∷ line 1 1644000 1781000 (Some 1) (Some 0) false DidNothing (Some 1) None None
    ∷ line 0 1781000 1918000 (Some 0) (Some 0) false DidNothing (Some 12) None None
    ∷ line 1 1781000 1918000 (Some 1) (Some 0) false DidNothing (Some 1) None None
    ∷ line 0 1918000 2055000 (Some 12) (Some 2) false DidNothing (Some 12) None None
    ∷ line 1 1918000 2055000 (Some 1) (Some 0) false DidNothing (Some 1) None None
    ∷ line 0 2055000 2192000 (Some 12) (Some 2) false DidNothing (Some 12) None None
    ∷ line 1 2055000 2192000 (Some 1) (Some 0) false DidNothing (Some 1) None None
    ∷ line 0 2192000 2329000 (Some 12) (Some 2) true DidNothing (Some 0) None None
    ∷ line 1 2192000 2329000 (Some 1) (Some 0) false DidNothing (Some 1) None None
    ∷ line 0 2329000 2466000 (Some 0) (Some 0) false DidNothing (Some 0) None None
    ∷ line 1 2329000 2466000 (Some 1) (Some 0) false DidNothing (Some 1) None None
    ∷ line 0 2466000 2603000 (Some 0) (Some 0) false DidNothing (Some 0) None None
    ∷ line 1 2466000 2603000 (Some 1) (Some 0) false DidNothing (Some 1) None None
    ∷ line 0 2603000 2740000 (Some 0) (Some 0) false DidNothing (Some 0) None None
    ∷ line 1 2603000 2740000 (Some 1) (Some 0) false DidNothing (Some 1) None None
    ∷ line 0 2740000 2877000 (Some 0) (Some 0) false DidNothing (Some 0) None None
    ∷ line 1 2740000 2877000 (Some 1) (Some 0) false DidNothing (Some 1) None None
    ∷ line 0 2877000 3014000 (Some 0) (Some 0) false DidNothing (Some 0) None None
    ∷ line 1 2877000 3014000 (Some 1) (Some 0) false DidNothing (Some 1) None None
    ∷ line 0 3014000 3151000 (Some 0) (Some 0) false DidNothing (Some 0) None None
    ∷ line 1 3014000 3151000 (Some 1) (Some 0) false DidNothing (Some 1) None None
    ∷ line 0 3151000 3288000 (Some 0) (Some 0) false DidNothing (Some 3) None None
    ∷ line 1 3151000 3288000 (Some 1) (Some 0) false DidNothing (Some 1) None None
    ∷ line 0 3288000 3425000 (Some 3) (Some 1) false DidNothing (Some 0) None None
    ∷ line 1 3288000 3425000 (Some 1) (Some 0) false DidNothing (Some 1) None None
    ∷ line 0 3425000 3562000 (Some 0) (Some 0) false DidNothing (Some 0) None None
    ∷ line 1 3425000 3562000 (Some 1) (Some 0) false DidNothing (Some 1) None None
    ∷ line 0 3562000 3699000 (Some 0) (Some 0) false DidNothing (Some 12) None None
    ∷ line 1 3562000 3699000 (Some 1) (Some 0) false DidNothing (Some 1) None None
    ∷ line 0 3699000 3836000 (Some 12) (Some 2) false DidNothing (Some 12) None None
    ∷ line 1 3699000 3836000 (Some 1) (Some 0) false DidNothing (Some 1) None None
    ∷ line 0 3836000 3973000 (Some 12) (Some 2) false DidNothing (Some 12) None None
    ∷ line 1 3836000 3973000 (Some 1) (Some 0) false DidNothing (Some 1) None None
    ∷ line 0 3973000 4110000 (Some 12) (Some 2) true DidNothing (Some 0) None None
    ∷ line 1 3973000 4110000 (Some 1) (Some 0) false DidNothing (Some 1) None None
    ∷ line 0 4110000 4247000 (Some 0) (Some 0) false DidNothing (Some 0) None None
    ∷ line 1 4110000 4247000 (Some 1) (Some 0) false DidNothing (Some 1) None None
    ∷ line 0 4247000 4384000 (Some 0) (Some 0) false DidNothing (Some 0) None None
    ∷ line 1 4247000 4384000 (Some 1) (Some 0) false DidNothing (Some 1) None None
    ∷ line 0 4384000 4521000 (Some 0) (Some 0) false DidNothing (Some 0) None None
    ∷ line 1 4384000 4521000 (Some 1) (Some 0) false DidNothing (Some 1) None None
    ∷ line 0 4521000 4658000 (Some 0) (Some 0) false DidNothing None None None
    ∷ line 1 4521000 4658000 (Some 1) (Some 0) false DidNothing None None None
    ∷ []
entries = refl

summary : run_summary scenario 1000 ≡
    codes "aps summary 1\n"
    ++ codes "end horizon\n"
    ++ codes "shape cpus 2 tick 137000 window 12 ticks 34\n"
    ++ codes "entries 71\n"
    ++ codes "partition 0 System budget 934 billed 7672000 critical 0\n"
    ++ codes "partition 1 A budget 16 billed 411000 critical 0\n"
    ++ codes "partition 2 B budget 50 billed 1233000 critical 411000\n"
    ++ codes "partition 3 C budget 0 billed 0 critical 0\n"
    ++ codes "partition 4 N2 budget 0 billed 0 critical 0\n"
    ++ codes "idle 0\n"
    ++ codes "thread 0 t0 ran 3014000\n"
    ++ codes "thread 1 t1 ran 4658000\n"
    ++ codes "thread 2 t2 ran 0\n"
    ++ codes "thread 3 t3 ran 411000\n"
    ++ codes "thread 4 t4 ran 0\n"
    ++ codes "thread 5 t5 ran 0\n"
    ++ codes "thread 6 t6 ran 0\n"
    ++ codes "thread 7 t7 ran 0\n"
    ++ codes "thread 8 t8 ran 10000\n"
    ++ codes "thread 9 t9 ran 0\n"
    ++ codes "thread 10 t10 ran 0\n"
    ++ codes "thread 11 t11 ran 0\n"
    ++ codes "thread 12 t12 ran 1223000\n"
    ++ codes "thread 13 t13 ran 0\n"
    ++ codes "loaded 34\n"
    ++ codes "over none\n"
    ++ codes "short none\n"
    ++ codes "overcritical none\n"
    ++ codes "reply 4 cleared\n"
    ++ codes "reply 3 no-partition\n"
    ++ codes "reply 0 no-partition\n"
    ++ codes "reply 1 created 4\n"
    ++ codes "reply 2 found 2\n"
    ++ codes "reply 5 over-budget 16\n"
unfolding run_summary digits
summary = refl

windows : run_windows scenario 1000 ≡
    codes "aps windows 1\n"
    ++ codes "end horizon\n"
    ++ codes "window 0 2740000 137000 411000 0 0\n"
    ++ codes "window 12 2740000 137000 411000 0 0\n"
unfolding run_windows digits
windows = refl
