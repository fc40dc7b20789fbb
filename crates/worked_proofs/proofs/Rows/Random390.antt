use lib.Chars.{codes}
use Rattle.std.proofs.Common.{◌≡◌, [], ◌∷◌, ◌++◌, refl, Some, None, true, false}
use Rattle.std.specs.Fmt.{digits}
use Rattle.aps_model.specs.declared.command.Call.TheVariants.{Create, Modify}
use Rattle.aps_model.specs.declared.entry.Done.TheVariants.{CriticalOn as DidCriticalOn, Nothing as DidNothing, Priority as DidPriority, ReceiveBlocked as DidReceiveBlocked, ReplyNoClient as DidReplyNoClient, Run as DidRun, Yield as DidYield}
use Rattle.aps_model.specs.declared.program.Op.TheVariants.{CriticalOff, CriticalOn, Exit, Forever, Join, Priority, Receive, Repeat, Reply, Run, Send, Sleep, Yield}
use Rattle.aps_model.specs.declared.scenario.Policy.TheVariants.{Fifo, Rr}
use Rattle.aps_model.specs.declared.shape.Bankruptcy.TheVariants.{Basic}
use Rattle.aps_model.specs.declared.shape.Free.TheVariants.{Priority as ByPriority}
use Rattle.aps_model.specs.Scenario.{Scenario}
use Rattle.aps_model.specs.Legal.{fixed_run}
use Rattle.worked_proofs.proofs.Line.{line, run_summary, run_windows}

abbrev pub scenario : Scenario
scenario = record {
  shape = record { parts = 100; cpus = 3; tick = 100000; window = 10; ticks = 9; call_ns = 100000; free = ByPriority; limit = false; bankruptcy = Basic };
  partitions =
      record { name = codes "System"; parent = 0; budget = 95; critical = 0; max = 100 }
      ∷ record { name = codes "A"; parent = 0; budget = 3; critical = 300000; max = 100 }
      ∷ record { name = codes "B"; parent = 1; budget = 2; critical = 0; max = 100 }
      ∷ [];
  channels = codes "c" ∷ codes "d" ∷ [];
  threads =
      record { name = codes "t0"; partition = 1; priority = 200; policy = Rr; critical = true; program = Reply ∷ Yield ∷ Receive 0 ∷ Send 1 ∷ Reply ∷ Join (codes "N1") ∷ Repeat ∷ [] }
      ∷ record { name = codes "t1"; partition = 2; priority = 10; policy = Rr; critical = true; program = Forever ∷ [] }
      ∷ record { name = codes "t2"; partition = 1; priority = 10; policy = Rr; critical = true; program = Yield ∷ Run 200000 ∷ Sleep 1 ∷ Run 150778 ∷ Forever ∷ [] }
      ∷ record { name = codes "t3"; partition = 2; priority = 19; policy = Fifo; critical = true; program = CriticalOn ∷ Run 1 ∷ Run 41296 ∷ CriticalOff ∷ Run 100000 ∷ Exit ∷ [] }
      ∷ record { name = codes "t4"; partition = 0; priority = 173; policy = Fifo; critical = false; program = Forever ∷ [] }
      ∷ record { name = codes "t5"; partition = 2; priority = 10; policy = Rr; critical = true; program = CriticalOn ∷ Run 200000 ∷ Join (codes "A") ∷ CriticalOff ∷ Run 100000 ∷ Exit ∷ [] }
      ∷ record { name = codes "t6"; partition = 0; priority = 20; policy = Rr; critical = true; program = Sleep 100000 ∷ Run 370898 ∷ Sleep 227759 ∷ CriticalOn ∷ Forever ∷ [] }
      ∷ record { name = codes "t7"; partition = 1; priority = 205; policy = Rr; critical = false; program = Forever ∷ [] }
      ∷ record { name = codes "t8"; partition = 0; priority = 171; policy = Fifo; critical = true; program = Forever ∷ [] }
      ∷ record { name = codes "t9"; partition = 1; priority = 195; policy = Fifo; critical = true; program = Forever ∷ [] }
      ∷ record { name = codes "t10"; partition = 1; priority = 168; policy = Fifo; critical = true; program = Sleep 99999 ∷ Forever ∷ [] }
      ∷ record { name = codes "t11"; partition = 1; priority = 10; policy = Rr; critical = true; program = Forever ∷ [] }
      ∷ record { name = codes "t12"; partition = 2; priority = 255; policy = Rr; critical = true; program = CriticalOn ∷ Run 1 ∷ Priority 10 ∷ CriticalOff ∷ Run 1 ∷ Exit ∷ [] }
      ∷ record { name = codes "t13"; partition = 0; priority = 84; policy = Rr; critical = true; program = Priority 10 ∷ Send 1 ∷ Yield ∷ Forever ∷ [] }
      ∷ record { name = codes "t14"; partition = 2; priority = 134; policy = Rr; critical = true; program = Forever ∷ [] }
      ∷ record { name = codes "t15"; partition = 0; priority = 10; policy = Fifo; critical = false; program = Forever ∷ [] }
      ∷ [];
  commands =
      record { tick = 0; call = Create (codes "N1") (codes "N1") 0 0 100 }
      ∷ record { tick = 0; call = Modify (codes "System") (Some 5) None None }
      ∷ record { tick = 3; call = Modify (codes "B") (Some 25) (Some 0) (Some 0) }
      ∷ [];
}

entries : fixed_run scenario 1000 ≡
    line 0 0 0 None None false DidNothing (Some 12) None None
    ∷ line 1 0 0 None None false DidNothing (Some 7) None None
    ∷ line 2 0 0 None None false DidNothing (Some 0) None None
    ∷ line 0 0 100000 (Some 12) (Some 2) false DidCriticalOn (Some 9) None None
    ∷ line 1 0 100000 (Some 7) (Some 1) false DidNothing (Some 4) None None
    ∷ line 2 0 100000 (Some 0) (Some 1) false DidReplyNoClient (Some 0) None None
    ∷ line 0 100000 200000 (Some 9) (Some 1) false DidNothing (Some 9) None None
    ∷ line 1 100000 200000 (Some 4) (Some 0) false DidNothing (Some 4) None None
    ∷ line 2 100000 200000 (Some 0) (Some 1) true DidYield (Some 0) None None
    ∷ line 0 200000 300000 (Some 9) (Some 1) true DidNothing (Some 9) None None
    ∷ line 1 200000 300000 (Some 4) (Some 0) false DidNothing (Some 4) None None
    ∷ line 2 200000 300000 (Some 0) (Some 1) true DidReceiveBlocked (Some 8) None (Some 0)
    ∷ line 0 300000 300000 (Some 9) (Some 1) true DidNothing (Some 13) None None
    ∷ line 0 300000 400000 (Some 13) (Some 0) false DidPriority (Some 6) None None
    ∷ line 1 300000 400000 (Some 4) (Some 0) false DidNothing (Some 4) None None
    ∷ line 2 300000 400000 (Some 8) (Some 0) false DidNothing (Some 8) None None
    ∷ line 0 400000 500000 (Some 6) (Some 0) false DidNothing (Some 6) None None
    ∷ line 1 400000 500000 (Some 4) (Some 0) false DidNothing (Some 4) None None
    ∷ line 2 400000 500000 (Some 8) (Some 0) false DidNothing (Some 8) None None
    ∷ line 0 500000 600000 (Some 6) (Some 0) false DidNothing (Some 6) None None
    ∷ line 1 500000 600000 (Some 4) (Some 0) false DidNothing (Some 4) None None
    ∷ line 2 500000 600000 (Some 8) (Some 0) false DidNothing (Some 8) None None
    ∷ line 0 600000 700000 (Some 6) (Some 0) false DidNothing (Some 6) None None
    ∷ line 1 600000 700000 (Some 4) (Some 0) false DidNothing (Some 4) None None
    ∷ line 2 600000 700000 (Some 8) (Some 0) false DidNothing (Some 8) None None
    ∷ line 0 700000 770898 (Some 6) (Some 0) false DidRun (Some 15) None None
    ∷ line 0 770898 800000 (Some 15) (Some 0) false DidNothing (Some 15) None None
    ∷ line 1 700000 800000 (Some 4) (Some 0) false DidNothing (Some 4) None None
    ∷ line 2 700000 800000 (Some 8) (Some 0) false DidNothing (Some 8) None None
    ∷ line 0 800000 900000 (Some 15) (Some 0) false DidNothing None None None
    ∷ line 1 800000 900000 (Some 4) (Some 0) false DidNothing None None None
    ∷ line 2 800000 900000 (Some 8) (Some 0) false DidNothing None None None
    ∷ []
entries = refl

summary : run_summary scenario 1000 ≡
    codes "aps summary 1\n"
    ++ codes "end horizon\n"
    ++ codes "shape cpus 3 tick 100000 window 10 ticks 9\n"
    ++ codes "entries 32\n"
    ++ codes "partition 0 System budget 95 billed 2000000 critical 0\n"
    ++ codes "partition 1 A budget 3 billed 600000 critical 300000\n"
    ++ codes "partition 2 B budget 2 billed 100000 critical 0\n"
    ++ codes "idle 0\n"
    ++ codes "thread 0 t0 ran 300000\n"
    ++ codes "thread 1 t1 ran 0\n"
    ++ codes "thread 2 t2 ran 0\n"
    ++ codes "thread 3 t3 ran 0\n"
    ++ codes "thread 4 t4 ran 800000\n"
    ++ codes "thread 5 t5 ran 0\n"
    ++ codes "thread 6 t6 ran 370898\n"
    ++ codes "thread 7 t7 ran 100000\n"
    ++ codes "thread 8 t8 ran 600000\n"
    ++ codes "thread 9 t9 ran 200000\n"
    ++ codes "thread 10 t10 ran 0\n"
    ++ codes "thread 11 t11 ran 0\n"
    ++ codes "thread 12 t12 ran 100000\n"
    ++ codes "thread 13 t13 ran 100000\n"
    ++ codes "thread 14 t14 ran 0\n"
    ++ codes "thread 15 t15 ran 129102\n"
    ++ codes "loaded 0\n"
    ++ codes "over none\n"
    ++ codes "short none\n"
    ++ codes "overcritical none\n"
    ++ codes "reply 0 no-partition\n"
    ++ codes "reply 1 no-parent\n"
    ++ codes "reply 2 over-budget 3\n"
unfolding run_summary digits
summary = refl

windows : run_windows scenario 1000 ≡
    codes "aps windows 1\n"
    ++ codes "end horizon\n"
unfolding run_windows digits
windows = refl
