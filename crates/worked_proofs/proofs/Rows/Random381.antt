use lib.Chars.{codes}
use Rattle.std.proofs.Common.{◌≡◌, [], ◌∷◌, ◌++◌, refl, Some, None, true, false}
use Rattle.std.specs.Fmt.{digits}
use Rattle.aps_model.specs.declared.command.Call.TheVariants.{Create, Lookup, MarkCritical, Modify}
use Rattle.aps_model.specs.declared.entry.Done.TheVariants.{CriticalOff as DidCriticalOff, CriticalOn as DidCriticalOn, Join as DidJoin, Nothing as DidNothing, ReceiveGot as DidReceiveGot, Repeat as DidRepeat, Run as DidRun, SendBlocked as DidSendBlocked}
use Rattle.aps_model.specs.declared.program.Op.TheVariants.{CriticalOff, CriticalOn, Exit, Forever, Join, Receive, Repeat, Reply, Run, Send, Sleep}
use Rattle.aps_model.specs.declared.scenario.Policy.TheVariants.{Fifo, Rr}
use Rattle.aps_model.specs.declared.shape.Bankruptcy.TheVariants.{Reboot}
use Rattle.aps_model.specs.declared.shape.Free.TheVariants.{Priority as ByPriority}
use Rattle.aps_model.specs.Scenario.{Scenario}
use Rattle.aps_model.specs.Legal.{fixed_run}
use Rattle.worked_proofs.proofs.Line.{line, run_summary, run_windows}

abbrev pub scenario : Scenario
scenario = record {
  shape = record { parts = 1000; cpus = 4; tick = 100000; window = 16; ticks = 46; call_ns = 100000; free = ByPriority; limit = false; bankruptcy = Reboot };
  partitions =
      record { name = codes "System"; parent = 0; budget = 980; critical = 0; max = 1000 }
      ∷ record { name = codes "A"; parent = 0; budget = 20; critical = 1; max = 1000 }
      ∷ [];
  channels = codes "c" ∷ [];
  threads =
      record { name = codes "t0"; partition = 1; priority = 10; policy = Rr; critical = true; program = CriticalOn ∷ Run 431848 ∷ Send 0 ∷ CriticalOff ∷ Run 185597 ∷ Exit ∷ [] }
      ∷ record { name = codes "t1"; partition = 1; priority = 39; policy = Rr; critical = true; program = Forever ∷ [] }
      ∷ record { name = codes "t2"; partition = 1; priority = 161; policy = Rr; critical = true; program = CriticalOn ∷ Run 430628 ∷ Reply ∷ CriticalOff ∷ Run 67352 ∷ Exit ∷ [] }
      ∷ record { name = codes "t3"; partition = 0; priority = 10; policy = Fifo; critical = false; program = Run 17835 ∷ Sleep 200000 ∷ Repeat ∷ [] }
      ∷ record { name = codes "t4"; partition = 1; priority = 109; policy = Fifo; critical = true; program = CriticalOn ∷ Run 100000 ∷ Receive 0 ∷ CriticalOff ∷ Run 46049 ∷ Exit ∷ [] }
      ∷ record { name = codes "t5"; partition = 1; priority = 223; policy = Fifo; critical = true; program = CriticalOn ∷ Run 1 ∷ Send 0 ∷ CriticalOff ∷ Run 100000 ∷ Repeat ∷ [] }
      ∷ record { name = codes "t6"; partition = 0; priority = 191; policy = Fifo; critical = true; program = Run 14529 ∷ Sleep 1 ∷ Repeat ∷ [] }
      ∷ record { name = codes "t7"; partition = 0; priority = 202; policy = Fifo; critical = true; program = CriticalOn ∷ Run 200000 ∷ Join (codes "N1") ∷ CriticalOff ∷ Run 100000 ∷ Exit ∷ [] }
      ∷ record { name = codes "t8"; partition = 1; priority = 20; policy = Fifo; critical = true; program = Run 56881 ∷ Sleep 100000 ∷ Repeat ∷ [] }
      ∷ [];
  commands =
      record { tick = 0; call = Lookup (codes "Nobody") }
      ∷ record { tick = 0; call = Create (codes "N1") (codes "System") 197 0 759 }
      ∷ record { tick = 45; call = MarkCritical 1 }
      ∷ record { tick = 34; call = Modify (codes "System") (Some 0) None (Some 1000) }
      ∷ record { tick = 23; call = Create (codes "N2") (codes "N2") 0 0 1000 }
      ∷ record { tick = 0; call = Modify (codes "A") (Some 169) None None }
      ∷ [];
}

entries : fixed_run scenario 1000 ≡
    line 0 0 0 None None false DidNothing (Some 5) (Some 2) None
    ∷ line 1 0 0 None None false DidNothing (Some 7) (Some 2) None
    ∷ line 2 0 0 None None false DidNothing (Some 6) (Some 2) None
    ∷ line 3 0 0 None None false DidNothing (Some 2) (Some 2) None
    ∷ line 2 0 14529 (Some 6) (Some 0) false DidRun (Some 4) (Some 2) None
    ∷ line 0 0 100000 (Some 5) (Some 1) false DidCriticalOn (Some 5) (Some 2) None
    ∷ line 1 0 100000 (Some 7) (Some 0) false DidCriticalOn (Some 7) (Some 2) None
    ∷ line 2 14529 100000 (Some 4) (Some 1) false DidNothing (Some 6) (Some 2) None
    ∷ line 3 0 100000 (Some 2) (Some 1) false DidCriticalOn (Some 2) (Some 2) None
    ∷ line 0 100000 100001 (Some 5) (Some 1) false DidRun (Some 5) (Some 2) None
    ∷ line 0 100001 200000 (Some 5) (Some 1) false DidNothing (Some 5) (Some 2) None
    ∷ line 1 100000 200000 (Some 7) (Some 0) false DidNothing (Some 7) (Some 2) None
    ∷ line 2 100000 200000 (Some 6) (Some 0) false DidRepeat (Some 6) (Some 2) None
    ∷ line 3 100000 200000 (Some 2) (Some 1) false DidNothing (Some 2) (Some 2) None
    ∷ line 0 200000 200001 (Some 5) (Some 1) false DidSendBlocked (Some 4) (Some 2) None
    ∷ line 2 200000 214529 (Some 6) (Some 0) false DidRun (Some 1) (Some 2) None
    ∷ line 0 200001 214530 (Some 4) (Some 1) false DidCriticalOn (Some 4) (Some 2) None
    ∷ line 0 214530 300000 (Some 4) (Some 1) false DidNothing (Some 6) (Some 2) None
    ∷ line 1 200000 300000 (Some 7) (Some 0) false DidRun (Some 7) (Some 2) None
    ∷ line 2 214529 300000 (Some 1) (Some 1) false DidNothing (Some 4) (Some 2) None
    ∷ line 3 200000 300000 (Some 2) (Some 1) false DidNothing (Some 2) (Some 2) None
    ∷ line 2 300000 314530 (Some 4) (Some 1) false DidRun (Some 4) (Some 2) None
    ∷ line 0 300000 400000 (Some 6) (Some 0) false DidRepeat (Some 6) (Some 2) None
    ∷ line 1 300000 400000 (Some 7) (Some 0) false DidJoin (Some 7) None None
    ∷ line 2 314530 400000 (Some 4) (Some 1) false DidNothing (Some 4) (Some 2) None
    ∷ line 3 300000 400000 (Some 2) (Some 1) false DidNothing (Some 2) (Some 2) None
    ∷ line 0 400000 414529 (Some 6) (Some 0) false DidRun (Some 1) (Some 2) None
    ∷ line 2 400000 414530 (Some 4) (Some 1) false (DidReceiveGot 5) (Some 4) (Some 2) None
    ∷ line 0 414529 500000 (Some 1) (Some 1) false DidNothing (Some 6) (Some 2) None
    ∷ line 1 400000 500000 (Some 7) (Some 2) false DidCriticalOff (Some 7) None None
    ∷ line 2 414530 500000 (Some 4) (Some 1) false DidNothing (Some 4) (Some 2) None
    ∷ line 3 400000 500000 (Some 2) (Some 1) false DidNothing (Some 2) (Some 2) None
    ∷ line 2 500000 514530 (Some 4) (Some 1) true DidNothing None None None
    ∷ []
entries = refl

summary : run_summary scenario 1000 ≡
    codes "aps summary 1\n"
    ++ codes "end reboot 1\n"
    ++ codes "shape cpus 4 tick 100000 window 16 ticks 46\n"
    ++ codes "entries 33\n"
    ++ codes "partition 0 System budget 634 billed 643587 critical 0\n"
    ++ codes "partition 1 A budget 169 billed 1270943 critical 14530\n"
    ++ codes "partition 2 N1 budget 197 billed 100000 critical 0\n"
    ++ codes "idle 0\n"
    ++ codes "thread 0 t0 ran 0\n"
    ++ codes "thread 1 t1 ran 170942\n"
    ++ codes "thread 2 t2 ran 500000\n"
    ++ codes "thread 3 t3 ran 0\n"
    ++ codes "thread 4 t4 ran 400000\n"
    ++ codes "thread 5 t5 ran 200001\n"
    ++ codes "thread 6 t6 ran 243587\n"
    ++ codes "thread 7 t7 ran 500000\n"
    ++ codes "thread 8 t8 ran 0\n"
    ++ codes "loaded 5\n"
    ++ codes "over none\n"
    ++ codes "short none\n"
    ++ codes "overcritical none\n"
    ++ codes "reply 0 no-partition\n"
    ++ codes "reply 1 created 2\n"
    ++ codes "reply 5 modified\n"
unfolding run_summary digits
summary = refl

windows : run_windows scenario 1000 ≡
    codes "aps windows 1\n"
    ++ codes "end reboot 1\n"
unfolding run_windows digits
windows = refl
