use lib.Chars.{codes}
use Rattle.std.proofs.Common.{◌≡◌, [], ◌∷◌, ◌++◌, refl, Some, None, true, false}
use Rattle.std.specs.Fmt.{digits}
use Rattle.aps_model.specs.declared.command.Call.TheVariants.{Create, QueryThread}
use Rattle.aps_model.specs.declared.entry.Done.TheVariants.{Exit as DidExit, Nothing as DidNothing, Priority as DidPriority, ReceiveGot as DidReceiveGot, Repeat as DidRepeat, Run as DidRun, SendBlocked as DidSendBlocked}
use Rattle.aps_model.specs.declared.program.Op.TheVariants.{Exit, Priority, Receive, Repeat, Reply, Run, Send, Sleep}
use Rattle.aps_model.specs.declared.scenario.Policy.TheVariants.{Fifo, Rr}
use Rattle.aps_model.specs.declared.shape.Bankruptcy.TheVariants.{Basic}
use Rattle.aps_model.specs.declared.shape.Free.TheVariants.{Priority as ByPriority}
use Rattle.aps_model.specs.Scenario.{Scenario}
use Rattle.aps_model.specs.Legal.{fixed_run}
use Rattle.worked_proofs.proofs.Line.{line, run_summary, run_windows}

abbrev pub scenario : Scenario
scenario = record {
  shape = record { parts = 100; cpus = 4; tick = 137000; window = 9; ticks = 18; call_ns = 7000; free = ByPriority; limit = false; bankruptcy = Basic };
  partitions =
      record { name = codes "System"; parent = 0; budget = 100; critical = 0; max = 100 }
      ∷ record { name = codes "A"; parent = 0; budget = 0; critical = 411000; max = 100 }
      ∷ [];
  channels = codes "c" ∷ [];
  threads =
      record { name = codes "t0"; partition = 0; priority = 10; policy = Fifo; critical = false; program = Send 0 ∷ Run 137000 ∷ Repeat ∷ [] }
      ∷ record { name = codes "t1"; partition = 1; priority = 10; policy = Rr; critical = true; program = Sleep 411000 ∷ Send 0 ∷ Sleep 137000 ∷ Exit ∷ [] }
      ∷ record { name = codes "t2"; partition = 1; priority = 48; policy = Fifo; critical = false; program = Receive 0 ∷ Send 0 ∷ Send 0 ∷ Reply ∷ Exit ∷ [] }
      ∷ record { name = codes "t3"; partition = 0; priority = 178; policy = Rr; critical = true; program = Send 0 ∷ Sleep 137000 ∷ Repeat ∷ [] }
      ∷ record { name = codes "t4"; partition = 0; priority = 20; policy = Fifo; critical = false; program = Receive 0 ∷ Run 1 ∷ Exit ∷ [] }
      ∷ record { name = codes "t5"; partition = 1; priority = 20; policy = Rr; critical = false; program = Send 0 ∷ Repeat ∷ [] }
      ∷ record { name = codes "t6"; partition = 0; priority = 163; policy = Rr; critical = false; program = Send 0 ∷ Sleep 130000 ∷ Repeat ∷ [] }
      ∷ record { name = codes "t7"; partition = 1; priority = 225; policy = Fifo; critical = true; program = Sleep 243226 ∷ Priority 10 ∷ Send 0 ∷ Repeat ∷ [] }
      ∷ [];
  commands =
      record { tick = 3; call = Create (codes "N1") (codes "System") 15 0 100 }
      ∷ record { tick = 8; call = Create (codes "N2") (codes "System") 3 2740000 100 }
      ∷ record { tick = 16; call = QueryThread 0 }
      ∷ record { tick = 1; call = Create (codes "N1") (codes "System") 0 137000 48 }
      ∷ [];
}

entries : fixed_run scenario 1000 ≡
    line 0 0 0 None None false DidNothing (Some 3) None None
    ∷ line 1 0 0 None None false DidNothing (Some 6) None None
    ∷ line 2 0 0 None None false DidNothing (Some 4) None None
    ∷ line 3 0 0 None None false DidNothing (Some 0) None None
    ∷ line 0 0 7000 (Some 3) (Some 0) false DidSendBlocked (Some 2) (Some 0) None
    ∷ line 1 0 7000 (Some 6) (Some 0) false DidSendBlocked (Some 5) (Some 0) None
    ∷ line 2 0 7000 (Some 4) (Some 0) false (DidReceiveGot 3) (Some 4) None None
    ∷ line 3 0 7000 (Some 0) (Some 0) false DidSendBlocked None (Some 0) None
    ∷ line 2 7000 7001 (Some 4) (Some 0) false DidRun (Some 4) None None
    ∷ line 0 7000 14000 (Some 2) (Some 1) false (DidReceiveGot 6) (Some 2) None None
    ∷ line 1 7000 14000 (Some 5) (Some 1) false DidSendBlocked None (Some 0) None
    ∷ line 2 7001 14001 (Some 4) (Some 0) false DidExit None (Some 0) None
    ∷ line 0 14000 21000 (Some 2) (Some 0) false DidSendBlocked None (Some 0) None
    ∷ line 0 21000 137000 None None false DidNothing None (Some 0) None
    ∷ line 1 14000 137000 None None false DidNothing None (Some 0) None
    ∷ line 2 14001 137000 None None false DidNothing None (Some 0) None
    ∷ line 3 7000 137000 None None false DidNothing None (Some 0) None
    ∷ line 0 137000 274000 None None false DidNothing (Some 7) None None
    ∷ line 1 137000 274000 None None false DidNothing (Some 3) None None
    ∷ line 2 137000 274000 None None false DidNothing None (Some 0) None
    ∷ line 3 137000 274000 None None false DidNothing None (Some 0) None
    ∷ line 0 274000 281000 (Some 7) (Some 1) true DidPriority (Some 7) (Some 0) None
    ∷ line 1 274000 281000 (Some 3) (Some 0) false DidRepeat (Some 3) None None
    ∷ line 0 281000 288000 (Some 7) (Some 1) true DidSendBlocked None (Some 0) None
    ∷ line 1 281000 288000 (Some 3) (Some 0) false DidSendBlocked None (Some 0) None
    ∷ line 0 288000 411000 None None false DidNothing (Some 1) (Some 0) None
    ∷ line 1 288000 411000 None None false DidNothing None (Some 0) None
    ∷ line 2 274000 411000 None None false DidNothing None (Some 0) None
    ∷ line 3 274000 411000 None None false DidNothing None (Some 0) None
    ∷ line 0 411000 418000 (Some 1) (Some 1) true DidSendBlocked None (Some 0) None
    ∷ line 0 418000 548000 None None false DidNothing None (Some 0) None
    ∷ line 1 411000 548000 None None false DidNothing None (Some 0) None
    ∷ line 2 411000 548000 None None false DidNothing None (Some 0) None
    ∷ line 3 411000 548000 None None false DidNothing None (Some 0) None
    ∷ line 0 548000 685000 None None false DidNothing None (Some 0) None
    ∷ line 1 548000 685000 None None false DidNothing None (Some 0) None
    ∷ line 2 548000 685000 None None false DidNothing None (Some 0) None
    ∷ line 3 548000 685000 None None false DidNothing None (Some 0) None
    ∷ line 0 685000 822000 None None false DidNothing None (Some 0) None
    ∷ line 1 685000 822000 None None false DidNothing None (Some 0) None
    ∷ line 2 685000 822000 None None false DidNothing None (Some 0) None
    ∷ line 3 685000 822000 None None false DidNothing None (Some 0) None
    ∷ line 0 822000 959000 None None false DidNothing None (Some 0) None
    ∷ line 1 822000 959000 None None false DidNothing None (Some 0) None
    ∷ line 2 822000 959000 None None false DidNothing None (Some 0) None
    ∷ line 3 822000 959000 None None false DidNothing None (Some 0) None
    ∷ line 0 959000 1096000 None None false DidNothing None (Some 0) None
    ∷ line 1 959000 1096000 None None false DidNothing None (Some 0) None
    ∷ line 2 959000 1096000 None None false DidNothing None (Some 0) None
    ∷ line 3 959000 1096000 None None false DidNothing None (Some 0) None
    ∷ line 0 1096000 1233000 None None false DidNothing None (Some 0) None
    ∷ line 1 1096000 1233000 None None false DidNothing None (Some 0) None
    ∷ line 2 1096000 1233000 None None false DidNothing None (Some 0) None
    ∷ line 3 1096000 1233000 None None false DidNothing None (Some 0) None
    ∷ line 0 1233000 1370000 None None false DidNothing None (Some 0) None
    ∷ line 1 1233000 1370000 None None false DidNothing None (Some 0) None
    ∷ line 2 1233000 1370000 None None false DidNothing None (Some 0) None
    ∷ line 3 1233000 1370000 None None false DidNothing None (Some 0) None
    ∷ line 0 1370000 1507000 None None false DidNothing None (Some 0) None
    ∷ line 1 1370000 1507000 None None false DidNothing None (Some 0) None
    ∷ line 2 1370000 1507000 None None false DidNothing None (Some 0) None
    ∷ line 3 1370000 1507000 None None false DidNothing None (Some 0) None
    ∷ line 0 1507000 1644000 None None false DidNothing None (Some 0) None
    ∷ line 1 1507000 1644000 None None false DidNothing None (Some 0) None
    ∷ line 2 1507000 1644000 None None false DidNothing None (Some 0) None
    ∷ line 3 1507000 1644000 None None false DidNothing None (Some 0) None
    ∷ line 0 1644000 1781000 None None false DidNothing None (Some 0) None
    ∷ line 1 1644000 1781000 None None false DidNothing None (Some 0) None
    ∷ line 2 1644000 1781000 None None false DidNothing None (Some 0) None
    ∷ line 3 1644000 1781000 None None false DidNothing None (Some 0) None
    ∷ line 0 1781000 1918000 None None false DidNothing None (Some 0) None
    ∷ line 1 1781000 1918000 None None false DidNothing None (Some 0) None
    ∷ line 2 1781000 1918000 None None false DidNothing None (Some 0) None
    ∷ line 3 1781000 1918000 None None false DidNothing None (Some 0) None
    ∷ line 0 1918000 2055000 None None false DidNothing None (Some 0) None
    ∷ line 1 1918000 2055000 None None false DidNothing None (Some 0) None
    ∷ line 2 1918000 2055000 None None false DidNothing None (Some 0) None
    ∷ line 3 1918000 2055000 None None false DidNothing None (Some 0) None
    ∷ line 0 2055000 2192000 None None false DidNothing None (Some 0) None
    ∷ line 1 2055000 2192000 None None false DidNothing None (Some 0) None
    ∷ line 2 2055000 2192000 None None false DidNothing None (Some 0) None
    ∷ line 3 2055000 2192000 None None false DidNothing None (Some 0) None
    ∷ line 0 2192000 2329000 None None false DidNothing None (Some 0) None
    ∷ line 1 2192000 2329000 None None false DidNothing None (Some 0) None
    ∷ line 2 2192000 2329000 None None false DidNothing None (Some 0) None
    ∷ line 3 2192000 2329000 None None false DidNothing None (Some 0) None
    ∷ line 0 2329000 2466000 None None false DidNothing None None None
    ∷ line 1 2329000 2466000 None None false DidNothing None None None
    ∷ line 2 2329000 2466000 None None false DidNothing None None None
    ∷ line 3 2329000 2466000 None None false DidNothing None None None
    ∷ []
entries = refl

summary : run_summary scenario 1000 ≡
    codes "aps summary 1\n"
    ++ codes "end horizon\n"
    ++ codes "shape cpus 4 tick 137000 window 9 ticks 18\n"
    ++ codes "entries 90\n"
    ++ codes "partition 0 System budget 97 billed 56001 critical 0\n"
    ++ codes "partition 1 A budget 0 billed 35000 critical 21000\n"
    ++ codes "partition 2 N1 budget 0 billed 0 critical 0\n"
    ++ codes "partition 3 N2 budget 3 billed 0 critical 0\n"
    ++ codes "idle 9772999\n"
    ++ codes "thread 0 t0 ran 7000\n"
    ++ codes "thread 1 t1 ran 7000\n"
    ++ codes "thread 2 t2 ran 14000\n"
    ++ codes "thread 3 t3 ran 21000\n"
    ++ codes "thread 4 t4 ran 14001\n"
    ++ codes "thread 5 t5 ran 7000\n"
    ++ codes "thread 6 t6 ran 7000\n"
    ++ codes "thread 7 t7 ran 14000\n"
    ++ codes "loaded 18\n"
    ++ codes "over none\n"
    ++ codes "short none\n"
    ++ codes "overcritical none\n"
    ++ codes "reply 3 created 2\n"
    ++ codes "reply 0 name-taken\n"
    ++ codes "reply 1 created 3\n"
    ++ codes "reply 2 thread 0 own 0 partition 0 priority 10 critical no state sending\n"
unfolding run_summary digits
summary = refl

windows : run_windows scenario 1000 ≡
    codes "aps windows 1\n"
    ++ codes "end horizon\n"
    ++ codes "window 0 56001 35000 0 0\n"
    ++ codes "window 9 0 0 0 0\n"
unfolding run_windows digits
windows = refl
