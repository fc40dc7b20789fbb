use lib.Chars.{codes}
use Rattle.std.proofs.Common.{◌≡◌, [], ◌∷◌, ◌++◌, refl, Some, None, true, false}
use Rattle.std.specs.Fmt.{digits}
use Rattle.aps_model.specs.declared.command.Call.TheVariants.{Create}
use Rattle.aps_model.specs.declared.entry.Done.TheVariants.{Exit as DidExit, Nothing as DidNothing, ReceiveBlocked as DidReceiveBlocked, ReceiveGot as DidReceiveGot, ReceiveHolding as DidReceiveHolding, Repeat as DidRepeat, ReplyFreed as DidReplyFreed, Run as DidRun, SendBlocked as DidSendBlocked, SendTo as DidSendTo}
use Rattle.aps_model.specs.declared.program.Op.TheVariants.{Exit, Forever, Priority, Receive, Repeat, Reply, Run, Send, Sleep}
use Rattle.aps_model.specs.declared.scenario.Policy.TheVariants.{Fifo, Rr}
use Rattle.aps_model.specs.declared.shape.Bankruptcy.TheVariants.{Cancel}
use Rattle.aps_model.specs.declared.shape.Free.TheVariants.{Priority as ByPriority}
use Rattle.aps_model.specs.Scenario.{Scenario}
use Rattle.aps_model.specs.Legal.{fixed_run}
use Rattle.worked_proofs.proofs.Line.{line, run_summary, run_windows}

abbrev pub scenario : Scenario
scenario = record {
  shape = record { parts = 1000; cpus = 1; tick = 137000; window = 10; ticks = 19; call_ns = 50000; free = ByPriority; limit = false; bankruptcy = Cancel };
  partitions =
      record { name = codes "System"; parent = 0; budget = 45; critical = 0; max = 1000 }
      ∷ record { name = codes "A"; parent = 0; budget = 815; critical = 0; max = 1000 }
      ∷ record { name = codes "B"; parent = 0; budget = 53; critical = 0; max = 1000 }
      ∷ record { name = codes "C"; parent = 0; budget = 20; critical = 274001; max = 1000 }
      ∷ record { name = codes "D"; parent = 0; budget = 22; critical = 274001; max = 122 }
      ∷ record { name = codes "E"; parent = 3; budget = 45; critical = 274000; max = 45 }
      ∷ record { name = codes "F"; parent = 3; budget = 0; critical = 0; max = 1000 }
      ∷ [];
  channels = codes "c" ∷ [];
  threads =
      record { name = codes "t0"; partition = 2; priority = 10; policy = Fifo; critical = false; program = Receive 0 ∷ Send 0 ∷ Priority 10 ∷ Reply ∷ Repeat ∷ [] }
      ∷ record { name = codes "t1"; partition = 3; priority = 10; policy = Fifo; critical = false; program = Send 0 ∷ Repeat ∷ [] }
      ∷ record { name = codes "t2"; partition = 4; priority = 112; policy = Rr; critical = false; program = Receive 0 ∷ Sleep 136999 ∷ Reply ∷ Repeat ∷ [] }
      ∷ record { name = codes "t3"; partition = 0; priority = 10; policy = Rr; critical = false; program = Repeat ∷ [] }
      ∷ record { name = codes "t4"; partition = 0; priority = 94; policy = Rr; critical = false; program = Sleep 137000 ∷ Send 0 ∷ Exit ∷ [] }
      ∷ record { name = codes "t5"; partition = 5; priority = 10; policy = Fifo; critical = true; program = Sleep 137001 ∷ Send 0 ∷ Repeat ∷ [] }
      ∷ record { name = codes "t6"; partition = 1; priority = 240; policy = Fifo; critical = true; program = Receive 0 ∷ Send 0 ∷ Receive 0 ∷ Reply ∷ Repeat ∷ [] }
      ∷ record { name = codes "t7"; partition = 2; priority = 184; policy = Rr; critical = false; program = Send 0 ∷ Run 137000 ∷ Forever ∷ [] }
      ∷ [];
  commands =
      record { tick = 18; call = Create (codes "N2") (codes "C") 218 0 946 }
      ∷ record { tick = 8; call = Create (codes "N1") (codes "F") 214 0 349 }
      ∷ [];
}

entries : fixed_run scenario 1000 ≡
    line 0 0 0 None None false DidNothing (Some 6) (Some 5) None
    ∷ line 0 0 50000 (Some 6) (Some 1) false DidReceiveBlocked (Some 7) (Some 1) None
    ∷ line 0 50000 100000 (Some 7) (Some 2) false (DidSendTo 6) (Some 6) (Some 1) None
    ∷ line 0 100000 137000 (Some 6) (Some 2) false DidNothing (Some 2) (Some 1) None
    ∷ line 0 137000 187000 (Some 2) (Some 4) false DidReceiveBlocked (Some 4) (Some 1) None
    ∷ line 0 187000 237000 (Some 4) (Some 0) false (DidSendTo 2) (Some 1) (Some 1) None
    ∷ line 0 237000 274000 (Some 1) (Some 3) false DidNothing (Some 5) (Some 1) None
    ∷ line 0 274000 324000 (Some 5) (Some 5) false DidSendBlocked (Some 3) (Some 1) None
    ∷ line 0 324000 374000 (Some 3) (Some 0) false DidRepeat (Some 6) (Some 1) None
    ∷ line 0 374000 387000 (Some 6) (Some 2) false DidSendBlocked (Some 1) (Some 1) None
    ∷ line 0 387000 400000 (Some 1) (Some 3) false DidSendBlocked (Some 0) (Some 1) None
    ∷ line 0 400000 411000 (Some 0) (Some 2) false DidNothing (Some 2) (Some 1) None
    ∷ line 0 411000 461000 (Some 2) (Some 0) false (DidReplyFreed 4) (Some 2) (Some 1) None
    ∷ line 0 461000 511000 (Some 2) (Some 4) false DidRepeat (Some 2) (Some 1) None
    ∷ line 0 511000 548000 (Some 2) (Some 4) false DidNothing (Some 2) (Some 1) None
    ∷ line 0 548000 561000 (Some 2) (Some 4) false (DidReceiveGot 6) (Some 4) (Some 1) None
    ∷ line 0 561000 611000 (Some 4) (Some 0) false DidExit (Some 0) (Some 1) None
    ∷ line 0 611000 650000 (Some 0) (Some 2) false (DidReceiveGot 5) (Some 0) (Some 1) None
    ∷ line 0 650000 685000 (Some 0) (Some 5) false DidNothing (Some 0) (Some 1) None
    ∷ line 0 685000 700000 (Some 0) (Some 5) true DidSendBlocked (Some 3) (Some 1) None
    ∷ line 0 700000 750000 (Some 3) (Some 0) false DidRepeat (Some 3) (Some 1) None
    ∷ line 0 750000 800000 (Some 3) (Some 0) false DidRepeat (Some 3) (Some 1) None
    ∷ line 0 800000 822000 (Some 3) (Some 0) false DidNothing (Some 2) (Some 1) None
    ∷ line 0 822000 872000 (Some 2) (Some 2) false (DidReplyFreed 6) (Some 6) (Some 1) None
    ∷ line 0 872000 922000 (Some 6) (Some 2) false (DidReceiveHolding 7) (Some 6) (Some 1) None
    ∷ line 0 922000 959000 (Some 6) (Some 2) false DidNothing (Some 6) (Some 1) None
    ∷ line 0 959000 972000 (Some 6) (Some 2) false (DidReplyFreed 7) (Some 6) (Some 3) None
    ∷ line 0 972000 1022000 (Some 6) (Some 1) false DidRepeat (Some 6) (Some 3) None
    ∷ line 0 1022000 1072000 (Some 6) (Some 1) false (DidReceiveGot 1) (Some 7) (Some 1) None
    ∷ line 0 1072000 1096000 (Some 7) (Some 2) false DidNothing (Some 7) (Some 1) None
    ∷ line 0 1096000 1209000 (Some 7) (Some 2) false DidRun (Some 7) (Some 1) None
    ∷ line 0 1209000 1233000 (Some 7) (Some 2) false DidNothing (Some 7) (Some 1) None
    ∷ line 0 1233000 1370000 (Some 7) (Some 2) false DidNothing (Some 7) (Some 1) None
    ∷ line 0 1370000 1507000 (Some 7) (Some 2) false DidNothing (Some 6) (Some 1) None
    ∷ line 0 1507000 1557000 (Some 6) (Some 3) false DidSendBlocked (Some 7) (Some 1) None
    ∷ line 0 1557000 1644000 (Some 7) (Some 2) false DidNothing (Some 7) (Some 1) None
    ∷ line 0 1644000 1781000 (Some 7) (Some 2) false DidNothing (Some 2) (Some 1) None
    ∷ line 0 1781000 1831000 (Some 2) (Some 4) false DidRepeat (Some 7) (Some 1) None
    ∷ line 0 1831000 1918000 (Some 7) (Some 2) false DidNothing (Some 7) (Some 1) None
    ∷ line 0 1918000 2055000 (Some 7) (Some 2) false DidNothing (Some 3) (Some 1) None
    ∷ line 0 2055000 2083000 (Some 3) (Some 0) false DidRepeat (Some 3) (Some 1) None
    ∷ line 0 2083000 2133000 (Some 3) (Some 0) false DidRepeat (Some 7) (Some 1) None
    ∷ line 0 2133000 2192000 (Some 7) (Some 2) false DidNothing (Some 7) (Some 1) None
    ∷ line 0 2192000 2329000 (Some 7) (Some 2) false DidNothing (Some 7) (Some 1) None
    ∷ line 0 2329000 2466000 (Some 7) (Some 2) false DidNothing (Some 7) (Some 1) None
    ∷ line 0 2466000 2603000 (Some 7) (Some 2) false DidNothing None None None
    ∷ []
entries = refl

summary : run_summary scenario 1000 ≡
    codes "aps summary 1\n"
    ++ codes "end horizon\n"
    ++ codes "shape cpus 1 tick 137000 window 10 ticks 19\n"
    ++ codes "entries 46\n"
    ++ codes "partition 0 System budget 45 billed 400000 critical 0\n"
    ++ codes "partition 1 A budget 815 billed 150000 critical 0\n"
    ++ codes "partition 2 B budget 53 billed 1653000 critical 0\n"
    ++ codes "partition 3 C budget 20 billed 100000 critical 0\n"
    ++ codes "partition 4 D budget 22 billed 200000 critical 0\n"
    ++ codes "partition 5 E budget 45 billed 100000 critical 15000\n"
    ++ codes "partition 6 F budget 0 billed 0 critical 0\n"
    ++ codes "idle 0\n"
    ++ codes "thread 0 t0 ran 100000\n"
    ++ codes "thread 1 t1 ran 50000\n"
    ++ codes "thread 2 t2 ran 300000\n"
    ++ codes "thread 3 t3 ran 250000\n"
    ++ codes "thread 4 t4 ran 100000\n"
    ++ codes "thread 5 t5 ran 50000\n"
    ++ codes "thread 6 t6 ran 350000\n"
    ++ codes "thread 7 t7 ran 1403000\n"
    ++ codes "loaded 19\n"
    ++ codes "over none\n"
    ++ codes "short none\n"
    ++ codes "overcritical none\n"
    ++ codes "reply 1 over-budget 0\n"
    ++ codes "reply 0 over-budget 20\n"
unfolding run_summary digits
summary = refl

windows : run_windows scenario 1000 ≡
    codes "aps windows 1\n"
    ++ codes "end horizon\n"
    ++ codes "window 0 322000 150000 598000 50000 150000 100000 0\n"
unfolding run_windows digits
windows = refl
