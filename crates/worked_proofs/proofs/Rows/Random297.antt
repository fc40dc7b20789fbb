use lib.Chars.{codes}
use Rattle.std.proofs.Common.{◌≡◌, [], ◌∷◌, ◌++◌, refl, Some, None, true, false}
use Rattle.std.specs.Fmt.{digits}
use Rattle.aps_model.specs.declared.command.Call.TheVariants.{Create, MarkCritical, QueryThread}
use Rattle.aps_model.specs.declared.entry.Done.TheVariants.{Nothing as DidNothing, ReceiveBlocked as DidReceiveBlocked, ReceiveGot as DidReceiveGot, Repeat as DidRepeat, ReplyFreed as DidReplyFreed, ReplyNoClient as DidReplyNoClient, Run as DidRun, SendBlocked as DidSendBlocked, SendTo as DidSendTo}
use Rattle.aps_model.specs.declared.program.Op.TheVariants.{Forever, Receive, Repeat, Reply, Run, Send}
use Rattle.aps_model.specs.declared.scenario.Policy.TheVariants.{Fifo, Rr}
use Rattle.aps_model.specs.declared.shape.Bankruptcy.TheVariants.{Basic}
use Rattle.aps_model.specs.declared.shape.Free.TheVariants.{Ratio as ByRatio}
use Rattle.aps_model.specs.Scenario.{Scenario}
use Rattle.aps_model.specs.Legal.{fixed_run}
use Rattle.worked_proofs.proofs.Line.{line, run_summary, run_windows}

abbrev pub scenario : Scenario
scenario = record {
  shape = record { parts = 100; cpus = 1; tick = 250000; window = 8; ticks = 45; call_ns = 100000; free = ByRatio; limit = false; bankruptcy = Basic };
  partitions =
      record { name = codes "System"; parent = 0; budget = 58; critical = 0; max = 100 }
      ∷ record { name = codes "A"; parent = 0; budget = 13; critical = 500001; max = 13 }
      ∷ record { name = codes "B"; parent = 0; budget = 29; critical = 0; max = 100 }
      ∷ [];
  channels = codes "c" ∷ [];
  threads =
      record { name = codes "t0"; partition = 1; priority = 198; policy = Fifo; critical = false; program = Forever ∷ [] }
      ∷ record { name = codes "t1"; partition = 1; priority = 248; policy = Rr; critical = false; program = Send 0 ∷ Run 537411 ∷ Forever ∷ [] }
      ∷ record { name = codes "t2"; partition = 0; priority = 20; policy = Fifo; critical = false; program = Forever ∷ [] }
      ∷ record { name = codes "t3"; partition = 1; priority = 178; policy = Rr; critical = false; program = Reply ∷ Receive 0 ∷ Repeat ∷ [] }
      ∷ record { name = codes "t4"; partition = 2; priority = 53; policy = Rr; critical = false; program = Send 0 ∷ Repeat ∷ [] }
      ∷ record { name = codes "t5"; partition = 2; priority = 10; policy = Fifo; critical = true; program = Forever ∷ [] }
      ∷ record { name = codes "t6"; partition = 0; priority = 11; policy = Fifo; critical = false; program = Forever ∷ [] }
      ∷ [];
  commands =
      record { tick = 40; call = Create (codes "N1") (codes "System") 17 0 100 }
      ∷ record { tick = 0; call = MarkCritical 3 }
      ∷ record { tick = 6; call = QueryThread 1 }
      ∷ [];
}

entries : fixed_run scenario 1000 ≡
    line 0 0 0 None None false DidNothing (Some 1) None None
    ∷ line 0 0 100000 (Some 1) (Some 1) false DidSendBlocked (Some 0) None None
    ∷ line 0 100000 250000 (Some 0) (Some 1) false DidNothing (Some 0) None None
    ∷ line 0 250000 500000 (Some 0) (Some 1) false DidNothing (Some 3) None None
    ∷ line 0 500000 600000 (Some 3) (Some 1) true DidReplyNoClient (Some 3) None None
    ∷ line 0 600000 700000 (Some 3) (Some 1) true (DidReceiveGot 1) (Some 4) None None
    ∷ line 0 700000 750000 (Some 4) (Some 2) false DidNothing (Some 4) None None
    ∷ line 0 750000 800000 (Some 4) (Some 2) false DidSendBlocked (Some 2) None None
    ∷ line 0 800000 1000000 (Some 2) (Some 0) false DidNothing (Some 2) None None
    ∷ line 0 1000000 1250000 (Some 2) (Some 0) false DidNothing (Some 2) None None
    ∷ line 0 1250000 1500000 (Some 2) (Some 0) false DidNothing (Some 2) None None
    ∷ line 0 1500000 1750000 (Some 2) (Some 0) false DidNothing (Some 2) None None
    ∷ line 0 1750000 2000000 (Some 2) (Some 0) false DidNothing (Some 5) None None
    ∷ line 0 2000000 2250000 (Some 5) (Some 2) false DidNothing (Some 3) None None
    ∷ line 0 2250000 2350000 (Some 3) (Some 1) false DidRepeat (Some 5) None None
    ∷ line 0 2350000 2500000 (Some 5) (Some 2) false DidNothing (Some 3) None None
    ∷ line 0 2500000 2600000 (Some 3) (Some 1) false (DidReplyFreed 1) (Some 1) None None
    ∷ line 0 2600000 2750000 (Some 1) (Some 1) false DidNothing (Some 3) None None
    ∷ line 0 2750000 2850000 (Some 3) (Some 1) true (DidReceiveGot 4) (Some 3) None None
    ∷ line 0 2850000 2950000 (Some 3) (Some 2) false DidRepeat (Some 3) None None
    ∷ line 0 2950000 3000000 (Some 3) (Some 2) false DidNothing (Some 3) None None
    ∷ line 0 3000000 3050000 (Some 3) (Some 2) false (DidReplyFreed 4) (Some 3) None None
    ∷ line 0 3050000 3150000 (Some 3) (Some 1) true DidReceiveBlocked (Some 2) None None
    ∷ line 0 3150000 3250000 (Some 2) (Some 0) false DidNothing (Some 2) None None
    ∷ line 0 3250000 3500000 (Some 2) (Some 0) false DidNothing (Some 2) None None
    ∷ line 0 3500000 3750000 (Some 2) (Some 0) false DidNothing (Some 2) None None
    ∷ line 0 3750000 4000000 (Some 2) (Some 0) false DidNothing (Some 4) None None
    ∷ line 0 4000000 4100000 (Some 4) (Some 2) false DidRepeat (Some 4) None None
    ∷ line 0 4100000 4200000 (Some 4) (Some 2) false (DidSendTo 3) (Some 3) None None
    ∷ line 0 4200000 4250000 (Some 3) (Some 2) false DidNothing (Some 3) None None
    ∷ line 0 4250000 4300000 (Some 3) (Some 2) false DidRepeat (Some 3) None None
    ∷ line 0 4300000 4400000 (Some 3) (Some 2) false (DidReplyFreed 4) (Some 3) None None
    ∷ line 0 4400000 4500000 (Some 3) (Some 1) true DidReceiveBlocked (Some 2) None None
    ∷ line 0 4500000 4750000 (Some 2) (Some 0) false DidNothing (Some 1) None None
    ∷ line 0 4750000 5000000 (Some 1) (Some 1) false DidNothing (Some 4) None None
    ∷ line 0 5000000 5100000 (Some 4) (Some 2) false DidRepeat (Some 4) None None
    ∷ line 0 5100000 5200000 (Some 4) (Some 2) false (DidSendTo 3) (Some 2) None None
    ∷ line 0 5200000 5250000 (Some 2) (Some 0) false DidNothing (Some 2) None None
    ∷ line 0 5250000 5500000 (Some 2) (Some 0) false DidNothing (Some 2) None None
    ∷ line 0 5500000 5750000 (Some 2) (Some 0) false DidNothing (Some 2) None None
    ∷ line 0 5750000 6000000 (Some 2) (Some 0) false DidNothing (Some 3) None None
    ∷ line 0 6000000 6100000 (Some 3) (Some 2) false DidRepeat (Some 3) None None
    ∷ line 0 6100000 6200000 (Some 3) (Some 2) false (DidReplyFreed 4) (Some 3) None None
    ∷ line 0 6200000 6250000 (Some 3) (Some 1) true DidNothing (Some 3) None None
    ∷ line 0 6250000 6300000 (Some 3) (Some 1) true DidReceiveBlocked (Some 4) None None
    ∷ line 0 6300000 6400000 (Some 4) (Some 2) false DidRepeat (Some 4) None None
    ∷ line 0 6400000 6500000 (Some 4) (Some 2) false (DidSendTo 3) (Some 2) None None
    ∷ line 0 6500000 6750000 (Some 2) (Some 0) false DidNothing (Some 1) None None
    ∷ line 0 6750000 6887411 (Some 1) (Some 1) false DidRun (Some 1) None None
    ∷ line 0 6887411 7000000 (Some 1) (Some 1) false DidNothing (Some 3) None None
    ∷ line 0 7000000 7100000 (Some 3) (Some 2) false DidRepeat (Some 3) None None
    ∷ line 0 7100000 7200000 (Some 3) (Some 2) false (DidReplyFreed 4) (Some 3) None None
    ∷ line 0 7200000 7250000 (Some 3) (Some 1) true DidNothing (Some 3) None None
    ∷ line 0 7250000 7300000 (Some 3) (Some 1) true DidReceiveBlocked (Some 2) None None
    ∷ line 0 7300000 7500000 (Some 2) (Some 0) false DidNothing (Some 2) None None
    ∷ line 0 7500000 7750000 (Some 2) (Some 0) false DidNothing (Some 2) None None
    ∷ line 0 7750000 8000000 (Some 2) (Some 0) false DidNothing (Some 4) None None
    ∷ line 0 8000000 8100000 (Some 4) (Some 2) false DidRepeat (Some 4) None None
    ∷ line 0 8100000 8200000 (Some 4) (Some 2) false (DidSendTo 3) (Some 2) None None
    ∷ line 0 8200000 8250000 (Some 2) (Some 0) false DidNothing (Some 3) None None
    ∷ line 0 8250000 8350000 (Some 3) (Some 2) false DidRepeat (Some 3) None None
    ∷ line 0 8350000 8450000 (Some 3) (Some 2) false (DidReplyFreed 4) (Some 3) None None
    ∷ line 0 8450000 8500000 (Some 3) (Some 1) true DidNothing (Some 3) None None
    ∷ line 0 8500000 8550000 (Some 3) (Some 1) true DidReceiveBlocked (Some 2) None None
    ∷ line 0 8550000 8750000 (Some 2) (Some 0) false DidNothing (Some 1) None None
    ∷ line 0 8750000 9000000 (Some 1) (Some 1) false DidNothing (Some 4) None None
    ∷ line 0 9000000 9100000 (Some 4) (Some 2) false DidRepeat (Some 4) None None
    ∷ line 0 9100000 9200000 (Some 4) (Some 2) false (DidSendTo 3) (Some 2) None None
    ∷ line 0 9200000 9250000 (Some 2) (Some 0) false DidNothing (Some 2) None None
    ∷ line 0 9250000 9500000 (Some 2) (Some 0) false DidNothing (Some 2) None None
    ∷ line 0 9500000 9750000 (Some 2) (Some 0) false DidNothing (Some 2) None None
    ∷ line 0 9750000 10000000 (Some 2) (Some 0) false DidNothing (Some 3) (Some 3) None
    ∷ line 0 10000000 10100000 (Some 3) (Some 2) false DidRepeat (Some 3) (Some 3) None
    ∷ line 0 10100000 10200000 (Some 3) (Some 2) false (DidReplyFreed 4) (Some 3) (Some 3) None
    ∷ line 0 10200000 10250000 (Some 3) (Some 1) true DidNothing (Some 3) (Some 3) None
    ∷ line 0 10250000 10300000 (Some 3) (Some 1) true DidReceiveBlocked (Some 4) (Some 3) None
    ∷ line 0 10300000 10400000 (Some 4) (Some 2) false DidRepeat (Some 4) (Some 3) None
    ∷ line 0 10400000 10500000 (Some 4) (Some 2) false (DidSendTo 3) (Some 2) (Some 3) None
    ∷ line 0 10500000 10750000 (Some 2) (Some 0) false DidNothing (Some 1) (Some 3) None
    ∷ line 0 10750000 11000000 (Some 1) (Some 1) false DidNothing (Some 3) (Some 3) None
    ∷ line 0 11000000 11100000 (Some 3) (Some 2) false DidRepeat (Some 3) (Some 3) None
    ∷ line 0 11100000 11200000 (Some 3) (Some 2) false (DidReplyFreed 4) (Some 3) (Some 3) None
    ∷ line 0 11200000 11250000 (Some 3) (Some 1) true DidNothing None None None
    ∷ []
entries = refl

summary : run_summary scenario 1000 ≡
    codes "aps summary 1\n"
    ++ codes "end horizon\n"
    ++ codes "shape cpus 1 tick 250000 window 8 ticks 45\n"
    ++ codes "entries 83\n"
    ++ codes "partition 0 System budget 41 billed 5350000 critical 0\n"
    ++ codes "partition 1 A budget 13 billed 2800000 critical 950000\n"
    ++ codes "partition 2 B budget 29 billed 3100000 critical 0\n"
    ++ codes "partition 3 N1 budget 17 billed 0 critical 0\n"
    ++ codes "idle 0\n"
    ++ codes "thread 0 t0 ran 400000\n"
    ++ codes "thread 1 t1 ran 1250000\n"
    ++ codes "thread 2 t2 ran 5350000\n"
    ++ codes "thread 3 t3 ran 2550000\n"
    ++ codes "thread 4 t4 ran 1300000\n"
    ++ codes "thread 5 t5 ran 400000\n"
    ++ codes "thread 6 t6 ran 0\n"
    ++ codes "loaded 45\n"
    ++ codes "over none\n"
    ++ codes "short none\n"
    ++ codes "overcritical none\n"
    ++ codes "reply 1 marked\n"
    ++ codes "reply 2 thread 1 own 1 partition 1 priority 248 critical no state replying\n"
    ++ codes "reply 0 created 3\n"
unfolding run_summary digits
summary = refl

windows : run_windows scenario 1000 ≡
    codes "aps windows 1\n"
    ++ codes "end horizon\n"
    ++ codes "window 0 1200000 700000 100000 0\n"
    ++ codes "window 8 850000 550000 600000 0\n"
    ++ codes "window 16 1050000 350000 600000 0\n"
    ++ codes "window 24 950000 450000 600000 0\n"
    ++ codes "window 32 1050000 350000 600000 0\n"
unfolding run_windows digits
windows = refl
