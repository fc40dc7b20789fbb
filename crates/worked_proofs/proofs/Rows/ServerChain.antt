use lib.Chars.{codes}
use Rattle.std.proofs.Common.{◌≡◌, [], ◌∷◌, ◌++◌, refl, Some, None, false}
use Rattle.std.specs.Fmt.{digits}
use Rattle.aps_model.specs.declared.entry.Done.TheVariants.{Exit as DidExit, Join as DidJoin, Nothing as DidNothing, ReceiveBlocked as DidReceiveBlocked, Repeat as DidRepeat, ReplyFreed as DidReplyFreed, Run as DidRun, SendTo as DidSendTo}
use Rattle.aps_model.specs.declared.program.Op.TheVariants.{Exit, Join, Receive, Repeat, Reply, Run, Send}
use Rattle.aps_model.specs.declared.scenario.Policy.TheVariants.{Fifo}
use Rattle.aps_model.specs.declared.shape.Bankruptcy.TheVariants.{Basic}
use Rattle.aps_model.specs.declared.shape.Free.TheVariants.{Priority as ByPriority}
use Rattle.aps_model.specs.Scenario.{Scenario}
use Rattle.aps_model.specs.Legal.{fixed_run}
use Rattle.worked_proofs.proofs.Line.{line, run_summary, run_windows}

abbrev pub scenario : Scenario
scenario = record {
  shape = record { parts = 100; cpus = 1; tick = 1000000; window = 10; ticks = 1; call_ns = 1000; free = ByPriority; limit = false; bankruptcy = Basic };
  partitions =
      record { name = codes "System"; parent = 0; budget = 25; critical = 0; max = 100 }
      ∷ record { name = codes "A"; parent = 0; budget = 25; critical = 0; max = 100 }
      ∷ record { name = codes "B"; parent = 0; budget = 25; critical = 0; max = 100 }
      ∷ record { name = codes "C"; parent = 0; budget = 25; critical = 0; max = 100 }
      ∷ [];
  channels = codes "c1" ∷ codes "c2" ∷ codes "c3" ∷ [];
  threads =
      record { name = codes "x"; partition = 0; priority = 40; policy = Fifo; critical = false; program = Receive 0 ∷ Send 1 ∷ Reply ∷ Repeat ∷ [] }
      ∷ record { name = codes "y"; partition = 2; priority = 30; policy = Fifo; critical = false; program = Receive 1 ∷ Join (codes "System") ∷ Send 2 ∷ Reply ∷ Repeat ∷ [] }
      ∷ record { name = codes "z"; partition = 3; priority = 20; policy = Fifo; critical = false; program = Receive 2 ∷ Run 10000 ∷ Reply ∷ Repeat ∷ [] }
      ∷ record { name = codes "k"; partition = 1; priority = 10; policy = Fifo; critical = false; program = Send 0 ∷ Exit ∷ [] }
      ∷ [];
  commands = [];
}

entries : fixed_run scenario 1000 ≡
    line 0 0 0 None None false DidNothing (Some 0) None None
    ∷ line 0 0 1000 (Some 0) (Some 0) false DidReceiveBlocked (Some 1) (Some 0) None
    ∷ line 0 1000 2000 (Some 1) (Some 2) false DidReceiveBlocked (Some 2) (Some 0) None
    ∷ line 0 2000 3000 (Some 2) (Some 3) false DidReceiveBlocked (Some 3) (Some 0) None
    ∷ line 0 3000 4000 (Some 3) (Some 1) false (DidSendTo 0) (Some 0) (Some 0) None
    ∷ line 0 4000 5000 (Some 0) (Some 1) false (DidSendTo 1) (Some 1) (Some 0) None
    ∷ line 0 5000 6000 (Some 1) (Some 1) false DidJoin (Some 1) (Some 0) None
    ∷ line 0 6000 7000 (Some 1) (Some 1) false (DidSendTo 2) (Some 2) (Some 0) None
    ∷ line 0 7000 17000 (Some 2) (Some 1) false DidRun (Some 2) (Some 0) None
    ∷ line 0 17000 18000 (Some 2) (Some 1) false (DidReplyFreed 1) (Some 2) (Some 0) None
    ∷ line 0 18000 19000 (Some 2) (Some 3) false DidRepeat (Some 2) (Some 0) None
    ∷ line 0 19000 20000 (Some 2) (Some 3) false DidReceiveBlocked (Some 1) (Some 0) None
    ∷ line 0 20000 21000 (Some 1) (Some 1) false (DidReplyFreed 0) (Some 1) (Some 2) None
    ∷ line 0 21000 22000 (Some 1) (Some 0) false DidRepeat (Some 1) (Some 2) None
    ∷ line 0 22000 23000 (Some 1) (Some 0) false DidReceiveBlocked (Some 0) (Some 0) None
    ∷ line 0 23000 24000 (Some 0) (Some 1) false (DidReplyFreed 3) (Some 0) (Some 2) None
    ∷ line 0 24000 25000 (Some 0) (Some 0) false DidRepeat (Some 0) (Some 2) None
    ∷ line 0 25000 26000 (Some 0) (Some 0) false DidReceiveBlocked (Some 3) (Some 0) None
    ∷ line 0 26000 27000 (Some 3) (Some 1) false DidExit None (Some 0) None
    ∷ line 0 27000 1000000 None None false DidNothing None None None
    ∷ []
entries = refl

summary : run_summary scenario 1000 ≡
    codes "aps summary 1\n"
    ++ codes "end horizon\n"
    ++ codes "shape cpus 1 tick 1000000 window 10 ticks 1\n"
    ++ codes "entries 20\n"
    ++ codes "partition 0 System budget 25 billed 5000 critical 0\n"
    ++ codes "partition 1 A budget 25 billed 18000 critical 0\n"
    ++ codes "partition 2 B budget 25 billed 1000 critical 0\n"
    ++ codes "partition 3 C budget 25 billed 3000 critical 0\n"
    ++ codes "idle 973000\n"
    ++ codes "thread 0 x ran 5000\n"
    ++ codes "thread 1 y ran 6000\n"
    ++ codes "thread 2 z ran 14000\n"
    ++ codes "thread 3 k ran 2000\n"
    ++ codes "loaded 1\n"
    ++ codes "over none\n"
    ++ codes "short none\n"
    ++ codes "overcritical none\n"
unfolding run_summary digits
summary = refl

windows : run_windows scenario 1000 ≡
    codes "aps windows 1\n"
    ++ codes "end horizon\n"
unfolding run_windows digits
windows = refl
