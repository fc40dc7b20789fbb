use lib.Chars.{codes}
use Rattle.std.proofs.Common.{◌≡◌, [], ◌∷◌, ◌++◌, refl, Some, None, false}
use Rattle.std.specs.Fmt.{digits}
use Rattle.aps_model.specs.declared.entry.Done.TheVariants.{Exit as DidExit, Nothing as DidNothing, ReceiveBlocked as DidReceiveBlocked, Repeat as DidRepeat, ReplyFreed as DidReplyFreed, Run as DidRun, SendTo as DidSendTo}
use Rattle.aps_model.specs.declared.program.Op.TheVariants.{Exit, Receive, Repeat, Reply, Run, Send}
use Rattle.aps_model.specs.declared.scenario.Policy.TheVariants.{Fifo}
use Rattle.aps_model.specs.declared.shape.Bankruptcy.TheVariants.{Basic}
use Rattle.aps_model.specs.declared.shape.Free.TheVariants.{Priority as ByPriority}
use Rattle.aps_model.specs.Scenario.{Scenario}
use Rattle.aps_model.specs.Legal.{fixed_run}
use Rattle.worked_proofs.proofs.Line.{line, run_summary, run_windows}

abbrev pub scenario : Scenario
scenario = record {
  shape = record { parts = 100; cpus = 1; tick = 1000000; window = 10; ticks = 4; call_ns = 1000; free = ByPriority; limit = false; bankruptcy = Basic };
  partitions =
      record { name = codes "System"; parent = 0; budget = 50; critical = 0; max = 100 }
      ∷ record { name = codes "A"; parent = 0; budget = 50; critical = 0; max = 100 }
      ∷ [];
  channels = codes "c" ∷ [];
  threads =
      record { name = codes "srv"; partition = 0; priority = 12; policy = Fifo; critical = false; program = Receive 0 ∷ Run 3000000 ∷ Reply ∷ Repeat ∷ [] }
      ∷ record { name = codes "cl"; partition = 1; priority = 10; policy = Fifo; critical = false; program = Send 0 ∷ Exit ∷ [] }
      ∷ [];
  commands = [];
}

entries : fixed_run scenario 1000 ≡
    line 0 0 0 None None false DidNothing (Some 0) None None
    ∷ line 0 0 1000 (Some 0) (Some 0) false DidReceiveBlocked (Some 1) (Some 0) None
    ∷ line 0 1000 2000 (Some 1) (Some 1) false (DidSendTo 0) (Some 0) (Some 0) None
    ∷ line 0 2000 1000000 (Some 0) (Some 1) false DidNothing (Some 0) (Some 0) None
    ∷ line 0 1000000 2000000 (Some 0) (Some 1) false DidNothing (Some 0) (Some 0) None
    ∷ line 0 2000000 3000000 (Some 0) (Some 1) false DidNothing (Some 0) (Some 0) None
    ∷ line 0 3000000 3002000 (Some 0) (Some 1) false DidRun (Some 0) (Some 0) None
    ∷ line 0 3002000 3003000 (Some 0) (Some 1) false (DidReplyFreed 1) (Some 0) None None
    ∷ line 0 3003000 3004000 (Some 0) (Some 0) false DidRepeat (Some 0) None None
    ∷ line 0 3004000 3005000 (Some 0) (Some 0) false DidReceiveBlocked (Some 1) (Some 0) None
    ∷ line 0 3005000 3006000 (Some 1) (Some 1) false DidExit None (Some 0) None
    ∷ line 0 3006000 4000000 None None false DidNothing None None None
    ∷ []
entries = refl

summary : run_summary scenario 1000 ≡
    codes "aps summary 1\n"
    ++ codes "end horizon\n"
    ++ codes "shape cpus 1 tick 1000000 window 10 ticks 4\n"
    ++ codes "entries 12\n"
    ++ codes "partition 0 System budget 50 billed 3000 critical 0\n"
    ++ codes "partition 1 A budget 50 billed 3003000 critical 0\n"
    ++ codes "idle 994000\n"
    ++ codes "thread 0 srv ran 3004000\n"
    ++ codes "thread 1 cl ran 2000\n"
    ++ codes "loaded 4\n"
    ++ codes "over none\n"
    ++ codes "short none\n"
    ++ codes "overcritical none\n"
unfolding run_summary digits
summary = refl

windows : run_windows scenario 1000 ≡
    codes "aps windows 1\n"
    ++ codes "end horizon\n"
unfolding run_windows digits
windows = refl
