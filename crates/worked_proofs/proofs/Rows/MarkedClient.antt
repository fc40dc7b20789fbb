use lib.Chars.{codes}
use Rattle.std.proofs.Common.{◌≡◌, [], ◌∷◌, ◌++◌, refl, Some, None, true, false}
use Rattle.std.specs.Fmt.{digits}
use Rattle.aps_model.specs.declared.command.Call.TheVariants.{MarkCritical}
use Rattle.aps_model.specs.declared.entry.Done.TheVariants.{Nothing as DidNothing, ReceiveBlocked as DidReceiveBlocked, SendTo as DidSendTo}
use Rattle.aps_model.specs.declared.program.Op.TheVariants.{Exit, Forever, Receive, Repeat, Reply, Run, Send, Sleep}
use Rattle.aps_model.specs.declared.scenario.Policy.TheVariants.{Fifo}
use Rattle.aps_model.specs.declared.shape.Bankruptcy.TheVariants.{Basic}
use Rattle.aps_model.specs.declared.shape.Free.TheVariants.{Priority as ByPriority}
use Rattle.aps_model.specs.Scenario.{Scenario}
use Rattle.aps_model.specs.Legal.{fixed_run}
use Rattle.worked_proofs.proofs.Line.{line, run_summary, run_windows}

abbrev pub scenario : Scenario
scenario = record {
  shape = record { parts = 100; cpus = 1; tick = 1000000; window = 10; ticks = 7; call_ns = 1000; free = ByPriority; limit = false; bankruptcy = Basic };
  partitions =
      record { name = codes "System"; parent = 0; budget = 100; critical = 0; max = 100 }
      ∷ record { name = codes "A"; parent = 0; budget = 0; critical = 2000000; max = 100 }
      ∷ [];
  channels = codes "c" ∷ [];
  threads =
      record { name = codes "srv"; partition = 0; priority = 12; policy = Fifo; critical = false; program = Receive 0 ∷ Run 3000000 ∷ Reply ∷ Repeat ∷ [] }
      ∷ record { name = codes "cl"; partition = 1; priority = 11; policy = Fifo; critical = false; program = Send 0 ∷ Exit ∷ [] }
      ∷ record { name = codes "s"; partition = 0; priority = 10; policy = Fifo; critical = false; program = Sleep 1000000 ∷ Forever ∷ [] }
      ∷ [];
  commands =
      record { tick = 3; call = MarkCritical 1 }
      ∷ [];
}

entries : fixed_run scenario 1000 ≡
    line 0 0 0 None None false DidNothing (Some 0) None None
    ∷ line 0 0 1000 (Some 0) (Some 0) false DidReceiveBlocked (Some 1) (Some 0) None
    ∷ line 0 1000 2000 (Some 1) (Some 1) false (DidSendTo 0) (Some 0) (Some 0) None
    ∷ line 0 2000 1000000 (Some 0) (Some 1) false DidNothing (Some 2) None None
    ∷ line 0 1000000 2000000 (Some 2) (Some 0) false DidNothing (Some 2) None None
    ∷ line 0 2000000 3000000 (Some 2) (Some 0) false DidNothing (Some 0) None None
    ∷ line 0 3000000 4000000 (Some 0) (Some 1) true DidNothing (Some 0) None None
    ∷ line 0 4000000 5000000 (Some 0) (Some 1) true DidNothing (Some 2) None None
    ∷ line 0 5000000 6000000 (Some 2) (Some 0) false DidNothing (Some 2) None None
    ∷ line 0 6000000 7000000 (Some 2) (Some 0) false DidNothing None None None
    ∷ []
entries = refl

summary : run_summary scenario 1000 ≡
    codes "aps summary 1\n"
    ++ codes "end horizon\n"
    ++ codes "shape cpus 1 tick 1000000 window 10 ticks 7\n"
    ++ codes "entries 10\n"
    ++ codes "partition 0 System budget 100 billed 4001000 critical 0\n"
    ++ codes "partition 1 A budget 0 billed 2999000 critical 2000000\n"
    ++ codes "idle 0\n"
    ++ codes "thread 0 srv ran 2999000\n"
    ++ codes "thread 1 cl ran 1000\n"
    ++ codes "thread 2 s ran 4000000\n"
    ++ codes "loaded 1\n"
    ++ codes "over none\n"
    ++ codes "short none\n"
    ++ codes "overcritical none\n"
    ++ codes "reply 0 marked\n"
unfolding run_summary digits
summary = refl

windows : run_windows scenario 1000 ≡
    codes "aps windows 1\n"
    ++ codes "end horizon\n"
unfolding run_windows digits
windows = refl
