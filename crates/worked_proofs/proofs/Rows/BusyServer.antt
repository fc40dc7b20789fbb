use lib.Chars.{codes}
use Rattle.std.proofs.Common.{◌≡◌, [], ◌∷◌, ◌++◌, refl, Some, None, false}
use Rattle.std.specs.Fmt.{digits}
use Rattle.aps_model.specs.declared.entry.Done.TheVariants.{Nothing as DidNothing, ReceiveBlocked as DidReceiveBlocked, ReceiveGot as DidReceiveGot, Repeat as DidRepeat, ReplyFreed as DidReplyFreed, Run as DidRun, SendBlocked as DidSendBlocked, SendTo as DidSendTo}
use Rattle.aps_model.specs.declared.program.Op.TheVariants.{Exit, Receive, Repeat, Reply, Run, Send, Sleep}
use Rattle.aps_model.specs.declared.scenario.Policy.TheVariants.{Fifo}
use Rattle.aps_model.specs.declared.shape.Bankruptcy.TheVariants.{Basic}
use Rattle.aps_model.specs.declared.shape.Free.TheVariants.{Priority as ByPriority}
use Rattle.aps_model.specs.Scenario.{Scenario}
use Rattle.aps_model.specs.Legal.{fixed_run}
use Rattle.worked_proofs.proofs.Line.{line, run_summary, run_windows}

abbrev pub scenario : Scenario
scenario = record {
  shape = record { parts = 100; cpus = 1; tick = 1000000; window = 10; ticks = 2; call_ns = 1000; free = ByPriority; limit = false; bankruptcy = Basic };
  partitions =
      record { name = codes "System"; parent = 0; budget = 100; critical = 0; max = 100 }
      ∷ [];
  channels = codes "c" ∷ [];
  threads =
      record { name = codes "srv"; partition = 0; priority = 30; policy = Fifo; critical = false; program = Receive 0 ∷ Run 1000000 ∷ Reply ∷ Repeat ∷ [] }
      ∷ record { name = codes "l"; partition = 0; priority = 10; policy = Fifo; critical = false; program = Send 0 ∷ Exit ∷ [] }
      ∷ record { name = codes "mid"; partition = 0; priority = 15; policy = Fifo; critical = false; program = Sleep 1 ∷ Run 5000 ∷ Exit ∷ [] }
      ∷ record { name = codes "h"; partition = 0; priority = 20; policy = Fifo; critical = false; program = Sleep 1 ∷ Send 0 ∷ Exit ∷ [] }
      ∷ [];
  commands = [];
}

entries : fixed_run scenario 1000 ≡
    line 0 0 0 None None false DidNothing (Some 0) None None
    ∷ line 0 0 1000 (Some 0) (Some 0) false DidReceiveBlocked (Some 1) None None
    ∷ line 0 1000 2000 (Some 1) (Some 0) false (DidSendTo 0) (Some 0) None None
    ∷ line 0 2000 1000000 (Some 0) (Some 0) false DidNothing (Some 3) None None
    ∷ line 0 1000000 1001000 (Some 3) (Some 0) false DidSendBlocked (Some 0) None None
    ∷ line 0 1001000 1003000 (Some 0) (Some 0) false DidRun (Some 0) None None
    ∷ line 0 1003000 1004000 (Some 0) (Some 0) false (DidReplyFreed 1) (Some 0) None None
    ∷ line 0 1004000 1005000 (Some 0) (Some 0) false DidRepeat (Some 0) None None
    ∷ line 0 1005000 1006000 (Some 0) (Some 0) false (DidReceiveGot 3) (Some 0) None None
    ∷ line 0 1006000 2000000 (Some 0) (Some 0) false DidNothing None None None
    ∷ []
entries = refl

summary : run_summary scenario 1000 ≡
    codes "aps summary 1\n"
    ++ codes "end horizon\n"
    ++ codes "shape cpus 1 tick 1000000 window 10 ticks 2\n"
    ++ codes "entries 10\n"
    ++ codes "partition 0 System budget 100 billed 2000000 critical 0\n"
    ++ codes "idle 0\n"
    ++ codes "thread 0 srv ran 1998000\n"
    ++ codes "thread 1 l ran 1000\n"
    ++ codes "thread 2 mid ran 0\n"
    ++ codes "thread 3 h ran 1000\n"
    ++ codes "loaded 0\n"
    ++ codes "over none\n"
    ++ codes "short none\n"
    ++ codes "overcritical none\n"
unfolding run_summary digits
summary = refl

windows : run_windows scenario 1000 ≡
    codes "aps windows 1\n"
    ++ codes "end horizon\n"
unfolding run_windows digits
windows = refl
