use lib.Chars.{codes}
use Rattle.std.proofs.Common.{◌≡◌, [], ◌∷◌, ◌++◌, refl, Some, None, false}
use Rattle.std.specs.Fmt.{digits}
use Rattle.aps_model.specs.declared.entry.Done.TheVariants.{Exit as DidExit, Nothing as DidNothing, ReceiveGot as DidReceiveGot, ReceiveHolding as DidReceiveHolding, ReplyFreed as DidReplyFreed, ReplyNoClient as DidReplyNoClient, SendBlocked as DidSendBlocked}
use Rattle.aps_model.specs.declared.program.Op.TheVariants.{Exit, Forever, Receive, Reply, Send, Sleep}
use Rattle.aps_model.specs.declared.scenario.Policy.TheVariants.{Fifo}
use Rattle.aps_model.specs.declared.shape.Bankruptcy.TheVariants.{Basic}
use Rattle.aps_model.specs.declared.shape.Free.TheVariants.{Priority as ByPriority}
use Rattle.aps_model.specs.Scenario.{Scenario}
use Rattle.aps_model.specs.Legal.{fixed_run}
use Rattle.worked_proofs.proofs.Line.{line, run_summary, run_windows}

abbrev pub scenario : Scenario
scenario = record {
  shape = record { parts = 100; cpus = 1; tick = 1000000; window = 10; ticks = 3; call_ns = 1000; free = ByPriority; limit = false; bankruptcy = Basic };
  partitions =
      record { name = codes "System"; parent = 0; budget = 100; critical = 0; max = 100 }
      ∷ [];
  channels = codes "c" ∷ [];
  threads =
      record { name = codes "srv"; partition = 0; priority = 5; policy = Fifo; critical = false; program = Sleep 1000001 ∷ Reply ∷ Receive 0 ∷ Receive 0 ∷ Reply ∷ Receive 0 ∷ Reply ∷ Forever ∷ [] }
      ∷ record { name = codes "l"; partition = 0; priority = 10; policy = Fifo; critical = false; program = Send 0 ∷ Exit ∷ [] }
      ∷ record { name = codes "h"; partition = 0; priority = 20; policy = Fifo; critical = false; program = Sleep 1 ∷ Send 0 ∷ Exit ∷ [] }
      ∷ [];
  commands = [];
}

entries : fixed_run scenario 1000 ≡
    line 0 0 0 None None false DidNothing (Some 1) None None
    ∷ line 0 0 1000 (Some 1) (Some 0) false DidSendBlocked None (Some 0) None
    ∷ line 0 1000 1000000 None None false DidNothing (Some 2) None None
    ∷ line 0 1000000 1001000 (Some 2) (Some 0) false DidSendBlocked None (Some 0) None
    ∷ line 0 1001000 2000000 None None false DidNothing (Some 0) None None
    ∷ line 0 2000000 2001000 (Some 0) (Some 0) false DidReplyNoClient (Some 0) None None
    ∷ line 0 2001000 2002000 (Some 0) (Some 0) false (DidReceiveGot 2) (Some 0) None None
    ∷ line 0 2002000 2003000 (Some 0) (Some 0) false (DidReceiveHolding 2) (Some 0) None None
    ∷ line 0 2003000 2004000 (Some 0) (Some 0) false (DidReplyFreed 2) (Some 2) None None
    ∷ line 0 2004000 2005000 (Some 2) (Some 0) false DidExit (Some 0) None None
    ∷ line 0 2005000 2006000 (Some 0) (Some 0) false (DidReceiveGot 1) (Some 0) None None
    ∷ line 0 2006000 2007000 (Some 0) (Some 0) false (DidReplyFreed 1) (Some 1) None None
    ∷ line 0 2007000 2008000 (Some 1) (Some 0) false DidExit (Some 0) None None
    ∷ line 0 2008000 3000000 (Some 0) (Some 0) false DidNothing None None None
    ∷ []
entries = refl

summary : run_summary scenario 1000 ≡
    codes "aps summary 1\n"
    ++ codes "end horizon\n"
    ++ codes "shape cpus 1 tick 1000000 window 10 ticks 3\n"
    ++ codes "entries 14\n"
    ++ codes "partition 0 System budget 100 billed 1002000 critical 0\n"
    ++ codes "idle 1998000\n"
    ++ codes "thread 0 srv ran 998000\n"
    ++ codes "thread 1 l ran 2000\n"
    ++ codes "thread 2 h ran 2000\n"
    ++ codes "loaded 2\n"
    ++ codes "over none\n"
    ++ codes "short none\n"
    ++ codes "overcritical none\n"
unfolding run_summary digits
summary = refl

windows : run_windows scenario 1000 ≡
    codes "aps windows 1\n"
    ++ codes "end horizon\n"
unfolding run_windows digits
windows = refl
