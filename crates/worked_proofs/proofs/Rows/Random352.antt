use lib.Chars.{codes}
use Rattle.std.proofs.Common.{◌≡◌, [], ◌∷◌, ◌++◌, refl, Some, None, true, false}
use Rattle.std.specs.Fmt.{digits}
use Rattle.aps_model.specs.declared.command.Call.TheVariants.{ClearCritical, Create, QueryParameters, QueryThread}
use Rattle.aps_model.specs.declared.entry.Done.TheVariants.{CriticalOn as DidCriticalOn, Exit as DidExit, Join as DidJoin, Nothing as DidNothing, Priority as DidPriority, Repeat as DidRepeat, ReplyNoClient as DidReplyNoClient, Run as DidRun, SendBlocked as DidSendBlocked}
use Rattle.aps_model.specs.declared.program.Op.TheVariants.{CriticalOn, Exit, Forever, Join, Priority, Repeat, Reply, Run, Send, Sleep}
use Rattle.aps_model.specs.declared.scenario.Policy.TheVariants.{Fifo, Rr}
use Rattle.aps_model.specs.declared.shape.Bankruptcy.TheVariants.{Cancel}
use Rattle.aps_model.specs.declared.shape.Free.TheVariants.{Ratio as ByRatio}
use Rattle.aps_model.specs.Scenario.{Scenario}
use Rattle.aps_model.specs.Legal.{fixed_run}
use Rattle.worked_proofs.proofs.Line.{line, run_summary, run_windows}

abbrev pub scenario : Scenario
scenario = record {
  shape = record { parts = 1000; cpus = 2; tick = 100000; window = 8; ticks = 13; call_ns = 100000; free = ByRatio; limit = false; bankruptcy = Cancel };
  partitions =
      record { name = codes "System"; parent = 0; budget = 1000; critical = 0; max = 1000 }
      ∷ record { name = codes "A"; parent = 0; budget = 0; critical = 0; max = 1000 }
      ∷ [];
  channels = codes "c" ∷ codes "d" ∷ codes "e" ∷ [];
  threads =
      record { name = codes "t0"; partition = 0; priority = 155; policy = Rr; critical = false; program = Send 1 ∷ Repeat ∷ [] }
      ∷ record { name = codes "t1"; partition = 1; priority = 94; policy = Fifo; critical = false; program = Join (codes "N1") ∷ Reply ∷ Priority 255 ∷ CriticalOn ∷ Send 0 ∷ Join (codes "N1") ∷ Forever ∷ [] }
      ∷ record { name = codes "t2"; partition = 0; priority = 237; policy = Rr; critical = false; program = Run 100000 ∷ Sleep 300000 ∷ Repeat ∷ [] }
      ∷ record { name = codes "t3"; partition = 0; priority = 122; policy = Rr; critical = false; program = Run 43538 ∷ Sleep 1 ∷ Exit ∷ [] }
      ∷ record { name = codes "t4"; partition = 0; priority = 62; policy = Fifo; critical = false; program = Sleep 1 ∷ Send 2 ∷ Sleep 179050 ∷ Repeat ∷ [] }
      ∷ [];
  commands =
      record { tick = 12; call = Create (codes "N1") (codes "A") 17 2000000 1000 }
      ∷ record { tick = 7; call = QueryThread 3 }
      ∷ record { tick = 5; call = ClearCritical 2 }
      ∷ record { tick = 0; call = Create (codes "System") (codes "System") 485 0 1000 }
      ∷ record { tick = 0; call = QueryParameters }
      ∷ record { tick = 0; call = Create (codes "N1") (codes "System") 0 100000 1000 }
      ∷ [];
}

entries : fixed_run scenario 1000 ≡
    line 0 0 0 None None false DidNothing (Some 2) None None
    ∷ line 1 0 0 None None false DidNothing (Some 0) None None
    ∷ line 0 0 100000 (Some 2) (Some 0) false DidRun (Some 3) None None
    ∷ line 1 0 100000 (Some 0) (Some 0) false DidSendBlocked (Some 4) None None
    ∷ line 0 100000 143538 (Some 3) (Some 0) false DidRun (Some 1) (Some 0) None
    ∷ line 0 143538 200000 (Some 1) (Some 1) false DidNothing (Some 3) None None
    ∷ line 1 100000 200000 (Some 4) (Some 0) false DidSendBlocked (Some 1) (Some 0) None
    ∷ line 1 200000 243538 (Some 1) (Some 1) false DidJoin (Some 1) (Some 0) None
    ∷ line 0 200000 300000 (Some 3) (Some 0) false DidExit None (Some 0) None
    ∷ line 1 243538 300000 (Some 1) (Some 2) false DidNothing (Some 1) (Some 0) None
    ∷ line 1 300000 343538 (Some 1) (Some 2) false DidReplyNoClient (Some 1) (Some 0) None
    ∷ line 0 300000 400000 None None false DidNothing (Some 2) None None
    ∷ line 1 343538 400000 (Some 1) (Some 2) false DidNothing (Some 1) (Some 0) None
    ∷ line 1 400000 443538 (Some 1) (Some 2) false DidPriority (Some 1) (Some 0) None
    ∷ line 0 400000 500000 (Some 2) (Some 0) false DidRepeat (Some 2) None None
    ∷ line 1 443538 500000 (Some 1) (Some 2) false DidNothing (Some 1) (Some 0) None
    ∷ line 1 500000 543538 (Some 1) (Some 2) false DidCriticalOn (Some 1) (Some 0) None
    ∷ line 0 500000 600000 (Some 2) (Some 0) false DidRun None (Some 0) None
    ∷ line 1 543538 600000 (Some 1) (Some 2) true DidNothing (Some 1) (Some 0) None
    ∷ line 1 600000 643538 (Some 1) (Some 2) true DidSendBlocked None (Some 0) None
    ∷ line 0 600000 700000 None None false DidNothing None (Some 0) None
    ∷ line 1 643538 700000 None None false DidNothing None (Some 0) None
    ∷ line 0 700000 800000 None None false DidNothing None (Some 0) None
    ∷ line 1 700000 800000 None None false DidNothing None (Some 0) None
    ∷ line 0 800000 900000 None None false DidNothing (Some 2) None None
    ∷ line 1 800000 900000 None None false DidNothing None (Some 0) None
    ∷ line 0 900000 1000000 (Some 2) (Some 0) false DidRepeat (Some 2) None None
    ∷ line 1 900000 1000000 None None false DidNothing None (Some 0) None
    ∷ line 0 1000000 1100000 (Some 2) (Some 0) false DidRun None (Some 0) None
    ∷ line 1 1000000 1100000 None None false DidNothing None (Some 0) None
    ∷ line 0 1100000 1200000 None None false DidNothing None (Some 0) None
    ∷ line 1 1100000 1200000 None None false DidNothing None (Some 0) None
    ∷ line 0 1200000 1300000 None None false DidNothing None None None
    ∷ line 1 1200000 1300000 None None false DidNothing None None None
    ∷ []
entries = refl

summary : run_summary scenario 1000 ≡
    codes "aps summary 1\n"
    ++ codes "end horizon\n"
    ++ codes "shape cpus 2 tick 100000 window 8 ticks 13\n"
    ++ codes "entries 34\n"
    ++ codes "partition 0 System budget 1000 billed 843538 critical 0\n"
    ++ codes "partition 1 A budget 0 billed 100000 critical 0\n"
    ++ codes "partition 2 N1 budget 0 billed 400000 critical 100000\n"
    ++ codes "idle 1256462\n"
    ++ codes "thread 0 t0 ran 100000\n"
    ++ codes "thread 1 t1 ran 500000\n"
    ++ codes "thread 2 t2 ran 500000\n"
    ++ codes "thread 3 t3 ran 143538\n"
    ++ codes "thread 4 t4 ran 100000\n"
    ++ codes "loaded 13\n"
    ++ codes "over none\n"
    ++ codes "short none\n"
    ++ codes "overcritical none\n"
    ++ codes "reply 3 name-taken\n"
    ++ codes "reply 4 parameters window 8 tick 100000 free ratio limit no bankruptcy cancel\n"
    ++ codes "reply 5 created 2\n"
    ++ codes "reply 2 cleared\n"
    ++ codes "reply 1 thread 3 own 0 partition 0 priority 122 critical no state gone\n"
    ++ codes "reply 0 name-taken\n"
unfolding run_summary digits
summary = refl

windows : run_windows scenario 1000 ≡
    codes "aps windows 1\n"
    ++ codes "end horizon\n"
    ++ codes "window 0 643538 100000 400000\n"
unfolding run_windows digits
windows = refl
