use lib.Chars.{codes}
use Rattle.std.proofs.Common.{◌≡◌, [], ◌∷◌, ◌++◌, refl, Some, None, false}
use Rattle.std.specs.Fmt.{digits}
use Rattle.aps_model.specs.declared.command.Call.TheVariants.{QueryParameters, QueryThread, SetParameters}
use Rattle.aps_model.specs.declared.entry.Done.TheVariants.{Nothing as DidNothing}
use Rattle.aps_model.specs.declared.program.Op.TheVariants.{Forever}
use Rattle.aps_model.specs.declared.scenario.Policy.TheVariants.{Fifo}
use Rattle.aps_model.specs.declared.shape.Bankruptcy.TheVariants.{Basic}
use Rattle.aps_model.specs.declared.shape.Free.TheVariants.{Priority as ByPriority}
use Rattle.aps_model.specs.Scenario.{Scenario}
use Rattle.aps_model.specs.Legal.{fixed_run}
use Rattle.worked_proofs.proofs.Line.{line, run_summary, run_windows}

abbrev pub scenario : Scenario
scenario = record {
  shape = record { parts = 100; cpus = 1; tick = 1000000; window = 10; ticks = 6; call_ns = 1000; free = ByPriority; limit = false; bankruptcy = Basic };
  partitions =
      record { name = codes "System"; parent = 0; budget = 50; critical = 0; max = 100 }
      ∷ record { name = codes "A"; parent = 0; budget = 50; critical = 0; max = 100 }
      ∷ [];
  channels = [];
  threads =
      record { name = codes "s"; partition = 0; priority = 10; policy = Fifo; critical = false; program = Forever ∷ [] }
      ∷ record { name = codes "a"; partition = 1; priority = 10; policy = Fifo; critical = false; program = Forever ∷ [] }
      ∷ [];
  commands =
      record { tick = 2; call = SetParameters (Some 8) None None None }
      ∷ record { tick = 3; call = QueryParameters }
      ∷ record { tick = 3; call = QueryThread 1 }
      ∷ [];
}

entries : fixed_run scenario 1000 ≡
    line 0 0 0 None None false DidNothing (Some 0) None None
    ∷ line 0 0 1000000 (Some 0) (Some 0) false DidNothing (Some 1) None None
    ∷ line 0 1000000 2000000 (Some 1) (Some 1) false DidNothing (Some 0) None None
    ∷ line 0 2000000 3000000 (Some 0) (Some 0) false DidNothing (Some 1) None None
    ∷ line 0 3000000 4000000 (Some 1) (Some 1) false DidNothing (Some 0) None None
    ∷ line 0 4000000 5000000 (Some 0) (Some 0) false DidNothing (Some 1) None None
    ∷ line 0 5000000 6000000 (Some 1) (Some 1) false DidNothing None None None
    ∷ []
entries = refl

summary : run_summary scenario 1000 ≡
    codes "aps summary 1\n"
    ++ codes "end horizon\n"
    ++ codes "shape cpus 1 tick 1000000 window 8 ticks 6\n"
    ++ codes "entries 7\n"
    ++ codes "partition 0 System budget 50 billed 3000000 critical 0\n"
    ++ codes "partition 1 A budget 50 billed 3000000 critical 0\n"
    ++ codes "idle 0\n"
    ++ codes "thread 0 s ran 3000000\n"
    ++ codes "thread 1 a ran 3000000\n"
    ++ codes "loaded 3\n"
    ++ codes "over none\n"
    ++ codes "short none\n"
    ++ codes "overcritical none\n"
    ++ codes "reply 0 set\n"
    ++ codes "reply 1 parameters window 8 tick 1000000 free priority limit no bankruptcy basic\n"
    ++ codes "reply 2 thread 1 own 1 partition 1 priority 10 critical no state ready\n"
unfolding run_summary digits
summary = refl

windows : run_windows scenario 1000 ≡
    codes "aps windows 1\n"
    ++ codes "end horizon\n"
unfolding run_windows digits
windows = refl
