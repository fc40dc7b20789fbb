use lib.Chars.{codes}
use Rattle.std.proofs.Common.{◌≡◌, [], ◌∷◌, ◌++◌, refl, Some, None, true, false}
use Rattle.std.specs.Fmt.{digits}
use Rattle.aps_model.specs.declared.entry.Done.TheVariants.{Nothing as DidNothing}
use Rattle.aps_model.specs.declared.program.Op.TheVariants.{Forever}
use Rattle.aps_model.specs.declared.scenario.Policy.TheVariants.{Fifo}
use Rattle.aps_model.specs.declared.shape.Bankruptcy.TheVariants.{Basic}
use Rattle.aps_model.specs.declared.shape.Free.TheVariants.{Priority as ByPriority}
use Rattle.aps_model.specs.Scenario.{Scenario}
use Rattle.aps_model.specs.Legal.{fixed_run}
use Rattle.aps_model.specs.Upgrade.{upgraded}
use Rattle.worked_proofs.proofs.Line.{line, run_summary, run_windows}

abbrev pub scenario : Scenario
scenario = record {
  shape = record { parts = 100; cpus = 1; tick = 1000000; window = 10; ticks = 20; call_ns = 1000; free = ByPriority; limit = false; bankruptcy = Basic };
  partitions =
      record { name = codes "System"; parent = 0; budget = 100; critical = 0; max = 100 }
      ∷ record { name = codes "A"; parent = 0; budget = 0; critical = 2000000; max = 100 }
      ∷ [];
  channels = [];
  threads =
      record { name = codes "s"; partition = 0; priority = 10; policy = Fifo; critical = false; program = Forever ∷ [] }
      ∷ record { name = codes "k"; partition = 1; priority = 20; policy = Fifo; critical = true; program = Forever ∷ [] }
      ∷ [];
  commands = [];
}

entries : fixed_run scenario 1000 ≡
    line 0 0 0 None None false DidNothing (Some 1) None None
    ∷ line 0 0 1000000 (Some 1) (Some 1) true DidNothing (Some 1) None None
    ∷ line 0 1000000 2000000 (Some 1) (Some 1) true DidNothing (Some 0) None None
    ∷ line 0 2000000 3000000 (Some 0) (Some 0) false DidNothing (Some 0) None None
    ∷ line 0 3000000 4000000 (Some 0) (Some 0) false DidNothing (Some 0) None None
    ∷ line 0 4000000 5000000 (Some 0) (Some 0) false DidNothing (Some 0) None None
    ∷ line 0 5000000 6000000 (Some 0) (Some 0) false DidNothing (Some 0) None None
    ∷ line 0 6000000 7000000 (Some 0) (Some 0) false DidNothing (Some 0) None None
    ∷ line 0 7000000 8000000 (Some 0) (Some 0) false DidNothing (Some 0) None None
    ∷ line 0 8000000 9000000 (Some 0) (Some 0) false DidNothing (Some 0) None None
    ∷ line 0 9000000 10000000 (Some 0) (Some 0) false DidNothing (Some 1) None None
    ∷ line 0 10000000 11000000 (Some 1) (Some 1) true DidNothing (Some 1) None None
    ∷ line 0 11000000 12000000 (Some 1) (Some 1) true DidNothing (Some 0) None None
    ∷ line 0 12000000 13000000 (Some 0) (Some 0) false DidNothing (Some 0) None None
    ∷ line 0 13000000 14000000 (Some 0) (Some 0) false DidNothing (Some 0) None None
    ∷ line 0 14000000 15000000 (Some 0) (Some 0) false DidNothing (Some 0) None None
    ∷ line 0 15000000 16000000 (Some 0) (Some 0) false DidNothing (Some 0) None None
    ∷ line 0 16000000 17000000 (Some 0) (Some 0) false DidNothing (Some 0) None None
    ∷ line 0 17000000 18000000 (Some 0) (Some 0) false DidNothing (Some 0) None None
    ∷ line 0 18000000 19000000 (Some 0) (Some 0) false DidNothing (Some 0) None None
    ∷ line 0 19000000 20000000 (Some 0) (Some 0) false DidNothing None None None
    ∷ []
entries = refl

upgraded_entries : fixed_run (upgraded scenario) 1000 ≡
    line 0 0 0 None None false DidNothing (Some 1) None None
    ∷ line 0 0 1000000 (Some 1) (Some 1) true DidNothing (Some 1) None None
    ∷ line 0 1000000 2000000 (Some 1) (Some 1) true DidNothing (Some 0) None None
    ∷ line 0 2000000 3000000 (Some 0) (Some 0) false DidNothing (Some 0) None None
    ∷ line 0 3000000 4000000 (Some 0) (Some 0) false DidNothing (Some 0) None None
    ∷ line 0 4000000 5000000 (Some 0) (Some 0) false DidNothing (Some 0) None None
    ∷ line 0 5000000 6000000 (Some 0) (Some 0) false DidNothing (Some 0) None None
    ∷ line 0 6000000 7000000 (Some 0) (Some 0) false DidNothing (Some 0) None None
    ∷ line 0 7000000 8000000 (Some 0) (Some 0) false DidNothing (Some 0) None None
    ∷ line 0 8000000 9000000 (Some 0) (Some 0) false DidNothing (Some 0) None None
    ∷ line 0 9000000 10000000 (Some 0) (Some 0) false DidNothing (Some 1) None None
    ∷ line 0 10000000 11000000 (Some 1) (Some 1) true DidNothing (Some 1) None None
    ∷ line 0 11000000 12000000 (Some 1) (Some 1) true DidNothing (Some 0) None None
    ∷ line 0 12000000 13000000 (Some 0) (Some 0) false DidNothing (Some 0) None None
    ∷ line 0 13000000 14000000 (Some 0) (Some 0) false DidNothing (Some 0) None None
    ∷ line 0 14000000 15000000 (Some 0) (Some 0) false DidNothing (Some 0) None None
    ∷ line 0 15000000 16000000 (Some 0) (Some 0) false DidNothing (Some 0) None None
    ∷ line 0 16000000 17000000 (Some 0) (Some 0) false DidNothing (Some 0) None None
    ∷ line 0 17000000 18000000 (Some 0) (Some 0) false DidNothing (Some 0) None None
    ∷ line 0 18000000 19000000 (Some 0) (Some 0) false DidNothing (Some 0) None None
    ∷ line 0 19000000 20000000 (Some 0) (Some 0) false DidNothing None None None
    ∷ []
upgraded_entries = refl

summary : run_summary scenario 1000 ≡
    codes "aps summary 1\n"
    ++ codes "end horizon\n"
    ++ codes "shape cpus 1 tick 1000000 window 10 ticks 20\n"
    ++ codes "entries 21\n"
    ++ codes "partition 0 System budget 100 billed 16000000 critical 0\n"
    ++ codes "partition 1 A budget 0 billed 4000000 critical 4000000\n"
    ++ codes "idle 0\n"
    ++ codes "thread 0 s ran 16000000\n"
    ++ codes "thread 1 k ran 4000000\n"
    ++ codes "loaded 0\n"
    ++ codes "over 2000000 partition 1 window 0\n"
    ++ codes "short 2000000 partition 0 window 0\n"
    ++ codes "overcritical 0 partition 0 window 0\n"
unfolding run_summary digits
summary = refl

windows : run_windows scenario 1000 ≡
    codes "aps windows 1\n"
    ++ codes "end horizon\n"
    ++ codes "window 0 8000000 2000000\n"
    ++ codes "window 10 8000000 2000000\n"
unfolding run_windows digits
windows = refl
