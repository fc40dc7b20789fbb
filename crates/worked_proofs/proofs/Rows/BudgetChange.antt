use lib.Chars.{codes}
use Rattle.std.proofs.Common.{◌≡◌, [], ◌∷◌, ◌++◌, refl, Some, None, false}
use Rattle.std.specs.Fmt.{digits}
use Rattle.aps_model.specs.declared.command.Call.TheVariants.{Modify}
use Rattle.aps_model.specs.declared.entry.Done.TheVariants.{Nothing as DidNothing}
use Rattle.aps_model.specs.declared.program.Op.TheVariants.{Forever}
use Rattle.aps_model.specs.declared.scenario.Policy.TheVariants.{Fifo}
use Rattle.aps_model.specs.declared.shape.Bankruptcy.TheVariants.{Basic}
use Rattle.aps_model.specs.declared.shape.Free.TheVariants.{Priority as ByPriority}
use Rattle.aps_model.specs.Scenario.{Scenario}
use Rattle.aps_model.specs.Legal.{fixed_run}
use Rattle.aps_model.specs.Upgrade.{upgraded}
use Rattle.worked_proofs.proofs.Line.{line, run_summary, run_windows}

abbrev pub scenario : Scenario
scenario = record {
  shape = record { parts = 100; cpus = 1; tick = 1000000; window = 10; ticks = 60; call_ns = 1000; free = ByPriority; limit = false; bankruptcy = Basic };
  partitions =
      record { name = codes "System"; parent = 0; budget = 50; critical = 0; max = 100 }
      ∷ record { name = codes "A"; parent = 0; budget = 50; critical = 0; max = 100 }
      ∷ [];
  channels = [];
  threads =
      record { name = codes "s"; partition = 0; priority = 10; policy = Fifo; critical = false; program = Forever ∷ [] }
      ∷ record { name = codes "a"; partition = 1; priority = 10; policy = Fifo; critical = false; program = Forever ∷ [] }
      ∷ [];
  commands =
      record { tick = 30; call = Modify (codes "A") (Some 30) None None }
      ∷ [];
}

entries : fixed_run scenario 1000 ≡
    line 0 0 0 None None false DidNothing (Some 0) None None
    ∷ line 0 0 1000000 (Some 0) (Some 0) false DidNothing (Some 1) None None
    ∷ line 0 1000000 2000000 (Some 1) (Some 1) false DidNothing (Some 0) None None
    ∷ line 0 2000000 3000000 (Some 0) (Some 0) false DidNothing (Some 1) None None
    ∷ line 0 3000000 4000000 (Some 1) (Some 1) false DidNothing (Some 0) None None
    ∷ line 0 4000000 5000000 (Some 0) (Some 0) false DidNothing (Some 1) None None
    ∷ line 0 5000000 6000000 (Some 1) (Some 1) false DidNothing (Some 0) None None
    ∷ line 0 6000000 7000000 (Some 0) (Some 0) false DidNothing (Some 1) None None
    ∷ line 0 7000000 8000000 (Some 1) (Some 1) false DidNothing (Some 0) None None
    ∷ line 0 8000000 9000000 (Some 0) (Some 0) false DidNothing (Some 1) None None
    ∷ line 0 9000000 10000000 (Some 1) (Some 1) false DidNothing (Some 0) None None
    ∷ line 0 10000000 11000000 (Some 0) (Some 0) false DidNothing (Some 1) None None
    ∷ line 0 11000000 12000000 (Some 1) (Some 1) false DidNothing (Some 0) None None
    ∷ line 0 12000000 13000000 (Some 0) (Some 0) false DidNothing (Some 1) None None
    ∷ line 0 13000000 14000000 (Some 1) (Some 1) false DidNothing (Some 0) None None
    ∷ line 0 14000000 15000000 (Some 0) (Some 0) false DidNothing (Some 1) None None
    ∷ line 0 15000000 16000000 (Some 1) (Some 1) false DidNothing (Some 0) None None
    ∷ line 0 16000000 17000000 (Some 0) (Some 0) false DidNothing (Some 1) None None
    ∷ line 0 17000000 18000000 (Some 1) (Some 1) false DidNothing (Some 0) None None
    ∷ line 0 18000000 19000000 (Some 0) (Some 0) false DidNothing (Some 1) None None
    ∷ line 0 19000000 20000000 (Some 1) (Some 1) false DidNothing (Some 0) None None
    ∷ line 0 20000000 21000000 (Some 0) (Some 0) false DidNothing (Some 1) None None
    ∷ line 0 21000000 22000000 (Some 1) (Some 1) false DidNothing (Some 0) None None
    ∷ line 0 22000000 23000000 (Some 0) (Some 0) false DidNothing (Some 1) None None
    ∷ line 0 23000000 24000000 (Some 1) (Some 1) false DidNothing (Some 0) None None
    ∷ line 0 24000000 25000000 (Some 0) (Some 0) false DidNothing (Some 1) None None
    ∷ line 0 25000000 26000000 (Some 1) (Some 1) false DidNothing (Some 0) None None
    ∷ line 0 26000000 27000000 (Some 0) (Some 0) false DidNothing (Some 1) None None
    ∷ line 0 27000000 28000000 (Some 1) (Some 1) false DidNothing (Some 0) None None
    ∷ line 0 28000000 29000000 (Some 0) (Some 0) false DidNothing (Some 1) None None
    ∷ line 0 29000000 30000000 (Some 1) (Some 1) false DidNothing (Some 0) None None
    ∷ line 0 30000000 31000000 (Some 0) (Some 0) false DidNothing (Some 0) None None
    ∷ line 0 31000000 32000000 (Some 0) (Some 0) false DidNothing (Some 0) None None
    ∷ line 0 32000000 33000000 (Some 0) (Some 0) false DidNothing (Some 0) None None
    ∷ line 0 33000000 34000000 (Some 0) (Some 0) false DidNothing (Some 0) None None
    ∷ line 0 34000000 35000000 (Some 0) (Some 0) false DidNothing (Some 1) None None
    ∷ line 0 35000000 36000000 (Some 1) (Some 1) false DidNothing (Some 0) None None
    ∷ line 0 36000000 37000000 (Some 0) (Some 0) false DidNothing (Some 1) None None
    ∷ line 0 37000000 38000000 (Some 1) (Some 1) false DidNothing (Some 0) None None
    ∷ line 0 38000000 39000000 (Some 0) (Some 0) false DidNothing (Some 1) None None
    ∷ line 0 39000000 40000000 (Some 1) (Some 1) false DidNothing (Some 0) None None
    ∷ line 0 40000000 41000000 (Some 0) (Some 0) false DidNothing (Some 0) None None
    ∷ line 0 41000000 42000000 (Some 0) (Some 0) false DidNothing (Some 0) None None
    ∷ line 0 42000000 43000000 (Some 0) (Some 0) false DidNothing (Some 0) None None
    ∷ line 0 43000000 44000000 (Some 0) (Some 0) false DidNothing (Some 0) None None
    ∷ line 0 44000000 45000000 (Some 0) (Some 0) false DidNothing (Some 1) None None
    ∷ line 0 45000000 46000000 (Some 1) (Some 1) false DidNothing (Some 0) None None
    ∷ line 0 46000000 47000000 (Some 0) (Some 0) false DidNothing (Some 1) None None
    ∷ line 0 47000000 48000000 (Some 1) (Some 1) false DidNothing (Some 0) None None
    ∷ line 0 48000000 49000000 (Some 0) (Some 0) false DidNothing (Some 1) None None
    ∷ line 0 49000000 50000000 (Some 1) (Some 1) false DidNothing (Some 0) None None
    ∷ line 0 50000000 51000000 (Some 0) (Some 0) false DidNothing (Some 0) None None
    ∷ line 0 51000000 52000000 (Some 0) (Some 0) false DidNothing (Some 0) None None
    ∷ line 0 52000000 53000000 (Some 0) (Some 0) false DidNothing (Some 0) None None
    ∷ line 0 53000000 54000000 (Some 0) (Some 0) false DidNothing (Some 0) None None
    ∷ line 0 54000000 55000000 (Some 0) (Some 0) false DidNothing (Some 1) None None
    ∷ line 0 55000000 56000000 (Some 1) (Some 1) false DidNothing (Some 0) None None
    ∷ line 0 56000000 57000000 (Some 0) (Some 0) false DidNothing (Some 1) None None
    ∷ line 0 57000000 58000000 (Some 1) (Some 1) false DidNothing (Some 0) None None
    ∷ line 0 58000000 59000000 (Some 0) (Some 0) false DidNothing (Some 1) None None
    ∷ line 0 59000000 60000000 (Some 1) (Some 1) false DidNothing None None None
    ∷ []
entries = refl

upgraded_entries : fixed_run (upgraded scenario) 1000 ≡
    line 0 0 0 None None false DidNothing (Some 0) None None
    ∷ line 0 0 1000000 (Some 0) (Some 0) false DidNothing (Some 1) None None
    ∷ line 0 1000000 2000000 (Some 1) (Some 1) false DidNothing (Some 0) None None
    ∷ line 0 2000000 3000000 (Some 0) (Some 0) false DidNothing (Some 1) None None
    ∷ line 0 3000000 4000000 (Some 1) (Some 1) false DidNothing (Some 0) None None
    ∷ line 0 4000000 5000000 (Some 0) (Some 0) false DidNothing (Some 1) None None
    ∷ line 0 5000000 6000000 (Some 1) (Some 1) false DidNothing (Some 0) None None
    ∷ line 0 6000000 7000000 (Some 0) (Some 0) false DidNothing (Some 1) None None
    ∷ line 0 7000000 8000000 (Some 1) (Some 1) false DidNothing (Some 0) None None
    ∷ line 0 8000000 9000000 (Some 0) (Some 0) false DidNothing (Some 1) None None
    ∷ line 0 9000000 10000000 (Some 1) (Some 1) false DidNothing (Some 0) None None
    ∷ line 0 10000000 11000000 (Some 0) (Some 0) false DidNothing (Some 1) None None
    ∷ line 0 11000000 12000000 (Some 1) (Some 1) false DidNothing (Some 0) None None
    ∷ line 0 12000000 13000000 (Some 0) (Some 0) false DidNothing (Some 1) None None
    ∷ line 0 13000000 14000000 (Some 1) (Some 1) false DidNothing (Some 0) None None
    ∷ line 0 14000000 15000000 (Some 0) (Some 0) false DidNothing (Some 1) None None
    ∷ line 0 15000000 16000000 (Some 1) (Some 1) false DidNothing (Some 0) None None
    ∷ line 0 16000000 17000000 (Some 0) (Some 0) false DidNothing (Some 1) None None
    ∷ line 0 17000000 18000000 (Some 1) (Some 1) false DidNothing (Some 0) None None
    ∷ line 0 18000000 19000000 (Some 0) (Some 0) false DidNothing (Some 1) None None
    ∷ line 0 19000000 20000000 (Some 1) (Some 1) false DidNothing (Some 0) None None
    ∷ line 0 20000000 21000000 (Some 0) (Some 0) false DidNothing (Some 1) None None
    ∷ line 0 21000000 22000000 (Some 1) (Some 1) false DidNothing (Some 0) None None
    ∷ line 0 22000000 23000000 (Some 0) (Some 0) false DidNothing (Some 1) None None
    ∷ line 0 23000000 24000000 (Some 1) (Some 1) false DidNothing (Some 0) None None
    ∷ line 0 24000000 25000000 (Some 0) (Some 0) false DidNothing (Some 1) None None
    ∷ line 0 25000000 26000000 (Some 1) (Some 1) false DidNothing (Some 0) None None
    ∷ line 0 26000000 27000000 (Some 0) (Some 0) false DidNothing (Some 1) None None
    ∷ line 0 27000000 28000000 (Some 1) (Some 1) false DidNothing (Some 0) None None
    ∷ line 0 28000000 29000000 (Some 0) (Some 0) false DidNothing (Some 1) None None
    ∷ line 0 29000000 30000000 (Some 1) (Some 1) false DidNothing (Some 0) None None
    ∷ line 0 30000000 31000000 (Some 0) (Some 0) false DidNothing (Some 0) None None
    ∷ line 0 31000000 32000000 (Some 0) (Some 0) false DidNothing (Some 0) None None
    ∷ line 0 32000000 33000000 (Some 0) (Some 0) false DidNothing (Some 0) None None
    ∷ line 0 33000000 34000000 (Some 0) (Some 0) false DidNothing (Some 0) None None
    ∷ line 0 34000000 35000000 (Some 0) (Some 0) false DidNothing (Some 1) None None
    ∷ line 0 35000000 36000000 (Some 1) (Some 1) false DidNothing (Some 0) None None
    ∷ line 0 36000000 37000000 (Some 0) (Some 0) false DidNothing (Some 1) None None
    ∷ line 0 37000000 38000000 (Some 1) (Some 1) false DidNothing (Some 0) None None
    ∷ line 0 38000000 39000000 (Some 0) (Some 0) false DidNothing (Some 1) None None
    ∷ line 0 39000000 40000000 (Some 1) (Some 1) false DidNothing (Some 0) None None
    ∷ line 0 40000000 41000000 (Some 0) (Some 0) false DidNothing (Some 0) None None
    ∷ line 0 41000000 42000000 (Some 0) (Some 0) false DidNothing (Some 0) None None
    ∷ line 0 42000000 43000000 (Some 0) (Some 0) false DidNothing (Some 0) None None
    ∷ line 0 43000000 44000000 (Some 0) (Some 0) false DidNothing (Some 0) None None
    ∷ line 0 44000000 45000000 (Some 0) (Some 0) false DidNothing (Some 1) None None
    ∷ line 0 45000000 46000000 (Some 1) (Some 1) false DidNothing (Some 0) None None
    ∷ line 0 46000000 47000000 (Some 0) (Some 0) false DidNothing (Some 1) None None
    ∷ line 0 47000000 48000000 (Some 1) (Some 1) false DidNothing (Some 0) None None
    ∷ line 0 48000000 49000000 (Some 0) (Some 0) false DidNothing (Some 1) None None
    ∷ line 0 49000000 50000000 (Some 1) (Some 1) false DidNothing (Some 0) None None
    ∷ line 0 50000000 51000000 (Some 0) (Some 0) false DidNothing (Some 0) None None
    ∷ line 0 51000000 52000000 (Some 0) (Some 0) false DidNothing (Some 0) None None
    ∷ line 0 52000000 53000000 (Some 0) (Some 0) false DidNothing (Some 0) None None
    ∷ line 0 53000000 54000000 (Some 0) (Some 0) false DidNothing (Some 0) None None
    ∷ line 0 54000000 55000000 (Some 0) (Some 0) false DidNothing (Some 1) None None
    ∷ line 0 55000000 56000000 (Some 1) (Some 1) false DidNothing (Some 0) None None
    ∷ line 0 56000000 57000000 (Some 0) (Some 0) false DidNothing (Some 1) None None
    ∷ line 0 57000000 58000000 (Some 1) (Some 1) false DidNothing (Some 0) None None
    ∷ line 0 58000000 59000000 (Some 0) (Some 0) false DidNothing (Some 1) None None
    ∷ line 0 59000000 60000000 (Some 1) (Some 1) false DidNothing None None None
    ∷ []
upgraded_entries = refl

summary : run_summary scenario 1000 ≡
    codes "aps summary 1\n"
    ++ codes "end horizon\n"
    ++ codes "shape cpus 1 tick 1000000 window 10 ticks 60\n"
    ++ codes "entries 61\n"
    ++ codes "partition 0 System budget 70 billed 36000000 critical 0\n"
    ++ codes "partition 1 A budget 30 billed 24000000 critical 0\n"
    ++ codes "idle 0\n"
    ++ codes "thread 0 s ran 36000000\n"
    ++ codes "thread 1 a ran 24000000\n"
    ++ codes "loaded 31\n"
    ++ codes "over 0 partition 0 window 31\n"
    ++ codes "short 0 partition 0 window 31\n"
    ++ codes "overcritical 0 partition 0 window 31\n"
    ++ codes "reply 0 modified\n"
unfolding run_summary digits
summary = refl

windows : run_windows scenario 1000 ≡
    codes "aps windows 1\n"
    ++ codes "end horizon\n"
    ++ codes "window 0 5000000 5000000\n"
    ++ codes "window 10 5000000 5000000\n"
    ++ codes "window 20 5000000 5000000\n"
    ++ codes "window 30 7000000 3000000\n"
    ++ codes "window 40 7000000 3000000\n"
    ++ codes "window 50 7000000 3000000\n"
unfolding run_windows digits
windows = refl
