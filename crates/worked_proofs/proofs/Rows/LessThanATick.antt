use lib.Chars.{codes}
use Rattle.std.proofs.Common.{◌≡◌, [], ◌∷◌, ◌++◌, refl, Some, None, false}
use Rattle.std.specs.Fmt.{digits}
use Rattle.aps_model.specs.declared.entry.Done.TheVariants.{Nothing as DidNothing}
use Rattle.aps_model.specs.declared.program.Op.TheVariants.{Forever}
use Rattle.aps_model.specs.declared.scenario.Policy.TheVariants.{Fifo}
use Rattle.aps_model.specs.declared.shape.Bankruptcy.TheVariants.{Basic}
use Rattle.aps_model.specs.declared.shape.Free.TheVariants.{Priority as ByPriority}
use Rattle.aps_model.specs.Scenario.{Scenario}
use Rattle.aps_model.specs.Legal.{fixed_run}
use Rattle.worked_proofs.proofs.Line.{line, run_summary, run_windows}

abbrev pub scenario : Scenario
scenario = record {
  shape = record { parts = 100; cpus = 1; tick = 100000; window = 8; ticks = 32; call_ns = 1000; free = ByPriority; limit = false; bankruptcy = Basic };
  partitions =
      record { name = codes "System"; parent = 0; budget = 88; critical = 0; max = 100 }
      ∷ record { name = codes "A"; parent = 0; budget = 12; critical = 0; max = 100 }
      ∷ [];
  channels = [];
  threads =
      record { name = codes "s"; partition = 0; priority = 20; policy = Fifo; critical = false; program = Forever ∷ [] }
      ∷ record { name = codes "a"; partition = 1; priority = 10; policy = Fifo; critical = false; program = Forever ∷ [] }
      ∷ [];
  commands = [];
}

entries : fixed_run scenario 1000 ≡
    line 0 0 0 None None false DidNothing (Some 0) None None
    ∷ line 0 0 100000 (Some 0) (Some 0) false DidNothing (Some 0) None None
    ∷ line 0 100000 200000 (Some 0) (Some 0) false DidNothing (Some 0) None None
    ∷ line 0 200000 300000 (Some 0) (Some 0) false DidNothing (Some 0) None None
    ∷ line 0 300000 400000 (Some 0) (Some 0) false DidNothing (Some 0) None None
    ∷ line 0 400000 500000 (Some 0) (Some 0) false DidNothing (Some 0) None None
    ∷ line 0 500000 600000 (Some 0) (Some 0) false DidNothing (Some 0) None None
    ∷ line 0 600000 700000 (Some 0) (Some 0) false DidNothing (Some 0) None None
    ∷ line 0 700000 800000 (Some 0) (Some 0) false DidNothing (Some 0) None None
    ∷ line 0 800000 900000 (Some 0) (Some 0) false DidNothing (Some 0) None None
    ∷ line 0 900000 1000000 (Some 0) (Some 0) false DidNothing (Some 0) None None
    ∷ line 0 1000000 1100000 (Some 0) (Some 0) false DidNothing (Some 0) None None
    ∷ line 0 1100000 1200000 (Some 0) (Some 0) false DidNothing (Some 0) None None
    ∷ line 0 1200000 1300000 (Some 0) (Some 0) false DidNothing (Some 0) None None
    ∷ line 0 1300000 1400000 (Some 0) (Some 0) false DidNothing (Some 0) None None
    ∷ line 0 1400000 1500000 (Some 0) (Some 0) false DidNothing (Some 0) None None
    ∷ line 0 1500000 1600000 (Some 0) (Some 0) false DidNothing (Some 0) None None
    ∷ line 0 1600000 1700000 (Some 0) (Some 0) false DidNothing (Some 0) None None
    ∷ line 0 1700000 1800000 (Some 0) (Some 0) false DidNothing (Some 0) None None
    ∷ line 0 1800000 1900000 (Some 0) (Some 0) false DidNothing (Some 0) None None
    ∷ line 0 1900000 2000000 (Some 0) (Some 0) false DidNothing (Some 0) None None
    ∷ line 0 2000000 2100000 (Some 0) (Some 0) false DidNothing (Some 0) None None
    ∷ line 0 2100000 2200000 (Some 0) (Some 0) false DidNothing (Some 0) None None
    ∷ line 0 2200000 2300000 (Some 0) (Some 0) false DidNothing (Some 0) None None
    ∷ line 0 2300000 2400000 (Some 0) (Some 0) false DidNothing (Some 0) None None
    ∷ line 0 2400000 2500000 (Some 0) (Some 0) false DidNothing (Some 0) None None
    ∷ line 0 2500000 2600000 (Some 0) (Some 0) false DidNothing (Some 0) None None
    ∷ line 0 2600000 2700000 (Some 0) (Some 0) false DidNothing (Some 0) None None
    ∷ line 0 2700000 2800000 (Some 0) (Some 0) false DidNothing (Some 0) None None
    ∷ line 0 2800000 2900000 (Some 0) (Some 0) false DidNothing (Some 0) None None
    ∷ line 0 2900000 3000000 (Some 0) (Some 0) false DidNothing (Some 0) None None
    ∷ line 0 3000000 3100000 (Some 0) (Some 0) false DidNothing (Some 0) None None
    ∷ line 0 3100000 3200000 (Some 0) (Some 0) false DidNothing None None None
    ∷ []
entries = refl

summary : run_summary scenario 1000 ≡
    codes "aps summary 1\n"
    ++ codes "end horizon\n"
    ++ codes "shape cpus 1 tick 100000 window 8 ticks 32\n"
    ++ codes "entries 33\n"
    ++ codes "partition 0 System budget 88 billed 3200000 critical 0\n"
    ++ codes "partition 1 A budget 12 billed 0 critical 0\n"
    ++ codes "idle 0\n"
    ++ codes "thread 0 s ran 3200000\n"
    ++ codes "thread 1 a ran 0\n"
    ++ codes "loaded 0\n"
    ++ codes "over 96000 partition 0 window 0\n"
    ++ codes "short 96000 partition 1 window 0\n"
    ++ codes "overcritical 0 partition 0 window 0\n"
unfolding run_summary digits
summary = refl

windows : run_windows scenario 1000 ≡
    codes "aps windows 1\n"
    ++ codes "end horizon\n"
    ++ codes "window 0 800000 0\n"
    ++ codes "window 8 800000 0\n"
    ++ codes "window 16 800000 0\n"
    ++ codes "window 24 800000 0\n"
unfolding run_windows digits
windows = refl
