use lib.Chars.{codes}
use Rattle.std.proofs.Common.{◌≡◌, [], ◌∷◌, ◌++◌, refl, Some, None, false}
use Rattle.std.specs.Fmt.{digits}
use Rattle.aps_model.specs.declared.entry.Done.TheVariants.{Nothing as DidNothing}
use Rattle.aps_model.specs.declared.program.Op.TheVariants.{Forever, Sleep}
use Rattle.aps_model.specs.declared.scenario.Policy.TheVariants.{Fifo}
use Rattle.aps_model.specs.declared.shape.Bankruptcy.TheVariants.{Basic}
use Rattle.aps_model.specs.declared.shape.Free.TheVariants.{Priority as ByPriority}
use Rattle.aps_model.specs.Scenario.{Scenario}
use Rattle.aps_model.specs.Legal.{fixed_run}
use Rattle.worked_proofs.proofs.Line.{line, run_summary, run_windows}

abbrev pub scenario : Scenario
scenario = record {
  shape = record { parts = 1000; cpus = 2; tick = 1000000; window = 8; ticks = 8; call_ns = 1000; free = ByPriority; limit = false; bankruptcy = Basic };
  partitions =
      record { name = codes "System"; parent = 0; budget = 624; critical = 0; max = 1000 }
      ∷ record { name = codes "Q1"; parent = 0; budget = 188; critical = 0; max = 1000 }
      ∷ record { name = codes "Q2"; parent = 0; budget = 188; critical = 0; max = 1000 }
      ∷ [];
  channels = [];
  threads =
      record { name = codes "x0"; partition = 1; priority = 30; policy = Fifo; critical = false; program = Forever ∷ [] }
      ∷ record { name = codes "x1"; partition = 1; priority = 30; policy = Fifo; critical = false; program = Sleep 1 ∷ Forever ∷ [] }
      ∷ record { name = codes "y0"; partition = 2; priority = 20; policy = Fifo; critical = false; program = Forever ∷ [] }
      ∷ record { name = codes "y1"; partition = 2; priority = 20; policy = Fifo; critical = false; program = Sleep 1 ∷ Forever ∷ [] }
      ∷ record { name = codes "p0"; partition = 0; priority = 10; policy = Fifo; critical = false; program = Forever ∷ [] }
      ∷ record { name = codes "p1"; partition = 0; priority = 10; policy = Fifo; critical = false; program = Forever ∷ [] }
      ∷ [];
  commands = [];
}

entries : fixed_run scenario 1000 ≡
    line 0 0 0 None None false DidNothing (Some 0) None None
    ∷ line 1 0 0 None None false DidNothing (Some 2) (Some 1) None
    ∷ line 0 0 1000000 (Some 0) (Some 1) false DidNothing (Some 0) None None
    ∷ line 1 0 1000000 (Some 2) (Some 2) false DidNothing (Some 1) None None
    ∷ line 0 1000000 2000000 (Some 0) (Some 1) false DidNothing (Some 0) None None
    ∷ line 1 1000000 2000000 (Some 1) (Some 1) false DidNothing (Some 1) None None
    ∷ line 0 2000000 3000000 (Some 0) (Some 1) false DidNothing (Some 2) None None
    ∷ line 1 2000000 3000000 (Some 1) (Some 1) false DidNothing (Some 3) None None
    ∷ line 0 3000000 4000000 (Some 2) (Some 2) false DidNothing (Some 2) None None
    ∷ line 1 3000000 4000000 (Some 3) (Some 2) false DidNothing (Some 3) None None
    ∷ line 0 4000000 5000000 (Some 2) (Some 2) false DidNothing (Some 4) None None
    ∷ line 1 4000000 5000000 (Some 3) (Some 2) false DidNothing (Some 5) None None
    ∷ line 0 5000000 6000000 (Some 4) (Some 0) false DidNothing (Some 4) None None
    ∷ line 1 5000000 6000000 (Some 5) (Some 0) false DidNothing (Some 5) None None
    ∷ line 0 6000000 7000000 (Some 4) (Some 0) false DidNothing (Some 4) None None
    ∷ line 1 6000000 7000000 (Some 5) (Some 0) false DidNothing (Some 5) None None
    ∷ line 0 7000000 8000000 (Some 4) (Some 0) false DidNothing None None None
    ∷ line 1 7000000 8000000 (Some 5) (Some 0) false DidNothing None None None
    ∷ []
entries = refl

summary : run_summary scenario 1000 ≡
    codes "aps summary 1\n"
    ++ codes "end horizon\n"
    ++ codes "shape cpus 2 tick 1000000 window 8 ticks 8\n"
    ++ codes "entries 18\n"
    ++ codes "partition 0 System budget 624 billed 6000000 critical 0\n"
    ++ codes "partition 1 Q1 budget 188 billed 5000000 critical 0\n"
    ++ codes "partition 2 Q2 budget 188 billed 5000000 critical 0\n"
    ++ codes "idle 0\n"
    ++ codes "thread 0 x0 ran 3000000\n"
    ++ codes "thread 1 x1 ran 2000000\n"
    ++ codes "thread 2 y0 ran 3000000\n"
    ++ codes "thread 3 y1 ran 2000000\n"
    ++ codes "thread 4 p0 ran 3000000\n"
    ++ codes "thread 5 p1 ran 3000000\n"
    ++ codes "loaded 1\n"
    ++ codes "over none\n"
    ++ codes "short none\n"
    ++ codes "overcritical none\n"
unfolding run_summary digits
summary = refl

windows : run_windows scenario 1000 ≡
    codes "aps windows 1\n"
    ++ codes "end horizon\n"
    ++ codes "window 0 6000000 5000000 5000000\n"
unfolding run_windows digits
windows = refl
