use lib.Chars.{codes}
use Rattle.std.proofs.Common.{◌≡◌, [], ◌∷◌, ◌++◌, refl, Some, None, false}
use Rattle.std.specs.Fmt.{digits}
use Rattle.aps_model.specs.declared.entry.Done.TheVariants.{Nothing as DidNothing}
use Rattle.aps_model.specs.declared.program.Op.TheVariants.{Forever}
use Rattle.aps_model.specs.declared.scenario.Policy.TheVariants.{Fifo}
use Rattle.aps_model.specs.declared.shape.Bankruptcy.TheVariants.{Basic}
use Rattle.aps_model.specs.declared.shape.Free.TheVariants.{Priority as ByPriority}
use Rattle.aps_model.specs.Scenario.{Scenario}
use Rattle.aps_model.specs.Legal.{fixed_run}
use Rattle.worked_proofs.proofs.Line.{line, run_summary, run_windows}

abbrev pub scenario : Scenario
scenario = record {
  shape = record { parts = 100; cpus = 16; tick = 10000000; window = 400; ticks = 2; call_ns = 1000; free = ByPriority; limit = false; bankruptcy = Basic };
  partitions =
      record { name = codes "System"; parent = 0; budget = 69; critical = 0; max = 100 }
      ∷ record { name = codes "P1"; parent = 0; budget = 1; critical = 0; max = 100 }
      ∷ record { name = codes "P2"; parent = 0; budget = 1; critical = 0; max = 100 }
      ∷ record { name = codes "P3"; parent = 0; budget = 1; critical = 0; max = 100 }
      ∷ record { name = codes "P4"; parent = 0; budget = 1; critical = 0; max = 100 }
      ∷ record { name = codes "P5"; parent = 0; budget = 1; critical = 0; max = 100 }
      ∷ record { name = codes "P6"; parent = 0; budget = 1; critical = 0; max = 100 }
      ∷ record { name = codes "P7"; parent = 0; budget = 1; critical = 0; max = 100 }
      ∷ record { name = codes "P8"; parent = 0; budget = 1; critical = 0; max = 100 }
      ∷ record { name = codes "P9"; parent = 0; budget = 1; critical = 0; max = 100 }
      ∷ record { name = codes "P10"; parent = 0; budget = 1; critical = 0; max = 100 }
      ∷ record { name = codes "P11"; parent = 0; budget = 1; critical = 0; max = 100 }
      ∷ record { name = codes "P12"; parent = 0; budget = 1; critical = 0; max = 100 }
      ∷ record { name = codes "P13"; parent = 0; budget = 1; critical = 0; max = 100 }
      ∷ record { name = codes "P14"; parent = 0; budget = 1; critical = 0; max = 100 }
      ∷ record { name = codes "P15"; parent = 0; budget = 1; critical = 0; max = 100 }
      ∷ record { name = codes "P16"; parent = 0; budget = 1; critical = 0; max = 100 }
      ∷ record { name = codes "P17"; parent = 0; budget = 1; critical = 0; max = 100 }
      ∷ record { name = codes "P18"; parent = 0; budget = 1; critical = 0; max = 100 }
      ∷ record { name = codes "P19"; parent = 0; budget = 1; critical = 0; max = 100 }
      ∷ record { name = codes "P20"; parent = 0; budget = 1; critical = 0; max = 100 }
      ∷ record { name = codes "P21"; parent = 0; budget = 1; critical = 0; max = 100 }
      ∷ record { name = codes "P22"; parent = 0; budget = 1; critical = 0; max = 100 }
      ∷ record { name = codes "P23"; parent = 0; budget = 1; critical = 0; max = 100 }
      ∷ record { name = codes "P24"; parent = 0; budget = 1; critical = 0; max = 100 }
      ∷ record { name = codes "P25"; parent = 0; budget = 1; critical = 0; max = 100 }
      ∷ record { name = codes "P26"; parent = 0; budget = 1; critical = 0; max = 100 }
      ∷ record { name = codes "P27"; parent = 0; budget = 1; critical = 0; max = 100 }
      ∷ record { name = codes "P28"; parent = 0; budget = 1; critical = 0; max = 100 }
      ∷ record { name = codes "P29"; parent = 0; budget = 1; critical = 0; max = 100 }
      ∷ record { name = codes "P30"; parent = 0; budget = 1; critical = 0; max = 100 }
      ∷ record { name = codes "P31"; parent = 0; budget = 1; critical = 0; max = 100 }
      ∷ [];
  channels = [];
  threads =
      record { name = codes "t0"; partition = 0; priority = 10; policy = Fifo; critical = false; program = Forever ∷ [] }
      ∷ record { name = codes "t1"; partition = 1; priority = 10; policy = Fifo; critical = false; program = Forever ∷ [] }
      ∷ record { name = codes "t2"; partition = 2; priority = 10; policy = Fifo; critical = false; program = Forever ∷ [] }
      ∷ record { name = codes "t3"; partition = 3; priority = 10; policy = Fifo; critical = false; program = Forever ∷ [] }
      ∷ record { name = codes "t4"; partition = 4; priority = 10; policy = Fifo; critical = false; program = Forever ∷ [] }
      ∷ record { name = codes "t5"; partition = 5; priority = 10; policy = Fifo; critical = false; program = Forever ∷ [] }
      ∷ record { name = codes "t6"; partition = 6; priority = 10; policy = Fifo; critical = false; program = Forever ∷ [] }
      ∷ record { name = codes "t7"; partition = 7; priority = 10; policy = Fifo; critical = false; program = Forever ∷ [] }
      ∷ record { name = codes "t8"; partition = 8; priority = 10; policy = Fifo; critical = false; program = Forever ∷ [] }
      ∷ record { name = codes "t9"; partition = 9; priority = 10; policy = Fifo; critical = false; program = Forever ∷ [] }
      ∷ record { name = codes "t10"; partition = 10; priority = 10; policy = Fifo; critical = false; program = Forever ∷ [] }
      ∷ record { name = codes "t11"; partition = 11; priority = 10; policy = Fifo; critical = false; program = Forever ∷ [] }
      ∷ record { name = codes "t12"; partition = 12; priority = 10; policy = Fifo; critical = false; program = Forever ∷ [] }
      ∷ record { name = codes "t13"; partition = 13; priority = 10; policy = Fifo; critical = false; program = Forever ∷ [] }
      ∷ record { name = codes "t14"; partition = 14; priority = 10; policy = Fifo; critical = false; program = Forever ∷ [] }
      ∷ record { name = codes "t15"; partition = 15; priority = 10; policy = Fifo; critical = false; program = Forever ∷ [] }
      ∷ record { name = codes "t16"; partition = 16; priority = 10; policy = Fifo; critical = false; program = Forever ∷ [] }
      ∷ record { name = codes "t17"; partition = 17; priority = 10; policy = Fifo; critical = false; program = Forever ∷ [] }
      ∷ record { name = codes "t18"; partition = 18; priority = 10; policy = Fifo; critical = false; program = Forever ∷ [] }
      ∷ record { name = codes "t19"; partition = 19; priority = 10; policy = Fifo; critical = false; program = Forever ∷ [] }
      ∷ record { name = codes "t20"; partition = 20; priority = 10; policy = Fifo; critical = false; program = Forever ∷ [] }
      ∷ record { name = codes "t21"; partition = 21; priority = 10; policy = Fifo; critical = false; program = Forever ∷ [] }
      ∷ record { name = codes "t22"; partition = 22; priority = 10; policy = Fifo; critical = false; program = Forever ∷ [] }
      ∷ record { name = codes "t23"; partition = 23; priority = 10; policy = Fifo; critical = false; program = Forever ∷ [] }
      ∷ record { name = codes "t24"; partition = 24; priority = 10; policy = Fifo; critical = false; program = Forever ∷ [] }
      ∷ record { name = codes "t25"; partition = 25; priority = 10; policy = Fifo; critical = false; program = Forever ∷ [] }
      ∷ record { name = codes "t26"; partition = 26; priority = 10; policy = Fifo; critical = false; program = Forever ∷ [] }
      ∷ record { name = codes "t27"; partition = 27; priority = 10; policy = Fifo; critical = false; program = Forever ∷ [] }
      ∷ record { name = codes "t28"; partition = 28; priority = 10; policy = Fifo; critical = false; program = Forever ∷ [] }
      ∷ record { name = codes "t29"; partition = 29; priority = 10; policy = Fifo; critical = false; program = Forever ∷ [] }
      ∷ record { name = codes "t30"; partition = 30; priority = 10; policy = Fifo; critical = false; program = Forever ∷ [] }
      ∷ record { name = codes "t31"; partition = 31; priority = 10; policy = Fifo; critical = false; program = Forever ∷ [] }
      ∷ [];
  commands = [];
}

entries : fixed_run scenario 1000 ≡
    line 0 0 0 None None false DidNothing (Some 0) None None
    ∷ line 1 0 0 None None false DidNothing (Some 1) (Some 0) None
    ∷ line 2 0 0 None None false DidNothing (Some 2) (Some 0) None
    ∷ line 3 0 0 None None false DidNothing (Some 3) (Some 0) None
    ∷ line 4 0 0 None None false DidNothing (Some 4) (Some 0) None
    ∷ line 5 0 0 None None false DidNothing (Some 5) (Some 0) None
    ∷ line 6 0 0 None None false DidNothing (Some 6) (Some 0) None
    ∷ line 7 0 0 None None false DidNothing (Some 7) (Some 0) None
    ∷ line 8 0 0 None None false DidNothing (Some 8) (Some 0) None
    ∷ line 9 0 0 None None false DidNothing (Some 9) (Some 0) None
    ∷ line 10 0 0 None None false DidNothing (Some 10) (Some 0) None
    ∷ line 11 0 0 None None false DidNothing (Some 11) (Some 0) None
    ∷ line 12 0 0 None None false DidNothing (Some 12) (Some 0) None
    ∷ line 13 0 0 None None false DidNothing (Some 13) (Some 0) None
    ∷ line 14 0 0 None None false DidNothing (Some 14) (Some 0) None
    ∷ line 15 0 0 None None false DidNothing (Some 15) (Some 0) None
    ∷ line 0 0 10000000 (Some 0) (Some 0) false DidNothing (Some 16) (Some 1) None
    ∷ line 1 0 10000000 (Some 1) (Some 1) false DidNothing (Some 17) (Some 2) None
    ∷ line 2 0 10000000 (Some 2) (Some 2) false DidNothing (Some 18) (Some 3) None
    ∷ line 3 0 10000000 (Some 3) (Some 3) false DidNothing (Some 19) (Some 4) None
    ∷ line 4 0 10000000 (Some 4) (Some 4) false DidNothing (Some 20) (Some 5) None
    ∷ line 5 0 10000000 (Some 5) (Some 5) false DidNothing (Some 21) (Some 6) None
    ∷ line 6 0 10000000 (Some 6) (Some 6) false DidNothing (Some 22) (Some 7) None
    ∷ line 7 0 10000000 (Some 7) (Some 7) false DidNothing (Some 23) (Some 8) None
    ∷ line 8 0 10000000 (Some 8) (Some 8) false DidNothing (Some 24) (Some 9) None
    ∷ line 9 0 10000000 (Some 9) (Some 9) false DidNothing (Some 25) (Some 10) None
    ∷ line 10 0 10000000 (Some 10) (Some 10) false DidNothing (Some 26) (Some 11) None
    ∷ line 11 0 10000000 (Some 11) (Some 11) false DidNothing (Some 27) (Some 12) None
    ∷ line 12 0 10000000 (Some 12) (Some 12) false DidNothing (Some 28) (Some 13) None
    ∷ line 13 0 10000000 (Some 13) (Some 13) false DidNothing (Some 29) (Some 14) None
    ∷ line 14 0 10000000 (Some 14) (Some 14) false DidNothing (Some 30) (Some 15) None
    ∷ line 15 0 10000000 (Some 15) (Some 15) false DidNothing (Some 31) (Some 16) None
    ∷ line 0 10000000 20000000 (Some 16) (Some 16) false DidNothing None None None
    ∷ line 1 10000000 20000000 (Some 17) (Some 17) false DidNothing None None None
    ∷ line 2 10000000 20000000 (Some 18) (Some 18) false DidNothing None None None
    ∷ line 3 10000000 20000000 (Some 19) (Some 19) false DidNothing None None None
    ∷ line 4 10000000 20000000 (Some 20) (Some 20) false DidNothing None None None
    ∷ line 5 10000000 20000000 (Some 21) (Some 21) false DidNothing None None None
    ∷ line 6 10000000 20000000 (Some 22) (Some 22) false DidNothing None None None
    ∷ line 7 10000000 20000000 (Some 23) (Some 23) false DidNothing None None None
    ∷ line 8 10000000 20000000 (Some 24) (Some 24) false DidNothing None None None
    ∷ line 9 10000000 20000000 (Some 25) (Some 25) false DidNothing None None None
    ∷ line 10 10000000 20000000 (Some 26) (Some 26) false DidNothing None None None
    ∷ line 11 10000000 20000000 (Some 27) (Some 27) false DidNothing None None None
    ∷ line 12 10000000 20000000 (Some 28) (Some 28) false DidNothing None None None
    ∷ line 13 10000000 20000000 (Some 29) (Some 29) false DidNothing None None None
    ∷ line 14 10000000 20000000 (Some 30) (Some 30) false DidNothing None None None
    ∷ line 15 10000000 20000000 (Some 31) (Some 31) false DidNothing None None None
    ∷ []
entries = refl

summary : run_summary scenario 1000 ≡
    codes "aps summary 1\n"
    ++ codes "end horizon\n"
    ++ codes "shape cpus 16 tick 10000000 window 400 ticks 2\n"
    ++ codes "entries 48\n"
    ++ codes "partition 0 System budget 69 billed 10000000 critical 0\n"
    ++ codes "partition 1 P1 budget 1 billed 10000000 critical 0\n"
    ++ codes "partition 2 P2 budget 1 billed 10000000 critical 0\n"
    ++ codes "partition 3 P3 budget 1 billed 10000000 critical 0\n"
    ++ codes "partition 4 P4 budget 1 billed 10000000 critical 0\n"
    ++ codes "partition 5 P5 budget 1 billed 10000000 critical 0\n"
    ++ codes "partition 6 P6 budget 1 billed 10000000 critical 0\n"
    ++ codes "partition 7 P7 budget 1 billed 10000000 critical 0\n"
    ++ codes "partition 8 P8 budget 1 billed 10000000 critical 0\n"
    ++ codes "partition 9 P9 budget 1 billed 10000000 critical 0\n"
    ++ codes "partition 10 P10 budget 1 billed 10000000 critical 0\n"
    ++ codes "partition 11 P11 budget 1 billed 10000000 critical 0\n"
    ++ codes "partition 12 P12 budget 1 billed 10000000 critical 0\n"
    ++ codes "partition 13 P13 budget 1 billed 10000000 critical 0\n"
    ++ codes "partition 14 P14 budget 1 billed 10000000 critical 0\n"
    ++ codes "partition 15 P15 budget 1 billed 10000000 critical 0\n"
    ++ codes "partition 16 P16 budget 1 billed 10000000 critical 0\n"
    ++ codes "partition 17 P17 budget 1 billed 10000000 critical 0\n"
    ++ codes "partition 18 P18 budget 1 billed 10000000 critical 0\n"
    ++ codes "partition 19 P19 budget 1 billed 10000000 critical 0\n"
    ++ codes "partition 20 P20 budget 1 billed 10000000 critical 0\n"
    ++ codes "partition 21 P21 budget 1 billed 10000000 critical 0\n"
    ++ codes "partition 22 P22 budget 1 billed 10000000 critical 0\n"
    ++ codes "partition 23 P23 budget 1 billed 10000000 critical 0\n"
    ++ codes "partition 24 P24 budget 1 billed 10000000 critical 0\n"
    ++ codes "partition 25 P25 budget 1 billed 10000000 critical 0\n"
    ++ codes "partition 26 P26 budget 1 billed 10000000 critical 0\n"
    ++ codes "partition 27 P27 budget 1 billed 10000000 critical 0\n"
    ++ codes "partition 28 P28 budget 1 billed 10000000 critical 0\n"
    ++ codes "partition 29 P29 budget 1 billed 10000000 critical 0\n"
    ++ codes "partition 30 P30 budget 1 billed 10000000 critical 0\n"
    ++ codes "partition 31 P31 budget 1 billed 10000000 critical 0\n"
    ++ codes "idle 0\n"
    ++ codes "thread 0 t0 ran 10000000\n"
    ++ codes "thread 1 t1 ran 10000000\n"
    ++ codes "thread 2 t2 ran 10000000\n"
    ++ codes "thread 3 t3 ran 10000000\n"
    ++ codes "thread 4 t4 ran 10000000\n"
    ++ codes "thread 5 t5 ran 10000000\n"
    ++ codes "thread 6 t6 ran 10000000\n"
    ++ codes "thread 7 t7 ran 10000000\n"
    ++ codes "thread 8 t8 ran 10000000\n"
    ++ codes "thread 9 t9 ran 10000000\n"
    ++ codes "thread 10 t10 ran 10000000\n"
    ++ codes "thread 11 t11 ran 10000000\n"
    ++ codes "thread 12 t12 ran 10000000\n"
    ++ codes "thread 13 t13 ran 10000000\n"
    ++ codes "thread 14 t14 ran 10000000\n"
    ++ codes "thread 15 t15 ran 10000000\n"
    ++ codes "thread 16 t16 ran 10000000\n"
    ++ codes "thread 17 t17 ran 10000000\n"
    ++ codes "thread 18 t18 ran 10000000\n"
    ++ codes "thread 19 t19 ran 10000000\n"
    ++ codes "thread 20 t20 ran 10000000\n"
    ++ codes "thread 21 t21 ran 10000000\n"
    ++ codes "thread 22 t22 ran 10000000\n"
    ++ codes "thread 23 t23 ran 10000000\n"
    ++ codes "thread 24 t24 ran 10000000\n"
    ++ codes "thread 25 t25 ran 10000000\n"
    ++ codes "thread 26 t26 ran 10000000\n"
    ++ codes "thread 27 t27 ran 10000000\n"
    ++ codes "thread 28 t28 ran 10000000\n"
    ++ codes "thread 29 t29 ran 10000000\n"
    ++ codes "thread 30 t30 ran 10000000\n"
    ++ codes "thread 31 t31 ran 10000000\n"
    ++ codes "loaded 2\n"
    ++ codes "over none\n"
    ++ codes "short none\n"
    ++ codes "overcritical none\n"
unfolding run_summary digits
summary = refl

windows : run_windows scenario 1000 ≡
    codes "aps windows 1\n"
    ++ codes "end horizon\n"
unfolding run_windows digits
windows = refl
