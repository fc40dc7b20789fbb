-- The pick of a step, by what the code's parts compute.
use Rattle.std.proofs.Common.{◌≡◌, ℕ, ◌/◌, ◌++◌, List, [], ◌∷◌, refl, Option, None}
use Rattle.std.specs.Option.{option_map}
use Rattle.aps_model.specs.declared.entry.Entry.{Entry}
use Rattle.aps_model.specs.declared.merit.Contender.{Contender}
use Rattle.aps_model.specs.declared.merit.PartFacts.{PartFacts}
use Rattle.aps_model.specs.Budget.{all_parts}
use Rattle.aps_model.specs.Flag.{flag_for, with_flag}
use Rattle.aps_model.specs.Pick.{contenders, greatest, missing}
use Rattle.aps_model.specs.SchedulerState.{SchedulerState}
use Rattle.aps_model.specs.Step.{chosen, pick}

pub pick_by_parts : (s : SchedulerState) (h : List Entry) (c now : ℕ) (e : Entry)
    (parts : List PartFacts) (starved : Option ℕ) (best : Option Contender) (picked : Option ℕ) (s1 : SchedulerState) (left : Option Contender) (other : Option ℕ) (s2 : SchedulerState)
    → parts ≡ all_parts s.shape s.rows (h ++ e ∷ []) (now / s.shape.tick)
    → starved ≡ missing parts (contenders s)
    → best ≡ greatest s.shape.free parts (contenders s)
    → picked ≡ option_map (λ (b : Contender). b.thread) best
    → s1 ≡ chosen s parts c best
    → left ≡ greatest s.shape.free parts (contenders s1)
    → other ≡ flag_for s1 h parts c now left
    → s2 ≡ with_flag s1 now other
    → pick s h c now e ≡ record { entry = record e { picked = picked; starved = starved; flagged = other }; state = s2; reboot = None }
pick_by_parts s h c now e parts starved best picked s1 left other s2 e1 e2 e3 e4 e5 e6 e7 e8 =
    rw (e8, e7, e6, e5, e4, e3, e2, e1) refl
