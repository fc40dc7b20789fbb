use lib.Chars.{codes}
use Rattle.std.proofs.Common.{arith, ◌<◌, ℕ, zero, suc, List, [], ◌∷◌, refl, inl}
use Rattle.std.specs.List.{IsDistinct}
use Rattle.std.proofs.lemmas.List.Elements.{All-from_recursion, All-nil}
use Rattle.aps_model.specs.Name.{IsName}
use Rattle.aps_model.specs.Program.{IsProgram, IsOp}
use Rattle.aps_model.specs.declared.program.Op.TheVariants.{Forever}
use Rattle.aps_model.specs.Partition.{IsFundedRow}
use Rattle.aps_model.specs.Valid.{IsScenario, IsThreadRow, IsCommand, joinable}
use Rattle.worked_proofs.proofs.Rows.TreeCommands.{scenario}

-- a worked scenario is valid, so the conditions can be met

below_two : (P : ℕ → Type 0) → P 0 → P 1 → (i : ℕ) → i < 2 → P i
below_two P p q zero h = p
below_two P p q (suc zero) h = q
below_two P p q (suc (suc i)) h = absurd (omega (arith, h))

from_one : (P : ℕ → Type 0) → P 1 → (i : ℕ) → 0 < i → i < 2 → P i
from_one P p zero h k = absurd (omega (arith, h))
from_one P p (suc zero) h k = p
from_one P p (suc (suc i)) h k = absurd (omega (arith, k))

pub tree_commands_valid : IsScenario scenario
unfolding IsDistinct
tree_commands_valid = record {
  shape = record {
    parts = inl refl;
    some_cpu = omega arith;
    few_cpus = omega arith;
    tick_long = omega arith;
    tick_short = omega arith;
    tick_whole = refl;
    window_long = omega arith;
    window_short = omega arith;
    some_tick = omega arith;
    few_ticks = omega arith;
    some_call = omega arith;
    short_call = omega arith;
  };
  tree = record {
    some = omega arith;
    few = omega arith;
    root = record { name = refl; parent = refl; critical = refl; max = refl };
    parents = from_one _ (omega arith);
    names = ((refl, tt), (tt, tt));
    funded = record {
      each = All-from_recursion (IsFundedRow 100) scenario.partitions (
        record { name = system; budget = omega arith; max = omega arith; critical = omega arith },
        (record { name = letter_a; budget = omega arith; max = omega arith; critical = omega arith }, tt),
      );
      budgets = refl;
    };
    subtrees = below_two _ (omega arith) (omega arith);
  };
  few_channels = omega arith;
  channels = All-nil IsName;
  channel_names = tt;
  few_threads = omega arith;
  threads = All-from_recursion (IsThreadRow 2 0 (joinable scenario)) scenario.threads (
    record { name = letter_s; partition = omega arith; priority = record { some = omega arith; few = omega arith }; program = endless (joinable scenario) },
    (record { name = small_a; partition = omega arith; priority = record { some = omega arith; few = omega arith }; program = endless (joinable scenario) }, tt),
  );
  thread_names = ((refl, tt), (tt, tt));
  few_commands = omega arith;
  commands = All-from_recursion (IsCommand 100 6 2) scenario.commands (
    record { tick = omega arith; call = record { named = letter_b; under = letter_a; few_parts = omega arith; short_critical = omega arith; max_parts = omega arith } },
    (
      record { tick = omega arith; call = record { named = letter_c; under = letter_a; few_parts = omega arith; short_critical = omega arith; max_parts = omega arith } },
      (
        record { tick = omega arith; call = letter_a },
        (
          record { tick = omega arith; call = record { named = letter_b; some = inl refl; few_parts = omega arith; short_critical = tt; max_parts = tt } },
          (record { tick = omega arith; call = letter_b }, tt),
        ),
      ),
    ),
  );
}
  where
    system : IsName (codes "System")
    system = record { some = omega arith; few = omega arith; bytes = refl }

    letter_a : IsName (codes "A")
    letter_a = record { some = omega arith; few = omega arith; bytes = refl }

    letter_b : IsName (codes "B")
    letter_b = record { some = omega arith; few = omega arith; bytes = refl }

    letter_c : IsName (codes "C")
    letter_c = record { some = omega arith; few = omega arith; bytes = refl }

    letter_s : IsName (codes "s")
    letter_s = record { some = omega arith; few = omega arith; bytes = refl }

    small_a : IsName (codes "a")
    small_a = record { some = omega arith; few = omega arith; bytes = refl }

    endless : (names : List (List ℕ)) → IsProgram 0 names (Forever ∷ [])
    endless names = record { each = All-from_recursion (IsOp 0 names) (Forever ∷ []) (tt, tt); few = omega arith; ends = refl }
