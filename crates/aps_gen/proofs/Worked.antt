-- The first draws from the seed 7, worked out.
use lib.Chars.{codes}
use Rattle.std.proofs.Common.{◌≡◌, [], ◌∷◌, map, take, refl}
use Rattle.std.specs.Fmt.{digits}
use Rattle.aps_model.specs.declared.scenario.ThreadRow.{ThreadRow}
use Rattle.aps_gen.specs.Draws.{next, drawn}
use Rattle.aps_gen.specs.Generated.{generated, endless_from, generated_threads}

pub first_state : next 7 ≡ 9098160460397411210
first_state = refl

pub first_value : drawn 8 (next 7) ≡ 6
first_value = refl

pub first_names : map (λ (row : ThreadRow). row.name) (take 4 (generated 7 1 2 1).threads) ≡ codes "srv" ∷ codes "t0_0" ∷ codes "w0" ∷ codes "t1_0" ∷ []
unfolding digits endless_from generated_threads
first_names = refl

pub first_priorities : map (λ (row : ThreadRow). row.priority) (take 2 (generated 7 1 2 1).threads) ≡ 20 ∷ 14 ∷ []
unfolding endless_from generated_threads
first_priorities = refl
