-- "Who has work at every pick of a window has its share in that very window." System may have 4,000,000 ns of a window of 10
-- ticks and has work throughout. In ticks 4 to 13 it gets 1,000,000, and the others' slack is 2,000,000.
use Rattle.std.proofs.Common.{◌≡◌, ◌*◌, refl}
use Rattle.aps_model.specs.After.{after}
use Rattle.aps_model.specs.Bound.{others_slack}
use Rattle.aps_model.specs.Legal.{fixed_run}
use Rattle.aps_model.specs.Loaded.{finished_ticks}
use Rattle.aps_model.specs.Shape.{whole}
use Rattle.aps_model.specs.Usage.{used}
use Rattle.worked_proofs.proofs.Rows.ShareHadBefore.{scenario}
use Rattle.worked_numbers.proofs.Works.{AlwaysWorks, always_works}

finished : finished_ticks scenario.shape (fixed_run scenario 1000) ≡ 20
finished = refl

allowance : 40 * whole scenario.shape ≡ 100 * 4000000
allowance = refl

little : used 1000000 (fixed_run scenario 1000) 0 4 14 ≡ 1000000
little = refl

slack : others_slack scenario.shape scenario.partitions (fixed_run scenario 1000) 4 0 ≡ 2000000
slack = refl

always : AlwaysWorks scenario (fixed_run scenario 1000) 0 4 14
unfolding after
always = always_works scenario 0 4 14 (fixed_run scenario 1000) refl

-- in the ticks before, it had its share
before : used 1000000 (fixed_run scenario 1000) 0 0 4 ≡ 4000000
before = refl
