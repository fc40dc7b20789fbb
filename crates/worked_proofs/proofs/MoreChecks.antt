use Rattle.std.proofs.Common.{◌≡◌, true, refl}
use Rattle.aps_model.specs.After.{after}
use Rattle.aps_model.specs.Legal.{fixed_run}
use Rattle.worked_proofs.proofs.Checks.{is_tiled, is_billed_as_inherited, keeps_window_bound}
use Rattle.worked_proofs.proofs.Rows.TwoProcessors.{scenario as two_processors}
use Rattle.worked_proofs.proofs.Rows.ServerChain.{scenario as server_chain}
use Rattle.worked_proofs.proofs.Rows.BusyServerTwice.{scenario as busy_server_twice}
use Rattle.worked_proofs.proofs.Rows.BudgetChange.{scenario as budget_change}
use Rattle.worked_proofs.proofs.Rows.CriticalFunded.{scenario as critical_funded}
use Rattle.worked_proofs.proofs.Rows.Cancelled.{scenario as cancelled}
use Rattle.worked_proofs.proofs.Rows.Random297.{scenario as random_297}

-- worked runs are tiled, billed as inherited, and keep the window bound

tiled_processors : is_tiled two_processors (fixed_run two_processors 1000) ≡ true
tiled_processors = refl

tiled_chain : is_tiled server_chain (fixed_run server_chain 1000) ≡ true
tiled_chain = refl

tiled_random : is_tiled random_297 (fixed_run random_297 1000) ≡ true
tiled_random = refl

billed_processors : is_billed_as_inherited two_processors (fixed_run two_processors 1000) ≡ true
unfolding after
billed_processors = refl

billed_chain : is_billed_as_inherited server_chain (fixed_run server_chain 1000) ≡ true
unfolding after
billed_chain = refl

billed_busy : is_billed_as_inherited busy_server_twice (fixed_run busy_server_twice 1000) ≡ true
unfolding after
billed_busy = refl

bound_change : keeps_window_bound budget_change (fixed_run budget_change 1000) ≡ true
unfolding after
bound_change = refl

bound_critical : keeps_window_bound critical_funded (fixed_run critical_funded 1000) ≡ true
unfolding after
bound_critical = refl

bound_cancelled : keeps_window_bound cancelled (fixed_run cancelled 1000) ≡ true
unfolding after
bound_cancelled = refl
