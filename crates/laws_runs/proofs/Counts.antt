-- The sizes of a legal history are the scenario's, and no thread runs twice.
use Rattle.std.proofs.Common.{◌≡◌, ℕ, List, length, sym, ◌∙◌, ap}
use Rattle.aps_model.specs.declared.entry.Entry.{Entry}
use Rattle.aps_model.specs.declared.entry.Order.{Order}
use Rattle.aps_model.specs.declared.state.State.TheVariants.{Running}
use Rattle.laws_runs.specs.Counts.{IsCounted, NoneShared}
use Rattle.laws_runs.specs.Sound.{IsSound}
use Rattle.laws_runs.specs.Untouched.{AgreesOnRunning}
use Rattle.laws_runs.specs.Waits.{state_at}
use Rattle.laws_runs.proofs.Carry.{carried}
use Rattle.laws_runs.proofs.Sound.{running_on, sound_opening, sound_step, sound_step_of}
use Rattle.laws_runs.proofs.ThreadFit.{start_count}
use Rattle.aps_model.specs.After.{state_after}
use Rattle.aps_model.specs.Legal.{IsLegal}
use Rattle.aps_model.specs.Scenario.{Scenario}
use Rattle.aps_model.specs.SchedulerState.{SchedulerState}
use Rattle.aps_model.specs.Valid.{IsScenario}

pub counts_law : (scenario : Scenario) (order : Order) (h : List Entry) → IsScenario scenario → IsLegal scenario order h → IsCounted scenario (state_after scenario h)
counts_law scenario order h r legal =
    let m = carried scenario order (λ h a. IsSound scenario a.state h × (length a.state.threads ≡ length scenario.threads)) (sound_opening scenario, start_count scenario.shape scenario.threads 0 0)
    (λ h a c m run turn. (sound_step scenario order a.state h c r m.0 (running_on a h run).early turn, (sound_step_of scenario order a.state h c r m.0 turn).count ∙ m.1)) h legal in
    let g = m.0.grounded in
    record { threads = m.1; cpus = g.cpu_count ∙ g.sizes.cpus; channels = g.plain.channels; sizes = g.sizes }

pub none_shared : (s : SchedulerState) → AgreesOnRunning s → NoneShared s
none_shared s k c d p q a b same = same_cpu (sym (k.runs c p a) ∙ ap (state_at s) same ∙ k.runs d q b)
  where
    same_cpu : {m n : ℕ} → Running m ≡ Running n → m ≡ n
    same_cpu e = cc
