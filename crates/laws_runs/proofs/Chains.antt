-- The triples of a legal history are made so that each leads to an older one.
use Rattle.std.proofs.Common.{◌≡◌, ℕ, zero, suc, List, [], ◌∷◌, map, refl, ◌∙◌, slice_index_or}
use Rattle.aps_model.specs.declared.state.ThreadNow.{ThreadNow}
use Rattle.aps_model.specs.declared.entry.Entry.{Entry}
use Rattle.aps_model.specs.declared.entry.Order.{Order}
use Rattle.aps_model.proofs.InheritLaws.{inherited-server, inherited-own}
use Rattle.laws_runs.specs.Waits.{IsWaiting, state_at}
use Rattle.laws_runs.specs.Chains.{IsChained}
use Rattle.laws_runs.proofs.Sound.{sound}
use Rattle.aps_model.specs.After.{state_after}
use Rattle.aps_model.specs.Inherit.{inheritance_of}
use Rattle.aps_model.specs.Legal.{IsLegal}
use Rattle.aps_model.specs.Scenario.{Scenario}
use Rattle.aps_model.specs.SchedulerState.{SchedulerState, channel_at, no_facts, no_thread}
use Rattle.aps_model.specs.Valid.{IsScenario}

pub own_at : (threads : List ThreadNow) (x : ℕ) → slice_index_or (map (λ (t : ThreadNow). t.own) threads) x no_facts ≡ (slice_index_or threads x no_thread).own
own_at [] x = refl
own_at (t ∷ ts) zero = refl
own_at (t ∷ ts) (suc x) = own_at ts x

pub chained : (s : SchedulerState) → IsWaiting (state_at s) (channel_at s) s.triples → IsChained s
chained s w = record {
  step = λ x t e. inherited-server (inheritance_of s) x t w.made e;
  end = λ x e. inherited-own (inheritance_of s) x e ∙ own_at s.threads x;
}

pub chains_law : (scenario : Scenario) (order : Order) (h : List Entry) → IsScenario scenario → IsLegal scenario order h → IsChained (state_after scenario h)
chains_law scenario order h r legal = chained (state_after scenario h) (sound scenario order r h legal).grounded.plain.waiting
