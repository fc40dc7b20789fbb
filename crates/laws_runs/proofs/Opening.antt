-- The state at the start.
use Rattle.std.proofs.Common.{◌≡◌, ℕ, zero, suc, ◌+◌, List, [], ◌∷◌, map, refl, sym, ◌∙◌, ap, subst, Some, None, slice_index_or, inl, replicate}
use Rattle.std.specs.Bool.{⊤}
use Rattle.std.proofs.lemmas.List.{length-map, length-replicate}
use Rattle.aps_model.specs.declared.program.Op.{Op}
use Rattle.aps_model.specs.declared.program.Op.TheVariants.{Run, Forever, Sleep, Yield, Send, Receive, Reply, Join, Priority, CriticalOn, CriticalOff, Repeat, Exit}
use Rattle.aps_model.specs.declared.state.State.{State}
use Rattle.aps_model.specs.declared.state.State.TheVariants.{Ready, Running, Sleeping, Sending, Receiving, Replying, Gone}
use Rattle.aps_model.specs.declared.state.CpuNow.{CpuNow}
use Rattle.aps_model.specs.declared.state.Pick.{Pick}
use Rattle.aps_model.specs.declared.scenario.ThreadRow.{ThreadRow}
use Rattle.aps_model.specs.declared.shape.Shape.{Shape}
use Rattle.laws_runs.specs.Waits.{IsPlaced, state_at, times, times_sent}
use Rattle.laws_runs.specs.Moments.{IsGrounded}
use Rattle.laws_runs.proofs.Commands.{sizes_same}
use Rattle.laws_runs.proofs.WaitBears.{state_of}
use Rattle.aps_model.specs.Opening.{first_op, opening, stamp_after, start_threads}
use Rattle.aps_model.specs.Operation.{state_in}
use Rattle.aps_model.specs.Scenario.{Scenario}
use Rattle.aps_model.specs.SchedulerState.{ChannelNow, channel_at, cpu_at, idle, no_channel}
use Rattle.aps_model.specs.Usage.{names}

-- at the start a thread is ready or sleeps, and beyond the threads all are gone
abbrev pub IsFirst : State → Type 0
IsFirst Ready = ⊤
IsFirst (Running c) = ⊥
IsFirst (Sleeping until) = ⊤
IsFirst (Sending d) = ⊥
IsFirst (Receiving d) = ⊥
IsFirst (Replying x) = ⊥
IsFirst Gone = ⊤

pub first_in : (op : Op) → IsFirst (state_in op 0 Ready)
first_in (Sleep ns) = tt
first_in (Run ns) = tt
first_in Forever = tt
first_in Yield = tt
first_in (Send d) = tt
first_in (Receive d) = tt
first_in Reply = tt
first_in (Join name) = tt
first_in (Priority n) = tt
first_in CriticalOn = tt
first_in CriticalOff = tt
first_in Repeat = tt
first_in Exit = tt

pub first_states : (shape : Shape) (rows : List ThreadRow) (number next y : ℕ) → IsFirst (state_of (start_threads shape number next rows) y)
first_states shape [] number next y = tt
first_states shape (row ∷ rows) number next zero = first_in (first_op row)
first_states shape (row ∷ rows) number next (suc y) = first_states shape rows (number + 1) (stamp_after (state_in (first_op row) 0 Ready) next) y

pub empty_channel : (names : List (List ℕ)) (d : ℕ) → slice_index_or (map (λ (name : List ℕ). no_channel) names) d no_channel ≡ no_channel
empty_channel [] d = refl
empty_channel (name ∷ names) zero = refl
empty_channel (name ∷ names) (suc d) = empty_channel names d

idle_cpu : (n d : ℕ) → slice_index_or (replicate n idle) d idle ≡ idle
idle_cpu zero d = refl
idle_cpu (suc n) zero = refl
idle_cpu (suc n) (suc d) = idle_cpu n d

pub idle_opening : (scenario : Scenario) (d : ℕ) → cpu_at (opening scenario) d ≡ idle
idle_opening scenario d = idle_cpu scenario.shape.cpus d

placed_first : (st : State) (cs : ℕ → ChannelNow) (y : ℕ) → ((d : ℕ) → cs d ≡ no_channel) → IsFirst st → IsPlaced st cs [] y
placed_first Ready cs y none first = record { sends = λ d. ap (λ (c : ChannelNow). times_sent y c.messages) (none d); receives = λ d. ap (λ (c : ChannelNow). times y c.receivers) (none d); waits = λ z. refl; receiver_free = λ d e. refl; gone_free = λ e. refl }
placed_first (Sleeping until) cs y none first = record { sends = λ d. ap (λ (c : ChannelNow). times_sent y c.messages) (none d); receives = λ d. ap (λ (c : ChannelNow). times y c.receivers) (none d); waits = λ z. refl; receiver_free = λ d e. refl; gone_free = λ e. refl }
placed_first Gone cs y none first = record { sends = λ d. ap (λ (c : ChannelNow). times_sent y c.messages) (none d); receives = λ d. ap (λ (c : ChannelNow). times y c.receivers) (none d); waits = λ z. refl; receiver_free = λ d e. refl; gone_free = λ e. refl }
placed_first (Running c) cs y none first = absurd first
placed_first (Sending d) cs y none first = absurd first
placed_first (Receiving d) cs y none first = absurd first
placed_first (Replying x) cs y none first = absurd first

first_off : (st : State) (d : ℕ) → IsFirst st → st ≡ Running d → ⊥
first_off st d first e = subst IsFirst e first

pub opening_grounded : (scenario : Scenario) → IsGrounded scenario (opening scenario)
opening_grounded scenario =
    let first = first_states scenario.shape scenario.threads 0 0 in
    record {
      plain = record {
        waiting = record { at = λ y. placed_first (state_at (opening scenario) y) (channel_at (opening scenario)) y (empty_channel scenario.channels) (first y); made = tt; either = λ d. inl (ap (λ (c : ChannelNow). c.messages) (empty_channel scenario.channels d)) };
        channels = length-map scenario.channels _;
      };
      kept = record {
        runs = λ d p e. absurd (nobody p (sym (ap (λ (z : CpuNow). z.running) (idle_cpu scenario.shape.cpus d)) ∙ e));
        kept = λ y d e. absurd (first_off (state_at (opening scenario) y) d (first y) e);
      };
      sizes = sizes_same scenario.shape;
      cpu_count = length-replicate scenario.shape.cpus idle;
    }
  where
    nobody : (p : Pick) → None ≡ Some p → ⊥
    nobody p e = cc
