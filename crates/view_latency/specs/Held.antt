-- Whom a server holds, and whose call its time counts for.
use Rattle.std.specs.Prelude.{◌≡◌, ℕ, ◌<◌, Some}
use Rattle.aps_model.specs.declared.entry.Entry.{Entry}
use Rattle.aps_model.specs.declared.state.State.TheVariants.{Replying}
use Rattle.aps_model.specs.Inherit.{client_of}
use Rattle.aps_model.specs.Report.{length_of}
use Rattle.aps_model.specs.Scenario.{Scenario}
use Rattle.aps_model.specs.SchedulerState.{SchedulerState, thread_at}
use Rattle.view_latency.specs.News.{news_of, time_of}

-- who waits for a server's reply is the client that it holds, and nobody else is
pub record IsHeldByState (s : SchedulerState) : Type 0 where
  pub waits : (server client : ℕ) → client_of s.triples server ≡ Some client → (thread_at s client).state ≡ Replying server
  pub held : (server client : ℕ) → (thread_at s client).state ≡ Replying server → client_of s.triples server ≡ Some client

-- an entry's time counts as served for the client that its thread holds, and for nobody else
pub record IsCountedOnce (scenario : Scenario) (s : SchedulerState) (e : Entry) : Type 0 where
  pub client : (server client : ℕ) → e.ran ≡ Some server → client_of s.triples server ≡ Some client
      → time_of (news_of scenario s client e) ≡ length_of e
  pub nobody_else : (x : ℕ) → 0 < time_of (news_of scenario s x e)
      → (server : ℕ) × (e.ran ≡ Some server) × (client_of s.triples server ≡ Some x)
