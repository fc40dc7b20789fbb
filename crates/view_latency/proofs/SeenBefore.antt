-- What was seen before an entry is enough for its news.
use Rattle.std.proofs.Common.{◌≡◌, ℕ, refl}
use Rattle.aps_model.specs.declared.entry.Entry.{Entry}
use Rattle.aps_model.specs.declared.state.State.{State}
use Rattle.aps_model.specs.declared.state.State.TheVariants.{Ready, Running, Sleeping, Sending, Receiving, Replying, Gone}
use Rattle.aps_model.specs.Scenario.{Scenario}
use Rattle.view_latency.specs.News.{news_in}
use Rattle.view_latency.specs.Seen.{news_by, seen_in}

pub news_seen : (scenario : Scenario) (x place : ℕ) (state : State) (e : Entry) → news_by scenario x (seen_in place state) e ≡ news_in scenario x place state e
news_seen scenario x place Ready e = refl
news_seen scenario x place (Running c) e = refl
news_seen scenario x place (Sleeping until) e = refl
news_seen scenario x place (Sending c) e = refl
news_seen scenario x place (Receiving c) e = refl
news_seen scenario x place (Replying server) e = refl
news_seen scenario x place Gone e = refl
