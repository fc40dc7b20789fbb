-- What the runs of two scenarios have to do with each other.
use Rattle.std.specs.Prelude.{◌≡◌, ◌↔◌, ℕ, List, map}
use Rattle.aps_model.specs.declared.entry.Entry.{Entry}
use Rattle.aps_model.specs.declared.entry.Order.{Order}
use Rattle.aps_model.specs.After.{end_of, state_after}
use Rattle.aps_model.specs.Legal.{IsLegal}
use Rattle.aps_model.specs.Scenario.{Scenario}
use Rattle.laws_upgrade.specs.TimesTen.{reply_times_ten, state_times_ten}

-- the same histories are legal, in each order, and end alike with each limit
pub record HasSameRuns (scenario other : Scenario) : Type 0 where
  pub legal : (order : Order) (h : List Entry) → IsLegal other order h ↔ IsLegal scenario order h
  pub end : (limit : ℕ) (h : List Entry) → end_of other limit h ≡ end_of scenario limit h

-- after each list of entries the other has ten times the parts: in its replies, its rows and its shape. All else that
-- stands between two steps is equal.
pub record LeavesTimesTen (scenario other : Scenario) : Type 0 where
  pub replies : (h : List Entry) → (state_after other h).replies ≡ map reply_times_ten (state_after scenario h).replies
  pub state : (h : List Entry) → state_after other h ≡ state_times_ten (state_after scenario h)
