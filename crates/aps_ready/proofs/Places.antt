use Rattle.std.proofs.Common.{◌≡◌, ℕ, ◌<◌, List}
use Rattle.aps_model.specs.Limits.{most_threads}
use Rattle.aps_ready.specs.declared.entrant.Entrant.{Entrant}
use Rattle.aps_ready.specs.Entrant.{entrant_at}
use Rattle.aps_ready.specs.Lists.{link, list_of, IsNode}

-- a node of a list behind which stands the head, or a thread with a greater stamp
pub record IsBehind (row : List Entrant) (after : List ℕ) (head stamp place : ℕ) : Type 0 where
  pub node : IsNode row place
  pub same : list_of row place ≡ head
  pub under : link after place < most_threads → stamp < (entrant_at row (link after place)).stamp
