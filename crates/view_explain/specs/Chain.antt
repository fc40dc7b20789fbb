-- The threads that are explained: one, the server that it waits for, and so on.
use Rattle.std.specs.Prelude.{ℕ, ◌<◌, ◌++◌, List, [], ◌∷◌, length, nat_eq, All, if◌then◌else◌, Option, Some, None, IfSome}
use Rattle.std.specs.List.{fold, list_any, range_with_len}
use Rattle.aps_model.specs.Limits.{most_threads}
use Rattle.aps_model.specs.SchedulerState.{thread_at}
use Rattle.view_explain.specs.Because.{waits_for}
use Rattle.view_explain.specs.Past.{Past, state_of_past}

-- the threads so far, and the next one, if there is one
pub record Chain : Type 0 where
  pub told : List ℕ
  pub next : Option ℕ

-- all of them are threads of the scenario
pub record HasKnownThreads (past : Past) (chain : Chain) : Type 0 where
  pub told : All (λ y. y < length past.scenario.threads) chain.told
  pub next : IfSome chain.next (λ y. y < length past.scenario.threads)

-- with thread x, unless it is told already
abbrev pub told_too : Past → List ℕ → ℕ → Chain
told_too past told x =
    if list_any (λ y. nat_eq y x) told
    then record { told = told; next = None }
    else record { told = told ++ x ∷ []; next = waits_for past (thread_at (state_of_past past) x).state }

abbrev pub chain_gone_on : Past → List ℕ → Option ℕ → Chain
chain_gone_on past told None = record { told = told; next = None }
chain_gone_on past told (Some x) = told_too past told x

-- from thread x on; there are 1,024 threads at most
abbrev pub chain_from : Past → ℕ → ℕ → Chain
chain_from past x steps =
    fold (λ (chain : Chain) _. chain_gone_on past chain.told chain.next) (record { told = []; next = Some x }) (range_with_len 0 steps)

abbrev pub threads_explained : Past → ℕ → List ℕ
threads_explained past x = (chain_from past x most_threads).told
