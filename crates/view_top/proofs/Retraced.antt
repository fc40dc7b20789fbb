-- The entries of a run so far are no more than its limit.
use Rattle.std.proofs.Common.{◌≡◌, ◌≤◌, ◌++◌, List, [], ◌∷◌, length, take, drop, refl, sym, ap, subst, ◌∙◌, inl, inr, arith}
use Rattle.std.proofs.lemmas.Bool.{cases_lt}
use Rattle.std.proofs.lemmas.List.{append-nil, length-take-le, take-append-drop}
use Rattle.aps_model.specs.declared.entry.Entry.{Entry}
use Rattle.laws_runs.specs.Runs.{EndsNoSooner}
use Rattle.aps_check.specs.Verdict.{IsRunSoFar}
use Rattle.aps_core.specs.Run.{Setup}
use Rattle.view_replay.proofs.Limits.{below_limit}

-- behind as many entries as the limit there is none
none_behind : (setup : Setup) (before rest : List Entry) → EndsNoSooner setup.scenario setup.limit (before ++ rest) → length before ≡ setup.limit → rest ≡ []
none_behind setup before [] no_sooner full = refl
none_behind setup before (e ∷ later) no_sooner full =
    let below = below_limit (record { setup = setup; entries = before }) (omega (arith, full)) (no_sooner before later e refl) in
    absurd (omega (arith, below, full))

pub runs_fit : (setup : Setup) (h : List Entry) → IsRunSoFar setup h → length h ≤ setup.limit
runs_fit setup h sound = elim (cases_lt setup.limit (length h)) [
  | inl more ↦
      let before = take setup.limit h in
      let whole = take-append-drop setup.limit h in
      let count = length-take-le setup.limit h (omega (arith, more)) in
      let none = none_behind setup before (drop setup.limit h) (subst (EndsNoSooner setup.scenario setup.limit) (sym whole) sound.no_sooner) count in
      let same : length h ≡ length before = ap (λ (l : List Entry). length l) (sym whole ∙ ap (λ (rest : List Entry). before ++ rest) none ∙ append-nil before) in
      omega (arith, same, count)
  | inr few ↦ few
]
