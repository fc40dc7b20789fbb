use Rattle.std.proofs.Common.{◌∙◌, inl, inr, subst, sym}
use Rattle.aps_core.specs.Seats.{IsRight}
use Rattle.aps_core.proofs.Seats.{seats_by}
use Rattle.aps_core.proofs.Touched.{is_or_not, some_number}
use Rattle.aps_core.proofs.machine.Machine.sync_own.Goals as goal

pub enter_anew-requires-clause-seated : goal.enter_anew-requires-clause-seated
enter_anew-requires-clause-seated c y = elim (is_or_not c.args.own.now y) [
  | inl is_own ↦ inl (c.requires.out y is_own)
  | inr apart ↦ inr (c.requires.tied y apart)
]

pub returns-in-Some : goal.returns-in-Some
returns-in-Some c =
    seats_by c.args.self.now c.enter_anew.new.ready (c.enter_anew.ensures.count ∙ c.requires.count)
    (λ y below. elim (is_or_not c.args.own.now y) [
      | inl is_own ↦ subst (IsRight c.args.self.now c.enter_anew.new.ready) (some_number c.in-Some.x y (sym c.in-Some.is ∙ is_own)) c.enter_anew.ensures.own
      | inr apart ↦ c.enter_anew.ensures.right y (c.requires.tied y apart)
    ])

pub returns-in_default : goal.returns-in_default
returns-in_default c =
    seats_by c.args.self.now c.args.ready.now c.requires.count (λ y below. c.requires.tied y (c.in_default.not-Some y))
