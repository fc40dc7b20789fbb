use Rattle.std.proofs.Common.{◌≢◌, ◌∙◌, Some, inl, inr, subst, sym}
use Rattle.aps_core.proofs.Asleep.{sleepers_by}
use Rattle.aps_core.proofs.Touched.{is_or_not}
use Rattle.aps_core.proofs.machine.Machine.time_done.Goals as goal

pub returns-else-is_exit : goal.returns-else-is_exit
returns-else-is_exit c =
    sleepers_by c.args.self.now c.time_one.new.timer (c.time_one.ensures.count ∙ c.time_own.ensures.count ∙ c.requires.count)
    (λ y below. elim (is_or_not c.args.own.now y) [
      | inl is_own ↦ c.time_one.ensures.others y (c.time_own.ensures.own y is_own)
      | inr not_own ↦ elim (is_or_not c.peer_of.result y) [
        | inl is_peer ↦ c.time_one.ensures.own y is_peer
        | inr not_peer ↦
            c.time_one.ensures.others y (c.time_own.ensures.others y
            (c.requires.tied (sym c.is_exit.ensures ∙ c.if-is_exit.false) y not_own (subst (λ o. o ≢ Some y) c.peer_of.ensures not_peer)))
      ]
    ])
