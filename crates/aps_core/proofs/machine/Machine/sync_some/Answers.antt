use Rattle.std.proofs.Common.{◌∙◌, inl, inr}
use Rattle.aps_core.proofs.Seats.{seats_by}
use Rattle.aps_core.proofs.Touched.{touched_or_not}
use Rattle.aps_core.proofs.machine.Machine.sync_some.Goals as goal

pub returns : goal.returns
returns c =
    seats_by c.args.self.now c.enter_servers.new.ready
    (c.enter_servers.ensures.count ∙ c.enter_one-2.ensures.count ∙ c.enter_one.ensures.count ∙ c.enter_woken.ensures.count ∙ c.leave_servers.ensures.count ∙ c.leave_one-2.ensures.count
    ∙ c.leave_one.ensures.count ∙ c.leave_woken.ensures.count ∙ c.requires.count)
    (λ y below. elim (touched_or_not c.args.woken.now c.args.own.now c.args.peer.now c.args.servers c.args.self.now.triples y) [
      | inl touched ↦ elim touched [
        | inl woken ↦ c.enter_servers.ensures.right y (c.enter_one-2.ensures.right y (c.enter_one.ensures.right y (c.enter_woken.ensures.own y woken)))
        | inr two ↦ elim two [
          | inl is_own ↦ c.enter_servers.ensures.right y (c.enter_one-2.ensures.right y (c.enter_one.ensures.own y is_own))
          | inr rest ↦ elim rest [
            | inl is_peer ↦ c.enter_servers.ensures.right y (c.enter_one-2.ensures.own y is_peer)
            | inr serves ↦ c.enter_servers.ensures.own serves.0 y serves.1
          ]
        ]
      ]
      | inr apart ↦
          c.enter_servers.ensures.right y (c.enter_one-2.ensures.right y (c.enter_one.ensures.right y (c.enter_woken.ensures.right y
          (c.leave_servers.ensures.right y (c.leave_one-2.ensures.right y (c.leave_one.ensures.right y (c.leave_woken.ensures.right y (c.requires.tied y apart))))))))
    ])
