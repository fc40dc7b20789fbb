use Rattle.std.proofs.Common.{refl, ◌∙◌}
use Rattle.aps_hints.proofs.Cuts.{parts_told}
use Rattle.aps_hints.proofs.told.told_of.Goals as goal

pub returns : goal.returns
returns c =
    parts_told _ _ _ _ _ _ _ _ _ _ _ _ _ _ c.new-line.ensures refl c.in_ok-push_text.ensures c.in_ok-push_text-2.ensures
    c.as_bytes.ensures.same c.in_ok-push_text-3.ensures (c.as_bytes-2.ensures.value ∙ c.reason.ensures) c.in_ok-push_text-4.ensures
    c.as_bytes-3.ensures.same c.in_ok-push_text-5.ensures
