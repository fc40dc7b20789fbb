use Rattle.std.proofs.Common.{◌∙◌}
use Rattle.aps_hints.proofs.Cuts.{placed_parts_told}
use Rattle.aps_hints.proofs.told.told_at.Goals as goal

pub returns : goal.returns
returns c =
    placed_parts_told _ _ _ _ _ _ _ _ _ _ _ _ _ _ _ _ _ c.new-line.ensures c.in_ok-push_text.ensures c.in_ok-push_text-2.ensures
    c.as_bytes.ensures.same c.in_ok-push_text-3.ensures c.in_ok-push_text-4.ensures
    c.as_bytes-2.ensures.same c.in_ok-push_text-5.ensures (c.as_bytes-3.ensures.value ∙ c.reason.ensures) c.in_ok-push_text-6.ensures
    c.as_bytes-4.ensures.same c.in_ok-push_text-7.ensures
