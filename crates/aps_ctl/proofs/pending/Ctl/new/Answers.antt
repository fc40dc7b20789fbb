use Rattle.std.proofs.Common.{◌∷◌, [], ◌++◌, ◌∙◌, ap, arith}
use Rattle.std.proofs.lemmas.Grind.{common_steps}
use Rattle.aps_ctl.proofs.Next.{numbered_next}
use Rattle.aps_ctl.proofs.pending.Ctl.new.Goals as goal

pub loop-i-preserved : goal.loop-i-preserved
loop-i-preserved c = record {
  count = grind (arith, common_steps);
  so_far =
      c.in_ok-push.ensures.items
      ∙ ap (λ pending. pending ++ (c.loop-i.i, c.index-commands-i.result) ∷ []) c.loop-i.invariant.so_far
      ∙ numbered_next c.commands-commands.result.now c.loop-i.i c.index-commands-i.result c.loop-i-test.true c.index-commands-i.is;
}
