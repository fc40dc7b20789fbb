use Rattle.std.proofs.Common.{sym, ◌∙◌}
use Rattle.aps_inherit.proofs.Values.{of_channel-other, of_channel-settled}
use Rattle.aps_inherit.proofs.kept.Kept.settle_if_by.Goals as goal

pub returns-then-serves_by : goal.returns-then-serves_by
returns-then-serves_by c =
    λ late. of_channel-settled c.args.content.now c.args.self.now c.settle.new.self c.args.c c.args.server late c.settle.ensures

pub returns-else-serves_by : goal.returns-else-serves_by
returns-else-serves_by c =
    λ late. of_channel-other c.args.content.now c.args.self.now c.args.c c.args.server late (sym c.serves_by.ensures ∙ c.if-serves_by.false)
