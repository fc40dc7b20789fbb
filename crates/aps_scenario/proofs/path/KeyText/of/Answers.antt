use Rattle.std.proofs.Common.{◌≡◌, take, length, arith, take_all, refl}
use Rattle.aps_scenario.proofs.Paths.{copied}
use Rattle.aps_scenario.proofs.path.KeyText.of.Goals as goal

pub loop-i-preserved : goal.loop-i-preserved
loop-i-preserved c = copied c.args.key.now c.loop-i.bytes c.loop-i.i c.loop-i.invariant (omega (arith, c.loop-i-test.true)) c.requires

pub returns : goal.returns
returns c =
    let all : c.loop-i.i ≡ length c.args.key.now = omega (arith, c.loop-i-test.false, c.loop-i.auto) in
    let whole : take c.loop-i.i c.args.key.now ≡ c.args.key.now = take_all c.loop-i.i c.args.key.now (omega arith) in
    rw (c.loop-i.invariant, whole, all) refl
