use Rattle.std.proofs.Common.{◌≡◌, ◌<◌, length, get_or, slice_set, ap, ◌∙◌, arith}
use Rattle.std.proofs.lemmas.List.{get_or_default}
use Rattle.aps_model.specs.declared.command.Call.{Call}
use Rattle.aps_model.specs.declared.command.CommandRow.{CommandRow}
use Rattle.aps_model.specs.Upgrade.{call_times_ten}
use Rattle.aps_scenario.proofs.Upgrades.{changed-here, changed-next, command_scaled}
use Rattle.aps_scenario.proofs.upgrading.upgrade_commands.Goals as goal

pub loop-i-preserved : goal.loop-i-preserved
loop-i-preserved c =
    let within : c.loop-i.i < length c.args.commands.now.items = omega (arith, c.loop-i-test.true, c.len-i-end.ensures) in
    let old : CommandRow = get_or c.args.commands.now.items c.loop-i.i c.index.result.now in
    let here : c.index.result.now ≡ get_or c.args.commands.now.items c.loop-i.i c.index.result.now =
    c.index.ensures ∙ changed-here command_scaled c.index.result.now c.args.commands.now.items c.loop-i.commands.items c.loop-i.i c.loop-i.invariant within in
    let too : c.index_mut.result.now ≡ get_or c.args.commands.now.items c.loop-i.i c.index.result.now =
    c.index_mut.ensures.value ∙ changed-here command_scaled c.index_mut.result.now c.args.commands.now.items c.loop-i.commands.items c.loop-i.i c.loop-i.invariant within
    ∙ get_or_default c.args.commands.now.items c.loop-i.i c.index_mut.result.now c.index.result.now within in
    let call : c.upgraded_call.result ≡ call_times_ten (get_or c.args.commands.now.items c.loop-i.i c.index.result.now).call =
    c.upgraded_call.ensures ∙ ap (λ (row : CommandRow). call_times_ten row.call) here in
    ap (λ (row : CommandRow). slice_set c.loop-i.commands.items c.loop-i.i (record { tick = row.tick; call = c.upgraded_call.result })) too
    ∙ ap (λ (asked : Call). slice_set c.loop-i.commands.items c.loop-i.i (record { tick = old.tick; call = asked })) call
    ∙ changed-next command_scaled c.index.result.now c.args.commands.now.items c.loop-i.commands.items c.loop-i.i c.loop-i.invariant within
