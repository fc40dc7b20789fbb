use Rattle.std.proofs.Common.{◌∙◌, ap, option_map, string_bytes}
use Rattle.aps_scenario.proofs.Tables.{unknown_key-find}
use Rattle.aps_scenario.proofs.row.unknown_key.Goals as goal

pub returns-in-Some : goal.returns-in-Some
returns-in-Some c =
    let found = rw c.in-Some.is at c.first_unknown.ensures in
    rw c.as_str.ensures.value (ap (option_map string_bytes) found ∙ unknown_key-find c.args.known.now c.args.table.now.entries)

pub returns-in-None : goal.returns-in-None
returns-in-None c =
    let found = rw c.in-None.is at c.first_unknown.ensures in
    ap (option_map string_bytes) found ∙ unknown_key-find c.args.known.now c.args.table.now.entries
