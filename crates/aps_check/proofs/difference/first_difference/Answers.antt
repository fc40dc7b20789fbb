use Rattle.std.proofs.Common.{◌≡◌, rules}
use Rattle.aps_check.proofs.Differences.{alike}
use Rattle.aps_check.proofs.difference.first_difference.Goals as goal

pub returns-else-ne-5 : goal.returns-else-ne-5
returns-else-ne-5 c = λ cpu.
    let e = c.args.entry.now in
    let x = c.args.step.now in
    let from : e.from ≡ x.from = search rules in
    let to : e.to ≡ x.to = search rules in
    let ran : e.ran ≡ x.ran = search rules in
    let billed : e.billed ≡ x.billed = search rules in
    let critical : e.critical ≡ x.critical = search rules in
    let did : e.done ≡ x.done = search rules in
    let picked : e.picked ≡ x.picked = search rules in
    let starved : e.starved ≡ x.starved = search rules in
    let flagged : e.flagged ≡ x.flagged = search rules in
    alike e x cpu from to ran billed critical did picked starved flagged
