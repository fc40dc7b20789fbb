use Rattle.std.proofs.Common.{◌≡◌, ◌∙◌, sym, ap, get_or, remove, None, Some}
use Rattle.std.specs.List.{position}
use Rattle.std.specs.Option.{option_map}
use Rattle.std.proofs.lemmas.List.{get_or_default}
use Rattle.aps_ctl.specs.Pending.{given, is_at}
use Rattle.aps_ctl.proofs.Next.{Found, found, no_command, none}
use Rattle.aps_ctl.proofs.pending.Ctl.next_at.Goals as goal

missing : (c : goal.After-from_residual) → position (is_at c.args.tick) c.args.self.now ≡ None
missing c = sym c.in_err-place.ensures

pub returns-in_err-place-clause-next : goal.returns-in_err-place-clause-next
returns-in_err-place-clause-next c =
    c.from_residual.ensures ∙ sym (ap (option_map given) (none c.args.tick c.args.self.now (missing c)).next)

pub returns-in_err-place-clause-left : goal.returns-in_err-place-clause-left
returns-in_err-place-clause-left c = sym (none c.args.tick c.args.self.now (missing c)).left

place : (c : goal.After-remove-command) → Found c.args.tick c.args.self.now c.in_ok-place.place
place c = found c.args.tick c.args.self.now c.in_ok-place.place (sym c.in_ok-place.ensures)

pub returns-clause-next : goal.returns-clause-next
returns-clause-next c =
    let i = c.in_ok-place.place in
    let command = c.remove-command.result in
    let is : command ≡ get_or c.args.self.now i no_command =
    c.remove-command.ensures.value ∙ ap (λ commands. get_or commands i command) c.self.view_is ∙ get_or_default c.args.self.now i command no_command (place c).within in
    ap (λ found. Some (given found)) is ∙ sym (ap (option_map given) (place c).next)

pub returns-clause-left : goal.returns-clause-left
returns-clause-left c =
    c.remove-command.ensures.items ∙ ap (λ commands. remove commands c.in_ok-place.place) c.self.view_is ∙ sym (place c).left
