use Rattle.std.proofs.Common.{◌≡◌, List, ℕ, OnOk, subst, string_bytes}
use lib.Chars.{codes}
use Rattle.view_explain.specs.Text.{at_line}
use Rattle.view_explain.proofs.Wording.{added_last}
use Rattle.view_explain.proofs.text.add_title.Goals as goal

pub returns : goal.returns
returns c =
    let start = string_bytes c.args.out.now in
    let first = string_bytes c.push_str.new.self in
    subst (λ (l : List ℕ). OnOk c.add_at.result (string_bytes c.add_at.new.out ≡ l))
    (added_last start first (codes "aps explain 1\n") (at_line c.args.at c.args.end) c.in_ok-push_str.ensures.bytes) c.add_at.ensures
