use Rattle.std.proofs.Common.{◌-◌, length, ap, refl, rules, ◌∙◌}
use Rattle.std.proofs.lemmas.Option.{slice_get_read}
use Rattle.view_pictures.proofs.Marked.{IsLast, counted_mark, first_mark, placed_mark}
use Rattle.view_pictures.specs.Strip.{all_drawn}
use Rattle.view_pictures.proofs.strip.add_mark.Goals as goal
use Rattle.view_pictures.proofs.strip.add_mark.Goals.{in-Some+else-x-last, in_default}

pub returns-then-x-last : goal.returns-then-x-last
returns-then-x-last c =
    let items = c.args.marks.now.items in
    let n = c.len-end.result in
    let is : IsLast items n c.in-Some.last = record { count = search rules; place = slice_get_read items n (n - 1) c.in-Some.last (search rules) (search rules) (search rules) } in
    counted_mark items n c.in-Some.last _ c.args.x c.args.place is (search rules) (search rules)

pub returns : goal.returns
returns c =
    let items = c.args.marks.now.items in
    let n = length items in
    elim c.match-copied.branch [
      | in-Some+else-x-last w ↦
          let is : IsLast items n w.in-Some.last = record { count = refl; place = slice_get_read items n (n - 1) w.in-Some.last refl (search rules) (search rules) } in
          ap all_drawn c.in_ok-push.ensures.items ∙ placed_mark items n w.in-Some.last _ c.args.x c.args.place is (search rules) refl
      | in_default w ↦ ap all_drawn c.in_ok-push.ensures.items ∙ first_mark items _ c.args.x c.args.place (search rules) refl
    ]
