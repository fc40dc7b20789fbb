use Rattle.std.proofs.Common.{◌≡◌, ap, sym, ◌∙◌, subst, replicate, length, []}
use Rattle.std.proofs.lemmas.List.{length-replicate}
use Rattle.aps_channel.specs.Links.{AreLines, no_ends, no_link}
use Rattle.aps_channel.proofs.Ranks.{AreLeft, left_at_opening, same_lines}
use Rattle.aps_channel.proofs.lines.Lines.new.Goals as goal

made : (c : goal.In_ok-links) → AreLeft c.in_ok-links.links.items c.in_ok-ends.ends.items (replicate c.args.lines []) (length c.in_ok-links.links.items)
made c =
    subst (λ ends. AreLeft c.in_ok-links.links.items ends (replicate c.args.lines []) (length c.in_ok-links.links.items))
    (sym (c.in_ok-ends.ensures.items_if_clones_equal (λ y h. h)))
    (left_at_opening c.in_ok-links.links.items c.args.lines)

pub invariant_of-result : goal.invariant_of-result
invariant_of-result c = (made c).are

pub returns : goal.returns
returns c =
    same_lines (made c).lines (ap length (c.in_ok-links.ensures.items_if_clones_equal (λ y h. h)) ∙ length-replicate c.args.numbers no_link)
