use lib.Chars.{codes}
use Rattle.std.proofs.Common.{◌≡◌, ◌-◌, ◌++◌, ◌∙◌, ap}
use Rattle.std.specs.Fmt.{decimal}
use Rattle.std.specs.List.{flat_map, range_with_len}
use Rattle.view_texts.proofs.Pieces.{as_other, on_ok, on_put, three}
use Rattle.view_value_changes.specs.Save.{markers, no_marker, zoom_of}
use Rattle.view_value_changes.proofs.save.add_zoom.Goals as goal

pub returns : goal.returns
returns c =
    let zoom : c.saturating_sub-zoom.result ≡ zoom_of c.args.end = c.saturating_sub-zoom.ensures ∙ ap (λ d. d - 2) c.saturating_sub-digits.ensures in
    on_ok c.push_str.result
    (λ last.
    three _ _ _ _ (codes "*-" ++ (decimal (zoom_of c.args.end) ++ codes ".000000 0")) (flat_map no_marker (range_with_len 0 markers)) (codes "\n")
    (as_other (λ z. codes "*-" ++ (decimal z ++ codes ".000000 0")) _ _ _ _ c.in_ok-write.ensures.bytes zoom) c.in_ok-add_no_markers.ensures last)
    (on_put c.push_str.result _ _ _ c.push_str.ensures.bytes)
