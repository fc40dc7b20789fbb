use Rattle.std.proofs.Common.{◌≡◌, ◌<◌, ◌++◌, ◌∙◌, List, [], length, string_bytes, get_or, ap, sym, subst}
use Rattle.std.specs.Prelude.{slice_index}
use Rattle.std.specs.List.{flat_map, enumerate_from}
use Rattle.std.proofs.lemmas.List.{get_or_read}
use Rattle.aps_model.specs.declared.usage.Usage.{Usage}
use Rattle.view_lives.specs.declared.life.Segment.{Segment}
use Rattle.view_latency.specs.Bills.{bill_at, no_bills}
use Rattle.view_latency.specs.Calls.{Calls, no_calls}
use Rattle.view_latency.specs.Text.{Known, bill_lines, channel_lines, thread_number_line, wait_lines}
use Rattle.view_latency.proofs.Pieces.{four_pieces}
use Rattle.view_latency.proofs.latency.add_thread.Goals as goal

pub returns : goal.returns
returns c =
    let known = c.args.known.now in
    let inside = c.known.inside in
    let view : known ≡ record { end = inside.end; bills = inside.bills.items; lives = inside.lives.items; calls = inside.calls.items } = sym c.known.view_is in
    let x = c.args.x in
    let end : inside.end ≡ known.end = sym (ap (λ (k : Known). k.end) view) in
    let bills : c.index.result.now ≡ get_or known.bills x no_bills =
    get_or_read inside.bills.items x c.index.result.now (subst (λ (k : Known). x < length k.bills) view c.requires.bills) c.index.ensures no_bills ∙ sym (ap (λ (k : Known). get_or k.bills x no_bills) view) in
    let life : c.index-2.result.now ≡ get_or known.lives x [] =
    get_or_read inside.lives.items x c.index-2.result.now (subst (λ (k : Known). x < length k.lives) view c.requires.lives) c.index-2.ensures [] ∙ sym (ap (λ (k : Known). get_or k.lives x []) view) in
    let calls : c.index-3.result.now ≡ get_or known.calls x no_calls =
    get_or_read inside.calls.items x c.index-3.result.now (subst (λ (k : Known). x < length k.calls) view c.requires.calls) c.index-3.ensures no_calls ∙ sym (ap (λ (k : Known). get_or k.calls x no_calls) view) in
    four_pieces _ (string_bytes c.add_head.new.out) (string_bytes c.add_bills.new.out) (string_bytes c.add_waits.new.out) _
    (thread_number_line x c.args.name.now) (bill_lines (bill_at known.bills x)) (wait_lines known.end (get_or known.lives x []))
    (flat_map (channel_lines known.end (get_or known.calls x no_calls)) (enumerate_from 0 c.args.channels.now))
    c.in_ok-add_head.ensures
    (c.in_ok-add_bills.ensures ∙ ap (λ (u : Usage). string_bytes c.add_head.new.out ++ bill_lines (slice_index u.used)) bills)
    (c.in_ok-add_waits.ensures ∙ ap (λ (l : List Segment). string_bytes c.add_bills.new.out ++ wait_lines inside.end l) life
    ∙ ap (λ m. string_bytes c.add_bills.new.out ++ wait_lines m (get_or known.lives x [])) end)
    (c.in_ok-add_calls.ensures ∙ ap (λ (k : Calls). string_bytes c.add_waits.new.out ++ flat_map (channel_lines inside.end k) (enumerate_from 0 c.args.channels.now)) calls
    ∙ ap (λ m. string_bytes c.add_waits.new.out ++ flat_map (channel_lines m (get_or known.calls x no_calls)) (enumerate_from 0 c.args.channels.now)) end)
