use Rattle.std.proofs.Common.{◌≡◌, ◌-◌, List, ℕ, length, drop, ap, subst, arith, append_assoc, take_all, length-drop}
use Rattle.std.specs.Str.{IsAscii}
use Rattle.aps_text.proofs.line.LineBuffer.line.Goals as goal
use Rattle.aps_text.specs.Line.{longest_line}

pub put_span-requires : goal.put_span-requires
put_span-requires c = omega (arith, ap length c.clear.ensures, ap length c.put_byte.ensures)

pub returns : goal.returns
returns c =
    let f = c.filled.inside in
    let whole : drop f.start f.bytes ≡ c.put_span.new.self = c.filled.view_is in
    let ascii : IsAscii c.put_span.new.self = subst (λ (bs : List ℕ). IsAscii bs) whole c.filled.invariant.1 in
    rw (take_all (longest_line - f.start) (drop f.start f.bytes) (omega (arith, length-drop f.start f.bytes)), whole) record {
      text = rw (c.put_span.ensures.text, c.put_bill.ensures.text, c.put_done.ensures.text, c.put_byte.ensures, c.put_pick.ensures.text, c.clear.ensures) (simp append_assoc);
      short = omega (arith, ap length c.clear.ensures, ap length c.put_byte.ensures);
      ascii = ascii;
      within = λ h. record {
        cpu = c.put_span.ensures.cpu;
        from = h.from;
        to = h.to;
        ran = c.put_bill.ensures.ran;
        billed = c.put_bill.ensures.billed;
        done = c.put_done.ensures.thread;
        picked = c.put_pick.ensures.picked;
        starved = c.put_pick.ensures.starved;
        flagged = c.put_pick.ensures.flagged;
      };
    }
