-- A line is read field by field.
use lib.Chars.{codes}
use Rattle.std.proofs.Common.{◌≡◌, ℕ, ◌^◌, ◌<◌, false, List, [], ◌∷◌, ◌++◌, None, refl, sym, ◌∙◌, append_assoc, arith}
use Rattle.std.specs.Fmt.{decimal}
use Rattle.std.specs.Char.{is_ascii_digit}
use Rattle.std.proofs.lemmas.List.{append-nil}
use Rattle.aps_model.specs.declared.entry.Entry.{Entry}
use Rattle.aps_model.specs.declared.entry.Done.TheVariants.{Nothing}
use Rattle.aps_model.specs.Journal.{option_text, done_text, entry_line, IsLine}
use Rattle.aps_model.specs.Limits.{last_cpu, last_moment, last_partition, last_thread}
use Rattle.aps_text.specs.Reader.{number_at}
use Rattle.aps_text.specs.Fields.{option_at, mark_at}
use Rattle.aps_text.specs.Operation.{done_at}
use Rattle.aps_text.specs.Line.{line_at}
use Rattle.aps_text.proofs.Readers.{IsReader, IsLive, SpellsBoth, SpellsNothing, IsLive-value, IsLive-both, IsReader-restated}
use Rattle.aps_text.proofs.Numbers.{SpellsNumber, IsReader-number}
use Rattle.aps_text.proofs.Options.{SpellsOption, IsReader-option, mark_text, SpellsMark, IsReader-mark}
use Rattle.aps_text.proofs.Operations.{SpellsDone, IsReader-done}

number : (most : ℕ) → most < 2 ^ 64 → IsLive (number_at most 32) (SpellsNumber most 32)
number most fits = record { reader = IsReader-number most 32 fits refl; some = (decimal 0 ++ 32 ∷ [], 0, (refl, omega arith)) }

option : (most stop : ℕ) → most < 2 ^ 64 → is_ascii_digit stop ≡ false → IsLive (option_at most stop) (SpellsOption most stop)
option most stop fits plain = record { reader = IsReader-option most stop fits plain; some = (45 ∷ stop ∷ [], None, (refl, tt)) }

mark : IsLive mark_at SpellsMark
mark = record { reader = IsReader-mark; some = (codes "- ", false, refl) }

operation : IsLive done_at SpellsDone
operation = record { reader = IsReader-done; some = (codes "- ", Nothing, (refl, tt)) }

-- the fields one after the other
abbrev SpellsFields : List ℕ → Entry → Type 0
SpellsFields =
    SpellsBoth (SpellsNumber last_cpu 32) (λ cpu. SpellsBoth (SpellsNumber last_moment 32) (λ from. SpellsBoth (SpellsNumber last_moment 32) (λ to.
    SpellsBoth (SpellsOption last_thread 32) (λ ran. SpellsBoth (SpellsOption last_partition 32) (λ billed. SpellsBoth SpellsMark (λ critical. SpellsBoth SpellsDone (λ done.
    SpellsBoth (SpellsOption last_thread 32) (λ picked. SpellsBoth (SpellsOption last_partition 32) (λ starved. SpellsBoth (SpellsOption last_cpu 10) (λ flagged.
    SpellsNothing (record { from = from; to = to; done = done; ran = ran; picked = picked; billed = billed; starved = starved; flagged = flagged; cpu = cpu; critical = critical })))))))))))

fields : IsLive line_at SpellsFields
unfolding line_at
fields =
    IsLive-both _ _ _ _ (number last_cpu (omega arith)) (λ cpu. IsLive-both _ _ _ _ (number last_moment (omega arith)) (λ from. IsLive-both _ _ _ _ (number last_moment (omega arith)) (λ to.
    IsLive-both _ _ _ _ (option last_thread 32 (omega arith) refl)
    (λ ran. IsLive-both _ _ _ _ (option last_partition 32 (omega arith) refl) (λ billed. IsLive-both _ _ _ _ mark (λ critical. IsLive-both _ _ _ _ operation (λ done.
    IsLive-both _ _ _ _ (option last_thread 32 (omega arith) refl)
    (λ picked. IsLive-both _ _ _ _ (option last_partition 32 (omega arith) refl) (λ starved. IsLive-both _ _ _ _ (option last_cpu 10 (omega arith) refl) (λ flagged.
    IsLive-value (record { from = from; to = to; done = done; ran = ran; picked = picked; billed = billed; starved = starved; flagged = flagged; cpu = cpu; critical = critical })))))))))))

-- ---- the fields of a line, and the line

-- the text from the last field on, and from each field before it
abbrev from_flagged : Entry → List ℕ
from_flagged e = (option_text e.flagged ++ 10 ∷ []) ++ []

abbrev from_starved : Entry → List ℕ
from_starved e = (option_text e.starved ++ 32 ∷ []) ++ from_flagged e

abbrev from_picked : Entry → List ℕ
from_picked e = (option_text e.picked ++ 32 ∷ []) ++ from_starved e

abbrev from_done : Entry → List ℕ
from_done e = (done_text e.done ++ 32 ∷ []) ++ from_picked e

abbrev from_critical : Entry → List ℕ
from_critical e = (mark_text e.critical ++ 32 ∷ []) ++ from_done e

abbrev from_billed : Entry → List ℕ
from_billed e = (option_text e.billed ++ 32 ∷ []) ++ from_critical e

abbrev from_ran : Entry → List ℕ
from_ran e = (option_text e.ran ++ 32 ∷ []) ++ from_billed e

abbrev from_to : Entry → List ℕ
from_to e = (decimal e.to ++ 32 ∷ []) ++ from_ran e

abbrev from_from : Entry → List ℕ
from_from e = (decimal e.from ++ 32 ∷ []) ++ from_to e

abbrev from_cpu : Entry → List ℕ
from_cpu e = (decimal e.cpu ++ 32 ∷ []) ++ from_from e

from_cpu_is : (e : Entry) → from_cpu e ≡ entry_line e
from_cpu_is e = simp (append_assoc, append-nil)

abbrev pub SpellsLine : List ℕ → Entry → Type 0
SpellsLine text e = IsLine e × (text ≡ entry_line e)

fields_from : (text : List ℕ) (e : Entry) → SpellsLine text e → SpellsFields text e
fields_from text e (h, same) = (
  decimal e.cpu ++ 32 ∷ [],
  from_from e,
  e.cpu,
  same ∙ sym (from_cpu_is e),
  (refl, h.cpu),
  (
    decimal e.from ++ 32 ∷ [],
    from_to e,
    e.from,
    refl,
    (refl, h.from),
    (
      decimal e.to ++ 32 ∷ [],
      from_ran e,
      e.to,
      refl,
      (refl, h.to),
      (
        option_text e.ran ++ 32 ∷ [],
        from_billed e,
        e.ran,
        refl,
        (refl, h.ran),
        (
          option_text e.billed ++ 32 ∷ [],
          from_critical e,
          e.billed,
          refl,
          (refl, h.billed),
          (
            mark_text e.critical ++ 32 ∷ [],
            from_done e,
            e.critical,
            refl,
            refl,
            (
              done_text e.done ++ 32 ∷ [],
              from_picked e,
              e.done,
              refl,
              (refl, h.done),
              (
                option_text e.picked ++ 32 ∷ [],
                from_starved e,
                e.picked,
                refl,
                (refl, h.picked),
                (
                  option_text e.starved ++ 32 ∷ [],
                  from_flagged e,
                  e.starved,
                  refl,
                  (refl, h.starved),
                  (
                    option_text e.flagged ++ 10 ∷ [],
                    [],
                    e.flagged,
                    refl,
                    (refl, h.flagged),
                    (refl, refl),
                  ),
                ),
              ),
            ),
          ),
        ),
      ),
    ),
  ),
)

joined : {text s u first rest : List ℕ} → text ≡ s ++ u → s ≡ first → u ≡ rest → text ≡ first ++ rest
joined e f g = cc

fields_to : (text : List ℕ) (e : Entry) → SpellsFields text e → SpellsLine text e
fields_to text e (
  s0,
  u0,
  cpu,
  p0,
  h0,
  (
    s1,
    u1,
    from,
    p1,
    h1,
    (
      s2,
      u2,
      to,
      p2,
      h2,
      (
        s3,
        u3,
        ran,
        p3,
        h3,
        (
          s4,
          u4,
          billed,
          p4,
          h4,
          (s5, u5, critical, p5, h5, (s6, u6, done, p6, h6, (s7, u7, picked, p7, h7, (s8, u8, starved, p8, h8, (s9, u9, flagged, p9, h9, (nothing, same)))))),
        ),
      ),
    ),
  ),
) =
    let made : Entry = record { from = from; to = to; done = done; ran = ran; picked = picked; billed = billed; starved = starved; flagged = flagged; cpu = cpu; critical = critical } in
    let whole : text ≡ from_cpu made = joined p0 h0.0 (joined p1 h1.0 (joined p2 h2.0 (joined p3 h3.0 (joined p4 h4.0 (joined p5 h5 (joined p6 h6.0 (joined p7 h7.0 (joined p8 h8.0 (joined p9 h9.0 nothing))))))))) in
    let within : IsLine made = record { cpu = h0.1; from = h1.1; to = h2.1; ran = h3.1; billed = h4.1; done = h6.1; picked = h7.1; starved = h8.1; flagged = h9.1 } in
    rw same (within, whole ∙ from_cpu_is made)

pub IsReader-line : IsReader line_at SpellsLine
IsReader-line = IsReader-restated line_at SpellsFields SpellsLine fields_to fields_from fields.reader
