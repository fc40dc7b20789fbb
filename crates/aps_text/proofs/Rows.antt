-- Where texts written by hand are bad, as the definitions compute it.
use lib.Chars.{codes}
use Rattle.std.proofs.Common.{◌≡◌, ℕ, true, false, Option, Some, None, refl}
use Rattle.aps_text.specs.Line.{line_at}
use Rattle.aps_text.specs.Operation.{done_at, later_at, run_at, receive_at, holding_at, repeat_at}
use Rattle.aps_text.specs.Place.{Place}
use Rattle.aps_text.specs.Whole.{begins_journal, first_bad_place}

abbrev at : ℕ → ℕ → Option Place
at line column = Some (record { line = line; column = column })

no_number : first_bad_place (codes "0 0 x") ≡ at 1 5
unfolding line_at
no_number = refl

cpu_too_great : first_bad_place (codes "16 0 0 - - - - - - -\n") ≡ at 1 2
unfolding line_at
cpu_too_great = refl

leading_zero : first_bad_place (codes "0 00 0 - - - - - - -\n") ≡ at 1 4
unfolding line_at
leading_zero = refl

moment_too_late : first_bad_place (codes "0 10000000000001 0 - - - - - - -\n") ≡ at 1 16
unfolding line_at
moment_too_late = refl

ninth_field_last : first_bad_place (codes "0 0 0 - - - - - -\n") ≡ at 1 18
unfolding line_at done_at
ninth_field_last = refl

eleven_fields : first_bad_place (codes "0 0 0 - - - - - - - -\n") ≡ at 1 20
unfolding line_at done_at
eleven_fields = refl

no_newline : first_bad_place (codes "0 0 0 - - - - - - -\n0 0 0 - - - - - - -") ≡ at 2 20
unfolding line_at done_at
no_newline = refl

a_journal : first_bad_place (codes "0 0 0 - - - - - - -\n0 0 0 - - - receive:holding:2 - - -\n") ≡ None
unfolding line_at done_at later_at run_at receive_at holding_at
a_journal = refl

nothing : first_bad_place (codes "") ≡ None
unfolding line_at
nothing = refl

begun : begins_journal (codes "0 0 0 - - - rep") ≡ true
unfolding line_at done_at later_at run_at repeat_at
begun = refl

not_begun : begins_journal (codes "0 0 0 - - - rex") ≡ false
unfolding line_at done_at later_at run_at
not_begun = refl
