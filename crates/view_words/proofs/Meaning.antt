-- What the words of each report say.
use Rattle.std.proofs.Common.{◌≡◌, List, [], ◌∷◌, codes, drop, map, Option, None, Bool, true, false, if◌then◌else◌, refl, String, Global, string_bytes}
use Rattle.clap.proofs.OnLiterals.{clap_on_literals}
use Rattle.aps_words.specs.Plain.{is_plain}
use Rattle.aps_words.proofs.Reading.{IsClapped, unplain_unhyphened}
use Rattle.view_words.specs.declared.asked.Asked.{Asked}
use Rattle.view_words.specs.declared.asked.Picture.{Picture}
use Rattle.view_words.specs.declared.asked.Picture.TheVariants.{Timeline, Threads, Usage}
use Rattle.view_words.specs.declared.asked.Report.{Report}
use Rattle.view_words.specs.declared.asked.Report.TheVariants.{Cycles, Shares, Latency}
use Rattle.view_words.specs.declared.asked.Trace.TheVariants.{Vcd, Gtkw, Events}
use Rattle.view_words.specs.Asked.{asked, csv, explain, limited, limit_options, picture, ticks_options, thread_options, traced}

pub limited_is_clapped : (report : Report) → IsClapped (codes "apsview") limit_options (limited report)
unfolding clap_on_literals
limited_is_clapped report = record {
  simple = refl;
  fault = λ words. refl;
  rows = λ words. refl;
  same = λ f g e. rw (e (codes "limit")) refl;
}

pub csv_is_clapped : IsClapped (codes "apsview") ticks_options csv
unfolding clap_on_literals
csv_is_clapped = record {
  simple = refl;
  fault = λ words. refl;
  rows = λ words. refl;
  same = λ f g e. rw (e (codes "from"), e (codes "to"), e (codes "limit")) refl;
}

pub picture_is_clapped : (which : Picture) → IsClapped (codes "apsview") ticks_options (picture which)
unfolding clap_on_literals
picture_is_clapped which = record {
  simple = refl;
  fault = λ words. refl;
  rows = λ words. refl;
  same = λ f g e. rw (e (codes "from"), e (codes "to"), e (codes "limit")) refl;
}

pub explain_is_clapped : IsClapped (codes "apsview") thread_options explain
unfolding clap_on_literals
explain_is_clapped = record {
  simple = refl;
  fault = λ words. refl;
  rows = λ words. refl;
  same = λ f g e. rw (e (codes "thread"), e (codes "at"), e (codes "limit")) refl;
}

-- whichever it is
none_of_both : {one other : Option Asked} → (is : Bool) → one ≡ None → other ≡ None → (if is then one else other) ≡ None
none_of_both true this that = this
none_of_both false this that = that

-- words that aren't plain ask for no report
pub unplain_none : (ss : List (String Global)) → is_plain [] (map string_bytes (drop 1 ss)) ≡ false → asked (map string_bytes ss) ≡ None
unplain_none [] h = refl
unplain_none (s ∷ ss) h =
    let words = map string_bytes ss in
    let of_limit = λ (report : Report). unplain_unhyphened (codes "apsview") limit_options (limited report) words h in
    let of_ticks = unplain_unhyphened (codes "apsview") ticks_options csv words h in
    let of_picture = λ (which : Picture). unplain_unhyphened (codes "apsview") ticks_options (picture which) words h in
    let of_thread = unplain_unhyphened (codes "apsview") thread_options explain words h in
    none_of_both _ (of_limit Cycles) (none_of_both _ of_ticks
    (none_of_both _ (of_picture Timeline) (none_of_both _ (of_picture Threads) (none_of_both _ (of_picture Usage)
    (none_of_both _ (of_limit (traced Vcd)) (none_of_both _ (of_limit (traced Gtkw)) (none_of_both _ (of_limit (traced Events))
    (none_of_both _ (of_limit Shares) (none_of_both _ (of_limit Latency) (none_of_both _ of_thread refl))))))))))
