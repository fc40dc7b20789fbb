-- A timed command that is printed reads as itself.
use Rattle.std.proofs.Common.{◌≡◌, ℕ, ◌-◌, ◌<◌, Bool, List, [], length, map, Option, Some, None, Ok, refl, inl, inr, arith, le-leb}
use Rattle.std.proofs.lemmas.List.Elements.{All-get_or}
use Rattle.std.specs.Prelude.{All}
use Rattle.std.specs.List.{IsDistinct, position}
use Rattle.std.specs.Str.{bytes_eq}
use Rattle.toml.specs.View.{items_of}
use Rattle.aps_model.specs.declared.command.Call.{Call}
use Rattle.aps_model.specs.declared.command.Call.TheVariants as call
use Rattle.aps_model.specs.declared.command.CommandRow.{CommandRow}
use Rattle.aps_model.specs.declared.scenario.ThreadRow.{ThreadRow}
use Rattle.aps_model.specs.declared.shape.Shape.{Shape}
use Rattle.aps_model.specs.declared.shape.Free.{Free}
use Rattle.aps_model.specs.declared.shape.Free.TheVariants as free
use Rattle.aps_model.specs.declared.shape.Bankruptcy.{Bankruptcy}
use Rattle.aps_model.specs.declared.shape.Bankruptcy.TheVariants.{Basic, Cancel, Reboot}
use Rattle.aps_model.specs.Limits.{longest_window, most_critical, shortest_window}
use Rattle.aps_model.specs.Name.{IsName}
use Rattle.aps_model.specs.Scenario.{no_thread_row}
use Rattle.aps_model.specs.Valid.{IsCall, IsCommand}
use Rattle.aps_scenario.specs.declared.refusal.Place.{Place}
use Rattle.aps_scenario.specs.declared.refusal.Place.TheVariants as place
use Rattle.aps_scenario.specs.Calls.{create_at, modify_at, set_parameters_at}
use Rattle.aps_scenario.specs.Commands.{command_read_at, commands_from, next_command}
use Rattle.aps_scenario.specs.Row.{word_in}
use Rattle.aps_scenario.specs.Words.{free_words, bankruptcy_words}
use Rattle.aps_scenario.specs.PrintedCommands.{command_table, thread_name}
use Rattle.aps_scenario.specs.PrintedWords.{free_word, bankruptcy_word}
use Rattle.aps_scenario.proofs.PrintedElements.{read_each-all, All-split}
use Rattle.aps_scenario.proofs.PrintedNames.{position-named}
use Rattle.aps_scenario.proofs.PrintedValues.{no_rest, is_name-true}

pub free-reads : (word : Free) → word_in free_words (free_word word) ≡ Ok word
free-reads free.Priority = refl
free-reads free.Ratio = refl

pub bankruptcy-reads : (word : Bankruptcy) → word_in bankruptcy_words (bankruptcy_word word) ≡ Ok word
bankruptcy-reads Basic = refl
bankruptcy-reads Cancel = refl
bankruptcy-reads Reboot = refl

module _ (shape : Shape) (threads : List ThreadRow) (named : All (λ (row : ThreadRow). IsName row.name) threads) (distinct : IsDistinct bytes_eq (map (λ (row : ThreadRow). row.name) threads)) where
  thread-IsName : (x : ℕ) → x < length threads → IsName (thread_name threads x)
  thread-IsName x within = All-get_or (λ (row : ThreadRow). IsName row.name) threads x no_thread_row within named

  thread-found : (x : ℕ) → x < length threads → position (λ (row : ThreadRow). bytes_eq row.name (thread_name threads x)) threads ≡ Some x
  thread-found x within = position-named (λ (row : ThreadRow). row.name) threads x no_thread_row within distinct

  abbrev Reads : Call → Type 0
  Reads asked =
      (tick : ℕ) (place : Place) → tick < shape.ticks → IsCall shape.parts (length threads) asked
      → command_read_at shape threads place (command_table threads (record { tick = tick; call = asked })) ≡ Ok (record { tick = tick; call = asked })

  create-reads : (name parent : List ℕ) (budget critical max : ℕ) → Reads (call.Create name parent budget critical max)
  unfolding command_read_at create_at
  create-reads name parent budget critical max tick place within is =
      rw (
        le-leb 0 tick (omega arith),
        le-leb tick (shape.ticks - 1) (omega arith),
        no_rest tick,
        is_name-true name is.named,
        is_name-true parent is.under,
        le-leb 0 budget (omega arith),
        le-leb budget shape.parts is.few_parts,
        no_rest budget,
        le-leb 0 critical (omega arith),
        le-leb critical most_critical is.short_critical,
        no_rest critical,
        le-leb 0 max (omega arith),
        le-leb max shape.parts is.max_parts,
        no_rest max,
      ) refl

  modify-reads : (partition : List ℕ) (budget critical max : Option ℕ) → Reads (call.Modify partition budget critical max)
  unfolding command_read_at modify_at
  modify-reads partition None None None tick place within is = elim is.some [ inl none ↦ absurd (cc) | inr other ↦ elim other [ inl none ↦ absurd (cc) | inr none ↦ absurd (cc) ] ]
  modify-reads partition None None (Some max) tick place within is =
      rw (
        le-leb 0 tick (omega arith),
        le-leb tick (shape.ticks - 1) (omega arith),
        no_rest tick,
        is_name-true partition is.named,
        le-leb 0 max (omega arith),
        le-leb max shape.parts is.max_parts,
        no_rest max,
      ) refl
  modify-reads partition None (Some critical) None tick place within is =
      rw (
        le-leb 0 tick (omega arith),
        le-leb tick (shape.ticks - 1) (omega arith),
        no_rest tick,
        is_name-true partition is.named,
        le-leb 0 critical (omega arith),
        le-leb critical most_critical is.short_critical,
        no_rest critical,
      ) refl
  modify-reads partition None (Some critical) (Some max) tick place within is =
      rw (
        le-leb 0 tick (omega arith),
        le-leb tick (shape.ticks - 1) (omega arith),
        no_rest tick,
        is_name-true partition is.named,
        le-leb 0 critical (omega arith),
        le-leb critical most_critical is.short_critical,
        no_rest critical,
        le-leb 0 max (omega arith),
        le-leb max shape.parts is.max_parts,
        no_rest max,
      ) refl
  modify-reads partition (Some budget) None None tick place within is =
      rw (
        le-leb 0 tick (omega arith),
        le-leb tick (shape.ticks - 1) (omega arith),
        no_rest tick,
        is_name-true partition is.named,
        le-leb 0 budget (omega arith),
        le-leb budget shape.parts is.few_parts,
        no_rest budget,
      ) refl
  modify-reads partition (Some budget) None (Some max) tick place within is =
      rw (
        le-leb 0 tick (omega arith),
        le-leb tick (shape.ticks - 1) (omega arith),
        no_rest tick,
        is_name-true partition is.named,
        le-leb 0 budget (omega arith),
        le-leb budget shape.parts is.few_parts,
        no_rest budget,
        le-leb 0 max (omega arith),
        le-leb max shape.parts is.max_parts,
        no_rest max,
      ) refl
  modify-reads partition (Some budget) (Some critical) None tick place within is =
      rw (
        le-leb 0 tick (omega arith),
        le-leb tick (shape.ticks - 1) (omega arith),
        no_rest tick,
        is_name-true partition is.named,
        le-leb 0 budget (omega arith),
        le-leb budget shape.parts is.few_parts,
        no_rest budget,
        le-leb 0 critical (omega arith),
        le-leb critical most_critical is.short_critical,
        no_rest critical,
      ) refl
  modify-reads partition (Some budget) (Some critical) (Some max) tick place within is =
      rw (
        le-leb 0 tick (omega arith),
        le-leb tick (shape.ticks - 1) (omega arith),
        no_rest tick,
        is_name-true partition is.named,
        le-leb 0 budget (omega arith),
        le-leb budget shape.parts is.few_parts,
        no_rest budget,
        le-leb 0 critical (omega arith),
        le-leb critical most_critical is.short_critical,
        no_rest critical,
        le-leb 0 max (omega arith),
        le-leb max shape.parts is.max_parts,
        no_rest max,
      ) refl

  set_parameters-reads : (window : Option ℕ) (free : Option Free) (limit : Option Bool) (bankruptcy : Option Bankruptcy) → Reads (call.SetParameters window free limit bankruptcy)
  unfolding command_read_at set_parameters_at
  set_parameters-reads None None None None tick place within is = elim is.0 [
    | inl none ↦ absurd (cc)
    | inr other ↦ elim other [ inl none ↦ absurd (cc) | inr other ↦ elim other [ inl none ↦ absurd (cc) | inr none ↦ absurd (cc) ] ]
  ]
  set_parameters-reads None None None (Some bankruptcy) tick place within is =
      rw (
        le-leb 0 tick (omega arith),
        le-leb tick (shape.ticks - 1) (omega arith),
        no_rest tick,
        bankruptcy-reads bankruptcy,
      ) refl
  set_parameters-reads None None (Some limit) None tick place within is =
      rw (
        le-leb 0 tick (omega arith),
        le-leb tick (shape.ticks - 1) (omega arith),
        no_rest tick,
      ) refl
  set_parameters-reads None None (Some limit) (Some bankruptcy) tick place within is =
      rw (
        le-leb 0 tick (omega arith),
        le-leb tick (shape.ticks - 1) (omega arith),
        no_rest tick,
        bankruptcy-reads bankruptcy,
      ) refl
  set_parameters-reads None (Some word) None None tick place within is =
      rw (
        le-leb 0 tick (omega arith),
        le-leb tick (shape.ticks - 1) (omega arith),
        no_rest tick,
        free-reads word,
      ) refl
  set_parameters-reads None (Some word) None (Some bankruptcy) tick place within is =
      rw (
        le-leb 0 tick (omega arith),
        le-leb tick (shape.ticks - 1) (omega arith),
        no_rest tick,
        free-reads word,
        bankruptcy-reads bankruptcy,
      ) refl
  set_parameters-reads None (Some word) (Some limit) None tick place within is =
      rw (
        le-leb 0 tick (omega arith),
        le-leb tick (shape.ticks - 1) (omega arith),
        no_rest tick,
        free-reads word,
      ) refl
  set_parameters-reads None (Some word) (Some limit) (Some bankruptcy) tick place within is =
      rw (
        le-leb 0 tick (omega arith),
        le-leb tick (shape.ticks - 1) (omega arith),
        no_rest tick,
        free-reads word,
        bankruptcy-reads bankruptcy,
      ) refl
  set_parameters-reads (Some window) None None None tick place within is =
      rw (
        le-leb 0 tick (omega arith),
        le-leb tick (shape.ticks - 1) (omega arith),
        no_rest tick,
        le-leb shortest_window window is.1.long,
        le-leb window longest_window is.1.short,
        no_rest window,
      ) refl
  set_parameters-reads (Some window) None None (Some bankruptcy) tick place within is =
      rw (
        le-leb 0 tick (omega arith),
        le-leb tick (shape.ticks - 1) (omega arith),
        no_rest tick,
        le-leb shortest_window window is.1.long,
        le-leb window longest_window is.1.short,
        no_rest window,
        bankruptcy-reads bankruptcy,
      ) refl
  set_parameters-reads (Some window) None (Some limit) None tick place within is =
      rw (
        le-leb 0 tick (omega arith),
        le-leb tick (shape.ticks - 1) (omega arith),
        no_rest tick,
        le-leb shortest_window window is.1.long,
        le-leb window longest_window is.1.short,
        no_rest window,
      ) refl
  set_parameters-reads (Some window) None (Some limit) (Some bankruptcy) tick place within is =
      rw (
        le-leb 0 tick (omega arith),
        le-leb tick (shape.ticks - 1) (omega arith),
        no_rest tick,
        le-leb shortest_window window is.1.long,
        le-leb window longest_window is.1.short,
        no_rest window,
        bankruptcy-reads bankruptcy,
      ) refl
  set_parameters-reads (Some window) (Some word) None None tick place within is =
      rw (
        le-leb 0 tick (omega arith),
        le-leb tick (shape.ticks - 1) (omega arith),
        no_rest tick,
        le-leb shortest_window window is.1.long,
        le-leb window longest_window is.1.short,
        no_rest window,
        free-reads word,
      ) refl
  set_parameters-reads (Some window) (Some word) None (Some bankruptcy) tick place within is =
      rw (
        le-leb 0 tick (omega arith),
        le-leb tick (shape.ticks - 1) (omega arith),
        no_rest tick,
        le-leb shortest_window window is.1.long,
        le-leb window longest_window is.1.short,
        no_rest window,
        free-reads word,
        bankruptcy-reads bankruptcy,
      ) refl
  set_parameters-reads (Some window) (Some word) (Some limit) None tick place within is =
      rw (
        le-leb 0 tick (omega arith),
        le-leb tick (shape.ticks - 1) (omega arith),
        no_rest tick,
        le-leb shortest_window window is.1.long,
        le-leb window longest_window is.1.short,
        no_rest window,
        free-reads word,
      ) refl
  set_parameters-reads (Some window) (Some word) (Some limit) (Some bankruptcy) tick place within is =
      rw (
        le-leb 0 tick (omega arith),
        le-leb tick (shape.ticks - 1) (omega arith),
        no_rest tick,
        le-leb shortest_window window is.1.long,
        le-leb window longest_window is.1.short,
        no_rest window,
        free-reads word,
        bankruptcy-reads bankruptcy,
      ) refl

  call-reads : (asked : Call) → Reads asked
  unfolding command_read_at
  call-reads (call.Create name parent budget critical max) tick place within is = create-reads name parent budget critical max tick place within is
  call-reads (call.Modify partition budget critical max) tick place within is = modify-reads partition budget critical max tick place within is
  call-reads (call.SetParameters window free limit bankruptcy) tick place within is = set_parameters-reads window free limit bankruptcy tick place within is
  call-reads call.QueryParameters tick place within is = rw (le-leb 0 tick (omega arith), le-leb tick (shape.ticks - 1) (omega arith), no_rest tick) refl
  call-reads (call.Lookup partition) tick place within is = rw (le-leb 0 tick (omega arith), le-leb tick (shape.ticks - 1) (omega arith), no_rest tick, is_name-true partition is) refl
  call-reads (call.QueryPartition partition) tick place within is = rw (le-leb 0 tick (omega arith), le-leb tick (shape.ticks - 1) (omega arith), no_rest tick, is_name-true partition is) refl
  call-reads (call.Statistics partition) tick place within is = rw (le-leb 0 tick (omega arith), le-leb tick (shape.ticks - 1) (omega arith), no_rest tick, is_name-true partition is) refl
  call-reads (call.QueryThread x) tick place within is = rw (le-leb 0 tick (omega arith), le-leb tick (shape.ticks - 1) (omega arith), no_rest tick, is_name-true (thread_name threads x) (thread-IsName x is), thread-found x is) refl
  call-reads (call.MarkCritical x) tick place within is = rw (le-leb 0 tick (omega arith), le-leb tick (shape.ticks - 1) (omega arith), no_rest tick, is_name-true (thread_name threads x) (thread-IsName x is), thread-found x is) refl
  call-reads (call.ClearCritical x) tick place within is = rw (le-leb 0 tick (omega arith), le-leb tick (shape.ticks - 1) (omega arith), no_rest tick, is_name-true (thread_name threads x) (thread-IsName x is), thread-found x is) refl

  pub commands-read : (commands : List CommandRow) → All (IsCommand shape.parts shape.ticks (length threads)) commands
      → commands_from shape threads [] (items_of (map (command_table threads) commands)) ≡ Ok commands
  commands-read commands each =
      read_each-all (next_command shape threads) (command_table threads) [] commands (λ front row back split.
      let is = All-split (IsCommand shape.parts shape.ticks (length threads)) commands front row back split each in
      call-reads row.call row.tick (place.Command (length front)) is.tick is.call)
