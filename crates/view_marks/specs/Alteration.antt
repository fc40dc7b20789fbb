-- What commands and bankruptcies alter. Moments are ns.
use Rattle.std.specs.Prelude.{ℕ, ◌++◌, List, [], ◌∷◌, length, drop, slice_index_or, Bool, true, false, Option, Some, None}
use Rattle.std.specs.List.{flat_map}
use Rattle.aps_model.specs.declared.command.Answer.{Answer}
use Rattle.aps_model.specs.declared.command.Answer.TheVariants.{Refused}
use Rattle.aps_model.specs.declared.command.Call.{Call}
use Rattle.aps_model.specs.declared.command.Call.TheVariants.{Create as CreateCall, Modify as ModifyCall, QueryParameters, SetParameters as SetCall, MarkCritical as MarkCall, ClearCritical as ClearCall}
use Rattle.aps_model.specs.declared.command.Change.{Change}
use Rattle.aps_model.specs.declared.command.ChangeKind.{ChangeKind}
use Rattle.aps_model.specs.declared.command.ChangeKind.TheVariants.{Cancelled}
use Rattle.aps_model.specs.declared.command.CommandRow.{CommandRow}
use Rattle.aps_model.specs.declared.command.Reply.{Reply}
use Rattle.aps_model.specs.declared.entry.Entry.{Entry}
use Rattle.aps_model.specs.After.{state_after}
use Rattle.aps_model.specs.Scenario.{Scenario}
use Rattle.aps_model.specs.SchedulerState.{SchedulerState}
use Rattle.view_marks.specs.declared.alteration.Alteration.{Alteration}
use Rattle.view_marks.specs.declared.alteration.Altered.{Altered}
use Rattle.view_marks.specs.declared.alteration.Altered.TheVariants.{Create, Modify, SetParameters, MarkCritical, ClearCritical, Cancel}

-- ---- by commands

-- what a call alters, if it can alter anything
abbrev pub altered_by : Call → Option Altered
altered_by (CreateCall name parent budget critical max) = Some (Create name)
altered_by (ModifyCall partition budget critical max) = Some (Modify partition)
altered_by (SetCall window free limit bankruptcy) = Some SetParameters
altered_by (MarkCall x) = Some (MarkCritical x)
altered_by (ClearCall x) = Some (ClearCritical x)
altered_by call = None

-- what is read where there is no such command: one that alters nothing
abbrev pub no_command : CommandRow
no_command = record { tick = 0; call = QueryParameters }

abbrev pub call_of_command : List CommandRow → ℕ → Call
call_of_command commands place = (slice_index_or commands place no_command).call

abbrev pub is_refused : Answer → Bool
is_refused (Refused why) = true
is_refused answer = false

abbrev pub at_moment : ℕ → Bool → Option Altered → Option Alteration
at_moment moment refused None = None
at_moment moment refused (Some altered) = Some (record { moment = moment; altered = altered; refused = refused })

-- the command that has this reply was done at this moment
abbrev pub by_reply : List CommandRow → ℕ → Reply → Option Alteration
by_reply commands moment reply = at_moment moment (is_refused reply.answer) (altered_by (call_of_command commands reply.command))

abbrev pub option_list : Option Alteration → List Alteration
option_list None = []
option_list (Some alteration) = alteration ∷ []

abbrev pub by_replies : List CommandRow → ℕ → List Reply → List Alteration
by_replies commands moment replies = flat_map (λ reply. option_list (by_reply commands moment reply)) replies

-- ---- by bankruptcies

abbrev pub cancelled_by : ℕ → ChangeKind → Option Alteration
cancelled_by moment (Cancelled p) = Some (record { moment = moment; altered = Cancel p; refused = false })
cancelled_by moment kind = None

abbrev pub by_change : ℕ → Change → Option Alteration
by_change moment change = cancelled_by moment change.kind

abbrev pub by_changes : ℕ → List Change → List Alteration
by_changes moment changes = flat_map (λ change. option_list (by_change moment change)) changes

-- ---- by entries

-- what was altered between two states, at this moment: first by the commands that were answered, then by a bankruptcy
abbrev pub altered_between : List CommandRow → ℕ → SchedulerState → SchedulerState → List Alteration
altered_between commands moment s t =
    by_replies commands moment (drop (length s.replies) t.replies) ++ by_changes moment (drop (length s.changes) t.changes)

-- the alterations go on with those of each entry's step
abbrev pub alterations_from : Scenario → List Alteration → List Entry → List Entry → List Alteration
alterations_from scenario done h [] = done
alterations_from scenario done h (e ∷ es) =
    alterations_from scenario
    (done ++ altered_between scenario.commands e.to (state_after scenario h) (state_after scenario (h ++ e ∷ []))) (h ++ e ∷ []) es

-- what was altered in a history, in order
unfoldable pub alterations_of : Scenario → List Entry → List Alteration
alterations_of scenario h = alterations_from scenario [] [] h
