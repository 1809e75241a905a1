-- A node whose log is spelled, input by input.
use Rattle.std.proofs.Common.{◌≡◌, ◌≢◌, ℕ, false, List, [], ◌∷◌, ◌++◌, Some, Result, Ok, Err, refl, ap, sym, ◌∙◌, subst}
use Rattle.std.specs.Prelude.{MatchResult}
use Rattle.reg_base.specs.declared.memory.Op.{Op}
use Rattle.reg_front.specs.declared.starts.Start.{Start}
use Rattle.reg_process.specs.declared.steps.Step.{Step}
use Rattle.reg_process.specs.Process.{State}
use Rattle.reg_records.specs.declared.entries.LogEntry.{LogEntry}
use Rattle.reg_node.specs.LogTexts.{Journal, entry_line, grown_by, log_crc, log_text, recorded_by}
use Rattle.reg_node.specs.RecordLines.{recorded_text}
use Rattle.reg_node.specs.Seals.{crc_behind, sealed_line}
use Rattle.reg_node.proofs.Journals.{crc_grows, text_grows}
use Rattle.reg_node.specs.declared.faults.LoggedFault.{LoggedFault}
use Rattle.reg_node.specs.declared.faults.LoggedFault.TheVariants.{Stopped, Unspelled, OfMeeting}
use Rattle.reg_node.specs.declared.faults.MeetingFault.{MeetingFault}
use Rattle.reg_node.specs.declared.faults.MeetingFault.TheVariants.{LogLost, Unheard, OfNode}
use Rattle.reg_node.specs.Logged.{IsSpelled, IsSpelledOn, LoggedHandsOut, LoggedState, SpellsEntry, SpellsNothing}
use Rattle.reg_node.specs.Logged.{Writes, WritesNothing, past_with, text_by}
use Rattle.reg_node.specs.Meetings.{MeetingLogs, MeetingLogsNothing, MeetingState}
use Rattle.reg_node.specs.Logs.{Outgoing}
use Rattle.reg_node.specs.Nodes.{Lives, Past, past_given}
use Rattle.reg_node.proofs.Living.{lives_gives, lives_logs, lives_logs_nothing}

module _ (start : Op → ℕ → Start) (first : State) (j : Journal) (past : Past) where
  -- an entry was made, and spelled
  pub spelled_on : (old new : LoggedState) (e : Step) (bytes : List ℕ) → Writes start old e bytes new
      → IsSpelled start first j past old → IsSpelledOn start first j past bytes new
  spelled_on old new e bytes w is =
      let text : recorded_text j.names (recorded_by j.id.process w.entry) ≡ text_by old w.entry =
      ap (λ ns. recorded_text ns (recorded_by j.id.process w.entry)) is.names ∙ ap (λ p. recorded_text old.names (recorded_by p w.entry)) is.process in
      let line : entry_line j w.entry ≡ bytes = ap (λ t. sealed_line (log_crc j) t) text ∙ ap (λ c. sealed_line c (text_by old w.entry)) (sym is.crc) ∙ sym w.spelled in
      record {
        entry = w.entry;
        text = text_grows j w.entry ∙ ap (λ t. log_text j ++ t) line;
        spelled = subst (λ (l : LoggedState). IsSpelled start first (grown_by j w.entry) (past_with past w.entry) l) (sym w.rest) (record {
          lives = lives_logs start first past old.meeting.node new.meeting.node e w.entry w.made.made is.lives;
          entries = ap (λ es. es ++ w.entry ∷ []) is.entries;
          process = is.process;
          names = is.names;
          crc = ap (λ c. crc_behind c (text_by old w.entry)) is.crc ∙ ap (λ t. crc_behind (log_crc j) t) (sym text) ∙ sym (crc_grows j w.entry);
        });
      }

  meeting_kept : (old new : MeetingState) (e : Step) (fault : MeetingFault) → MeetingLogsNothing start old e fault new → Lives start first past old.node → Lives start first past new.node
  meeting_kept old new e LogLost n is = subst (λ (m : MeetingState). Lives start first past m.node) (sym n.1) is
  meeting_kept old new e Unheard n is = subst (λ (m : MeetingState). Lives start first past m.node) (sym n.2) is
  meeting_kept old new e (OfNode fault) n is = lives_logs_nothing start first past old.node new.node e fault n.0 is

  -- what was made is spelled, or nothing is
  pub spelled_by : {V : Type 0} (items : V → List ℕ) (old new : LoggedState) (m : MeetingState) (e : Step)
      (made : Result LogEntry MeetingFault) (r : Result V LoggedFault)
      → old.stopped ≡ false
      → MatchResult made (λ entry. MeetingLogs start old.meeting e entry m) (λ f. MeetingLogsNothing start old.meeting e f m)
      → MatchResult r (λ v. SpellsEntry (record old { meeting = m }) made (items v) new) (λ f. SpellsNothing (record old { meeting = m }) made f new)
      → IsSpelled start first j past old → MatchResult r (λ v. IsSpelledOn start first j past (items v) new) (λ f. f ≢ Unspelled → IsSpelled start first j past new)
  spelled_by items old new m e made (Ok v) kept step s is =
      let P : Result LogEntry MeetingFault → Type 0 = λ x. MatchResult x (λ entry. MeetingLogs start old.meeting e entry m) (λ f. MeetingLogsNothing start old.meeting e f m) in
      let logs : MeetingLogs start old.meeting e s.entry m = subst P s.is step in
      let same : m ≡ new.meeting = ap (λ (l : LoggedState). l.meeting) (sym s.rest) in
      spelled_on old new e (items v) (record {
        entry = s.entry;
        kept = kept;
        made = subst (λ (x : MeetingState). MeetingLogs start old.meeting e s.entry x) same logs;
        spelled = s.spelled;
        rest = s.rest ∙ ap (λ (x : MeetingState). let l : LoggedState = record old { meeting = x; crc = crc_behind old.crc (text_by old s.entry) } in l) same;
      }) is
  spelled_by items old new m e made (Err Stopped) kept step s is = absurd s
  spelled_by items old new m e made (Err Unspelled) kept step s is = λ other. absurd (other refl)
  spelled_by items old new m e made (Err (OfMeeting fault)) kept step s is = λ other.
      let P : Result LogEntry MeetingFault → Type 0 = λ x. MatchResult x (λ entry. MeetingLogs start old.meeting e entry m) (λ f. MeetingLogsNothing start old.meeting e f m) in
      let nothing : MeetingLogsNothing start old.meeting e fault m = subst P s.0 step in
      subst (λ (l : LoggedState). IsSpelled start first j past l) (sym s.1)
      (record { lives = meeting_kept old.meeting m e fault nothing is.lives; entries = is.entries; process = is.process; names = is.names; crc = is.crc })

  -- nothing was to be written
  pub spelled_still : (old new : LoggedState) (e : Step) (fault : LoggedFault) → WritesNothing start old e fault new
      → fault ≢ Unspelled → IsSpelled start first j past old → IsSpelled start first j past new
  spelled_still old new e Stopped w other is = subst (λ (l : LoggedState). IsSpelled start first j past l) (sym w.1) is
  spelled_still old new e Unspelled w other is = absurd (other refl)
  spelled_still old new e (OfMeeting fault) w other is =
      subst (λ (l : LoggedState). IsSpelled start first j past l) (sym w.2)
      (record { lives = meeting_kept old.meeting new.meeting e fault w.1 is.lives; entries = is.entries; process = is.process; names = is.names; crc = is.crc })

  -- something was handed out
  pub spelled_given : (old new : LoggedState) (output : Outgoing) → LoggedHandsOut old output new
      → IsSpelled start first j past old → IsSpelled start first j (past_given past (Some output)) new
  spelled_given old new output h is =
      let made = h.made.made in
      subst (λ (l : LoggedState). IsSpelled start first j (past_given past (Some output)) l) (sym h.rest)
      (record { lives = lives_gives start first past old.meeting.node new.meeting.node output made.due made.held made.rest is.lives; entries = is.entries; process = is.process; names = is.names; crc = is.crc })
