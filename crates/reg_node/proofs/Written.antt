-- The text of a record is read as that record.
use Rattle.std.proofs.Common.{ℕ, suc, ◌≡◌, ◌<◌, ◌^◌, List, [], ◌∷◌, ◌++◌, map, codes, Option, None, Some, refl, sym, ap}
use Rattle.std.proofs.Common.{◌∙◌, arith, append-nil}
use Rattle.std.specs.Prelude.{slice_get}
use Rattle.std.specs.Fmt.{decimal}
use Rattle.reg_base.specs.Names.{names_fault}
use Rattle.reg_base.specs.declared.memory.Answer.{Answer}
use Rattle.reg_base.specs.declared.memory.Answer.TheVariants.{Done, Value, Unequal}
use Rattle.reg_process.specs.declared.steps.Reply.{Reply}
use Rattle.reg_text.specs.Lines.{lines_of}
use Rattle.reg_text.specs.Parts.{Lacks}
use Rattle.reg_text.specs.Words.{names_text}
use Rattle.reg_text.proofs.Joining.{joined, number}
use Rattle.reg_text.proofs.NamesLack.{well_spelt}
use Rattle.reg_text.proofs.Split.{AllLack, lines_text, none_left}
use Rattle.reg_node.specs.declared.transcripts.recorded.Recorded.{Recorded}
use Rattle.reg_node.specs.RecordLines.{Account, AnswerFits, IsAccount, IsFitting, RecordedFits, SpellsAccount}
use Rattle.reg_node.specs.RecordLines.{account_lines, account_text, answer_text, recorded_text, reply_text, step_text}
use Rattle.reg_node.specs.RecordLines.{told_text}
use Rattle.reg_node.proofs.Signs.{clear_step}
use Rattle.reg_inputs.proofs.ReadBack.{names_lack, front_lacks}

answer_lacks : (answer : Answer) (place : ℕ) → AnswerFits answer → place < 2 ^ 64 → Lacks 10 (answer_text answer place)
answer_lacks Done place fits small = joined 10 (codes "done ") (decimal place) refl (number place small)
answer_lacks (Value value) place fits small =
    joined 10 (codes "value ") (decimal value ++ 32 ∷ decimal place) refl (joined 10 (decimal value) (32 ∷ decimal place) (number value fits) (joined 10 (32 ∷ []) (decimal place) refl (number place small)))
answer_lacks Unequal place fits small = joined 10 (codes "unequal ") (decimal place) refl (number place small)

told_lacks : (step : List ℕ) (reply : Option Reply) → Lacks 10 step → IsFitting reply → Lacks 10 (told_text step reply)
told_lacks step None lacks fits = lacks
told_lacks step (Some reply) lacks fits = joined 10 step (codes " = " ++ reply_text reply) lacks (joined 10 (codes " = ") (reply_text reply) refl (answer_lacks reply.answer reply.place fits.0 fits.1))

recorded_lacks : (names : List (List ℕ)) (r : Recorded) → names_fault names ≡ None → RecordedFits names r
    → Lacks 10 (recorded_text names r)
recorded_lacks names r ok fits =
    let entry = told_text (step_text names r.entry.step) r.entry.reply in
    joined 10 (decimal r.process) (32 ∷ entry) (number r.process (let l = fits.0 in omega (arith, l)))
    (joined 10 (32 ∷ []) entry refl (told_lacks (step_text names r.entry.step) r.entry.reply (clear_step names r.entry.step ok fits.1.0).1 fits.1.1))

steps_lack : (names : List (List ℕ)) (steps : List Recorded) → names_fault names ≡ None
    → ((k : ℕ) (r : Recorded) → slice_get steps k ≡ Some r → RecordedFits names r)
    → AllLack (map (recorded_text names) steps)
steps_lack names [] ok fit = tt
steps_lack names (r ∷ steps) ok fit =
    (recorded_lacks names r ok (fit 0 r refl), steps_lack names steps ok (λ k x h. fit (suc k) x h))

pub lines_lack : (a : Account) → IsAccount a → AllLack (account_lines a)
lines_lack a good = (
  refl,
  (
    front_lacks a.front,
    (
      joined 10 (codes "processes ") (decimal a.shape.processes) refl (number a.shape.processes (let l = good.processes in omega (arith, l))),
      (joined 10 (codes "registers") (names_text a.names) refl (names_lack a.names (λ r l. well_spelt a.names r good.names l)), steps_lack a.names a.steps good.names good.steps),
    ),
  ),
)

pub written : (a : Account) → IsAccount a → SpellsAccount (account_text a) a
written a good = ap lines_of (sym (append-nil (account_text a))) ∙ (lines_text (account_lines a) [] (lines_lack a good) ∙ (ap (λ l. account_lines a ++ l) none_left ∙ append-nil (account_lines a)))
