-- A step with its reply.
use Rattle.std.proofs.Common.{ℕ, ◌≡◌, List, [], ◌∷◌, ◌++◌, Option, None, Some, refl, sym, ap, ap₂, ◌∙◌, subst}
use Rattle.std.proofs.Common.{append_assoc}
use Rattle.std.proofs.lemmas.Option.{same_Some}
use Rattle.reg_base.specs.Names.{names_fault}
use Rattle.reg_process.specs.declared.steps.Reply.{Reply}
use Rattle.reg_process.specs.declared.steps.Step.{Step}
use Rattle.reg_records.specs.declared.entries.LogEntry.{LogEntry}
use Rattle.reg_text.specs.Parts.{Lacks}
use Rattle.reg_text.proofs.Joining.{joined}
use Rattle.reg_text.proofs.Worded.{not_lacking}
use Rattle.reg_node.specs.RecordLines.{EntryFits, IsFitting, ReplyFits, entry_text, reply_text, step_text, told_text}
use Rattle.reg_node.proofs.Signs.{clear_step}

-- the parts at the first equals sign
abbrev pub IsCut : List ℕ → List ℕ → List ℕ → Type 0
IsCut text front behind = (f r : List ℕ) → Lacks 61 f → text ≡ f ++ 61 ∷ r → (front ≡ f) × (behind ≡ r)

-- what they say of the entry that the text spells
pub record Answered (names : List (List ℕ)) (front behind : List ℕ) (entry : LogEntry) : Type 0 where
  pub reply : Reply
  pub is : entry.reply ≡ Some reply
  pub fits : ReplyFits reply
  pub step : front ≡ step_text names entry.step ++ 32 ∷ []
  pub words : behind ≡ 32 ∷ reply_text reply

module _ (names : List (List ℕ)) (text front behind : List ℕ) (spelt : names_fault names ≡ None) (read : text ≡ front ++ 61 ∷ behind) (cut : IsCut text front behind) (entry : LogEntry) where
  of_reply : (told : Option Reply) → entry.reply ≡ told → Lacks 61 (step_text names entry.step) → IsFitting told → text ≡ told_text (step_text names entry.step) told → Answered names front behind entry
  of_reply None is lacks fits same =
      let P : List ℕ → Type 0 = λ l. Lacks 61 l in
      absurd (not_lacking 61 front behind (subst P (sym same ∙ read) lacks))
  of_reply (Some reply) is lacks fits same =
      let parts = cut (step_text names entry.step ++ 32 ∷ []) (32 ∷ reply_text reply) (joined 61 (step_text names entry.step) (32 ∷ []) lacks refl)
      (same ∙ sym (append_assoc (step_text names entry.step) (32 ∷ []) (61 ∷ (32 ∷ reply_text reply)))) in
      record { reply = reply; is = is; fits = fits; step = parts.0; words = parts.1 }

  pub answered : EntryFits names entry → text ≡ entry_text names entry → Answered names front behind entry
  answered fits same = of_reply entry.reply refl (clear_step names entry.step spelt fits.0).0 fits.1 same

pub same_entry : (entry : LogEntry) (step : Step) (reply told : Reply)
    → (let one : Step × Reply = (step, reply) in let other : Step × Reply = (entry.step, told) in Some one ≡ Some other)
    → entry.reply ≡ Some told → Some (record { step = step; reply = Some reply }) ≡ Some entry
same_entry entry step reply told both is =
    let same = same_Some (step, reply) (entry.step, told) both in
    let first : step ≡ entry.step = ap (λ (p : Step × Reply). p.0) same in
    let second : reply ≡ told = ap (λ (p : Step × Reply). p.1) same in
    ap₂ (λ x y. Some (record { step = x; reply = y })) first (ap Some second ∙ sym is)
