use Rattle.std.proofs.Common.{ℕ, ◌≡◌, ◌⊎◌, inl, inr, List, sym, subst, arith}
use Rattle.reg_text.specs.declared.faults.TextFault.TheVariants.{Line, OutOfMemory}
use Rattle.reg_text.specs.declared.faults.Why.{Why}
use Rattle.reg_inputs.specs.Refusals.{RefusesLine}
use Rattle.reg_commands.proofs.replaying.read_schedule.Goals as goal

-- the line that is told is the one that is refused
refused : (text : List ℕ) (line : ℕ) (why : Why)
    → (Line line why ≡ OutOfMemory)
    ⊎ ((number : ℕ) × (told : Why) × (Line line why ≡ Line number told) × RefusesLine number told text)
    → RefusesLine line why text
refused text line why (inl e) = absurd (cc)
refused text line why (inr (number, told, e, r)) =
    let a : line ≡ number = cc in
    let b : why ≡ told = cc in
    subst (λ (n : ℕ). RefusesLine n why text) (sym a) (subst (λ (w : Why). RefusesLine number w text) (sym b) r)

pub returns-in-Err-Line-clause-why : goal.returns-in-Err-Line-clause-why
returns-in-Err-Line-clause-why g c = (
  λ p plan spells.
      let none = (rw c.in-Err-Line.field-0-is at (c.in-Err-Line.ensures.whole p plan spells)) in
      absurd (cc),
  λ short. (
    c.in-Err-Line.why,
    c.from.ensures,
    refused c.args.text.now c.in-Err-Line.line c.in-Err-Line.why (rw c.in-Err-Line.field-0-is at (c.in-Err-Line.ensures.line (omega (arith, short)))),
  ),
)
