-- What is found out of a history is found out of the report that has it.
use Rattle.std.proofs.Common.{ℕ, ◌≡◌, ◌∙◌, List, Option, Result, ap, subst}
use Rattle.reg_base.specs.Shape.{Extent}
use Rattle.reg_checkers.specs.declared.entries.Entry.{Entry}
use Rattle.reg_checkers.specs.declared.entries.Point.{Point}
use Rattle.reg_history.specs.Reports.{Contents}
use Rattle.reg_judge.specs.Reported.{AreRowsOf, IsJudgedReport, SerialFound}
use Rattle.reg_judge.specs.Rulings.{AreRuled, IsFound}
use Rattle.reg_judge.specs.declared.rulings.keys.Ruling.{Ruling}
use Rattle.reg_judge.specs.declared.rulings.rows.Row.{Row}
use Rattle.reg_judge.specs.declared.rulings.serial.Serial.{Serial}

module _ (r : Contents) (shape : Extent) (entries : List Entry) (same_shape : shape ≡ r.shape) (same_entries : entries ≡ r.entries) where
  pub judged : (found : Result (List Point) ℕ) (rows given : List Row) (processes registers : ℕ) (rulings : List Ruling)
      (serial : Option Serial)
      → processes ≡ shape.processes → registers ≡ shape.registers → given ≡ rows
      → IsFound shape.registers entries found → AreRowsOf entries rows → AreRuled processes registers given rulings → SerialFound shape.registers entries found serial → IsJudgedReport r found rulings serial
  judged found rows given processes registers rulings serial ps rs gs whole are each in_series = record {
    whole = subst (λ (x : Extent). IsFound x.registers r.entries found) same_shape (subst (λ (es : List Entry). IsFound shape.registers es found) same_entries whole);
    rows = rows;
    are = subst (λ (es : List Entry). AreRowsOf es rows) same_entries are;
    each = subst (λ (n : ℕ). AreRuled n r.shape.registers rows rulings) (ps ∙ ap (λ (x : Extent). x.processes) same_shape)
        (subst (λ (n : ℕ). AreRuled processes n rows rulings) (rs ∙ ap (λ (x : Extent). x.registers) same_shape) (subst (λ (l : List Row). AreRuled processes registers l rulings) gs each));
    in_series = subst (λ (x : Extent). SerialFound x.registers r.entries found serial) same_shape (subst (λ (es : List Entry). SerialFound shape.registers es found serial) same_entries in_series);
  }
