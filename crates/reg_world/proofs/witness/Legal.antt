-- From the walk to legality.
use Rattle.std.proofs.Common.{◌≡◌, ℕ, zero, suc, List, [], ◌∷◌, take, ap, sym, ◌∙◌, subst}
use Rattle.std.proofs.lemmas.Option.{same_Some}
use Rattle.reg_base.specs.declared.memory.OpId.{OpId}
use Rattle.reg_base.specs.declared.memory.Op.{Op}
use Rattle.reg_base.specs.declared.memory.Answer.{Answer}
use Rattle.reg_checkers.specs.declared.entries.Entry.{Entry}
use Rattle.reg_base.specs.Memory.{Memory, answer_of, after, memory_after, blank}
use Rattle.reg_checkers.specs.History.{IsAt, IsAnswered}
use Rattle.reg_checkers.specs.Checks.{AreCalled}
use Rattle.reg_checkers.specs.Orders.{IsLegal}
use Rattle.reg_world.proofs.witness.Walk.{LegalFrom}

abbrev ops_of : (h : List Entry) (m : Memory) (ids : List OpId) → LegalFrom h m ids → List Op
ops_of h m [] legal = []
ops_of h m (id ∷ ids) legal = legal.1 ∷ ops_of h (after legal.1 m) ids legal.4

are_called : (h : List Entry) (m : Memory) (ids : List OpId) (legal : LegalFrom h m ids)
    → AreCalled h ids (ops_of h m ids legal)
are_called h m [] legal = tt
are_called h m (id ∷ ids) legal = ((legal.0, legal.2), are_called h (after legal.1 m) ids legal.4)

are_right : (h : List Entry) (m : Memory) (ids : List OpId) (legal : LegalFrom h m ids) (k : ℕ) (id : OpId) (op : Op)
    (at : ℕ) (answer : Answer)
    → IsAt ids k id → IsAt (ops_of h m ids legal) k op → IsAnswered h id at answer → answer ≡ answer_of op (memory_after (take k (ops_of h m ids legal)) m)
are_right h m [] legal k id op at answer here there is = absurd cc
are_right h m (x ∷ ids) legal zero id op at answer here there is =
    legal.3 at answer (subst (λ (y : OpId). IsAnswered h y at answer) (sym (same_Some x id here)) is) ∙ ap (λ (o : Op). answer_of o m) (same_Some legal.1 op there)
are_right h m (x ∷ ids) legal (suc k) id op at answer here there is =
    are_right h (after legal.1 m) ids legal.4 k id op at answer here there is

pub legal_from_walk : (registers : ℕ) (h : List Entry) (ids : List OpId) → LegalFrom h (blank registers) ids
    → IsLegal registers h ids
legal_from_walk registers h ids legal = record {
  ops = ops_of h (blank registers) ids legal;
  called = are_called h (blank registers) ids legal;
  right = λ k id op at answer here there is. are_right h (blank registers) ids legal k id op at answer here there is;
}
