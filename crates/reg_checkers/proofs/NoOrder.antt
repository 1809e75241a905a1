-- A fault shows that an order is none: so yes comes exactly for orders.
use Rattle.std.proofs.Common.{◌≡◌, ◌≢◌, ℕ, ◌<◌, ◌≤◌, inl, inr, List, [], ◌∷◌, take, refl, ap₂, sym, subst, arith}
use Rattle.reg_base.specs.declared.memory.OpId.{OpId}
use Rattle.reg_base.specs.declared.memory.Op.{Op}
use Rattle.reg_checkers.specs.declared.entries.Entry.{Entry}
use Rattle.reg_checkers.specs.declared.entries.Point.{Point}
use Rattle.reg_checkers.specs.declared.faults.CheckFault.{CheckFault}
use Rattle.reg_checkers.specs.declared.faults.CheckFault.TheVariants.{Unknown, Twice, Missing, OwnOrder, Answer}
use Rattle.reg_checkers.specs.declared.faults.CheckFault.TheVariants.{Outside, Falling, OutOfMemory}
use Rattle.reg_base.specs.Memory.{answer_of, memory}
use Rattle.reg_checkers.specs.History.{IsAt, IsHistory}
use Rattle.reg_checkers.specs.Orders.{IsSelection, IsLegal, KeepsOwnOrder, IsSerial, IsPointOrder}
use Rattle.reg_checkers.specs.Checks.{AreCalled, HasUnknown, HasTwice, HasMissing, BreaksOwnOrder, IsWrong, IsOutside}
use Rattle.reg_checkers.specs.Checks.{IsFalling, IsSerialFault, IsPointFault, ids_of}
use Rattle.reg_checkers.proofs.Histories.{call_is}

-- the operations under a list of ids are determined
pub same_ops : (n registers : ℕ) (h : List Entry) → IsHistory n registers h → (ids : List OpId) (xs ys : List Op)
    → AreCalled h ids xs → AreCalled h ids ys → xs ≡ ys
same_ops n registers h good [] [] [] p q = refl
same_ops n registers h good [] [] (y ∷ ys) p q = absurd q
same_ops n registers h good [] (x ∷ xs) ys p q = absurd p
same_ops n registers h good (id ∷ ids) [] ys p q = absurd p
same_ops n registers h good (id ∷ ids) (x ∷ xs) [] p q = absurd q
same_ops n registers h good (id ∷ ids) (x ∷ xs) (y ∷ ys) p q =
    ap₂ (λ (o : Op) (os : List Op). o ∷ os) (call_is n registers h good id p.0.0 q.0.0 x y p.0.1 q.0.1).1 (same_ops n registers h good ids xs ys p.1 q.1)

module _ (n registers : ℕ) (h : List Entry) (good : IsHistory n registers h) where
  not_unknown : (ids : List OpId) → IsSelection h ids → ¬ HasUnknown h ids
  not_unknown ids sel (k, id, at, open_, no_update) = elim (sel.known k id at) [ inl fin ↦ open_ fin | inr call ↦ no_update call ]

  not_twice : (ids : List OpId) → IsSelection h ids → ¬ HasTwice ids
  not_twice ids sel (i, j, id, at1, at2, lt) = let same : i ≡ j = sel.distinct i j id at1 at2 in omega arith

  not_missing : (ids : List OpId) → IsSelection h ids → ¬ HasMissing h ids
  not_missing ids sel (id, fin, none) = let found = sel.finished id fin in none found.0 found.1

  not_broken : (ids : List OpId) → KeepsOwnOrder ids → ¬ BreaksOwnOrder ids
  not_broken ids own (i, j, a, b, at1, at2, lt, same, less) = let other : j < i = own j i b a at2 at1 (sym same) less in omega arith

  not_wrong : (ids : List OpId) → IsLegal registers h ids → (k : ℕ) → ¬ IsWrong registers h ids k
  not_wrong ids legal k w =
      let same = same_ops n registers h good ids w.ops legal.ops w.called legal.called in
      let its_op : IsAt legal.ops k w.op = subst (λ ops. IsAt ops k w.op) same w.its_op in
      let right : w.answer ≡ answer_of w.op (memory registers (take k legal.ops)) = legal.right k w.id w.op w.at w.answer w.here its_op w.answered in
      w.wrong (subst (λ ops. w.answer ≡ answer_of w.op (memory registers (take k ops))) (sym same) right)

  not_outside : (ps : List Point) → IsPointOrder registers h ps → (k : ℕ) → ¬ IsOutside h ps k
  not_outside ps order k (p, at, inl (t, op, is, lt)) = let le : t ≤ p.at = order.called k p t op at is in omega arith
  not_outside ps order k (p, at, inr (t, answer, is, lt)) = let le : p.at ≤ t = order.answered k p t answer at is in omega arith

  not_falling : (ps : List Point) → IsPointOrder registers h ps → (k : ℕ) → ¬ IsFalling ps k
  not_falling ps order k (j, p, q, e, at1, at2, lt) = let le : p.at ≤ q.at = order.rising j k p q at1 at2 (omega arith) in omega arith

pub fault_not_serial : (n registers : ℕ) (h : List Entry) → IsHistory n registers h → (ids : List OpId) (f : CheckFault)
    → f ≢ OutOfMemory → IsSerialFault registers h ids f → ¬ IsSerial registers h ids
fault_not_serial n registers h good ids Unknown other fault order =
    not_unknown n registers h good ids order.selection fault
fault_not_serial n registers h good ids Twice other fault order =
    not_twice n registers h good ids order.selection fault.1
fault_not_serial n registers h good ids Missing other fault order =
    not_missing n registers h good ids order.selection fault.2
fault_not_serial n registers h good ids OwnOrder other fault order =
    not_broken n registers h good ids order.own_order fault.1
fault_not_serial n registers h good ids (Answer place) other fault order =
    not_wrong n registers h good ids order.legal place fault.2.0
fault_not_serial n registers h good ids (Outside place) other fault order = fault
fault_not_serial n registers h good ids (Falling place) other fault order = fault
fault_not_serial n registers h good ids OutOfMemory other fault order = other refl

pub fault_not_points : (n registers : ℕ) (h : List Entry) → IsHistory n registers h → (ps : List Point) (f : CheckFault)
    → f ≢ OutOfMemory → IsPointFault registers h ps f → ¬ IsPointOrder registers h ps
fault_not_points n registers h good ps Unknown other fault order =
    not_unknown n registers h good (ids_of ps) order.selection fault
fault_not_points n registers h good ps Twice other fault order =
    not_twice n registers h good (ids_of ps) order.selection fault.1
fault_not_points n registers h good ps Missing other fault order =
    not_missing n registers h good (ids_of ps) order.selection fault.2
fault_not_points n registers h good ps OwnOrder other fault order = fault
fault_not_points n registers h good ps (Answer place) other fault order =
    not_wrong n registers h good (ids_of ps) order.legal place fault.1.0
fault_not_points n registers h good ps (Outside place) other fault order =
    not_outside n registers h good ps order place fault.2.0
fault_not_points n registers h good ps (Falling place) other fault order =
    not_falling n registers h good ps order place fault.3.0
fault_not_points n registers h good ps OutOfMemory other fault order = other refl
