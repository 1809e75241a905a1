-- A record has one verdict.
use Rattle.std.proofs.Common.{◌≡◌, ◌≢◌, ◌⊎◌, inl, inr, ℕ, zero, suc, ◌<◌, ◌≤◌, List, [], ◌∷◌, length, Some, refl, ap₂}
use Rattle.std.proofs.Common.{sym, ◌∙◌, subst, arith}
use Rattle.std.proofs.lemmas.Bool.{cases_order}
use Rattle.reg_base.specs.declared.memory.Op.{Op}
use Rattle.reg_base.specs.declared.memory.OpId.{OpId}
use Rattle.reg_base.specs.Shape.{Extent}
use Rattle.reg_front.specs.declared.starts.Start.{Start}
use Rattle.reg_checkers.specs.declared.entries.Entry.{Entry}
use Rattle.reg_checkers.specs.History.{IsAt, IsHistory}
use Rattle.reg_checkers.proofs.Histories.{call_is, answer_is}
use Rattle.reg_checkers.proofs.Places.{element_at, within}
use Rattle.reg_world.specs.World.{op_id}
use Rattle.reg_world.specs.Worlds.{Made}
use Rattle.reg_records.specs.declared.entries.LogEntry.{LogEntry}
use Rattle.reg_records.specs.declared.entries.Receipt.{Receipt}
use Rattle.reg_records.specs.declared.faults.CloseFault.{CloseFault}
use Rattle.reg_records.specs.declared.faults.CloseFault.TheVariants.{Unfaithful, Mismatch, OutOfMemory}
use Rattle.reg_records.specs.Records.{Plays, IsFaithful, FailsAt, AreAlike}
use Rattle.reg_records.specs.Receipts.{IsReceipt, AreFinished, AreTold, IsRecord, IsRecordFault}
use Rattle.reg_records.proofs.Alike.{plays_alike}

pub one_run : (start : Op → ℕ → Start) (shape : Extent) (order : List ℕ) (logs : List (List LogEntry)) (u v : Made)
    → IsFaithful start shape order logs u → IsFaithful start shape order logs v → AreAlike start u v
one_run start shape order logs u v a b = plays_alike start shape order logs (length order) u v a.plays b.plays

-- lists with the same elements at the same places
same_lists : {X : Type 0} (xs ys : List X) → ((k : ℕ) (x : X) → IsAt xs k x → IsAt ys k x) → length xs ≡ length ys
    → xs ≡ ys
same_lists [] [] each e = refl
same_lists [] (y ∷ ys) each e = absurd (omega arith)
same_lists (x ∷ xs) [] each e = absurd (omega arith)
same_lists (x ∷ xs) (y ∷ ys) each e =
    let first : y ≡ x = let s : Some y ≡ Some x = each 0 x refl in cc in
    let rest : xs ≡ ys = same_lists xs ys (λ k z at. each (suc k) z at) (omega arith) in
    ap₂ (λ h t. h ∷ t) (sym first) rest

module _ (n registers : ℕ) (h : List Entry) (good : IsHistory n registers h) (p : ℕ) where
  -- one operation has one receipt
  one_receipt : (id : OpId) (r s : Receipt) → IsReceipt h id r → IsReceipt h id s → r ≡ s
  one_receipt id r s a b =
      let call = call_is n registers h good id r.called s.called r.op s.op a.call b.call in
      let answer = answer_is n registers h good id r.answered s.answered r.answer s.answer a.answer_of b.answer_of in
      (λ k. record { id = (a.id_is ∙ sym b.id_is) k; op = call.1 k; answer = answer.1 k; called = call.0 k; answered = answer.0 k })

  -- each receipt of one list stands in the other
  stands_too : (a b : List Receipt) → AreFinished h p a → AreFinished h p b → (k : ℕ) (r : Receipt) → IsAt a k r → IsAt b k r
  stands_too a b x y k r at =
      let first = x.each k r at in
      let there = element_at b k (y.all k (r.answered, r.answer, first.answer_of)) in
      subst (λ (s : Receipt). IsAt b k s) (one_receipt (op_id p k) there.0 r (y.each k there.0 there.1) first) there.1

  not_longer : (a b : List Receipt) → AreFinished h p a → AreFinished h p b → length b < length a → ⊥
  not_longer a b x y lt =
      let last = element_at a (length b) lt in
      let there = stands_too a b x y (length b) last.0 last.1 in
      let bad = within b (length b) last.0 there in omega arith

pub one_list : (n registers : ℕ) (h : List Entry) → IsHistory n registers h → (p : ℕ) (a b : List Receipt)
    → AreFinished h p a → AreFinished h p b → a ≡ b
one_list n registers h good p a b x y =
    same_lists a b (stands_too n registers h good p a b x y) (len (cases_order (length a) (length b)))
  where
    len : (length a ≡ length b) ⊎ ((length a < length b) ⊎ (length b < length a)) → length a ≡ length b
    len (inl e) = e
    len (inr (inl lt)) = absurd (not_longer n registers h good p b a y x lt)
    len (inr (inr gt)) = absurd (not_longer n registers h good p a b x y gt)

-- what is played is played up to every place before
played_before : (start : Op → ℕ → Start) (shape : Extent) (order : List ℕ) (logs : List (List LogEntry)) (j k : ℕ)
    (w : Made)
    → Plays start shape order logs k w → j ≤ k → (v : Made) × Plays start shape order logs j v
played_before start shape order logs j zero w plays le =
    let e : zero ≡ j = omega arith in (w, subst (λ (i : ℕ). Plays start shape order logs i w) e plays)
played_before start shape order logs j (suc k) w (before, plays, turn) le =
    go (λ (h : j ≤ k). played_before start shape order logs j k before plays h) (cases_order j (suc k))
  where
    go : (j ≤ k → (v : Made) × Plays start shape order logs j v) → (j ≡ suc k) ⊎ ((j < suc k) ⊎ (suc k < j)) → (v : Made) × Plays start shape order logs j v
    go rec (inl e) = (w, subst (λ (i : ℕ). Plays start shape order logs i w) (sym e) (before, plays, turn))
    go rec (inr (inl lt)) = rec (omega arith)
    go rec (inr (inr gt)) = absurd (omega arith)

fails : (start : Op → ℕ → Start) (shape : Extent) (order : List ℕ) (logs : List (List LogEntry)) (place : ℕ) (w : Made)
    → FailsAt start shape order logs place → IsFaithful start shape order logs w → ⊥
fails start shape order logs place w f faithful = go (cases_order place (length order))
  where
    go : (place ≡ length order) ⊎ ((place < length order) ⊎ (length order < place)) → ⊥
    go (inl e) = f.left e faithful.all
    go (inr (inl lt)) = let v = played_before start shape order logs (suc place) (length order) w faithful.plays (omega arith) in f.stuck lt v.0 v.1
    go (inr (inr gt)) = let le = f.within in absurd (omega arith)

pub fault_is_no_record : (start : Op → ℕ → Start) (shape : Extent) (order : List ℕ) (logs : List (List LogEntry))
    (lists : List (List Receipt)) (fault : CloseFault)
    → fault ≢ OutOfMemory → IsRecordFault start shape order logs lists fault → (w : Made)
    → ¬ IsRecord start shape order logs lists w
fault_is_no_record start shape order logs lists (Unfaithful place) other f w r =
    fails start shape order logs place w f r.faithful
fault_is_no_record start shape order logs lists (Mismatch p) other f w r =
    let history = (one_run start shape order logs f.world w f.faithful r.faithful).history in
    let told : AreTold f.world.history lists = subst (λ (h : List Entry). AreTold h lists) (sym history) r.told in
    f.untold.other (told p f.untold.receipts f.untold.at)
fault_is_no_record start shape order logs lists OutOfMemory other f w r = other refl
