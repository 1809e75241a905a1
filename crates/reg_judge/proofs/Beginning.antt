-- A search at the first entry.
use Rattle.std.proofs.Common.{◌≡◌, ℕ, zero, suc, ◌<◌, List, Option, Some, None, Vec, replicate, length, refl, ap, sym}
use Rattle.std.proofs.Common.{◌∙◌, subst, inl, arith}
use Rattle.std.specs.Int.{bit_at}
use Rattle.std.proofs.lemmas.Nat.Bits.{bit_at-zero}
use Rattle.std.specs.Prelude.{option_and_then}
use Rattle.reg_checkers.specs.declared.entries.Entry.{Entry}
use Rattle.reg_checkers.specs.declared.entries.Point.{Point}
use Rattle.reg_checkers.specs.History.{IsAt, IsHistory}
use Rattle.reg_checkers.specs.Orders.{IsPointOrder}
use Rattle.reg_checkers.specs.Table.{IsTable, Rows}
use Rattle.reg_checkers.proofs.Places.{within}
use Rattle.reg_judge.specs.declared.calls.Call.{Call}
use Rattle.reg_judge.specs.declared.stages.Stage.{Stage}
use Rattle.reg_judge.specs.Acts.{act_in, act_of}
use Rattle.reg_judge.specs.Completing.{Completes}
use Rattle.reg_judge.specs.Searching.{AreAlive, AreFirst, AreWaiting, run_of}
use Rattle.reg_judge.proofs.Covering.{covering}
use Rattle.reg_judge.proofs.Starting.{AreKnown, starts}

idle_at : (n p : ℕ) (o : Option Call) → IsAt (replicate n None) p o → o ≡ None
idle_at zero p o at = absurd cc
idle_at (suc n) zero o at = cc
idle_at (suc n) (suc p) o at = idle_at n p o at

runs_none : (n p : ℕ) → run_of (replicate n None) p ≡ None
runs_none zero p = refl
runs_none (suc n) zero = refl
runs_none (suc n) (suc p) = runs_none n p

pub known_acts : {A : Type 0} (h : List Entry) (rows : Rows A) → IsTable h rows → AreKnown h (act_in rows)
known_acts h rows table id was =
    let f = table.all id was in (f.0, table.facts id f.0 f.1, ap (option_and_then act_of) f.1)

pub waiting_first : {A : Type 0} (n : ℕ) (h : List Entry) (rows : Rows A) (running : List (Option Call))
    → running ≡ replicate n None → AreWaiting h (act_in rows) 0 running
waiting_first n h rows running idle p c at = absurd (let none : Some c ≡ None = idle_at n p (Some c) (subst (λ (l : List (Option Call)). IsAt l p (Some c)) idle at) in cc)

pub alive_first : {A B : Type 0} (n registers : ℕ) (h : List Entry) (rows : Rows A) (running : List (Option Call))
    (layers : List (Vec Stage B))
    → IsHistory n registers h → IsTable h rows → running ≡ replicate n None → length layers ≡ registers
    → AreFirst layers → (ps : List Point) → IsPointOrder registers h ps
    → AreAlive (act_in rows) (run_of running) h layers
alive_first n registers h rows running layers good table idle count first ps order r layer at =
    let s = first r layer at in
    let fits : r < registers = (let lt = within layers r layer at in omega (arith, lt, count)) in
    let goes = starts n registers h good (act_in rows) (known_acts h rows table) ps order r fits in
    let stage : Stage = s.0 in
    let same = covering r (act_in rows) goes.1 (run_of running) (λ q. ap (λ (l : List (Option Call)). run_of l q) idle ∙ runs_none n q) (bit_at stage.placed) (λ q. inl (ap (λ b. bit_at b q) s.2 ∙ bit_at-zero q)) in
    (goes.0, 0, stage, s.1, subst (λ (v : ℕ). Completes r (act_in rows) goes.0 (run_of running) (bit_at stage.placed) v h) (sym s.3) same)
