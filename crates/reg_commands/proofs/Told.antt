-- The verdict of a checker's answer.
use Rattle.std.proofs.Common.{◌≡◌, ℕ, List, Result, Ok, Err, subst}
use Rattle.std.specs.Prelude.{IfOk}
use Rattle.reg_base.specs.declared.memory.OpId.{OpId}
use Rattle.reg_checkers.specs.declared.entries.Entry.{Entry}
use Rattle.reg_checkers.specs.declared.entries.Point.{Point}
use Rattle.reg_checkers.specs.declared.faults.CheckFault.{CheckFault}
use Rattle.reg_checkers.specs.Checks.{SerialVerdict, PointVerdict, IsSerialFault, IsPointFault}
use Rattle.reg_history.specs.Reports.{Contents}
use Rattle.reg_commands.specs.declared.verdicts.Verdict.{Verdict}
use Rattle.reg_commands.specs.declared.verdicts.Verdict.TheVariants.{Yes, No}
use Rattle.reg_commands.specs.Verdicts.{SerialSays, PointsSay}
use Rattle.reg_commands.specs.CheckerAnswers.{Tells}

pub serial_told : {A : Type 0} (r : Contents) (registers : ℕ) (h : List Entry) (ids : List OpId)
    (answer : Result A CheckFault) (v : Verdict)
    → registers ≡ r.shape.registers → h ≡ r.entries → ids ≡ r.order
    → SerialVerdict registers h ids answer → Tells answer v → SerialSays r v
serial_told r registers h ids (Ok x) Yes en eh ei verdict told = rw (← en, ← eh, ← ei) verdict
serial_told r registers h ids (Ok x) (No reason) en eh ei verdict told = absurd told
serial_told r registers h ids (Err fault) Yes en eh ei verdict told = absurd told
serial_told r registers h ids (Err fault) (No reason) en eh ei verdict told =
    rw (← en, ← eh, ← ei) (subst (λ (f : CheckFault). IsSerialFault registers h ids f) told verdict)

pub points_told : {A : Type 0} (r : Contents) (registers : ℕ) (h : List Entry) (ps : List Point)
    (answer : Result A CheckFault) (v : Verdict)
    → registers ≡ r.shape.registers → h ≡ r.entries
    → PointVerdict registers h ps answer → Tells answer v → PointsSay r ps v
points_told r registers h ps (Ok x) Yes en eh verdict told = rw (← en, ← eh) verdict
points_told r registers h ps (Ok x) (No reason) en eh verdict told = absurd told
points_told r registers h ps (Err fault) Yes en eh verdict told = absurd told
points_told r registers h ps (Err fault) (No reason) en eh verdict told =
    rw (← en, ← eh) (subst (λ (f : CheckFault). IsPointFault registers h ps f) told verdict)

pub all_serial_told : {A E : Type 0} (r : Contents) (registers : ℕ) (h : List Entry) (ids : List OpId)
    (answer : Result A CheckFault) (told : Result Verdict E)
    → registers ≡ r.shape.registers → h ≡ r.entries → ids ≡ r.order
    → SerialVerdict registers h ids answer → IfOk told (λ v. Tells answer v) → IfOk told (λ v. SerialSays r v)
all_serial_told r registers h ids answer (Ok v) en eh ei verdict tells =
    serial_told r registers h ids answer v en eh ei verdict tells
all_serial_told r registers h ids answer (Err e) en eh ei verdict tells = tt

pub all_points_told : {A E : Type 0} (r : Contents) (registers : ℕ) (h : List Entry) (ps : List Point)
    (answer : Result A CheckFault) (told : Result Verdict E)
    → registers ≡ r.shape.registers → h ≡ r.entries
    → PointVerdict registers h ps answer → IfOk told (λ v. Tells answer v) → IfOk told (λ v. PointsSay r ps v)
all_points_told r registers h ps answer (Ok v) en eh verdict tells =
    points_told r registers h ps answer v en eh verdict tells
all_points_told r registers h ps answer (Err e) en eh verdict tells = tt
