-- The report of a record, by what its run answers.
use Rattle.std.proofs.Common.{ℕ, ◌≡◌, List, length, Option, sym, ap, ◌∙◌, subst}
use Rattle.reg_base.specs.declared.memory.Op.{Op}
use Rattle.reg_base.specs.Shape.{Extent}
use Rattle.reg_checkers.specs.declared.entries.Point.{Point}
use Rattle.reg_front.specs.declared.named.Front.{Front}
use Rattle.reg_front.specs.declared.starts.Start.{Start}
use Rattle.reg_history.specs.Reports.{Contents}
use Rattle.reg_inputs.specs.Schedules.{Plan}
use Rattle.reg_world.specs.Worlds.{Made}
use Rattle.reg_records.proofs.Turns.{plays_shape}
use Rattle.reg_commands.specs.Replays.{Shows, plan_in}
use Rattle.reg_node.specs.declared.transcripts.recorded.Recorded.{Recorded}
use Rattle.reg_verify.specs.Logs.{order_of}
use Rattle.reg_node.specs.RecordLines.{Account, IsAccount}
use Rattle.reg_verify.specs.Verifies.{Runs, ShowsAccount}

-- the run has a register for each name
pub as_many_registers : (start : Op → ℕ → Start) (a : Account) (shape : Extent) (names : List (List ℕ))
    (steps : List Recorded) (w : Made)
    → IsAccount a → shape ≡ a.shape → names ≡ a.names → Runs start shape steps w → w.registers ≡ length names
as_many_registers start a shape names steps w good same_shape same_names runs =
    (plays_shape start shape (order_of steps) runs.logs (length (order_of steps)) w runs.faithful.plays).1 ∙ ap (λ (s : Extent). s.registers) same_shape ∙ good.registers ∙ ap length (sym same_names)

pub shown : (start : Op → ℕ → Start) (a : Account) (front : Front) (shape : Extent) (names : List (List ℕ))
    (steps : List Recorded) (w : Made) (AreSo : Plan → Option (List Point) → Type 0) (r : Contents)
    → record { front = front; shape = shape; names = names; steps = steps } ≡ a → Runs start shape steps w → Shows start (plan_in front names w) r → AreSo (plan_in front names w) r.points → ShowsAccount start a AreSo r
shown start a front shape names steps w AreSo r same runs shows points =
    let it : ShowsAccount start (record { front = front; shape = shape; names = names; steps = steps }) AreSo r = record { world = w; runs = runs; shows = shows; points = points } in
    subst (λ (b : Account). ShowsAccount start b AreSo r) same it
