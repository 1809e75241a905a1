-- The outcomes of runs and those of interleavings are the same.
use Rattle.std.proofs.Common.{ℕ, List, length}
use Rattle.reg_base.specs.declared.memory.Op.{Op}
use Rattle.reg_front.specs.declared.starts.Start.{Start}
use Rattle.reg_front.specs.Fronts.{KeepsLaws}
use Rattle.reg_world.specs.World.{whole}
use Rattle.reg_outcomes.specs.declared.told.ToldAnswer.{ToldAnswer}
use Rattle.reg_outcomes.specs.Finishing.{HasRoom, HaveAllOutcomes, IsOutcome}
use Rattle.reg_outcomes.specs.Interleavings.{AreAll, ArePlayable, Interleaving, IsInterleaving}
use Rattle.reg_outcomes.proofs.MissingCalls.{has_scripts}
use Rattle.reg_outcomes.proofs.MissingOrder.{serial_order}
use Rattle.reg_outcomes.proofs.MissingWalk.{interleaved}
use Rattle.reg_outcomes.proofs.TurningRuns.{each_has_a_run}

-- what a run tells, an interleaving tells
pub none_missing : (start : Op → ℕ → Start) (scripts : List (List Op)) (registers : ℕ) (told : List ToldAnswer)
    → KeepsLaws start → IsOutcome start scripts registers told
    → (turns : List ℕ) × IsInterleaving scripts registers (record { turns = turns; told = told })
none_missing start scripts registers told laws out =
    let order = serial_order start (length scripts) registers laws out.0 in
    interleaved scripts registers (whole start (length scripts) registers out.0).history (has_scripts start scripts registers laws out.0 out.1) order.0 order.1 told out.2

-- a list of all interleavings' outcomes is one of all runs'
pub have_all : (start : Op → ℕ → Start) (scripts : List (List Op)) (registers : ℕ) (found : List Interleaving)
    → KeepsLaws start → ArePlayable scripts registers → HasRoom scripts → AreAll scripts registers found
    → HaveAllOutcomes start scripts registers found
have_all start scripts registers found laws playable room all = record {
  each = λ k i at. each_has_a_run start scripts registers i laws playable room (all.each k i at);
  all = λ told out. let i = none_missing start scripts registers told laws out in all.all (record { turns = i.0; told = told }) i.1;
}

-- what a run of one front end tells, a run of another tells
pub alike : (one other : Op → ℕ → Start) (scripts : List (List Op)) (registers : ℕ) (told : List ToldAnswer)
    → KeepsLaws one → KeepsLaws other → ArePlayable scripts registers → HasRoom scripts
    → IsOutcome one scripts registers told → IsOutcome other scripts registers told
alike one other scripts registers told laws too playable room out =
    let i = none_missing one scripts registers told laws out in
    each_has_a_run other scripts registers (record { turns = i.0; told = told }) too playable room i.1
