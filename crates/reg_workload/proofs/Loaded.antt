-- That the scripts of a workload can be called.
use Rattle.std.proofs.Common.{ℕ, ◌<◌, List, [], length, sym, subst}
use Rattle.std.proofs.lemmas.Option.{slice_get-get_or}
use Rattle.reg_base.specs.declared.memory.Op.{Op}
use Rattle.reg_base.specs.declared.memory.Op.TheVariants.{Read, Write, Swap, CompareAndSwap}
use Rattle.reg_base.specs.Memory.{register_of}
use Rattle.reg_text.specs.Ops.{OpFits}
use Rattle.reg_inputs.specs.Loads.{Load, IsLoad}
use Rattle.reg_workload.specs.Plays.{script_of}
use Rattle.reg_workload.specs.PlayParts.{ArePlayable}

pub op_known : (names : List (List ℕ)) (op : Op) → OpFits names op → register_of op < length names
op_known names (Read register) fits = fits
op_known names (Write register value) fits = fits.0
op_known names (Swap register value) fits = fits.0
op_known names (CompareAndSwap register expected value) fits = fits.0

pub load_playable : (w : Load) → IsLoad w → ArePlayable w.shape.registers w.scripts
load_playable w good p l =
    let fit = good.scripts p (script_of w.scripts p) (slice_get-get_or w.scripts p [] l) in
    record {
      few = fit.few;
      known = λ k op at. subst (λ n. register_of op < n) (sym good.registers) (op_known w.names op (fit.known k op at));
    }
