-- A workload's scripts can be interleaved.
use Rattle.std.proofs.Common.{◌<◌, get_or, sym, subst}
use Rattle.std.proofs.lemmas.Option.{slice_get-get_or}
use Rattle.reg_base.specs.Memory.{register_of}
use Rattle.reg_inputs.specs.Loads.{IsLoad, Load}
use Rattle.reg_outcomes.specs.Interleavings.{ArePlayable}
use Rattle.reg_workload.proofs.Loaded.{op_known}

pub playable : (work : Load) → IsLoad work → ArePlayable work.scripts work.shape.registers
playable work good = record {
  few = good.few_processes;
  each = λ k d lt.
      let script = good.scripts k (get_or work.scripts k d) (slice_get-get_or work.scripts k d lt) in
      record {
        few = script.few;
        known = λ j e within. subst (λ n. register_of (get_or (get_or work.scripts k d) j e) < n) (sym good.registers)
            (op_known work.names (get_or (get_or work.scripts k d) j e) (script.known j (get_or (get_or work.scripts k d) j e) (slice_get-get_or (get_or work.scripts k d) j e within)));
      };
}
