-- The entries of a history are within the limits of a report.
use Rattle.std.proofs.Common.{refl, ℕ, ◌≡◌, ◌≤◌, List, length, take, Some, slice_get, arith}
use Rattle.reg_base.specs.declared.limits.TheConstants.{MOST_PROCESSES, LAST_EVENT}
use Rattle.reg_base.specs.declared.memory.OpId.{OpId}
use Rattle.reg_base.specs.declared.memory.Op.{Op}
use Rattle.reg_text.specs.Lines.{AllFit}
use Rattle.reg_text.proofs.Spelling.{op_fits}
use Rattle.reg_checkers.specs.declared.entries.Entry.{Entry}
use Rattle.reg_checkers.specs.declared.entries.Entry.TheVariants.{Called, Answered}
use Rattle.reg_history.specs.EntryLines.{EntryFits, ColumnsFit}
use Rattle.reg_history.specs.Stops.{EntryHasValue}
use Rattle.reg_history.specs.declared.versions.Version.TheVariants.{Three}
use Rattle.reg_checkers.specs.History.{IsHistory, MayCall, MayAnswer}
use Rattle.reg_checkers.proofs.Places.{in_take}

abbrev pub HaveValues : List Entry → Type 0
HaveValues es = (k : ℕ) (e : Entry) → slice_get es k ≡ Some e → EntryHasValue e

called_fits : (n registers : ℕ) (before : List Entry) (at event : ℕ) (id : OpId) (op : Op) → n ≤ MOST_PROCESSES
    → MayCall n registers before at id op → event ≤ LAST_EVENT → ColumnsFit Three event id.process id.number
called_fits n registers before at event id op few m e =
    record { at_fits = e; process_fits = omega (arith, m.process, few); number_fits = m.fits }

entry_fits : (names : List (List ℕ)) (n registers : ℕ) (es : List Entry) → n ≤ MOST_PROCESSES → registers ≡ length names
    → IsHistory n registers es → (k : ℕ) (e : Entry) → slice_get es k ≡ Some e → EntryHasValue e
    → EntryFits Three names e
entry_fits names n registers es few same h k (Called at id op) here v =
    let m : MayCall n registers (take k es) at id op = h k (Called at id op) here in
    (called_fits n registers (take k es) at at id op few m m.event, op_fits names op (omega (arith, m.register, same)) v, refl)
entry_fits names n registers es few same h k (Answered at id answer) here v =
    let m : MayAnswer (take k es) at id answer = h k (Answered at id answer) here in
    let j : ℕ = m.called.0 in
    let there = in_take es k j (Called m.called_at id m.op) m.called.1 in
    let c : MayCall n registers (take j es) m.called_at id m.op = h j (Called m.called_at id m.op) there.1 in
    (called_fits n registers (take j es) m.called_at at id m.op few c m.event, v, refl)

pub all_fit : (names : List (List ℕ)) (n registers : ℕ) (es : List Entry) → n ≤ MOST_PROCESSES
    → registers ≡ length names → IsHistory n registers es → HaveValues es → AllFit (λ _ e. EntryFits Three names e) es
all_fit names n registers es few same h v = λ k e here. entry_fits names n registers es few same h k e here (v k e here)
