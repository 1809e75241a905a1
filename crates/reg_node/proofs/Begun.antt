-- A process that did nothing yet, in a run and as a log begins; and no step makes its copy longer or shorter.
use Rattle.std.proofs.Common.{◌≡◌, ℕ, zero, suc, ◌+◌, List, [], ◌∷◌, length, replicate, None, Some, refl, ap, sym, ◌∙◌}
use Rattle.std.proofs.Common.{max}
use Rattle.std.proofs.lemmas.List.{length-replicate}
use Rattle.std.specs.Prelude.{◌==◌}
use Rattle.std.proofs.lemmas.Bool.{cond_both}
use Rattle.reg_base.specs.declared.memory.Op.{Op}
use Rattle.reg_base.specs.Memory.{Memory, memory_after, after}
use Rattle.reg_base.specs.Order.{insert}
use Rattle.reg_base.specs.Shape.{Extent}
use Rattle.reg_base.proofs.Operations.{length-after}
use Rattle.reg_frames.specs.declared.bodies.Body.{Body}
use Rattle.reg_frames.specs.declared.bodies.Body.TheVariants.{Cast, Ack}
use Rattle.reg_frames.specs.declared.bodies.Frame.TheVariants.{Numbered, Got}
use Rattle.reg_front.specs.declared.starts.Start.{Start}
use Rattle.reg_front.specs.declared.starts.Start.TheVariants.{Cast as Casts, CastAndAnswer as CastsAndAnswers}
use Rattle.reg_front.specs.declared.starts.Start.TheVariants.{Look as Looks, Hold as Holds}
use Rattle.reg_process.specs.declared.steps.Step.{Step}
use Rattle.reg_process.specs.declared.steps.Step.TheVariants.{Call, Take, Tick}
use Rattle.reg_process.specs.Parts.{merged, nothing}
use Rattle.reg_process.specs.Process.{State, Own, Peer, no_peer, peer_at, step, called, accepts, accepted, cast_at}
use Rattle.reg_process.specs.Process.{cast_made, quiet, queues, stamp_at, got_frames, clear_casts, delivered_state}
use Rattle.reg_process.specs.Process.{ops_of, unsettled}
use Rattle.reg_world.specs.Nodes.{empty, first_state as first_of_run}
use Rattle.reg_records.specs.declared.entries.LogEntry.{LogEntry}
use Rattle.reg_node.specs.Logs.{first_state, state_after}

none_merged : (n : ℕ) → merged (replicate n 0) (replicate n 0) (replicate n nothing) ≡ replicate n no_peer
none_merged zero = refl
none_merged (suc n) = ap (λ l. no_peer ∷ l) (none_merged n)

pub first_node : (shape : Extent) (p : ℕ) → (empty shape.processes shape.registers p).state ≡ first_state shape p
first_node shape p = sym (ap (λ (l : List Peer). record (first_of_run shape.processes shape.registers p) { peers = l }) (none_merged shape.processes))

length-memory : (ops : List Op) (m : Memory) → length (memory_after ops m) ≡ length m
length-memory [] m = refl
length-memory (op ∷ ops) m = length-memory ops (after op m) ∙ length-after op m

delivered_copy : (s : State) → length (delivered_state s).copy ≡ length s.copy
delivered_copy s = length-memory (ops_of (clear_casts s)) s.copy

called_copy : (s : State) (op : Op) (st : Start) → length (called s op st).0.copy ≡ length s.copy
called_copy s op Casts = delivered_copy (cast_made s op (Some (Own (stamp_at (s.clock + 1) s.me) op)))
called_copy s op CastsAndAnswers = delivered_copy (cast_made s op None)
called_copy s op Looks = refl
called_copy s op Holds = refl

accepted_copy : (s : State) (from : ℕ) (body : Body) → length (accepted s from body).0.copy ≡ length s.copy
accepted_copy s from (Cast t op) = delivered_copy (record (queues (max s.clock t + 1) (Ack (max s.clock t + 1)) (accepts from t s)) { held = insert (cast_at t from op) s.held })
accepted_copy s from (Ack t) = delivered_copy (accepts from t s)

step_copy : (start : Op → ℕ → Start) (s : State) (e : Step) → length (step start s e).0.copy ≡ length s.copy
step_copy start s (Call op) = called_copy s op (start op (unsettled s))
step_copy start s (Take from (Numbered number body)) =
    cond_both (number == (peer_at s from).expected) (accepted s from body) (quiet s (got_frames from (peer_at s from).expected)) (λ r. length r.0.copy ≡ length s.copy) (λ _. accepted_copy s from body) (λ _. refl)
step_copy start s (Take from (Got count)) = refl
step_copy start s Tick = refl

log_copy : (start : Op → ℕ → Start) (s : State) (log : List LogEntry)
    → length (state_after start s log).copy ≡ length s.copy
log_copy start s [] = refl
log_copy start s (e ∷ es) = log_copy start (step start s e.step).0 es ∙ step_copy start s e.step

pub copy_length : (start : Op → ℕ → Start) (shape : Extent) (p : ℕ) (log : List LogEntry)
    → length (state_after start (first_state shape p) log).copy ≡ shape.registers
copy_length start shape p log = log_copy start (first_state shape p) log ∙ length-replicate shape.registers 0
