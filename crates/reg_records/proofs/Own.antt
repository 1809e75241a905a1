-- A process keeps nothing for itself.
use Rattle.std.proofs.Common.{◌≡◌, ℕ, ◌+◌, ◌-◌, max, List, [], Option, Some, None, refl, sym, ap, ◌∙◌, subst, arith}
use Rattle.std.specs.Prelude.{◌==◌, ◌&&◌, not, nat_lt, slice_get, slice_index_or, drop}
use Rattle.std.specs.Option.{is_some}
use Rattle.std.proofs.lemmas.Bool.{cond_both, and_parts, eqb-false, not-true}
use Rattle.std.proofs.lemmas.List.{get_or-set_other}
use Rattle.reg_base.specs.declared.limits.TheConstants.{MOST_OPERATIONS}
use Rattle.reg_base.specs.declared.memory.Op.{Op}
use Rattle.reg_base.specs.Memory.{register_of}
use Rattle.reg_frames.specs.declared.bodies.Body.{Body}
use Rattle.reg_frames.specs.declared.bodies.Body.TheVariants.{Cast, Ack}
use Rattle.reg_frames.specs.declared.bodies.Frame.{Frame}
use Rattle.reg_frames.specs.declared.bodies.Frame.TheVariants.{Numbered, Got}
use Rattle.reg_front.specs.declared.starts.Start.{Start}
use Rattle.reg_front.specs.declared.starts.Start.TheVariants.{Cast as Casts, CastAndAnswer as CastsAndAnswers}
use Rattle.reg_front.specs.declared.starts.Start.TheVariants.{Look as Looks, Hold as Holds}
use Rattle.reg_process.specs.declared.steps.Step.{Step}
use Rattle.reg_process.specs.declared.steps.Step.TheVariants.{Call as CallStep, Take as TakeStep, Tick as TickStep}
use Rattle.reg_process.specs.Process.{State, Peer, no_peer, peer_at, step, called, taken, accepted, quiet, got_frames}
use Rattle.reg_process.specs.Process.{accepts, queue_from, unsettled}
use Rattle.reg_process.proofs.Again.{replicate_at}
use Rattle.reg_process.proofs.Peers.{queue_same}
use Rattle.reg_process.specs.declared.events.Event.{Event}
use Rattle.reg_process.specs.declared.events.Event.TheVariants.{Call, Take, Tick}
use Rattle.reg_world.specs.Nodes.{Node, Nodes, after_step, take_step, step_of}
use Rattle.reg_world.specs.NodeParts.{nodes_after}
use Rattle.reg_world.specs.World.{move_of, whole}
use Rattle.reg_world.proofs.one_order.Acts.{put_cases}
use Rattle.reg_world.proofs.run.Along.{along, moves}

-- nothing is kept, and the process has its number
pub record IsOwn (p : ℕ) (s : State) : Type 0 where
  pub me : s.me ≡ p
  pub pending : (peer_at s p).pending ≡ []

-- a step that takes no frame of the process itself
abbrev TakesOther : ℕ → Step → Type 0
TakesOther p (CallStep op) = Unit {0}
TakesOther p (TakeStep from frame) = from ≡ p → ⊥
TakesOther p TickStep = Unit {0}

abbrev MovesOther : Option (ℕ × Step) → Type 0
MovesOther None = Unit {0}
MovesOther (Some m) = TakesOther m.0 m.1

queued_own : (p : ℕ) (body : Body) (me : ℕ) (ps : List Peer) → me ≡ p → (slice_index_or ps p no_peer).pending ≡ []
    → (slice_index_or (queue_from 0 me body ps) p no_peer).pending ≡ []
queued_own p body me ps e h = ap (λ (z : Peer). z.pending) (queue_same body 0 me ps p (omega (arith, e))) ∙ h

called_own : (p : ℕ) (s : State) (op : Op) (st : Start) → IsOwn p s → IsOwn p (called s op st).0
called_own p s op Casts O =
    record { me = O.me; pending = queued_own p (Cast (s.clock + 1) op) s.me s.peers O.me O.pending }
called_own p s op CastsAndAnswers O =
    record { me = O.me; pending = queued_own p (Cast (s.clock + 1) op) s.me s.peers O.me O.pending }
called_own p s op Looks O = record { me = O.me; pending = O.pending }
called_own p s op Holds O = record { me = O.me; pending = O.pending }

accepts_own : (p : ℕ) (s : State) (a t : ℕ) → (a ≡ p → ⊥) → IsOwn p s → (peer_at (accepts a t s) p).pending ≡ []
accepts_own p s a t ne O = ap (λ (z : Peer). z.pending) (get_or-set_other s.peers a p (record (peer_at s a) { seen = t; expected = (peer_at s a).expected + 1 }) no_peer (λ e. ne (sym e))) ∙ O.pending

accepted_own : (p : ℕ) (s : State) (a : ℕ) (body : Body) → (a ≡ p → ⊥) → IsOwn p s → IsOwn p (accepted s a body).0
accepted_own p s a (Cast t op) ne O = record { me = O.me; pending = queued_own p (Ack (max s.clock t + 1)) s.me (accepts a t s).peers O.me (accepts_own p s a t ne O) }
accepted_own p s a (Ack t) ne O = record { me = O.me; pending = accepts_own p s a t ne O }

taken_own : (p : ℕ) (s : State) (a : ℕ) (f : Frame) → (a ≡ p → ⊥) → IsOwn p s → IsOwn p (taken s a f).0
taken_own p s a (Numbered i body) ne O = cond_both (i == (peer_at s a).expected) (accepted s a body) (quiet s (got_frames a (peer_at s a).expected)) (λ r. IsOwn p r.0)
    (λ _. accepted_own p s a body ne O)
    (λ _. O)
taken_own p s a (Got count) ne O = record {
  me = O.me;
  pending = ap (λ (z : Peer). z.pending) (get_or-set_other s.peers a p (record (peer_at s a) { first = max (peer_at s a).first count; pending = drop (count - (peer_at s a).first) (peer_at s a).pending }) no_peer (λ e. ne (sym e))) ∙ O.pending;
}

step_own : (start : Op → ℕ → Start) (p : ℕ) (s : State) (e : Step) → TakesOther p e → IsOwn p s
    → IsOwn p (step start s e).0
step_own start p s (CallStep op) ne O = called_own p s op (start op (unsettled s)) O
step_own start p s (TakeStep a f) ne O = taken_own p s a f ne O
step_own start p s TickStep ne O = O

take_other : (a p : ℕ) (o : Option Frame) → (a ≡ p → ⊥) → MovesOther (take_step a p o)
take_other a p None ne = tt
take_other a p (Some f) ne = ne

event_other : (n registers : ℕ) (w : Nodes) (e : Event) → MovesOther (step_of n registers w e)
event_other n registers w (Call p op) =
    cond_both (nat_lt p n && (not (is_some (w p).state.running) && (nat_lt (register_of op) registers && nat_lt (w p).state.calls MOST_OPERATIONS))) (Some (p, CallStep op)) None MovesOther (λ _. tt) (λ _. tt)
event_other n registers w (Take a p number) =
    cond_both (nat_lt a n && (nat_lt p n && not (a == p))) (take_step a p (slice_get ((w a).wire p) number)) None MovesOther
    (λ e.
    let x = and_parts _ _ e in
    let y = and_parts _ _ x.1 in
    take_other a p (slice_get ((w a).wire p) number) (eqb-false a p (not-true _ y.1)))
    (λ _. tt)
event_other n registers w (Tick p) = cond_both (nat_lt p n) (Some (p, TickStep)) None MovesOther (λ _. tt) (λ _. tt)

own_after : (start : Op → ℕ → Start) (w : Nodes) (m : Option (ℕ × Step)) → MovesOther m
    → ((p : ℕ) → IsOwn p (w p).state) → (p : ℕ) → IsOwn p (nodes_after start w m p).state
own_after start w None ne O = O
own_after start w (Some m) ne O = λ q. put_cases (λ (z : Node). IsOwn q z.state) w m.0 (after_step start (w m.0) m.1) q
    (λ e. subst (λ r. IsOwn r (step start (w m.0).state m.1).0) (sym e) (step_own start m.0 (w m.0).state m.1 ne (O m.0)))
    (λ _. O q)

pub none_own : (start : Op → ℕ → Start) (n registers : ℕ) (events : List Event) (p : ℕ)
    → IsOwn p ((whole start n registers events).nodes p).state
none_own start n registers events =
    along start n registers (λ v. (p : ℕ) → IsOwn p (v.nodes p).state)
    (λ p. record { me = refl; pending = ap (λ (z : Peer). z.pending) (replicate_at n p no_peer) })
    (λ es e h. let w = whole start n registers es in own_after start w.nodes (move_of n registers w e) (moves n registers w e MovesOther (event_other n registers w.nodes e) tt) h)
    events
