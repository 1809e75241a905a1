-- Each cast that a process queued was called there.
use Rattle.std.proofs.Common.{◌≡◌, ℕ, suc, ◌+◌, ◌<◌, List, [], ◌∷◌, ◌++◌, Option, Some, None, refl, sym, subst, inl}
use Rattle.std.proofs.Common.{inr}
use Rattle.std.specs.Prelude.{◌==◌, slice_get}
use Rattle.std.specs.Option.{option_to_list}
use Rattle.std.proofs.lemmas.Bool.{cond_both}
use Rattle.reg_base.specs.declared.stamps.Stamp.{Stamp}
use Rattle.reg_base.specs.declared.memory.Op.{Op}
use Rattle.reg_frames.specs.declared.bodies.Body.{Body}
use Rattle.reg_frames.specs.declared.bodies.Body.TheVariants.{Cast, Ack}
use Rattle.reg_frames.specs.declared.bodies.Frame.{Frame}
use Rattle.reg_frames.specs.declared.bodies.Frame.TheVariants.{Numbered, Got}
use Rattle.reg_front.specs.declared.starts.Start.{Start}
use Rattle.reg_front.specs.declared.starts.Start.TheVariants.{Cast as Casts, CastAndAnswer as CastsAndAnswers}
use Rattle.reg_front.specs.declared.starts.Start.TheVariants.{Look as Looks, Hold as Holds}
use Rattle.reg_process.specs.declared.steps.Step.{Step}
use Rattle.reg_process.specs.declared.steps.Step.TheVariants.{Call, Take, Tick}
use Rattle.reg_process.specs.declared.events.Event.{Event}
use Rattle.reg_base.specs.Order.{In}
use Rattle.reg_process.specs.Process.{State, Outcome, stamp_at, called, taken, accepted, quiet, got_frames, peer_at}
use Rattle.reg_process.specs.Process.{unsettled, step}
use Rattle.reg_world.specs.Nodes.{Node, put, after_step}
use Rattle.reg_world.specs.NodeParts.{nodes_after}
use Rattle.reg_world.proofs.run.Traced.{Trace, Called, Past, called_in, past_after, pasts_after, IsCalled, CastsCalled}
use Rattle.reg_world.proofs.run.Traced.{traced}
use Rattle.reg_world.proofs.lists.Bodies.{place_first, place_split}
use Rattle.reg_world.proofs.one_order.Worlds.{Inv}
use Rattle.reg_world.proofs.one_order.Acts.{put_cases}
use Rattle.reg_world.proofs.one_order.Runs.{StepKept}
use Rattle.reg_world.proofs.one_order.NodeLaws.{inv_of, run_ok}
use Rattle.reg_world.specs.World.{move_of, whole}
use Rattle.reg_world.proofs.run.Along.{along}

abbrev pub AllCalled : ℕ → List Body → List Called → Type 0
AllCalled p queued calls =
    (i t : ℕ) (op : Op) → slice_get queued i ≡ Some (Cast t op) → IsCalled calls (stamp_at t p) op

-- what a step queues it calls
abbrev pub NewCalled : ℕ → ℕ → Step → State × Outcome → Type 0
NewCalled p at e r =
    (t : ℕ) (op : Op) → In (Cast t op) (option_to_list r.1.body) → IsCalled (called_in at e r.1.cast) (stamp_at t p) op

called_new : (p at : ℕ) (s : State) → s.me ≡ p → (op : Op) (st : Start) → NewCalled p at (Call op) (called s op st)
called_new p at s me op Casts t o (inl e) = (0, record { op = op; at = at; cast = Some (stamp_at (s.clock + 1) s.me) }, refl, (let f : t ≡ s.clock + 1 = cc in λ i. Some (stamp_at (sym f i) (me i))), (let g : o ≡ op = cc in sym g))
called_new p at s me op CastsAndAnswers t o (inl e) = (0, record { op = op; at = at; cast = Some (stamp_at (s.clock + 1) s.me) }, refl, (let f : t ≡ s.clock + 1 = cc in λ i. Some (stamp_at (sym f i) (me i))), (let g : o ≡ op = cc in sym g))
called_new p at s me op Casts t o (inr f) = absurd f
called_new p at s me op CastsAndAnswers t o (inr f) = absurd f
called_new p at s me op Looks t o h = absurd h
called_new p at s me op Holds t o h = absurd h

accepted_new : (p at : ℕ) (s : State) (a : ℕ) (body : Body) (e : Step) → NewCalled p at e (accepted s a body)
accepted_new p at s a (Cast u o) e t op (inl q) = cc
accepted_new p at s a (Cast u o) e t op (inr f) = absurd f
accepted_new p at s a (Ack u) e t op h = absurd h

taken_new : (p at : ℕ) (s : State) (a : ℕ) (f : Frame) (e : Step) → NewCalled p at e (taken s a f)
taken_new p at s a (Numbered i body) e =
    cond_both (i == (peer_at s a).expected) (accepted s a body) (quiet s (got_frames a (peer_at s a).expected)) (NewCalled p at e)
    (λ _. accepted_new p at s a body e) (λ _ t op h. absurd h)
taken_new p at s a (Got count) e = λ t op h. absurd h

step_new : (p at : ℕ) (s : State) → s.me ≡ p → (start : Op → ℕ → Start) (e : Step) → NewCalled p at e (step start s e)
step_new p at s me start (Call op) = called_new p at s me op (start op (unsettled s))
step_new p at s me start (Take a f) = taken_new p at s a f (Take a f)
step_new p at s me start Tick = λ t op h. absurd h

-- a call stays, and one at the end counts
called_front : (calls more : List Called) (stamp : Stamp) (op : Op) → IsCalled calls stamp op
    → IsCalled (calls ++ more) stamp op
called_front calls more stamp op h = (h.0, h.1, place_first calls more h.0 h.1 h.2, h.3, h.4)

called_back : (calls more : List Called) (stamp : Stamp) (op : Op) → IsCalled more stamp op
    → IsCalled (calls ++ more) stamp op
called_back [] more stamp op h = h
called_back (c ∷ calls) more stamp op h = let r = called_back calls more stamp op h in (suc r.0, r.1, r.2, r.3, r.4)

calls_step : (start : Op → ℕ → Start) (p at : ℕ) (x : Node) (h : Past) (e : Step) → x.state.me ≡ p
    → AllCalled p x.queued h.calls
    → AllCalled p (after_step start x e).queued (past_after at x.state h e (step start x.state e)).calls
calls_step start p at x h e me A i t op q =
    let r = step start x.state e in
    elim (place_split x.queued (option_to_list r.1.body) i (Cast t op) q) [
      | inl k ↦ called_front h.calls (called_in at e r.1.cast) (stamp_at t p) op (A i t op k)
      | inr k ↦ called_back h.calls (called_in at e r.1.cast) (stamp_at t p) op (step_new p at x.state me start e t op k.1)
    ]

abbrev pub NamesOk : ℕ → Trace → Type 0
NamesOk n w = (p : ℕ) → p < n → AllCalled p (w.nodes p).queued (w.pasts p).calls

names_step : (start : Op → ℕ → Start) (n registers k : ℕ) (w : Trace) (m : Option (ℕ × Step))
    → Inv n registers k w.nodes → StepKept start n registers k w.nodes m → NamesOk n w → (q : ℕ) → q < n
    → AllCalled q (nodes_after start w.nodes m q).queued (pasts_after start w m q).calls
names_step start n registers k w None I K A q l = A q l
names_step start n registers k w (Some m) I K A q l =
    let x = w.nodes m.0 in
    let y = after_step start x m.1 in
    let h' = past_after w.count x.state (w.pasts m.0) m.1 (step start x.state m.1) in
    put_cases (λ (z : Node). AllCalled q z.queued (put w.pasts m.0 h' q).calls) w.nodes m.0 y q
    (λ e. put_cases (λ (g : Past). AllCalled q y.queued g.calls) w.pasts m.0 h' q
    (λ _. subst (λ r. AllCalled r y.queued h'.calls) (sym e) (calls_step start m.0 w.count x (w.pasts m.0) m.1 (I.local m.0 K.0).me (A m.0 K.0)))
    (λ ne. absurd (ne e)))
    (λ ne. put_cases (λ (g : Past). AllCalled q (w.nodes q).queued g.calls) w.pasts m.0 h' q (λ e. absurd (ne e)) (λ _. A q l))

pub casts_called : (start : Op → ℕ → Start) (n registers : ℕ) (events : List Event)
    → CastsCalled n (traced start n registers events)
casts_called start n registers events c m =
    along start n registers (NamesOk n) (λ p l i t op h. absurd (let bad : ⊥ = cc in bad))
    (λ es e A. let v = traced start n registers es in names_step start n registers v.count v (move_of n registers (whole start n registers es) e) (inv_of start n registers es) (run_ok start n registers es e) A)
    events c.stamp.process m.0 m.1.0 c.stamp.time c.op m.1.1
