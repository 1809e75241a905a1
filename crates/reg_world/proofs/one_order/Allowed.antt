-- What an accepted event keeps, and that what doesn't run is answered.
use Rattle.std.proofs.Common.{◌≡◌, ℕ, ◌+◌, ◌-◌, ◌<◌, ◌≤◌, ◌⊎◌, max, List, Option, Some, None, refl, sym, ap, ◌∙◌, inl}
use Rattle.std.proofs.Common.{inr, arith}
use Rattle.reg_base.specs.declared.limits.TheConstants.{MOST_OPERATIONS}
use Rattle.std.specs.Prelude.{◌==◌, ◌&&◌, not, nat_lt, slice_get}
use Rattle.std.specs.Option.{is_some}
use Rattle.std.proofs.lemmas.Bool.{cond_both, cases_eq, ltb-true, and_parts}
use Rattle.std.specs.Prelude.{true}
use Rattle.reg_base.specs.declared.memory.Op.{Op}
use Rattle.reg_base.specs.Memory.{register_of}
use Rattle.reg_base.specs.Order.{In, insert}
use Rattle.reg_frames.specs.declared.bodies.Body.{Body}
use Rattle.reg_frames.specs.declared.bodies.Body.TheVariants.{Cast, Ack}
use Rattle.reg_frames.specs.declared.bodies.Frame.{Frame}
use Rattle.reg_frames.specs.declared.bodies.Frame.TheVariants.{Numbered, Got}
use Rattle.reg_front.specs.declared.starts.Start.{Start}
use Rattle.reg_front.specs.declared.starts.Start.TheVariants.{Cast as Casts, CastAndAnswer as CastsAndAnswers}
use Rattle.reg_front.specs.declared.starts.Start.TheVariants.{Look as Looks, Hold as Holds}
use Rattle.reg_process.specs.declared.steps.Reply.{Reply}
use Rattle.reg_process.specs.declared.steps.Step.{Step}
use Rattle.reg_process.specs.declared.steps.Step.TheVariants.{Call as CallStep, Take as TakeStep, Tick as TickStep}
use Rattle.reg_process.specs.Process.{State, Outcome, Running, Own, stamp_at, cast_at, clear_casts, reply_of, still}
use Rattle.reg_process.specs.Process.{called, taken, accepted, accepts, queues, cast_made, quiet, got_frames, peer_at}
use Rattle.reg_process.specs.Process.{unsettled, step}
use Rattle.reg_process.specs.declared.events.Event.{Event}
use Rattle.reg_process.specs.declared.events.Event.TheVariants.{Call, Take, Tick}
use Rattle.reg_world.specs.Nodes.{Node, Nodes, put, take_step, step_of, after_step, op_in}
use Rattle.reg_world.specs.NodeParts.{nodes_after}
use Rattle.reg_world.proofs.run.Traced.{Answered, Past, Trace, answered_in, past_after, pasts_after, traced}
use Rattle.reg_base.proofs.Lists.{in_left, in_right}
use Rattle.reg_world.proofs.one_order.Acts.{put_cases}
use Rattle.reg_world.proofs.one_memory.Turns.{done_calls}
use Rattle.reg_world.specs.World.{move_of, whole}
use Rattle.reg_world.proofs.run.Along.{along, moves}

abbrev pub StepAllowed : ℕ → State → Step → Type 0
StepAllowed registers s (CallStep op) = (s.running ≡ None) × (register_of op < registers) × (s.calls < MOST_OPERATIONS)
StepAllowed registers s (TakeStep from frame) = Unit {0}
StepAllowed registers s TickStep = Unit {0}

abbrev pub Allowed : ℕ → ℕ → Nodes → Option (ℕ × Step) → Type 0
Allowed n registers w None = Unit {0}
Allowed n registers w (Some m) = (m.0 < n) × StepAllowed registers (w m.0).state m.1

not_some : {X : Type 0} (o : Option X) → not (is_some o) ≡ true → o ≡ None
not_some None e = refl
not_some (Some x) e = absurd (let bad : ⊥ = cc in bad)

take_allowed : (n registers : ℕ) (w : Nodes) (a p : ℕ) (o : Option Frame) → p < n
    → Allowed n registers w (take_step a p o)
take_allowed n registers w a p None l = tt
take_allowed n registers w a p (Some f) l = (l, tt)

pub allowed : (n registers : ℕ) (w : Nodes) (e : Event) → Allowed n registers w (step_of n registers w e)
allowed n registers w (Call p op) =
    cond_both (nat_lt p n && (not (is_some (w p).state.running) && (nat_lt (register_of op) registers && nat_lt (w p).state.calls MOST_OPERATIONS))) (Some (p, CallStep op)) None (Allowed n registers w)
    (λ e.
    let a = and_parts _ _ e in
    let b = and_parts _ _ a.1 in
    let c = and_parts _ _ b.1 in
    (ltb-true p n a.0, (not_some (w p).state.running b.0, ltb-true (register_of op) registers c.0, ltb-true (w p).state.calls MOST_OPERATIONS c.1)))
    (λ e. tt)
allowed n registers w (Take a p number) =
    cond_both (nat_lt a n && (nat_lt p n && not (a == p))) (take_step a p (slice_get ((w a).wire p) number)) None (Allowed n registers w)
    (λ e.
    let x = and_parts _ _ e in
    let y = and_parts _ _ x.1 in
    take_allowed n registers w a p (slice_get ((w a).wire p) number) (ltb-true p n y.0))
    (λ e. tt)
allowed n registers w (Tick p) =
    cond_both (nat_lt p n) (Some (p, TickStep)) None (Allowed n registers w) (λ e. (ltb-true p n e, tt)) (λ e. tt)

-- how many calls a step makes
abbrev pub CallsMade : State → Step → State × Outcome → Type 0
CallsMade s (CallStep op) r = r.0.calls ≡ s.calls + 1
CallsMade s (TakeStep from frame) r = r.0.calls ≡ s.calls
CallsMade s TickStep r = r.0.calls ≡ s.calls

called_made : (s : State) (op : Op) (st : Start) → (called s op st).0.calls ≡ s.calls + 1
called_made s op Casts = refl
called_made s op CastsAndAnswers = refl
called_made s op Looks = refl
called_made s op Holds = refl

accepted_made : (s : State) (a : ℕ) (body : Body) → (accepted s a body).0.calls ≡ s.calls
accepted_made s a (Cast t op) = refl
accepted_made s a (Ack t) = refl

taken_made : (s : State) (a : ℕ) (f : Frame) → (taken s a f).0.calls ≡ s.calls
taken_made s a (Numbered i body) = cond_both (i == (peer_at s a).expected) (accepted s a body) (quiet s (got_frames a (peer_at s a).expected)) (λ r. r.0.calls ≡ s.calls) (λ _. accepted_made s a body) (λ _. refl)
taken_made s a (Got count) = refl

pub calls_made : (start : Op → ℕ → Start) (s : State) (e : Step) → CallsMade s e (step start s e)
calls_made start s (CallStep op) = called_made s op (start op (unsettled s))
calls_made start s (TakeStep a f) = taken_made s a f
calls_made start s TickStep = refl

-- a call that is done after the step was so before, or is answered in it
abbrev pub Answers : State → State × Outcome → Type 0
Answers s r = (number : ℕ) → number < done_calls r.0 r.0.running → (number < done_calls s s.running) ⊎ ((y : Reply) × (r.1.reply ≡ Some y) × (number ≡ r.0.calls - 1))

one_more : (done k number : ℕ) → k ≤ done + 1 → number < k → (number < done) ⊎ (number ≡ k - 1)
one_more done k number h l = elim (cases_eq number (k - 1)) [
  | inl e ↦ inr e
  | inr ne ↦ inl (omega (arith, h, l, ne))
]

answered_now : (done k number : ℕ) (o : Option Reply) (y : Reply) → o ≡ Some y → k ≤ done + 1 → number < k
    → (number < done) ⊎ ((y : Reply) × (o ≡ Some y) × (number ≡ k - 1))
answered_now done k number o y e h l = elim (one_more done k number h l) [ inl a ↦ inl a | inr a ↦ inr (y, e, a) ]

still_new : (done : ℕ) (s' : State) (o : Option Reply) (running : Option Running) → done_calls s' running ≤ done
    → s'.calls ≤ done + 1 → (number : ℕ) → number < done_calls s' (still o running)
    → (number < done) ⊎ ((y : Reply) × (o ≡ Some y) × (number ≡ s'.calls - 1))
still_new done s' None running h k number l = inl (omega (arith, h, l))
still_new done s' (Some y) running h k number l = answered_now done s'.calls number (Some y) y refl k l

done_near : (s : State) (running : Option Running) → s.calls ≤ done_calls s running + 1
done_near s None = omega arith
done_near s (Some r) = omega arith

called_answers : (s : State) (op : Op) (st : Start) → s.running ≡ None → Answers s (called s op st)
called_answers s op Casts free number l =
    let d : done_calls s s.running ≡ s.calls = ap (done_calls s) free in
    let running = Some (Own (stamp_at (s.clock + 1) s.me) op) in
    let s1 : State = cast_made s op running in
    still_new (done_calls s s.running) (called s op Casts).0 (reply_of s1 (clear_casts s1) running) running (omega (arith, d)) (omega (arith, d)) number l
called_answers s op CastsAndAnswers free number l =
    let d : done_calls s s.running ≡ s.calls = ap (done_calls s) free in
    answered_now (done_calls s s.running) (s.calls + 1) number (called s op CastsAndAnswers).1.reply _ refl (omega (arith, d)) l
called_answers s op Looks free number l =
    let d : done_calls s s.running ≡ s.calls = ap (done_calls s) free in
    answered_now (done_calls s s.running) (s.calls + 1) number (called s op Looks).1.reply _ refl (omega (arith, d)) l
called_answers s op Holds free number l =
    let d : done_calls s s.running ≡ s.calls = ap (done_calls s) free in
    inl (omega (arith, d, l))

same_done : (s s' : State) (running : Option Running) → s'.calls ≡ s.calls
    → done_calls s' running ≤ done_calls s running
same_done s s' None e = omega (arith, e)
same_done s s' (Some r) e = omega (arith, e)

accepted_answers : (s : State) (a : ℕ) (body : Body) → Answers s (accepted s a body)
accepted_answers s a (Cast t op) number l =
    let T = max s.clock t + 1 in
    let s1 : State = record (queues T (Ack T) (accepts a t s)) { held = insert (cast_at t a op) s.held } in
    still_new (done_calls s s.running) (accepted s a (Cast t op)).0 (reply_of s1 (clear_casts s1) s.running) s.running (same_done s (accepted s a (Cast t op)).0 s.running refl) (done_near s s.running) number l
accepted_answers s a (Ack t) number l =
    let s1 : State = accepts a t s in
    still_new (done_calls s s.running) (accepted s a (Ack t)).0 (reply_of s1 (clear_casts s1) s.running) s.running (same_done s (accepted s a (Ack t)).0 s.running refl) (done_near s s.running) number l

quiet_answers : (s s1 : State) (r : State × Outcome) → r.0 ≡ s1 → s1.calls ≡ s.calls → s1.running ≡ s.running
    → Answers s r
quiet_answers s s1 r e k same number l =
    let z : done_calls r.0 r.0.running ≡ done_calls s1 s1.running = ap (λ (x : State). done_calls x x.running) e in
    let y : done_calls s1 s1.running ≡ done_calls s1 s.running = ap (done_calls s1) same in
    let d = same_done s s1 s.running k in
    inl (omega (arith, z, y, d, l))

taken_answers : (s : State) (a : ℕ) (f : Frame) → Answers s (taken s a f)
taken_answers s a (Numbered i body) =
    cond_both (i == (peer_at s a).expected) (accepted s a body) (quiet s (got_frames a (peer_at s a).expected)) (Answers s) (λ _. accepted_answers s a body) (λ _. quiet_answers s s (quiet s (got_frames a (peer_at s a).expected)) refl refl refl)
taken_answers s a (Got count) = quiet_answers s (taken s a (Got count)).0 (taken s a (Got count)) refl refl refl

pub step_answers : (start : Op → ℕ → Start) (registers : ℕ) (s : State) (e : Step) → StepAllowed registers s e
    → Answers s (step start s e)
step_answers start registers s (CallStep op) h = called_answers s op (start op (unsettled s)) h.0
step_answers start registers s (TakeStep a f) h = taken_answers s a f
step_answers start registers s TickStep h = quiet_answers s s (step start s TickStep) refl refl refl

-- each call that is done has its answer
abbrev pub AllAnswered : ℕ → Trace → Type 0
AllAnswered n w = (p number : ℕ) → p < n → number < done_calls (w.nodes p).state (w.nodes p).state.running → (a : Answered) × In a (w.pasts p).answers × (a.number ≡ number)

reply_answered : (at number : ℕ) (op : Op) (o : Option Reply) (y : Reply) → o ≡ Some y
    → (a : Answered) × In a (answered_in at number op o) × (a.number ≡ number)
reply_answered at number op None y e = absurd (let bad : ⊥ = cc in bad)
reply_answered at number op (Some r) y e = (record { number = number; at = at; op = op; reply = r }, inl refl, refl)

pub answered_after : (start : Op → ℕ → Start) (n registers : ℕ) (w : Trace) (m : Option (ℕ × Step))
    → Allowed n registers w.nodes m → AllAnswered n w → (q number : ℕ) → q < n
    → number < done_calls (nodes_after start w.nodes m q).state (nodes_after start w.nodes m q).state.running
    → (a : Answered) × In a (pasts_after start w m q).answers × (a.number ≡ number)
answered_after start n registers w None K A q number l h = A q number l h
answered_after start n registers w (Some m) K A q number l h =
    let x = w.nodes m.0 in
    let y = after_step start x m.1 in
    let r = step start x.state m.1 in
    let old = w.pasts m.0 in
    let h' = past_after w.count x.state old m.1 r in
    let new = answered_in w.count (r.0.calls - 1) (op_in x.state m.1) r.1.reply in
    put_cases (λ (z : Node). number < done_calls z.state z.state.running → (a : Answered) × In a (put w.pasts m.0 h' q).answers × (a.number ≡ number)) w.nodes m.0 y q
    (λ e b. put_cases (λ (g : Past). (a : Answered) × In a g.answers × (a.number ≡ number)) w.pasts m.0 h' q
    (λ _. elim (step_answers start registers x.state m.1 K.1 number b) [
      | inl c ↦ let f = A m.0 number K.0 c in (f.0, in_left f.0 old.answers new f.1, f.2)
      | inr c ↦ let f = reply_answered w.count (r.0.calls - 1) (op_in x.state m.1) r.1.reply c.0 c.1 in (f.0, in_right f.0 old.answers new f.1, f.2 ∙ sym c.2)
    ])
    (λ ne. absurd (ne e)))
    (λ ne b. put_cases (λ (g : Past). (a : Answered) × In a g.answers × (a.number ≡ number)) w.pasts m.0 h' q (λ e. absurd (ne e)) (λ _. A q number l b))
    h

pub all_answered : (start : Op → ℕ → Start) (n registers : ℕ) (events : List Event)
    → AllAnswered n (traced start n registers events)
all_answered start n registers =
    along start n registers (AllAnswered n) (λ p number l h. absurd (omega (arith, h)))
    (λ es e h. let w = whole start n registers es in answered_after start n registers (traced start n registers es) (move_of n registers w e) (moves n registers w e (Allowed n registers w.nodes) (allowed n registers w.nodes e) tt) h)
