-- A supported order of all nodes' entries is a run.
use Rattle.std.proofs.Common.{◌≡◌, ℕ, zero, suc, ◌+◌, ◌<◌, ◌≤◌, Bool, true, false, not, List, [], ◌∷◌, ◌++◌, length}
use Rattle.std.proofs.Common.{take, Option, Some, None, refl, ap, sym, ◌∙◌, subst, arith, length-append}
use Rattle.std.specs.Prelude.{cond, ◌==◌, ◌&&◌, ◌||◌, nat_lt, nat_le, slice_get}
use Rattle.std.specs.Option.{is_some}
use Rattle.std.proofs.Math.Seq.{take-length}
use Rattle.std.proofs.lemmas.Bool.{lt-ltb, leb-false, eqb-false}
use Rattle.std.proofs.lemmas.List.Sums.{sum_by-cons, sum_by_push}
use Rattle.std.proofs.lemmas.Option.{same_Some, slice_get_within}
use Rattle.reg_base.specs.declared.limits.TheConstants.{MOST_EVENTS, MOST_OPERATIONS}
use Rattle.reg_base.specs.declared.memory.Op.{Op}
use Rattle.reg_base.specs.Memory.{register_of}
use Rattle.reg_base.specs.Order.{In}
use Rattle.reg_base.specs.Shape.{Extent}
use Rattle.reg_base.proofs.Lists.{in_right}
use Rattle.reg_frames.specs.declared.bodies.Frame.{Frame}
use Rattle.reg_front.specs.declared.starts.Start.{Start}
use Rattle.reg_process.specs.declared.events.Event.{Event}
use Rattle.reg_process.specs.declared.events.Event.TheVariants.{Call as CallOf, Take as TakeOf, Tick as TickOf}
use Rattle.reg_process.specs.declared.faults.ProcessFault.TheVariants.{NoProcess, Busy, NoRegister, TooManyOperations}
use Rattle.reg_process.specs.declared.steps.Step.{Step}
use Rattle.reg_process.specs.declared.steps.Step.TheVariants.{Call, Take, Tick}
use Rattle.reg_process.specs.Faults.{step_fault, early_fault, full_at, first_of, frame_fault}
use Rattle.reg_process.specs.Process.{State, Running, step, unsettled}
use Rattle.reg_process.specs.Puts.{put_to, puts}
use Rattle.reg_world.specs.Nodes.{Node, after_step, step_of}
use Rattle.reg_world.specs.World.{move_of}
use Rattle.reg_world.specs.Worlds.{Made, run_in, with_event, new_world, reply_of_move}
use Rattle.reg_world.proofs.lists.Members.{in_at}
use Rattle.reg_world.proofs.one_order.NodeLaws.{inv_of}
use Rattle.reg_records.specs.declared.entries.LogEntry.{LogEntry}
use Rattle.reg_records.specs.Merges.{IsRun}
use Rattle.reg_records.specs.Placing.{shape_of}
use Rattle.reg_records.specs.Playing.{IsEntry}
use Rattle.reg_records.specs.Records.{entry_of, mentions}
use Rattle.reg_records.proofs.Alone.{node_after, after_entry, nodes_are, events_are, wire_grows}
use Rattle.reg_records.proofs.Making.{takes, ticks}
use Rattle.reg_records.proofs.Placed.{run_more}
use Rattle.reg_records.proofs.Turns.{plays_shape}
use Rattle.reg_node.specs.Logs.{Outgoing, IsStep, AreSteps, first_state, state_after, output_of, outputs_of}
use Rattle.reg_node.proofs.Begun.{first_node, copy_length}
use Rattle.reg_node.proofs.Numbers.{in_puts, none_if}
use Rattle.reg_node.proofs.Steps.{state_push, outputs_count, steps_at}
use Rattle.reg_node.proofs.Supported.{Share, Stands, IsBacked, AreSupported}

-- the order from its oldest entry on
abbrev pub forwards : List ℕ → List ℕ
forwards [] = []
forwards (p ∷ older) = forwards older ++ p ∷ []

pub mentions_forwards : (p : ℕ) (xs : List ℕ) → mentions p (forwards xs) ≡ mentions p xs
mentions_forwards p [] = refl
mentions_forwards p (q ∷ older) =
    let last : mentions p (forwards older ++ q ∷ []) ≡ mentions p (forwards older) + cond (q == p) 1 0 = sum_by_push (λ x. cond (x == p) 1 0) (forwards older) q in
    let head : mentions p (q ∷ older) ≡ cond (q == p) 1 0 + mentions p older = sum_by-cons (λ x. cond (x == p) 1 0) q older in
    let rest = mentions_forwards p older in
    omega (arith, last, head, rest)

length_forwards : (xs : List ℕ) → length (forwards xs) ≡ length xs
length_forwards [] = refl
length_forwards (p ∷ older) =
    let more = length-append (forwards older) (p ∷ []) in
    let rest = length_forwards older in
    omega (arith, more, rest)

get_at : {X : Type 0} (xs : List X) (k : ℕ) → k < length xs → (x : X) × (slice_get xs k ≡ Some x)
get_at [] k lt = absurd (omega (arith, lt))
get_at (x ∷ xs) zero lt = (x, refl)
get_at (x ∷ xs) (suc k) lt = get_at xs k (omega (arith, lt))

take_push : {X : Type 0} (xs : List X) (k : ℕ) (x : X) → slice_get xs k ≡ Some x → take (suc k) xs ≡ take k xs ++ x ∷ []
take_push [] k x h = absurd (let bad : ⊥ = cc in bad)
take_push (y ∷ ys) zero x h = ap (λ z. z ∷ []) (same_Some y x h)
take_push (y ∷ ys) (suc k) x h = ap (λ l. y ∷ l) (take_push ys k x h)

-- what goes out of the entry at a place
outputs_at : (start : Op → ℕ → Start) (s : State) (log : List LogEntry) (k : ℕ) (e : LogEntry)
    → slice_get log k ≡ Some e
    → slice_get (outputs_of start s log) k ≡ Some (output_of start (state_after start s (take k log)) e.step)
outputs_at start s [] k e h = absurd (let bad : ⊥ = cc in bad)
outputs_at start s (x ∷ xs) zero e h = ap (λ (y : LogEntry). Some (output_of start s y.step)) (same_Some x e h)
outputs_at start s (x ∷ xs) (suc k) e h = outputs_at start (step start s x.step).0 xs k e h

first_none : {X : Type 0} (o q : Option X) → first_of o q ≡ None → o ≡ None
first_none None q h = refl
first_none (Some x) q h = absurd (let bad : ⊥ = cc in bad)

or_none : (a b : Bool) → (a || b) ≡ false → (a ≡ false) × (b ≡ false)
or_none true b h = absurd (let bad : ⊥ = cc in bad)
or_none false b h = (refl, h)

-- what a process asks of a call, the world asks too
record MayCall (s : State) (op : Op) : Type 0 where
  idle : is_some s.running ≡ false
  register : register_of op < length s.copy
  few : s.calls < MOST_OPERATIONS

may_call : (start : Op → ℕ → Start) (s : State) (op : Op) → step_fault start s (Call op) ≡ None → MayCall s op
may_call start s op none = by s.running refl
  where
    early : early_fault s op s.running ≡ None
    early = first_none (early_fault s op s.running) (full_at s.clock (start op (unsettled s))) none

    by : (o : Option Running) → s.running ≡ o → MayCall s op
    by (Some r) is = absurd (let there = early in let bad : Some Busy ≡ None = ap (early_fault s op) (sym is) ∙ there in let no : ⊥ = cc in no)
    by None is =
        let there : early_fault s op None ≡ None = ap (early_fault s op) (sym is) ∙ early in
        let a = none_if (nat_le (length s.copy) (register_of op)) NoRegister (cond (nat_le MOST_OPERATIONS s.calls) (Some TooManyOperations) None) there in
        let b = none_if (nat_le MOST_OPERATIONS s.calls) TooManyOperations None a.1 in
        record {
          idle = ap is_some is;
          register = leb-false (length s.copy) (register_of op) a.0;
          few = leb-false MOST_OPERATIONS s.calls b.0;
        }

call_tests : {X : Type 0} (a b c d : Bool) (o : Option X) → a ≡ true → b ≡ false → c ≡ true → d ≡ true
    → cond (a && (not b && (c && d))) o None ≡ o
call_tests a b c d o e f g h = rw (e, f, g, h) refl

-- an order of the logs of a cluster, and what is known of them
module _ (start : Op → ℕ → Start) (shape : Extent) (logs : List (List LogEntry)) (shares : ℕ → Share)
    (entries : (p k : ℕ) (e : LogEntry) → slice_get (shares p).log k ≡ Some e → entry_of logs p k ≡ Some e)
    (outputs : (p : ℕ) → (shares p).outputs ≡ outputs_of start (first_state shape p) (shares p).log)
    (steps : (p : ℕ) → AreSteps start (first_state shape p) (shares p).log) where
  -- the process p after so many entries of its log
  node_entry : (p k : ℕ) (e : LogEntry) → slice_get (shares p).log k ≡ Some e → node_after start shape logs p (suc k) ≡ after_step start (node_after start shape logs p k) e.step
  node_entry p k e at = ap (after_entry start (node_after start shape logs p k)) (entries p k e at)

  node_is : (p k : ℕ) → k ≤ length (shares p).log → (node_after start shape logs p k).state ≡ state_after start (first_state shape p) (take k (shares p).log)
  node_is p zero le = first_node shape p
  node_is p (suc k) le =
      let got = get_at (shares p).log k (omega (arith, le)) in
      let e = got.0 in
      let at = got.1 in
      ap (λ (x : Node). x.state) (node_entry p k e at)
      ∙ (ap (λ (s : State). (step start s e.step).0) (node_is p k (omega (arith, le)))
      ∙ (sym (state_push start (first_state shape p) (take k (shares p).log) e)
      ∙ ap (state_after start (first_state shape p)) (sym (take_push (shares p).log k e at))))

  -- what went out of an entry is on the wires after it
  wire_has : (p q k place : ℕ) (o : Outgoing) (frame : Frame) → place < k → slice_get (shares p).outputs place ≡ Some o → In (put_to q frame) o.frames → (number : ℕ) × (slice_get ((node_after start shape logs p k).wire q) number ≡ Some frame)
  wire_has p q k place o frame before stands put =
      let log = (shares p).log in
      let first = first_state shape p in
      let there : slice_get (outputs_of start first log) place ≡ Some o = subst (λ (os : List Outgoing). slice_get os place ≡ Some o) (outputs p) stands in
      let within : place < length log = let a = slice_get_within (outputs_of start first log) place o there in let b = outputs_count start first log in omega (arith, a, b) in
      let got = get_at log place within in
      let e = got.0 in
      let s = state_after start first (take place log) in
      let same : o ≡ output_of start s e.step = same_Some o (output_of start s e.step) (sym there ∙ outputs_at start first log place e got.1) in
      let listed : In (put_to q frame) (puts (step start s e.step).1.frames (length s.peers)) = subst (λ (x : Outgoing). In (put_to q frame) x.frames) same put in
      let sent : In frame ((step start s e.step).1.frames q) = (in_puts (step start s e.step).1.frames (length s.peers) (put_to q frame) listed).1 in
      let node = node_after start shape logs p place in
      let made : In frame ((step start node.state e.step).1.frames q) = subst (λ (x : State). In frame ((step start x e.step).1.frames q)) (sym (node_is p place (omega (arith, within)))) sent in
      let on : In frame ((after_step start node e.step).wire q) = in_right frame (node.wire q) ((step start node.state e.step).1.frames q) made in
      let after : In frame ((node_after start shape logs p (suc place)).wire q) = subst (λ (x : Node). In frame (x.wire q)) (sym (node_entry p place e got.1)) on in
      let found = in_at frame ((node_after start shape logs p (suc place)).wire q) after in
      (found.0, wire_grows start shape logs p q found.0 frame (suc place) k (omega (arith, before)) found.1)

  -- One entry more, behind a run that has the older ones.
  module _ (older : List ℕ) (w : Made) (runs : IsRun start shape logs (forwards older) w) (room : length older < MOST_EVENTS) (p : ℕ) (within : p < shape.processes) (t : Stands shares older p) where
    nodes : (q : ℕ) → (run_in start w).nodes q ≡ node_after start shape logs q (mentions q older)
    nodes q =
        nodes_are start shape logs (forwards older) (length (forwards older)) w runs q
        ∙ (ap (λ (xs : List ℕ). node_after start shape logs q (mentions q xs)) (take-length (forwards older))
        ∙ ap (node_after start shape logs q) (mentions_forwards q older))

    abbrev now : State
    now = ((run_in start w).nodes p).state

    abbrev then : State
    then = state_after start (first_state shape p) (take (mentions p older) (shares p).log)

    state : now ≡ then
    state = ap (λ (x : Node). x.state) (nodes p) ∙ node_is p (mentions p older) (let lt = slice_get_within (shares p).log (mentions p older) t.entry t.at in omega (arith, lt))

    is : IsStep start then t.entry
    is = steps_at start (first_state shape p) (shares p).log (mentions p older) t.entry (steps p) t.at

    accepted : step_fault start now t.entry.step ≡ None
    accepted = subst (λ (s : State). step_fault start s t.entry.step ≡ None) (sym state) is.accepted

    shape_is : (w.processes ≡ shape.processes) × (w.registers ≡ shape.registers)
    shape_is = plays_shape start shape (forwards older) logs (length (forwards older)) w runs

    here : p < w.processes
    here = let e = shape_is.0 in omega (arith, e, within)

    me : now.me ≡ p
    me = ((inv_of start w.processes w.registers w.accepted).local p here).me

    size : length now.peers ≡ w.processes
    size = ((inv_of start w.processes w.registers w.accepted).local p here).size

    copy : length now.copy ≡ w.registers
    copy = ap (λ (s : State). length s.copy) state ∙ (copy_length start shape p (take (mentions p older) (shares p).log) ∙ sym shape_is.1)

    event : (e : Step) → step_fault start now e ≡ None → IsBacked shares older p e → (x : Event) × (step_of w.processes w.registers (run_in start w).nodes x ≡ Some (p, e))
    event (Call op) none backed =
        let may = may_call start now op none in
        let register : register_of op < w.registers = let a = may.register in let b = copy in omega (arith, a, b) in (
          CallOf p op,
          call_tests (nat_lt p w.processes) (is_some now.running) (nat_lt (register_of op) w.registers) (nat_lt now.calls MOST_OPERATIONS) (Some (p, Call op))
              (lt-ltb p w.processes here) may.idle (lt-ltb (register_of op) w.registers register) (lt-ltb now.calls MOST_OPERATIONS may.few),
        )
    event (Take from frame) none backed =
        let a = none_if (nat_le (length now.peers) from || from == now.me) NoProcess (frame_fault now from frame) none in
        let b = or_none (nat_le (length now.peers) from) (from == now.me) a.0 in
        let far : from < w.processes = let x = leb-false (length now.peers) from b.0 in let y = size in omega (arith, x, y) in
        let other : from ≡ p → ⊥ = λ e. eqb-false from now.me b.1 (e ∙ sym me) in
        let put = wire_has from p (mentions from older) backed.place backed.output frame backed.older backed.stands backed.put in
        let there : slice_get (((run_in start w).nodes from).wire p) put.0 ≡ Some frame = subst (λ (x : Node). slice_get (x.wire p) put.0 ≡ Some frame) (sym (nodes from)) put.1 in
        (TakeOf from p put.0, takes w.processes w.registers (run_in start w).nodes from p put.0 frame far here other there)
    event Tick none backed = (TickOf p, ticks w.processes w.registers (run_in start w).nodes p here)

    entry : (x : Event) → step_of w.processes w.registers (run_in start w).nodes x ≡ Some (p, t.entry.step) → IsEntry start w p t.entry x
    entry x steps_here = record {
      move = move;
      reply = ap (reply_of_move start (run_in start w)) move ∙ (ap (λ (s : State). (step start s t.entry.step).1.reply) state ∙ sym is.reply);
    }
      where
        few : length (run_in start w).accepted < MOST_EVENTS
        few =
            let a = events_are start shape logs (forwards older) (length (forwards older)) w runs in
            let b = length_forwards older in
            omega (arith, a, b, room)

        move : move_of w.processes w.registers (run_in start w) x ≡ Some (p, t.entry.step)
        move =
            ap (λ (b : Bool). cond b (step_of w.processes w.registers (run_in start w).nodes x) None) (lt-ltb (length (run_in start w).accepted) MOST_EVENTS few)
            ∙ steps_here

    one_more : (v : Made) × IsRun start shape logs (forwards (p ∷ older)) v
    one_more =
        let x = event t.entry.step accepted t.backed in
        let same : shape_of w ≡ shape = (λ i. record { processes = shape_is.0 i; registers = shape_is.1 i }) in
        let stands : entry_of logs p (mentions p (forwards older)) ≡ Some t.entry = ap (entry_of logs p) (mentions_forwards p older) ∙ entries p (mentions p older) t.entry t.at in
        let more = run_more start logs (forwards older) w p t.entry x.0 (subst (λ (z : Extent). IsRun start z logs (forwards older) w) (sym same) runs) stands (entry x.0 x.1) in
        (with_event start w x.0, subst (λ (z : Extent). IsRun start z logs (forwards older ++ p ∷ []) (with_event start w x.0)) same more)

  -- so each supported order that isn't too long is a run
  pub supported_runs : (xs : List ℕ) → AreSupported shape.processes shares xs → length xs ≤ MOST_EVENTS
      → (w : Made) × IsRun start shape logs (forwards xs) w
  supported_runs [] s few = (new_world shape, refl)
  supported_runs (p ∷ older) s few =
      let before = supported_runs older s.2 (omega (arith, few)) in
      one_more older before.0 before.1 (omega (arith, few)) p s.0 s.1
