-- How far runs go: what may go now may still go after others went.
use Rattle.std.proofs.Math.Seq.{take-length}
use Rattle.std.proofs.Common.{◌≡◌, ◌⊎◌, inl, inr, ℕ, zero, suc, ◌<◌, ◌≤◌, List, length, take, Bool, true, not, Some}
use Rattle.std.proofs.Common.{None, ap, sym, ◌∙◌, subst, arith}
use Rattle.std.specs.Prelude.{◌==◌, ◌&&◌, cond, nat_lt, slice_get}
use Rattle.std.specs.Option.{is_some}
use Rattle.std.proofs.lemmas.Bool.{cases_eq, lt-ltb}
use Rattle.std.proofs.lemmas.Option.{same_Some}
use Rattle.reg_base.specs.declared.limits.TheConstants.{MOST_EVENTS, MOST_OPERATIONS}
use Rattle.reg_base.specs.declared.memory.Op.{Op}
use Rattle.reg_base.specs.Memory.{register_of}
use Rattle.reg_base.specs.Shape.{Extent}
use Rattle.reg_front.specs.declared.starts.Start.{Start}
use Rattle.reg_process.specs.declared.steps.Step.{Step}
use Rattle.reg_process.specs.declared.steps.Step.TheVariants.{Call, Take, Tick}
use Rattle.reg_process.specs.Process.{State, step}
use Rattle.reg_checkers.specs.History.{IsAt}
use Rattle.reg_process.specs.declared.events.Event.{Event}
use Rattle.reg_process.specs.declared.events.Event.TheVariants.{Take as TakeOf}
use Rattle.reg_world.specs.Nodes.{Node, Nodes, step_of, take_step}
use Rattle.reg_world.specs.World.{move_of}
use Rattle.reg_world.specs.Worlds.{Made, run_in, reply_in, reply_of_move}
use Rattle.reg_world.proofs.run.Along.{move_is}
use Rattle.reg_records.specs.declared.entries.LogEntry.{LogEntry}
use Rattle.reg_records.specs.Playing.{IsEntry, IsEventOf, Moves}
use Rattle.reg_records.specs.Records.{Turn, Plays, entry_of, mentions}
use Rattle.reg_records.proofs.Steps.{if_some, event_moves, is_event}
use Rattle.reg_records.proofs.Turns.{plays_shape}
use Rattle.reg_records.proofs.Alone.{nodes_are, events_are, wire_grows, mention_more, mention_same, node_after}
use Rattle.reg_records.specs.Merges.{NoneHasMore}
use Rattle.reg_records.specs.Placing.{NoEntry}

-- a step that one of two worlds accepts is accepted by the other, if its process is the same there and the event is one
-- of that step
step_there : (n registers : ℕ) (x y : Nodes) (q : ℕ) (made : Step) (e f : Event) → (x q).state ≡ (y q).state
    → step_of n registers y f ≡ Some (q, made) → IsEventOf x q made e → step_of n registers x e ≡ Some (q, made)
step_there n registers x y q (Call op) e f same moves is =
    ap (step_of n registers x) is
    ∙ (ap (λ (s : State). cond (nat_lt q n && (not (is_some s.running) && (nat_lt (register_of op) registers && nat_lt s.calls MOST_OPERATIONS))) (Some (q, Call op)) None) same
    ∙ (sym (ap (step_of n registers y) (event_moves n registers y q (Call op) f moves)) ∙ moves))
step_there n registers x y q (Take from frame) e f same moves (number, is, at) =
    let there = event_moves n registers y q (Take from frame) f moves in
    let here : step_of n registers y (TakeOf from q there.0) ≡ Some (q, Take from frame) = sym (ap (step_of n registers y) there.1) ∙ moves in
    let test : (nat_lt from n && (nat_lt q n && not (from == q))) ≡ true =
    (if_some (nat_lt from n && (nat_lt q n && not (from == q))) (take_step from q (slice_get ((y from).wire q) there.0)) (q, Take from frame) here).0 in
    ap (step_of n registers x) is
    ∙ (ap (λ (b : Bool). cond b (take_step from q (slice_get ((x from).wire q) number)) None) test
    ∙ ap (take_step from q) at)
step_there n registers x y q Tick e f same moves is =
    ap (step_of n registers x) is ∙ (sym (ap (step_of n registers y) (event_moves n registers y q Tick f moves)) ∙ moves)

-- and so is an entry
entry_there : (start : Op → ℕ → Start) (u v : Made) (q : ℕ) (entry : LogEntry) (e f : Event) → u.processes ≡ v.processes
    → u.registers ≡ v.registers → length (run_in start u).accepted < MOST_EVENTS
    → ((run_in start u).nodes q).state ≡ ((run_in start v).nodes q).state → move_of v.processes v.registers (run_in start v) f ≡ Some (q, entry.step) → reply_in start v f ≡ entry.reply
    → IsEventOf (run_in start u).nodes q entry.step e → IsEntry start u q entry e
entry_there start u v q entry e f processes registers room same moves reply is = record { move = move; reply = told }
  where
    there : step_of u.processes u.registers (run_in start v).nodes f ≡ Some (q, entry.step)
    there =
        ap (λ (n : ℕ). step_of n u.registers (run_in start v).nodes f) processes
        ∙ (ap (λ (r : ℕ). step_of v.processes r (run_in start v).nodes f) registers ∙ (move_is v.processes v.registers (run_in start v) f (q, entry.step) moves).1)

    move : move_of u.processes u.registers (run_in start u) e ≡ Some (q, entry.step)
    move =
        ap (λ (b : Bool). cond b (step_of u.processes u.registers (run_in start u).nodes e) None) (lt-ltb (length (run_in start u).accepted) MOST_EVENTS room)
        ∙ step_there u.processes u.registers (run_in start u).nodes (run_in start v).nodes q entry.step e f same there is

    told : reply_in start u e ≡ entry.reply
    told =
        ap (reply_of_move start (run_in start u)) move
        ∙ (ap (λ (s : State). (step start s entry.step).1.reply) same ∙ (sym (ap (reply_of_move start (run_in start v)) moves) ∙ reply))

-- one mention more, where there are no more mentions of a process than so many, and at that many none of it
turn_within : (start : Op → ℕ → Start) (logs : List (List LogEntry)) (order : List ℕ) (k p most : ℕ) (old new : Made)
    → (t : Turn start order logs k old new) → mentions p (take k order) ≤ most
    → (t.process ≡ p → mentions p (take k order) ≡ most → ⊥)
    → mentions p (take (suc k) order) ≤ most
turn_within start logs order k p most old new t le off = by (cases_eq t.process p)
  where
    by : (t.process ≡ p) ⊎ (t.process ≡ p → ⊥) → mentions p (take (suc k) order) ≤ most
    by (inl e) =
        let more = mention_more order k p (subst (λ (q : ℕ). IsAt order k q) e t.mention) in
        let less : mentions p (take k order) < most = below (cases_eq (mentions p (take k order)) most) in
        omega (arith, more, less)
      where
        below : (mentions p (take k order) ≡ most) ⊎ (mentions p (take k order) ≡ most → ⊥) → mentions p (take k order) < most
        below (inl same) = absurd (off e same)
        below (inr other) = omega arith
    by (inr other) = let same = mention_same order k p t.process t.mention other in omega (arith, same)

module _ (start : Op → ℕ → Start) (shape : Extent) (logs : List (List LogEntry)) (order : List ℕ) (u : Made) (runs : Plays start shape order logs (length order) u) where
  nodes_here : (p : ℕ) → (run_in start u).nodes p ≡ node_after start shape logs p (mentions p order)
  nodes_here p = nodes_are start shape logs order (length order) u runs p ∙ ap (λ (xs : List ℕ). node_after start shape logs p (mentions p xs)) (take-length order)

  module _ (further : List ℕ) (k : ℕ) (v : Made) (plays : Plays start shape further logs k v) where
    nodes_there : (p : ℕ) → (run_in start v).nodes p ≡ node_after start shape logs p (mentions p (take k further))
    nodes_there = nodes_are start shape logs further k v plays

    -- a process that made as many entries in both runs is the same in both
    same_node : (p : ℕ) → mentions p (take k further) ≡ mentions p order → (run_in start u).nodes p ≡ (run_in start v).nodes p
    same_node p e = nodes_here p ∙ (sym (ap (node_after start shape logs p) e) ∙ sym (nodes_there p))

    entry_here : (q : ℕ) (entry : LogEntry) (e f : Event) → mentions q (take k further) ≡ mentions q order → length order < MOST_EVENTS → move_of v.processes v.registers (run_in start v) f ≡ Some (q, entry.step) → reply_in start v f ≡ entry.reply
        → IsEventOf (run_in start u).nodes q entry.step e → IsEntry start u q entry e
    entry_here q entry e f same room moves reply is =
        let a = plays_shape start shape order logs (length order) u runs in
        let b = plays_shape start shape further logs k v plays in
        let count = events_are start shape logs order (length order) u runs in
        let less : length (run_in start u).accepted < MOST_EVENTS = omega (arith, count, room) in
        entry_there start u v q entry e f (a.0 ∙ sym b.0) (a.1 ∙ sym b.1) less (ap (λ (x : Node). x.state) (same_node q same)) moves reply is

    -- an event of a step in the one run is one in the other, if that has at least as many entries of each log
    event_here : ((p : ℕ) → mentions p (take k further) ≤ mentions p order) → (q : ℕ) (made : Step) (f : Event) → IsEventOf (run_in start v).nodes q made f → IsEventOf (run_in start u).nodes q made f
    event_here less q (Call op) f is = is
    event_here less q Tick f is = is
    event_here less q (Take from frame) f (number, is, at) =
        let there = subst (λ (x : Node). IsAt (x.wire q) number frame) (nodes_there from) at in
        let grown = wire_grows start shape logs from q number frame (mentions from (take k further)) (mentions from order) (less from) there in
        (number, is, subst (λ (x : Node). IsAt (x.wire q) number frame) (sym (nodes_here from)) grown)

  -- where no next entry may go, no run goes further
  module _ (never_goes : (q : ℕ) (entry : LogEntry) → entry_of logs q (mentions q order) ≡ Some entry → (length order < MOST_EVENTS) × NoEntry start u q entry) where
    none_further : (further : List ℕ) (k : ℕ) (v : Made) → Plays start shape further logs k v → (p : ℕ) → mentions p (take k further) ≤ mentions p order
    none_further further zero v plays p = omega arith
    none_further further (suc k) v (w, plays, t) p = go (none_further further k w plays)
      where
        off : ((q : ℕ) → mentions q (take k further) ≤ mentions q order) → t.process ≡ p → mentions p (take k further) ≡ mentions p order → ⊥
        off less e same =
            let here : mentions t.process (take k further) ≡ mentions t.process order = subst (λ (q : ℕ). mentions q (take k further) ≡ mentions q order) (sym e) same in
            let stands : entry_of logs t.process (mentions t.process order) ≡ Some t.entry = sym (ap (entry_of logs t.process) here) ∙ t.stands in
            let never = never_goes t.process t.entry stands in
            let event : IsEventOf (run_in start u).nodes t.process t.entry.step t.event = event_here further k w plays less t.process t.entry.step t.event (is_event start w t.process t.entry.step t.event t.move) in
            never.1 t.event (entry_here further k w plays t.process t.entry t.event t.event here never.0 t.move t.reply event)

        go : ((q : ℕ) → mentions q (take k further) ≤ mentions q order) → mentions p (take (suc k) further) ≤ mentions p order
        go less = turn_within start logs further k p (mentions p order) w v t (less p) (off less)

    pub none_has_more : (p : ℕ) → NoneHasMore start shape logs p (mentions p order)
    none_has_more p further w plays = subst (λ (xs : List ℕ). mentions p xs ≤ mentions p order) (take-length further) (none_further further (length further) w plays p)

  -- where an entry has an event, which isn't that entry, no run has it
  module _ (p : ℕ) (entry : LogEntry) (e : Event) (stands : entry_of logs p (mentions p order) ≡ Some entry) (is : IsEventOf (run_in start u).nodes p entry.step e) (none : NoEntry start u p entry) (room : length order < MOST_EVENTS) where
    none_past : (further : List ℕ) (k : ℕ) (v : Made) → Plays start shape further logs k v → mentions p (take k further) ≤ mentions p order
    none_past further zero v plays = omega arith
    none_past further (suc k) v (w, plays, t) = turn_within start logs further k p (mentions p order) w v t (none_past further k w plays) off
      where
        off : t.process ≡ p → mentions p (take k further) ≡ mentions p order → ⊥
        off same here =
            let there : entry_of logs p (mentions p order) ≡ Some t.entry = sym (ap (entry_of logs p) here) ∙ subst (λ (q : ℕ). entry_of logs q (mentions q (take k further)) ≡ Some t.entry) same t.stands in
            let one : t.entry ≡ entry = same_Some t.entry entry (sym there ∙ stands) in
            let moves : Moves start w p entry.step t.event = t.move ∙ (ap (λ (q : ℕ). Some (q, t.entry.step)) same ∙ ap (λ (x : LogEntry). Some (p, x.step)) one) in
            none e (entry_here further k w plays p entry e t.event here room moves (t.reply ∙ ap (λ (x : LogEntry). x.reply) one) is)

    pub none_passes : NoneHasMore start shape logs p (mentions p order)
    none_passes further w plays = subst (λ (xs : List ℕ). mentions p xs ≤ mentions p order) (take-length further) (none_past further (length further) w plays)
