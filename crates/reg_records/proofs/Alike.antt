-- Runs of the same steps.
use Rattle.std.proofs.Common.{◌≡◌, ℕ, zero, suc, ◌+◌, ◌-◌, List, [], ◌∷◌, ◌++◌, length, map, take, Option, Some, None}
use Rattle.std.proofs.Common.{refl, ap, ap₂, sym, ◌∙◌, subst, length-append}
use Rattle.std.specs.Prelude.{cond, nat_lt}
use Rattle.std.proofs.lemmas.Option.{same_Some}
use Rattle.reg_base.specs.declared.limits.TheConstants.{MOST_EVENTS}
use Rattle.reg_base.specs.declared.memory.Op.{Op}
use Rattle.reg_base.specs.Shape.{Extent}
use Rattle.reg_front.specs.declared.starts.Start.{Start}
use Rattle.reg_process.specs.declared.steps.Step.{Step}
use Rattle.reg_process.specs.Process.{step}
use Rattle.reg_process.specs.declared.events.Event.{Event}
use Rattle.reg_world.specs.Nodes.{put, after_step, step_of, unseen}
use Rattle.reg_world.specs.World.{World, op_id, calls_in, answers_in, casts_in, first_of, delivered_of, reads_in}
use Rattle.reg_world.specs.World.{replies_in, move_of, moved}
use Rattle.reg_world.specs.Worlds.{Made, run_in, with_event, reply_in, reply_of_move}
use Rattle.reg_records.specs.declared.entries.LogEntry.{LogEntry}
use Rattle.reg_records.specs.Records.{Turn, Plays, AreAlike, unlisted, entry_of, mentions}
use Rattle.reg_world.proofs.run.Along.{one_more}

-- a run after a step, by all but its list of events
after_move : (Op → ℕ → Start) → ℕ → ℕ × Step → World → World
after_move start at m w = record {
  nodes = put w.nodes m.0 (after_step start (w.nodes m.0) m.1);
  accepted = [];
  history = (w.history ++ calls_in at (op_id m.0 (w.nodes m.0).state.calls) m.1) ++ answers_in at (op_id m.0 ((step start (w.nodes m.0).state m.1).0.calls - 1)) (step start (w.nodes m.0).state m.1).1.reply;
  casts = w.casts ++ casts_in (op_id m.0 (w.nodes m.0).state.calls) m.1 (step start (w.nodes m.0).state m.1).1.cast;
  order = w.order ++ map (first_of (w.casts ++ casts_in (op_id m.0 (w.nodes m.0).state.calls) m.1 (step start (w.nodes m.0).state m.1).1.cast) at) (unseen (map delivered_of w.order) (step start (w.nodes m.0).state m.1).1.delivered);
  reads = w.reads ++ reads_in (w.casts ++ casts_in (op_id m.0 (w.nodes m.0).state.calls) m.1 (step start (w.nodes m.0).state m.1).1.cast) (op_id m.0 ((step start (w.nodes m.0).state m.1).0.calls - 1)) (step start (w.nodes m.0).state m.1).1.reply;
  replies = w.replies ++ replies_in at (op_id m.0 ((step start (w.nodes m.0).state m.1).0.calls - 1)) (step start (w.nodes m.0).state m.1).1.reply;
}

unlisted_moved : (start : Op → ℕ → Start) (w : World) (e : Event) (m : ℕ × Step)
    → unlisted (moved start w e (Some m)) ≡ after_move start (length w.accepted) m (unlisted w)
unfolding after_move
unlisted_moved start w e m = refl

pub count_moved : (start : Op → ℕ → Start) (w : World) (e : Event) (m : ℕ × Step)
    → length (moved start w e (Some m)).accepted ≡ length w.accepted + 1
count_moved start w e m = length-append w.accepted (e ∷ [])

pub alike_same : (start : Op → ℕ → Start) (u v : Made) → u ≡ v → AreAlike start u v
alike_same start u v e = record {
  processes = ap (λ (w : Made). w.processes) e;
  registers = ap (λ (w : Made). w.registers) e;
  history = ap (λ (w : Made). w.history) e;
  count = ap (λ (w : Made). length (run_in start w).accepted) e;
  run = ap (λ (w : Made). unlisted (run_in start w)) e;
}

-- the run with one more event
pub next_run : (start : Op → ℕ → Start) (w : Made) (e : Event) (m : ℕ × Step)
    → move_of w.processes w.registers (run_in start w) e ≡ Some m
    → run_in start (with_event start w e) ≡ moved start (run_in start w) e (Some m)
next_run start w e m h = one_more start w.processes w.registers w.accepted e ∙ ap (moved start (run_in start w) e) h

next_alike : (start : Op → ℕ → Start) (u v : Made) (e f : Event) (m : ℕ × Step) → AreAlike start u v
    → move_of u.processes u.registers (run_in start u) e ≡ Some m → move_of v.processes v.registers (run_in start v) f ≡ Some m → unlisted (run_in start (with_event start u e)) ≡ unlisted (run_in start (with_event start v f))
next_alike start u v e f m a g h =
    ap unlisted (next_run start u e m g) ∙ (unlisted_moved start (run_in start u) e m ∙ (ap₂ (λ (k : ℕ) (w : World). after_move start k m w) a.count a.run
    ∙ (sym (unlisted_moved start (run_in start v) f m) ∙ sym (ap unlisted (next_run start v f m h)))))

pub alike_next : (start : Op → ℕ → Start) (u v : Made) (e f : Event) (m : ℕ × Step) → AreAlike start u v
    → move_of u.processes u.registers (run_in start u) e ≡ Some m → move_of v.processes v.registers (run_in start v) f ≡ Some m → AreAlike start (with_event start u e) (with_event start v f)
alike_next start u v e f m a g h = record {
  processes = a.processes;
  registers = a.registers;
  history = ap (λ (w : World). w.history) (next_alike start u v e f m a g h);
  count =
      ap (λ (w : World). length w.accepted) (next_run start u e m g) ∙ (count_moved start (run_in start u) e m ∙ (ap (λ (k : ℕ). k + 1) a.count
      ∙ (sym (count_moved start (run_in start v) f m) ∙ sym (ap (λ (w : World). length w.accepted) (next_run start v f m h)))));
  run = next_alike start u v e f m a g h;
}

-- alike runs accept the same events
alike_moves : (start : Op → ℕ → Start) (u v : Made) (e : Event) → AreAlike start u v
    → move_of u.processes u.registers (run_in start u) e ≡ move_of v.processes v.registers (run_in start v) e
alike_moves start u v e a =
    ap (λ (k : ℕ). cond (nat_lt k MOST_EVENTS) (step_of u.processes u.registers (run_in start u).nodes e) None) a.count
    ∙ (ap (λ (n : ℕ). cond (nat_lt (length (run_in start v).accepted) MOST_EVENTS) (step_of n u.registers (run_in start u).nodes e) None) a.processes
    ∙ (ap (λ (r : ℕ). cond (nat_lt (length (run_in start v).accepted) MOST_EVENTS) (step_of v.processes r (run_in start u).nodes e) None) a.registers
    ∙ ap (λ (w : World). cond (nat_lt (length (run_in start v).accepted) MOST_EVENTS) (step_of v.processes v.registers w.nodes e) None) a.run))

reply_unlisted : (start : Op → ℕ → Start) (w : World) (m : Option (ℕ × Step))
    → reply_of_move start (unlisted w) m ≡ reply_of_move start w m
reply_unlisted start w None = refl
reply_unlisted start w (Some m) = refl

-- and give the same replies
alike_replies : (start : Op → ℕ → Start) (u v : Made) (e : Event) → AreAlike start u v
    → reply_in start u e ≡ reply_in start v e
alike_replies start u v e a =
    let here = move_of v.processes v.registers (run_in start v) e in
    ap (reply_of_move start (run_in start u)) (alike_moves start u v e a)
    ∙ (sym (reply_unlisted start (run_in start u) here) ∙ (ap (λ (w : World). reply_of_move start w here) a.run ∙ reply_unlisted start (run_in start v) here))

-- a turn from one of two alike worlds is a turn from the other
pub alike_turn : (start : Op → ℕ → Start) (order : List ℕ) (logs : List (List LogEntry)) (k : ℕ) (u v w : Made)
    → AreAlike start u v → Turn start order logs k v w → (x : Made) × Turn start order logs k u x
alike_turn start order logs k u v w a t = (
  with_event start u t.event,
  record {
    process = t.process;
    entry = t.entry;
    event = t.event;
    mention = t.mention;
    stands = t.stands;
    move = alike_moves start u v t.event a ∙ t.move;
    reply = alike_replies start u v t.event a ∙ t.reply;
    then = refl;
  },
)

-- turns from two alike worlds lead to alike worlds
turns_alike : (start : Op → ℕ → Start) (order : List ℕ) (logs : List (List LogEntry)) (k : ℕ) (u v x y : Made)
    → AreAlike start u v → Turn start order logs k u x → Turn start order logs k v y → AreAlike start x y
turns_alike start order logs k u v x y a s t =
    let process : s.process ≡ t.process = same_Some s.process t.process (sym s.mention ∙ t.mention) in
    let entry : s.entry ≡ t.entry = same_Some s.entry t.entry (sym s.stands ∙ (ap (λ (p : ℕ). entry_of logs p (mentions p (take k order))) process ∙ t.stands)) in
    let there : move_of v.processes v.registers (run_in start v) t.event ≡ Some (s.process, s.entry.step) = t.move ∙ ap₂ (λ (p : ℕ) (e : LogEntry). Some (p, e.step)) (sym process) (sym entry) in
    let next : AreAlike start (with_event start u s.event) (with_event start v t.event) = alike_next start u v s.event t.event (s.process, s.entry.step) a s.move there in
    subst (λ (z : Made). AreAlike start z y) (sym s.then) (subst (λ (z : Made). AreAlike start (with_event start u s.event) z) (sym t.then) next)

-- the worlds that a record leads to are alike
pub plays_alike : (start : Op → ℕ → Start) (shape : Extent) (order : List ℕ) (logs : List (List LogEntry)) (k : ℕ)
    (u v : Made)
    → Plays start shape order logs k u → Plays start shape order logs k v → AreAlike start u v
plays_alike start shape order logs zero u v a b = alike_same start u v (a ∙ sym b)
plays_alike start shape order logs (suc k) u v (x, p, s) (y, q, t) =
    turns_alike start order logs k x y u v (plays_alike start shape order logs k x y p q) s t

-- where no turn is left from one of the worlds, none is from any
pub no_turn : (start : Op → ℕ → Start) (shape : Extent) (order : List ℕ) (logs : List (List LogEntry)) (k : ℕ)
    (u : Made)
    → Plays start shape order logs k u
    → ((w : Made) → Turn start order logs k u w → ⊥) → (w : Made) → Plays start shape order logs (suc k) w → ⊥
no_turn start shape order logs k u plays off w (v, p, t) =
    let x = alike_turn start order logs k u v w (plays_alike start shape order logs k u v plays p) t in
    off x.0 x.1
