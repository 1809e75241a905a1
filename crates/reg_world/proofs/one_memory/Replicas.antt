-- The copy is the memory after the list of deliveries, and each reply is what the memory answers after so many casts of
-- it.
use Rattle.std.proofs.Common.{◌≡◌, ℕ, ◌+◌, ◌≤◌, max, List, [], ◌∷◌, ◌++◌, length, take, replicate, Option, Some, None}
use Rattle.std.proofs.Common.{refl, sym, ap, ◌∙◌, subst, inl, inr, arith, append_assoc, length-append}
use Rattle.std.specs.Prelude.{◌==◌, ◌&&◌, count_by}
use Rattle.std.specs.List.{list_any}
use Rattle.std.proofs.lemmas.Bool.{cond_both, and_parts, and_from}
use Rattle.std.proofs.lemmas.List.{append-nil, take_at, take-append-le}
use Rattle.reg_base.specs.declared.stamps.Stamp.{Stamp}
use Rattle.reg_base.specs.declared.memory.Op.{Op}
use Rattle.reg_base.specs.declared.stamps.Delivered.{Delivered}
use Rattle.reg_frames.specs.declared.bodies.Body.{Body}
use Rattle.reg_frames.specs.declared.bodies.Body.TheVariants.{Cast, Ack}
use Rattle.reg_frames.specs.declared.bodies.Frame.{Frame}
use Rattle.reg_frames.specs.declared.bodies.Frame.TheVariants.{Numbered, Got}
use Rattle.reg_process.specs.declared.steps.Reply.{Reply}
use Rattle.reg_front.specs.declared.starts.Start.{Start}
use Rattle.reg_front.specs.declared.starts.Start.TheVariants.{Cast as Casts, CastAndAnswer as CastsAndAnswers}
use Rattle.reg_front.specs.declared.starts.Start.TheVariants.{Look as Looks, Hold as Holds}
use Rattle.reg_process.specs.declared.steps.Step.{Step}
use Rattle.reg_process.specs.declared.steps.Step.TheVariants.{Call, Take, Tick}
use Rattle.reg_base.specs.Order.{below, at_most, In, Rising, insert}
use Rattle.reg_base.specs.Memory.{Memory, answer_of, after, memory_after}
use Rattle.reg_process.specs.Process.{State, Running, Own, Held, peer_at, is_own, clear_casts, delivered_state, ops_of}
use Rattle.reg_process.specs.Process.{casts_before, up_to_own, reply_after, reply_of, look, done_at_once, called, taken}
use Rattle.reg_process.specs.Process.{accepted, accepts, acknowledged, queues, cast_made, cast_at, stamp_at, resent}
use Rattle.reg_process.specs.Process.{no_frames, quiet, got_frames, unsettled}
use Rattle.reg_world.specs.Nodes.{Said, Node, said, running_op, after_result, after_step}
use Rattle.reg_front.specs.Fronts.{MayStart, KeepsLaws}
use Rattle.reg_base.proofs.Orders.{Decides-below, Decides-at_most, below_trans, below_at_most}
use Rattle.reg_base.proofs.Lists.{in_cases, DownIn, front_filter}
use Rattle.reg_world.proofs.one_order.Firsts.{rising_end}
use Rattle.reg_process.proofs.Deliver.{any_found, any_finds}

-- the reply is the memory's, after the first casts of the list of deliveries
abbrev pub IsRight : ℕ → List Delivered → Said → Type 0
IsRight registers deliveries r = (r.reply.place ≤ length deliveries) × (r.reply.answer ≡ answer_of r.op (memory_after (ops_of (take r.reply.place deliveries)) (replicate registers 0)))

pub record Replica (registers : ℕ) (s : State) (deliveries : List Delivered) (replies : List Said) : Type 0 where
  pub copy : s.copy ≡ memory_after (ops_of deliveries) (replicate registers 0)
  pub count : s.delivered ≡ length deliveries
  pub right : (r : Said) → In r replies → IsRight registers deliveries r

pub ops-append : (xs ys : List Delivered) → ops_of (xs ++ ys) ≡ ops_of xs ++ ops_of ys
ops-append [] ys = refl
ops-append (x ∷ xs) ys = ap (λ l. x.op ∷ l) (ops-append xs ys)

pub memory-append : (xs ys : List Op) (m : Memory) → memory_after (xs ++ ys) m ≡ memory_after ys (memory_after xs m)
memory-append [] ys m = refl
memory-append (x ∷ xs) ys m = memory-append xs ys (after x m)

pub right_later : (registers : ℕ) (deliveries more : List Delivered) (r : Said) → IsRight registers deliveries r
    → IsRight registers (deliveries ++ more) r
right_later registers deliveries more r h = (
  (let z = h.0 in let v = length-append deliveries more in omega (arith, z, v)),
  h.1 ∙ ap (λ l. answer_of r.op (memory_after (ops_of l) (replicate registers 0))) (sym (take-append-le r.reply.place deliveries more h.0)),
)

-- a reply after some first casts of what is delivered
reply_right : (registers : ℕ) (s : State) (deliveries cs rest ds : List Delivered) (op : Op)
    → s.copy ≡ memory_after (ops_of deliveries) (replicate registers 0) → s.delivered ≡ length deliveries
    → cs ++ rest ≡ ds → IsRight registers (deliveries ++ ds) (record { op = op; reply = reply_after s cs op })
reply_right registers s deliveries cs rest ds op copy count e =
    let all : deliveries ++ ds ≡ (deliveries ++ cs) ++ rest = ap (λ l. deliveries ++ l) (sym e) ∙ sym (append_assoc deliveries cs rest) in
    let place : length (deliveries ++ cs) ≡ s.delivered + length cs = let z = length-append deliveries cs in omega (arith, z, count) in
    let taken : take (s.delivered + length cs) (deliveries ++ ds) ≡ deliveries ++ cs = ap (take (s.delivered + length cs)) all ∙ take_at (deliveries ++ cs) rest (s.delivered + length cs) place in
    let memory : memory_after (ops_of (deliveries ++ cs)) (replicate registers 0) ≡ memory_after (ops_of cs) s.copy =
    ap (λ l. memory_after l (replicate registers 0)) (ops-append deliveries cs) ∙ (memory-append (ops_of deliveries) (ops_of cs) (replicate registers 0) ∙ ap (memory_after (ops_of cs)) (sym copy)) in (
      (let z = ap length all in let v = length-append (deliveries ++ cs) rest in omega (arith, z, v, place)),
      ap (answer_of op) (sym (ap (λ l. memory_after (ops_of l) (replicate registers 0)) taken ∙ memory)),
    )

pub before_down : (stamp : Stamp) (ds : List Delivered) → DownIn (λ c. below c.stamp stamp) ds
before_down stamp ds a b i j h e =
    (Decides-below a.stamp stamp).1 (below_trans a.stamp b.stamp stamp h ((Decides-below b.stamp stamp).0 e))

pub own_down : (s : State) (ds : List Delivered)
    → DownIn (λ c. list_any (λ d. is_own s d && at_most c.stamp d.stamp) ds) ds
own_down s ds a b i j h e =
    let r = any_found (λ d. is_own s d && at_most b.stamp d.stamp) ds e in
    let d = r.0 in
    let t = and_parts (is_own s d) (at_most b.stamp d.stamp) r.2 in
    any_finds (λ d. is_own s d && at_most a.stamp d.stamp) d ds r.1
    (and_from _ _ t.0 ((Decides-at_most a.stamp d.stamp).1 (below_at_most a.stamp b.stamp d.stamp h ((Decides-at_most b.stamp d.stamp).0 t.1))))

-- what a reply owes
abbrev pub SaidRight : ℕ → List Delivered → Op → Option Reply → Type 0
SaidRight registers deliveries op None = Unit {0}
SaidRight registers deliveries op (Some r) = IsRight registers deliveries (record { op = op; reply = r })

said_in : (registers : ℕ) (deliveries : List Delivered) (op : Op) (o : Option Reply)
    → SaidRight registers deliveries op o → (r : Said) → In r (said op o) → IsRight registers deliveries r
said_in registers deliveries op None h r i = absurd i
said_in registers deliveries op (Some x) h r (inl e) = subst (IsRight registers deliveries) (sym e) h
said_in registers deliveries op (Some x) h r (inr f) = absurd f

-- the reply of delivery
delivery_right : (registers : ℕ) (s : State) (deliveries : List Delivered) (running : Option Running)
    → s.copy ≡ memory_after (ops_of deliveries) (replicate registers 0) → s.delivered ≡ length deliveries
    → Rising (clear_casts s)
    → SaidRight registers (deliveries ++ clear_casts s) (running_op running) (reply_of s (clear_casts s) running)
delivery_right registers s deliveries None copy count r = tt
delivery_right registers s deliveries (Some (Own stamp op)) copy count r =
    let ds = clear_casts s in
    cond_both (list_any (λ c. (c.stamp.time == stamp.time) && (c.stamp.process == stamp.process)) ds) (Some (reply_after s (casts_before stamp ds) op)) None (SaidRight registers (deliveries ++ ds) op)
    (λ _. reply_right registers s deliveries (casts_before stamp ds) _ ds op copy count (front_filter (λ c. below c.stamp stamp) ds r (before_down stamp ds)))
    (λ _. tt)
delivery_right registers s deliveries (Some (Held op)) copy count r =
    let ds = clear_casts s in
    cond_both (count_by (is_own s) ds == unsettled s) (Some (reply_after s (up_to_own s ds) op)) None (SaidRight registers (deliveries ++ ds) op)
    (λ _. reply_right registers s deliveries (up_to_own s ds) _ ds op copy count (front_filter (λ c. list_any (λ d. is_own s d && at_most c.stamp d.stamp) ds) ds r (own_down s ds)))
    (λ _. tt)

quiet_replica : (registers : ℕ) (s s' : State) (deliveries : List Delivered) (replies : List Said) (op : Op)
    (o : Option Reply)
    → Replica registers s deliveries replies → s'.copy ≡ s.copy → s'.delivered ≡ s.delivered
    → SaidRight registers (deliveries ++ []) op o → Replica registers s' (deliveries ++ []) (replies ++ said op o)
quiet_replica registers s s' deliveries replies op o R c d h = record {
  copy = c ∙ (R.copy ∙ ap (λ l. memory_after (ops_of l) (replicate registers 0)) (sym (append-nil deliveries)));
  count = d ∙ (R.count ∙ ap length (sym (append-nil deliveries)));
  right = λ r i. elim (in_cases r replies (said op o) i) [ inl j ↦ right_later registers deliveries [] r (R.right r j) | inr j ↦ said_in registers (deliveries ++ []) op o h r j ];
}

loud_replica : (registers : ℕ) (s s1 : State) (deliveries : List Delivered) (replies : List Said) (op : Op)
    (o : Option Reply)
    → Replica registers s deliveries replies → s1.copy ≡ s.copy → s1.delivered ≡ s.delivered
    → SaidRight registers (deliveries ++ clear_casts s1) op o
    → Replica registers (delivered_state s1) (deliveries ++ clear_casts s1) (replies ++ said op o)
loud_replica registers s s1 deliveries replies op o R c d h =
    let ds = clear_casts s1 in
    record {
      copy = ap (memory_after (ops_of ds)) (c ∙ R.copy) ∙ (sym (memory-append (ops_of deliveries) (ops_of ds) (replicate registers 0)) ∙ ap (λ l. memory_after l (replicate registers 0)) (sym (ops-append deliveries ds)));
      count = let x = R.count in let y = length-append deliveries ds in omega (arith, x, y, d);
      right = λ r i. elim (in_cases r replies (said op o) i) [ inl j ↦ right_later registers deliveries ds r (R.right r j) | inr j ↦ said_in registers (deliveries ++ ds) op o h r j ];
    }

abbrev pub IsReplica : ℕ → Node → Type 0
IsReplica registers x = Replica registers x.state x.deliveries x.replies

module _ (registers : ℕ) (x : Node) (R : IsReplica registers x) where
  loud_step : (s1 : State) (op : Op) → s1.copy ≡ x.state.copy → s1.delivered ≡ x.state.delivered → running_op s1.running ≡ op → Rising (x.deliveries ++ clear_casts s1) → Replica registers (delivered_state s1) (x.deliveries ++ clear_casts s1) (x.replies ++ said op (reply_of s1 (clear_casts s1) s1.running))
  loud_step s1 op c d e rises =
      loud_replica registers x.state s1 x.deliveries x.replies op (reply_of s1 (clear_casts s1) s1.running) R c d
      (subst (λ o. SaidRight registers (x.deliveries ++ clear_casts s1) o (reply_of s1 (clear_casts s1) s1.running)) e
      (delivery_right registers s1 x.deliveries s1.running (c ∙ R.copy) (d ∙ R.count) (rising_end x.deliveries (clear_casts s1) rises)))

  called_replica : (op : Op) (st : Start) → MayStart op (unsettled x.state) st → Rising (after_result x op (called x.state op st)).deliveries → IsReplica registers (after_result x op (called x.state op st))
  called_replica op Casts may rises = loud_step (cast_made x.state op (Some (Own (stamp_at (x.state.clock + 1) x.state.me) op))) op refl refl refl rises
  called_replica op CastsAndAnswers may rises =
      let s1 : State = cast_made x.state op None in
      loud_replica registers x.state s1 x.deliveries x.replies op (Some (done_at_once x.state)) R refl refl
      (let l = length-append x.deliveries (clear_casts s1) in let z = R.count in omega (arith, z, l), sym (may _))
  called_replica op Looks may rises =
      quiet_replica registers x.state (record x.state { calls = x.state.calls + 1; running = None }) x.deliveries x.replies op (Some (look x.state op)) R refl refl (reply_right registers x.state x.deliveries [] [] [] op R.copy R.count refl)
  called_replica op Holds may rises =
      quiet_replica registers x.state (record x.state { calls = x.state.calls + 1; running = Some (Held op) }) x.deliveries x.replies op None R refl refl tt

  quiet_step : (s' : State) (op : Op) (frames : ℕ → List Frame) → s'.copy ≡ x.state.copy → s'.delivered ≡ x.state.delivered → IsReplica registers (after_result x op (quiet s' frames))
  quiet_step s' op frames c d = quiet_replica registers x.state s' x.deliveries x.replies op None R c d tt

  accepted_replica : (a : ℕ) (body : Body) → Rising (after_result x (running_op x.state.running) (accepted x.state a body)).deliveries → IsReplica registers (after_result x (running_op x.state.running) (accepted x.state a body))
  accepted_replica a (Cast t op) rises =
      loud_step (record (queues (max x.state.clock t + 1) (Ack (max x.state.clock t + 1)) (accepts a t x.state)) { held = insert (cast_at t a op) x.state.held }) (running_op x.state.running) refl refl refl rises
  accepted_replica a (Ack t) rises = loud_step (accepts a t x.state) (running_op x.state.running) refl refl refl rises

  taken_replica : (a : ℕ) (f : Frame) → Rising (after_result x (running_op x.state.running) (taken x.state a f)).deliveries → IsReplica registers (after_result x (running_op x.state.running) (taken x.state a f))
  taken_replica a (Numbered i body) rises =
      cond_both (i == (peer_at x.state a).expected) (accepted x.state a body) (quiet x.state (got_frames a (peer_at x.state a).expected))
      (λ r. Rising (after_result x (running_op x.state.running) r).deliveries → IsReplica registers (after_result x (running_op x.state.running) r))
      (λ _. accepted_replica a body)
      (λ _ _. quiet_step x.state (running_op x.state.running) (got_frames a (peer_at x.state a).expected) refl refl)
      rises
  taken_replica a (Got count) rises = quiet_step (acknowledged x.state a count) (running_op x.state.running) no_frames refl refl

  pub step_replica : (start : Op → ℕ → Start) (e : Step) → KeepsLaws start → Rising (after_step start x e).deliveries
      → IsReplica registers (after_step start x e)
  step_replica start (Call op) laws rises = called_replica op (start op (unsettled x.state)) (laws op (unsettled x.state)) rises
  step_replica start (Take a f) laws rises = taken_replica a f rises
  step_replica start Tick laws rises = quiet_step x.state (running_op x.state.running) (resent x.state) refl refl
