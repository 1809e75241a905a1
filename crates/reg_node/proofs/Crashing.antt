-- What outlives a crash.
use Rattle.std.proofs.Common.{◌≡◌, ℕ, zero, suc, ◌+◌, ◌-◌, ◌<◌, ◌≤◌, List, [], ◌∷◌, length, drop, take, ap, sym, ◌∙◌}
use Rattle.std.proofs.Common.{subst, arith, inr, refl, ◌++◌, Some}
use Rattle.std.specs.Prelude.{slice_get}
use Rattle.std.proofs.lemmas.Option.{slice_get_within}
use Rattle.std.proofs.Math.Seq.{take-append-add}
use Rattle.std.proofs.lemmas.List.{drop-take}
use Rattle.reg_base.specs.declared.memory.Op.{Op}
use Rattle.reg_base.specs.Order.{In}
use Rattle.reg_base.proofs.Lists.{in_left}
use Rattle.reg_front.specs.declared.starts.Start.{Start}
use Rattle.reg_process.specs.Process.{State, peer_at, next_of}
use Rattle.reg_world.proofs.one_order.Frames.{place_drop}
use Rattle.reg_node.specs.Logs.{Outgoing, AreSteps, state_after, outputs_of}
use Rattle.reg_node.specs.Nodes.{NodeState, Past, Lives}
use Rattle.reg_node.specs.Crashes.{AreOfSteps, IsGiven}
use Rattle.reg_node.proofs.Numbers.{log_queues}
use Rattle.reg_node.proofs.Steps.{steps_take, outputs_take}

in_dropped : {X : Type 0} (k : ℕ) (xs : List X) (x : X) → In x (drop k xs) → In x xs
in_dropped zero xs x h = h
in_dropped (suc k) [] x h = absurd h
in_dropped (suc k) (y ∷ ys) x h = inr (in_dropped k ys x h)

pub got_left : {X : Type 0} (xs ys : List X) (k : ℕ) (x : X) → slice_get xs k ≡ Some x → slice_get (xs ++ ys) k ≡ Some x
got_left [] ys k x h = absurd (let bad : ⊥ = cc in bad)
got_left (z ∷ xs) ys zero x h = h
got_left (z ∷ xs) ys (suc k) x h = got_left xs ys k x h

pub given_at : (start : Op → ℕ → Start) (first : State) (past : Past) (n : NodeState) (k : ℕ) (o : Outgoing)
    → Lives start first past n → slice_get past.given k ≡ Some o
    → (past.opened + k < n.durable) × (slice_get (outputs_of start first past.log) (past.opened + k) ≡ Some o)
given_at start first past n k o is h =
    let within = slice_get_within past.given k o h in
    let there : slice_get (drop past.opened (outputs_of start first past.log)) k ≡ Some o = subst (λ (xs : List Outgoing). slice_get xs k ≡ Some o) is.outputs (got_left past.given n.held k o h) in (
      (let a = is.write_ahead in omega arith),
      place_drop past.opened (outputs_of start first past.log) (past.opened + k) k o refl there,
    )

pub crash_steps : (start : Op → ℕ → Start) (first : State) (past : Past) (n : NodeState) (kept : ℕ)
    → Lives start first past n → AreSteps start first (take kept past.log)
crash_steps start first past n kept is = steps_take start kept first past.log is.steps

module _ (start : Op → ℕ → Start) (first : State) (past : Past) (n : NodeState) (kept : ℕ) (is : Lives start first past n) where
  -- with `more` entries kept behind those whose output was handed out
  given_of : (more : ℕ) → kept ≡ past.opened + (length past.given + more) → AreOfSteps start first (take kept past.log) past.opened past.given
  given_of more e = record {
    left = take more n.held;
    all = sym (
        ap (λ (xs : List Outgoing). drop past.opened xs) (outputs_take start kept first past.log)
        ∙ (ap (λ (k : ℕ). drop past.opened (take k (outputs_of start first past.log))) e
        ∙ (drop-take past.opened (length past.given + more) (outputs_of start first past.log)
        ∙ (ap (λ (xs : List Outgoing). take (length past.given + more) xs) (sym is.outputs)
        ∙ take-append-add past.given n.held more))));
  }

  pub crash_given : n.durable ≤ kept → AreOfSteps start first (take kept past.log) past.opened past.given
  crash_given le = given_of (kept - (past.opened + length past.given)) (let a = is.write_ahead in omega arith)

  -- a body that was handed out is one of those that the rest of the log has queued
  pub crash_bodies : (to number : ℕ) → n.durable ≤ kept → IsGiven past.given to number
      → number < next_of (peer_at (state_after start first (take kept past.log)) to)
  crash_bodies to number le g =
      let from = crash_given le in
      let among : In g.output (drop past.opened (outputs_of start first (take kept past.log))) = subst (λ (xs : List Outgoing). In g.output xs) from.all (in_left g.output past.given from.left g.handed) in
      log_queues start to number g.body g.output g.put first (take kept past.log) (steps_take start kept first past.log is.steps)
      (in_dropped past.opened (outputs_of start first (take kept past.log)) g.output among)
