-- A step of a member, from the brief of its process.
use Rattle.std.proofs.Common.{◌≡◌, ℕ, ◌<◌, List, length, Option, Some, None, Result, Ok, Err, refl, sym, ap, subst, ◌∙◌}
use Rattle.std.proofs.Common.{arith}
use Rattle.std.specs.Prelude.{MatchResult, IfErr, OnOk, cond}
use Rattle.reg_base.specs.Order.{In}
use Rattle.reg_base.specs.declared.stamps.Stamp.{Stamp}
use Rattle.reg_base.specs.declared.stamps.Delivered.{Delivered}
use Rattle.reg_base.specs.declared.memory.Op.{Op}
use Rattle.reg_frames.specs.declared.bodies.Frame.{Frame}
use Rattle.reg_frames.specs.declared.puts.Put.{Put}
use Rattle.reg_front.specs.declared.starts.Start.{Start}
use Rattle.reg_process.specs.declared.faults.ProcessFault.{ProcessFault}
use Rattle.reg_process.specs.declared.faults.ProcessFault.TheVariants.{Failed, NoProcess, Busy, NoRegister}
use Rattle.reg_process.specs.declared.faults.ProcessFault.TheVariants.{TooManyOperations, Ahead, Stale, ClockFull}
use Rattle.reg_process.specs.declared.faults.ProcessFault.TheVariants.{OutOfMemory}
use Rattle.reg_process.specs.declared.steps.Reply.{Reply}
use Rattle.reg_process.specs.declared.steps.Step.{Step}
use Rattle.reg_process.specs.Process.{step}
use Rattle.reg_process.specs.Faults.{step_fault}
use Rattle.reg_process.specs.Events.{Kept, Briefs, Refused, process_fault}
use Rattle.reg_world.specs.Sent.{sent}
use Rattle.reg_world.specs.Members.{Standing, MayAct, Acts}
use Rattle.reg_world.proofs.code.Sending.{puts_within}

-- what a result is says of it what is said of all
pub brief_is : {T E : Type 0} (r : Result T E) (x : T) (P : T → Type 0) (Q : E → Type 0) → r ≡ Ok x → MatchResult r P Q
    → P x
brief_is r x P Q is h = subst (λ s. MatchResult s P Q) is h

module _ (start : Op → ℕ → Start) (k : Kept) (wires : List (List Frame)) (old : Standing) (e : Step) (view : record { failed = k.failed; state = k.state; wires = wires } ≡ old) (may : MayAct start old e) where
  pub no_fault : process_fault start k e ≡ None
  no_fault =
      ap (λ b. cond b (Some Failed) (step_fault start k.state e)) (ap (λ (s : Standing). s.failed) view ∙ may.stands)
      ∙ ap (λ (s : Standing). step_fault start s.state e) view
      ∙ may.none

  refused_by : (f : ProcessFault) (new : Kept) → Refused start k e f new → f ≡ OutOfMemory
  refused_by Failed new h = let z = sym no_fault ∙ h.0 in absurd cc
  refused_by NoProcess new h = let z = sym no_fault ∙ h.0 in absurd cc
  refused_by Busy new h = let z = sym no_fault ∙ h.0 in absurd cc
  refused_by NoRegister new h = let z = sym no_fault ∙ h.0 in absurd cc
  refused_by TooManyOperations new h = let z = sym no_fault ∙ h.0 in absurd cc
  refused_by Ahead new h = let z = sym no_fault ∙ h.0 in absurd cc
  refused_by Stale new h = let z = sym no_fault ∙ h.0 in absurd cc
  refused_by ClockFull new h = let z = sym no_fault ∙ h.0 in absurd cc
  refused_by OutOfMemory new h = refl

  -- memory alone can be refused
  pub only_memory : {T : Type 0} (r : Result T ProcessFault) (P : T → Type 0) (new : Kept)
      → MatchResult r P (λ f. Refused start k e f new) → IfErr r (λ f. f ≡ OutOfMemory)
  only_memory (Ok x) P new h = tt
  only_memory (Err f) P new h = refused_by f new h

  module _ (frames : List Put) (cast : Option Stamp) (ds : List Delivered) (reply : Option Reply) (mid : Kept) (made : Briefs start k e frames cast ds reply mid) where
    -- each frame has a wire
    pub frames_within : (p : Put) → In p frames → p.to < length wires
    frames_within p i =
        let l = puts_within (step start k.state e).1.frames (length k.state.peers) p (subst (In p) made.outcome.put i) in
        let size = may.wires in
        let peers = ap (λ (s : Standing). length s.state.peers) view in
        let lines = ap (λ (s : Standing). length s.wires) view in
        omega (arith, l, size, peers, lines)

    -- the frames were put
    pub acted : {T E : Type 0} (r : Result T E) (new : Standing) → OnOk r (new ≡ record { failed = mid.failed; state = mid.state; wires = sent frames wires }) → OnOk r (Acts start old e cast ds reply new)
    acted (Ok x) new put = subst (λ (s : Standing). Acts start s e cast ds reply new) view (record {
      runs = ap (λ (s : Standing). s.failed) put ∙ made.state.0;
      state = ap (λ (s : Standing). s.state) put ∙ made.state.1;
      wires = ap (λ (s : Standing). s.wires) put ∙ ap (λ l. sent l wires) made.outcome.put;
      cast = made.outcome.made;
      delivered = made.outcome.casts;
      reply = made.outcome.answer;
    })
    acted (Err f) new put = tt
