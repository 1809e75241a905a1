-- What a node did, input by input.
use Rattle.std.proofs.Common.{◌≡◌, ℕ, ◌+◌, ◌-◌, ◌<◌, ◌≤◌, Bool, true, false, List, [], ◌∷◌, ◌++◌, length, drop, refl}
use Rattle.std.proofs.Common.{ap, sym, ◌∙◌, subst, arith, Option, None, Some, Ok, Err, length-append, length-drop}
use Rattle.std.proofs.Common.{append_assoc}
use Rattle.std.specs.Prelude.{cond, max, option_to_list}
use Rattle.std.proofs.lemmas.List.{drop-append-le}
use Rattle.std.proofs.Math.ListN.{drop_of_length-le}
use Rattle.reg_base.specs.declared.memory.Op.{Op}
use Rattle.reg_frames.specs.declared.puts.Put.{Put}
use Rattle.reg_front.specs.declared.starts.Start.{Start}
use Rattle.reg_process.specs.declared.steps.Reply.{Reply}
use Rattle.reg_process.specs.declared.steps.Step.{Step}
use Rattle.reg_process.specs.declared.faults.ProcessFault.{ProcessFault}
use Rattle.reg_process.specs.declared.faults.ProcessFault.TheVariants.{Failed, NoProcess, Busy, NoRegister}
use Rattle.reg_process.specs.declared.faults.ProcessFault.TheVariants.{TooManyOperations, Ahead, Stale, ClockFull}
use Rattle.reg_process.specs.declared.faults.ProcessFault.TheVariants.{OutOfMemory}
use Rattle.reg_process.specs.Process.{State, step}
use Rattle.reg_process.specs.Puts.{puts}
use Rattle.reg_process.specs.Faults.{step_fault}
use Rattle.reg_process.specs.Events.{Kept, IsGoing, Refused as RefusedBy}
use Rattle.reg_records.specs.declared.entries.LogEntry.{LogEntry}
use Rattle.reg_node.specs.declared.faults.NodeFault.{NodeFault}
use Rattle.reg_node.specs.declared.faults.NodeFault.TheVariants.{Full, NoRoom, Refused}
use Rattle.reg_node.specs.Logs.{Outgoing, IsStep, AreSteps, calls_in, state_after, output_of, outputs_of}
use Rattle.reg_node.specs.Nodes.{NodeState, Logs, LogsNothing, Past, Lives, first_held, past_logged, past_given}
use Rattle.reg_node.specs.Opening.{opened_with}
use Rattle.reg_node.proofs.Steps.{calls_push, steps_push, state_push, outputs_push, outputs_count}

-- a process that goes on has no fault but those of the step
fault_none : (b : Bool) (o : Option ProcessFault) → cond b (Some Failed) o ≡ None → (b ≡ false) × (o ≡ None)
fault_none true o h = absurd (let bad : ⊥ = cc in bad)
fault_none false o h = (refl, h)

outgoing : List Put → Option Reply → Outgoing
outgoing fs r = record { frames = fs; reply = r }

outgoing_is : (o : Outgoing) (fs : List Put) (r : Option Reply) → o.frames ≡ fs → o.reply ≡ r
    → o ≡ record { frames = fs; reply = r }
unfolding outgoing
outgoing_is o fs r a b = ap (λ (xs : List Put). outgoing xs o.reply) a ∙ ap (λ (x : Option Reply). outgoing fs x) b

-- a refused process that goes on is as it was
pub refused_same : (start : Op → ℕ → Start) (old new : Kept) (e : Step) (fault : ProcessFault)
    → RefusedBy start old e fault new → new.failed ≡ false → new ≡ old
refused_same start old new e Failed r is = r.1
refused_same start old new e NoProcess r is = r.1
refused_same start old new e Busy r is = r.1
refused_same start old new e NoRegister r is = r.1
refused_same start old new e TooManyOperations r is = r.1
refused_same start old new e Ahead r is = r.1
refused_same start old new e Stale r is = r.1
refused_same start old new e ClockFull r is = absurd (let bad : ⊥ = cc in bad)
refused_same start old new e OutOfMemory r is = absurd (let bad : ⊥ = cc in bad)

-- a node that was just opened with a log
pub lives_opened : (start : Op → ℕ → Start) (first : State) (log : List LogEntry) (k : Kept) (calls : ℕ)
    (held : List Outgoing)
    → calls ≡ calls_in log → held ≡ [] → AreSteps start first log → IsGoing k (state_after start first log)
    → Lives start first (opened_with log) (record { process = k; logged = length log; calls = calls; durable = length log; held = held })
lives_opened start first log k calls held counted none steps going =
    let count : length (outputs_of start first log) ≤ length log = let e = outputs_count start first log in omega arith in
    record {
      steps = steps;
      process = λ _. going.1;
      logged = refl;
      calls = counted;
      outputs = none ∙ sym (drop_of_length-le (outputs_of start first log) count);
      write_ahead = omega arith;
      within = omega arith;
    }

module _ (start : Op → ℕ → Start) (first : State) (past : Past) where
  -- a step was made, and is logged
  pub lives_logs : (old new : NodeState) (e : Step) (entry : LogEntry) → Logs start old e entry new
      → Lives start first past old → Lives start first (past_logged {E = NodeFault} past (Ok entry)) new
  lives_logs old new e entry l is =
      let none = fault_none old.process.failed (step_fault start old.process.state e) l.made.no_fault in
      let state : old.process.state ≡ state_after start first past.log = is.process none.0 in
      let same : entry.step ≡ e = ap (λ (x : LogEntry). x.step) l.written in
      let there : step_fault start (state_after start first past.log) e ≡ None = subst (λ (t : State). step_fault start t e ≡ None) state none.1 in
      let reply : l.output.reply ≡ (step start (state_after start first past.log) e).1.reply =
      l.made.outcome.answer ∙ ap (λ (t : State). (step start t e).1.reply) state in
      let made : IsStep start (state_after start first past.log) entry = record {
        accepted = subst (λ (x : Step). step_fault start (state_after start first past.log) x ≡ None) (sym same) there;
        reply = ap (λ (x : LogEntry). x.reply) l.written ∙ (reply ∙ ap (λ (x : Step). (step start (state_after start first past.log) x).1.reply) (sym same));
      } in
      let frames : l.output.frames ≡ puts (step start (state_after start first past.log) e).1.frames (length (state_after start first past.log).peers) =
      l.made.outcome.put ∙ ap (λ (t : State). puts (step start t e).1.frames (length t.peers)) state in
      let output : l.output ≡ output_of start (state_after start first past.log) entry.step =
      outgoing_is l.output _ _ frames reply ∙ ap (λ (x : Step). output_of start (state_after start first past.log) x) (sym same) in
      let many : past.opened ≤ length (outputs_of start first past.log) =
      let count = outputs_count start first past.log in let a = is.write_ahead in let b = is.within in let d = is.logged in omega arith in
      let more : past.given ++ (old.held ++ l.output ∷ []) ≡ drop past.opened (outputs_of start first (past.log ++ entry ∷ [])) =
      sym (append_assoc past.given old.held (l.output ∷ []))
      ∙ (ap (λ (xs : List Outgoing). xs ++ l.output ∷ []) is.outputs
      ∙ (sym (drop-append-le past.opened (outputs_of start first past.log) (l.output ∷ []) many)
      ∙ (ap (λ (o : Outgoing). drop past.opened (outputs_of start first past.log ++ o ∷ [])) output
      ∙ ap (λ (xs : List Outgoing). drop past.opened xs) (sym (outputs_push start first past.log entry))))) in
      subst (λ (n : NodeState). Lives start first (past_logged {E = NodeFault} past (Ok entry)) n) (sym l.rest) (record {
        steps = steps_push start first past.log entry is.steps made;
        process = λ going. l.made.state.1 ∙ (ap (λ (t : State). (step start t e).0) state ∙ (ap (λ (x : Step). (step start (state_after start first past.log) x).0) (sym same) ∙ sym (state_push start first past.log entry)));
        logged = let count = length-append past.log (entry ∷ []) in let d = is.logged in omega arith;
        calls = let more = calls_push past.log entry in let d = is.calls in omega (arith, more, d);
        outputs = more;
        write_ahead = is.write_ahead;
        within = let d = is.within in omega arith;
      })

  -- a step was refused
  pub lives_logs_nothing : (old new : NodeState) (e : Step) (fault : NodeFault) → LogsNothing start old e fault new
      → Lives start first past old → Lives start first (past_logged past (Err fault)) new
  lives_logs_nothing old new e Full l is = subst (λ (n : NodeState). Lives start first past n) (sym l.1) is
  lives_logs_nothing old new e NoRoom l is = subst (λ (n : NodeState). Lives start first past n) (sym l.1) is
  lives_logs_nothing old new e (Refused fault) l is =
      subst (λ (n : NodeState). Lives start first past n) (sym l.2) (record {
        steps = is.steps;
        process = λ going.
            let same : new.process ≡ old.process = refused_same start old.process new.process e fault l.1 going in
            ap (λ (k : Kept). k.state) same ∙ is.process (ap (λ (k : Kept). k.failed) (sym same) ∙ going);
        logged = is.logged;
        calls = is.calls;
        outputs = is.outputs;
        write_ahead = is.write_ahead;
        within = is.within;
      })

  -- the first entries were said to be durable
  pub lives_marked : (old new : NodeState) (count : ℕ) → count ≤ old.logged
      → new ≡ record old { durable = max old.durable count } → Lives start first past old → Lives start first past new
  lives_marked old new count few rest is =
      subst (λ (n : NodeState). Lives start first past n) (sym rest) (record {
        steps = is.steps;
        process = is.process;
        logged = is.logged;
        calls = is.calls;
        outputs = is.outputs;
        write_ahead = let d = is.write_ahead in omega arith;
        within = let d = is.within in omega arith;
      })

  -- what is held first was handed out, and its entry is durable
  pub lives_gives : (old new : NodeState) (o : Outgoing) → first_held old < old.durable → old.held ≡ o ∷ new.held
      → new ≡ record old { held = new.held } → Lives start first past old
      → Lives start first (past_given past (Some o)) new
  lives_gives old new o due head rest is =
      let outs = outputs_of start first past.log in
      let count : length outs ≡ length past.log = outputs_count start first past.log in
      let lengths : length past.given + length old.held ≡ length outs - past.opened = sym (length-append past.given old.held) ∙ (ap length is.outputs ∙ length-drop past.opened outs) in
      let one : length (past.given ++ o ∷ []) ≡ length past.given + 1 = length-append past.given (o ∷ []) in
      let some : length old.held ≡ length new.held + 1 = ap length head ∙ (let e : length (o ∷ new.held) ≡ length new.held + 1 = omega arith in e) in
      subst (λ (n : NodeState). Lives start first (past_given past (Some o)) n) (sym rest) (record {
        steps = is.steps;
        process = is.process;
        logged = is.logged;
        calls = is.calls;
        outputs = append_assoc past.given (o ∷ []) new.held ∙ (ap (λ (xs : List Outgoing). past.given ++ xs) (sym head) ∙ is.outputs);
        write_ahead = let a = is.write_ahead in let b = is.within in let d = is.logged in omega arith;
        within = is.within;
      })

  -- what is held first was taken out
  pub lives_pops : (old : NodeState) (result : Option Outgoing) (left : List Outgoing) → first_held old < old.durable
      → old.held ≡ option_to_list result ++ left → Lives start first past old
      → Lives start first (past_given past result) (record old { held = left })
  lives_pops old None left due head is = subst (λ (xs : List Outgoing). Lives start first past (record old { held = xs })) head is
  lives_pops old (Some o) left due head is = lives_gives old (record old { held = left }) o due head refl is
