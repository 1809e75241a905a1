-- Scripts are used up where each of their operations is answered.
use Rattle.std.proofs.Common.{◌≡◌, inl, inr, ℕ, ◌<◌, ◌≤◌, ◌-◌, ◌↔◌, List, length, Option, Some, None, refl, ap, sym}
use Rattle.std.proofs.Common.{◌∙◌, arith, take_all}
use Rattle.std.proofs.lemmas.Bool.{cases_lt}
use Rattle.std.proofs.lemmas.List.{length-map}
use Rattle.reg_base.specs.declared.memory.Op.{Op}
use Rattle.reg_front.specs.declared.starts.Start.{Start}
use Rattle.reg_front.specs.Fronts.{KeepsLaws}
use Rattle.reg_process.specs.declared.events.Event.{Event}
use Rattle.reg_process.specs.Process.{Held, Own, Running}
use Rattle.reg_checkers.specs.declared.entries.Entry.TheVariants.{Answered}
use Rattle.reg_checkers.specs.History.{IsAt}
use Rattle.reg_checkers.specs.Progress.{op_of}
use Rattle.reg_checkers.proofs.Places.{element_at}
use Rattle.reg_world.specs.World.{World, whole}
use Rattle.reg_world.proofs.lists.Members.{at_in}
use Rattle.reg_world.proofs.one_memory.Standing.{RunsAs}
use Rattle.reg_world.proofs.one_memory.Turns.{done_calls}
use Rattle.reg_world.proofs.run.Traced.{Called as PastCall, Trace}
use Rattle.reg_world.proofs.witness.Premises.{V, J, G}
use Rattle.reg_workload.specs.Plays.{FollowsScript, calls_of}
use Rattle.reg_outcomes.specs.Finishing.{AllAnswered, UsesUp}
use Rattle.reg_outcomes.specs.Interleavings.{script_of}
use Rattle.reg_outcomes.proofs.MissingCalls.{has_scripts, noted, ops_called}

module _ (start : Op → ℕ → Start) (scripts : List (List Op)) (registers : ℕ) (laws : KeepsLaws start) (events : List Event) (accepted : (whole start (length scripts) registers events).accepted ≡ events)
    (follows : (p : ℕ) → p < length scripts → FollowsScript scripts events p) (all : AllAnswered scripts (whole start (length scripts) registers events).history) where
  abbrev n : ℕ
  n = length scripts

  abbrev w : World
  w = whole start n registers events

  abbrev v : Trace
  v = V start n registers laws events

  -- as many operations were called as the process counts
  as_many : (p : ℕ) → p < n → length (calls_of p events) ≡ (w.nodes p).state.calls
  as_many p lt =
      let same : ops_called (v.pasts p).calls ≡ calls_of p events = noted start n registers events p ∙ ap (calls_of p) accepted in
      let count = ((G start n registers laws events).pasts p lt).0.count in
      ap length (sym same) ∙ length-map (v.pasts p).calls (λ (d : PastCall). d.op) ∙ count

  -- an operation that is answered is one of those that are done
  done : (p m : ℕ) (op : Op) → IsAt (script_of scripts p) m op → m < done_calls (w.nodes p).state (w.nodes p).state.running
  done p m op is =
      let answered = all p m op is in
      let a = (J start n registers laws events).answered answered.0 (op_of p m) answered.1 (at_in (Answered answered.0 (op_of p m) answered.1) w.history answered.2) in
      let below = ((G start n registers laws events).places p a.1.0).below a.0 a.1.1 in
      let same = a.1.2 in
      omega (arith, below, same)

  few_done : (p : ℕ) (running : Option Running) → done_calls (w.nodes p).state running ≤ (w.nodes p).state.calls
  few_done p None = omega arith
  few_done p (Some r) = omega arith

  all_called : (p : ℕ) → p < n → calls_of p events ≡ script_of scripts p
  all_called p lt = elim (cases_lt (length (calls_of p events)) (length (script_of scripts p))) [
    | inl less ↦
        let next = element_at (script_of scripts p) (length (calls_of p events)) less in
        let below = done p (length (calls_of p events)) next.0 next.1 in
        let few = few_done p (w.nodes p).state.running in
        let count = as_many p lt in
        absurd (omega (arith, below, few, count))
    | inr le ↦ follows p lt ∙ take_all (length (calls_of p events)) (script_of scripts p) le
  ]

  some_calls : (k : ℕ) (calls : List PastCall) (r : Running) → RunsAs k calls (Some r) → 0 < k
  some_calls k calls (Own stamp op) h = h.0
  some_calls k calls (Held op) h = h.0

  idle : (p : ℕ) → p < n → (w.nodes p).state.running ≡ None
  idle p lt = go (w.nodes p).state.running ((G start n registers laws events).pasts p lt).0.running (done p)
    where
      go : (running : Option Running) → RunsAs (w.nodes p).state.calls (v.pasts p).calls running → ((m : ℕ) (op : Op) → IsAt (script_of scripts p) m op → m < done_calls (w.nodes p).state running) → running ≡ None
      go None runs below = refl
      go (Some r) runs below =
          let some = some_calls (w.nodes p).state.calls (v.pasts p).calls r runs in
          let count : length (script_of scripts p) ≡ (w.nodes p).state.calls = ap length (sym (all_called p lt)) ∙ as_many p lt in
          let last = element_at (script_of scripts p) ((w.nodes p).state.calls - 1) (omega (arith, some, count)) in
          let less = below ((w.nodes p).state.calls - 1) last.0 last.1 in
          absurd (omega (arith, less))

  pub used_up : UsesUp start scripts registers events
  used_up = record { accepted = accepted; called = all_called; idle = idle }

pub used_where_answered : (start : Op → ℕ → Start) (scripts : List (List Op)) (registers : ℕ) (events : List Event)
    → KeepsLaws start → (whole start (length scripts) registers events).accepted ≡ events
    → ((p : ℕ) → p < length scripts → FollowsScript scripts events p)
    → UsesUp start scripts registers events ↔ AllAnswered scripts (whole start (length scripts) registers events).history
used_where_answered start scripts registers events laws accepted follows =
    (λ used. (has_scripts start scripts registers laws events used).finished, λ all. used_up start scripts registers laws events accepted follows all)
