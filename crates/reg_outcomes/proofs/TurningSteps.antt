-- What a step does to what runs at its process: one that calls nothing, and a call.
use Rattle.std.proofs.Common.{◌≡◌, ◌⊎◌, ℕ, ◌+◌, List, Option, Some, None, refl, sym, ap, ◌∙◌, inl, inr}
use Rattle.std.specs.Prelude.{◌==◌}
use Rattle.std.proofs.lemmas.Bool.{cond_both}
use Rattle.std.proofs.lemmas.Option.{none-some}
use Rattle.reg_base.specs.declared.memory.Op.{Op}
use Rattle.reg_frames.specs.declared.bodies.Body.{Body}
use Rattle.reg_frames.specs.declared.bodies.Body.TheVariants.{Cast, Ack}
use Rattle.reg_frames.specs.declared.bodies.Frame.{Frame}
use Rattle.reg_frames.specs.declared.bodies.Frame.TheVariants.{Numbered, Got}
use Rattle.reg_front.specs.declared.starts.Start.{Start}
use Rattle.reg_front.specs.declared.starts.Start.TheVariants.{Cast as Casts, CastAndAnswer as CastsAndAnswers}
use Rattle.reg_front.specs.declared.starts.Start.TheVariants.{Look as Looks, Hold as Holds}
use Rattle.reg_process.specs.declared.steps.Reply.{Reply}
use Rattle.reg_process.specs.declared.steps.Step.{Step}
use Rattle.reg_process.specs.declared.steps.Step.TheVariants.{Call, Take, Tick}
use Rattle.reg_process.specs.Process.{State, Outcome, Running, Own, Held, clear_casts, reply_of, due, still, delivering}
use Rattle.reg_process.specs.Process.{quiet, called, taken, accepted, cast_made, acknowledged, got_frames, no_frames}
use Rattle.reg_process.specs.Process.{resent, peer_at, stamp_at, step}

abbrev pub CallsNothing : Step → Type 0
CallsNothing (Call op) = ⊥
CallsNothing (Take from frame) = Unit {0}
CallsNothing Tick = Unit {0}

-- what runs goes on, or has its answer, and nothing else changes
pub record GoesOn (s : State) (r : State × Outcome) : Type 0 where
  pub cast : r.1.cast ≡ None
  pub calls : r.0.calls ≡ s.calls
  pub running : r.0.running ≡ still r.1.reply s.running
  pub free : s.running ≡ None → r.1.reply ≡ None

none_due : (s : State) (running : Option Running) → running ≡ None → reply_of s (clear_casts s) running ≡ None
none_due s running e = ap (reply_of s (clear_casts s)) e

delivery : (s s1 : State) (body : Option Body) (frames : ℕ → List Frame) → s1.calls ≡ s.calls → s1.running ≡ s.running
    → GoesOn s (delivering s1 body frames None None)
delivery s s1 body frames c e = record {
  cast = refl;
  calls = c;
  running = ap (still (due s1)) e;
  free = λ none. none_due s1 s1.running (e ∙ none);
}

stays : (s s1 : State) (frames : ℕ → List Frame) → s1.calls ≡ s.calls → s1.running ≡ s.running
    → GoesOn s (quiet s1 frames)
stays s s1 frames c e = record { cast = refl; calls = c; running = e; free = λ none. refl }

accepted_goes : (s : State) (from : ℕ) (body : Body) → GoesOn s (accepted s from body)
accepted_goes s from (Cast t op) = delivery s _ _ _ refl refl
accepted_goes s from (Ack t) = delivery s _ _ _ refl refl

taken_goes : (s : State) (from : ℕ) (f : Frame) → GoesOn s (taken s from f)
taken_goes s from (Numbered i body) =
    cond_both (i == (peer_at s from).expected) (accepted s from body) (quiet s (got_frames from (peer_at s from).expected)) (GoesOn s)
    (λ _. accepted_goes s from body) (λ _. stays s s _ refl refl)
taken_goes s from (Got count) = stays s (acknowledged s from count) no_frames refl refl

pub step_goes : (start : Op → ℕ → Start) (s : State) (e : Step) → CallsNothing e → GoesOn s (step start s e)
step_goes start s (Call op) h = absurd h
step_goes start s (Take from frame) h = taken_goes s from frame
step_goes start s Tick h = stays s s (resent s) refl refl

-- an operation that was called runs, or has its answer
pub record Begins (s : State) (r : State × Outcome) : Type 0 where
  pub calls : r.0.calls ≡ s.calls + 1
  pub now : ((r.1.reply ≡ None) × (r.0.running ≡ None → ⊥))
      ⊎ ((y : Reply) × (r.1.reply ≡ Some y) × (r.0.running ≡ None))

pub called_begins : (s : State) (op : Op) (st : Start) → Begins s (called s op st)
called_begins s op Casts = record { calls = refl; now = by (due s1) }
  where
    s1 : State
    s1 = cast_made s op (Some (Own (stamp_at (s.clock + 1) s.me) op))

    by : (o : Option Reply) → ((o ≡ None) × (still o s1.running ≡ None → ⊥)) ⊎ ((y : Reply) × (o ≡ Some y) × (still o s1.running ≡ None))
    by None = inl (refl, λ e. none-some (Own (stamp_at (s.clock + 1) s.me) op) (sym e))
    by (Some y) = inr (y, refl, refl)
called_begins s op CastsAndAnswers = record { calls = refl; now = inr (_, refl, refl) }
called_begins s op Looks = record { calls = refl; now = inr (_, refl, refl) }
called_begins s op Holds = record { calls = refl; now = inl (refl, λ e. none-some (Held op) (sym e)) }
