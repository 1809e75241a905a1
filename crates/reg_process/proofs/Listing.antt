-- The frames of an event are listed.
use Rattle.std.proofs.Common.{◌≡◌, ℕ, ◌<◌, ◌+◌, Bool, true, false, [], List, length, Option, Some, None, refl, ap, ◌∙◌}
use Rattle.std.proofs.Common.{arith}
use Rattle.std.specs.Prelude.{cond, ◌==◌, ◌||◌, nat_lt, nat_le}
use Rattle.std.proofs.lemmas.Bool.Decides.{nat_tests}
use Rattle.std.specs.Option.{is_some}
use Rattle.std.proofs.lemmas.Bool.{eq-eqb, or_right}
use Rattle.reg_base.specs.declared.stamps.Stamp.{Stamp}
use Rattle.reg_base.specs.declared.stamps.Delivered.{Delivered}
use Rattle.reg_base.specs.declared.memory.Op.{Op}
use Rattle.reg_frames.specs.declared.bodies.Body.{Body}
use Rattle.reg_frames.specs.declared.bodies.Body.TheVariants.{Cast, Ack}
use Rattle.reg_frames.specs.declared.bodies.Frame.{Frame}
use Rattle.reg_frames.specs.declared.bodies.Frame.TheVariants.{Numbered, Got}
use Rattle.reg_frames.specs.declared.puts.Put.{Put}
use Rattle.reg_front.specs.declared.starts.Start.{Start}
use Rattle.reg_front.specs.declared.starts.Start.TheVariants.{Cast as Casts, CastAndAnswer as CastsAndAnswers}
use Rattle.reg_front.specs.declared.starts.Start.TheVariants.{Look as Looks, Hold as Holds}
use Rattle.reg_process.specs.declared.steps.Reply.{Reply}
use Rattle.reg_process.specs.declared.steps.Step.{Step}
use Rattle.reg_process.specs.declared.steps.Step.TheVariants.{Call, Take}
use Rattle.reg_process.specs.Process.{State, peer_at, called, taken, accepted, quiet, got_frames, clear_casts, accepts}
use Rattle.reg_process.specs.Process.{unsettled}
use Rattle.reg_process.specs.Faults.{is_cast, is_numbered, body_memory, takes_memory, frame_fault, take_fault}
use Rattle.reg_process.specs.declared.faults.ProcessFault.TheVariants.{Failed, NoProcess}
use Rattle.reg_process.specs.Puts.{puts}
use Rattle.reg_process.specs.Sending.{IsListed}
use Rattle.reg_process.specs.Events.{Kept, Steps, Briefs, process_fault, uses_list}
use Rattle.reg_process.proofs.Acks.{one_put}
use Rattle.reg_process.proofs.Calls.{nothing_put}

-- an event of which the frames are listed, in the kept list where the event uses it
pub listed_steps : (start : Op → ℕ → Start) (old mid new : Kept) (e : Step) (uses : Bool) (frames frames1 : List Put)
    (cast cast1 : Option Stamp) (ds ds1 : List Delivered) (reply reply1 : Option Reply)
    → Briefs start old e frames cast ds reply mid → uses ≡ uses_list start old.state e → new ≡ record mid { room = cond uses 0 mid.room } → IsListed frames cast ds reply frames1 cast1 ds1 reply1 → Steps start old e frames1 cast1 ds1 reply1 new
listed_steps start old mid new e uses frames frames1 cast cast1 ds ds1 reply reply1 b u n l = record {
  no_fault = b.no_fault;
  state = (ap (λ (k : Kept). k.failed) n ∙ b.state.0, ap (λ (k : Kept). k.state) n ∙ b.state.1);
  room = ap (λ (k : Kept). k.room) n ∙ ap (λ x. cond x 0 mid.room) u ∙ ap (λ k. cond (uses_list start old.state e) 0 k) b.room;
  outcome = record { put = l.put ∙ b.outcome.put; made = l.made ∙ b.outcome.made; casts = l.casts ∙ b.outcome.casts; answer = l.answer ∙ b.outcome.answer };
}

-- a call has a cast exactly where its start casts
pub cast_of_start : (s : State) (op : Op) (start : Start) → is_some (called s op start).1.cast ≡ is_cast start
cast_of_start s op Casts = refl
cast_of_start s op CastsAndAnswers = refl
cast_of_start s op Looks = refl
cast_of_start s op Holds = refl

none_longer : (room n : ℕ) (frames : List Put) → frames ≡ [] → room < length frames → n ≡ n → ⊥
none_longer room n frames e l q = let z = ap length e in omega (arith, z, l)

-- a call whose frames do not fit is cast
pub call_memory : (s : State) (op : Op) (start : Start) (room : ℕ) (frames : List Put)
    → frames ≡ puts (called s op start).1.frames (length s.peers) → room < length frames → is_cast start ≡ true
call_memory s op Casts room frames e l = refl
call_memory s op CastsAndAnswers room frames e l = refl
call_memory s op Looks room frames e l = absurd (none_longer room 0 frames (e ∙ nothing_put (length s.peers)) l refl)
call_memory s op Holds room frames e l = absurd (none_longer room 0 frames (e ∙ nothing_put (length s.peers)) l refl)

-- one frame does not fit only where none does
one_longer : (from k n room : ℕ) (frames : List Put) → from < n → frames ≡ puts (got_frames from k) n
    → room < length frames → room ≡ 0
one_longer from k n room frames within e l = let z = ap length (e ∙ one_put from k n within) in omega (arith, z, l)

or_first : (a b : Bool) → a ≡ true → (a || b) ≡ true
or_first a b e = ap (λ x. x || b) e

-- a frame whose answers do not fit takes memory
pub take_memory : (s : State) (room held from : ℕ) (frame : Frame) (frames : List Put) → from < length s.peers
    → frames ≡ puts (taken s from frame).1.frames (length s.peers) → (is_numbered frame ≡ true → held ≡ room)
    → held < length frames → takes_memory s room from frame ≡ true
take_memory s room held from (Got count) frames within e same l =
    absurd (none_longer held 0 frames (e ∙ nothing_put (length s.peers)) l refl)
take_memory s room held from (Numbered number body) frames within e same l =
    go (number == (peer_at s from).expected) body e
  where
    less : room < length frames
    less = let z = same refl in omega (arith, z, l)

    go : (b : Bool) (body : Body) → frames ≡ puts (cond b (accepted s from body) (quiet s (got_frames from (peer_at s from).expected))).1.frames (length s.peers) → cond b (body_memory s room from body) (room == 0) ≡ true
    go true (Cast t op) e = refl
    go true (Ack t) e = or_first (room == 0) (nat_lt 0 (length (clear_casts (accepts from t s)))) (eq-eqb room 0 (one_longer from ((peer_at s from).expected + 1) (length s.peers) room frames within e less))
    go false body e = eq-eqb room 0 (one_longer from (peer_at s from).expected (length s.peers) room frames within e less)

-- the sender of a frame that is taken is a process
pub taken_within : (start : Op → ℕ → Start) (k : Kept) (from : ℕ) (frame : Frame)
    → process_fault start k (Take from frame) ≡ None → from < length k.state.peers
taken_within start k from frame h = runs k.failed h
  where
    peer : (b c : Bool) → nat_le (length k.state.peers) from ≡ b → cond (b || c) (Some NoProcess) (frame_fault k.state from frame) ≡ None → from < length k.state.peers
    peer true c is h = absurd cc
    peer false c is h = grind (arith, nat_tests)

    runs : (b : Bool) → cond b (Some Failed) (take_fault k.state from frame) ≡ None → from < length k.state.peers
    runs true h = absurd cc
    runs false h = peer (nat_le (length k.state.peers) from) (from == k.state.me) refl h

-- what takes memory though a frame fits takes it where none does
pub more_memory : (s : State) (room from : ℕ) (frame : Frame) → takes_memory s 1 from frame ≡ true
    → takes_memory s room from frame ≡ true
more_memory s room from (Got count) h = absurd cc
more_memory s room from (Numbered number body) h = go (number == (peer_at s from).expected) body h
  where
    go : (b : Bool) (body : Body) → cond b (body_memory s 1 from body) false ≡ true → cond b (body_memory s room from body) (room == 0) ≡ true
    go true (Cast t op) h = refl
    go true (Ack t) h = or_right (room == 0) (nat_lt 0 (length (clear_casts (accepts from t s)))) h
    go false body h = absurd cc
