-- The short form of a workload's play, and its schedule.
use Rattle.std.proofs.Common.{ℕ, ◌≡◌, ◌⊎◌, inl, inr, ◌<◌, Bool, List, length, take, Option, Some, refl, ap, sym, ◌∙◌}
use Rattle.std.proofs.Common.{subst}
use Rattle.std.specs.Prelude.{slice_get}
use Rattle.reg_base.specs.declared.memory.Op.{Op}
use Rattle.reg_base.specs.Shape.{Extent}
use Rattle.reg_front.specs.declared.named.Front.{Front}
use Rattle.reg_front.specs.declared.starts.Start.{Start}
use Rattle.reg_checkers.specs.declared.entries.Entry.{Entry}
use Rattle.reg_commands.specs.Plays.{IsPlayBy}
use Rattle.reg_commands.specs.Replays.{start_of}
use Rattle.reg_commands.specs.declared.faults.Fault.TheVariants.{OutOfMemory}
use Rattle.reg_inputs.specs.Loads.{IsLoad, Load}
use Rattle.reg_inputs.specs.Schedules.{Plan}
use Rattle.reg_inputs.specs.ScheduleText.{schedule_text}
use Rattle.reg_process.specs.declared.events.Event.{Event}
use Rattle.reg_world.specs.World.{whole}
use Rattle.reg_world.specs.Worlds.{Made, after_events, run_in}
use Rattle.reg_show.specs.Seeds.{is_fair, reseeded, seed_of}
use Rattle.reg_show.specs.Shorts.{IsLongPlay, IsShort, IsShortPlay, KeepsAnswers, LacksShort, SendsEvents, ShowsShort}
use Rattle.reg_show.specs.Shorts.{Shortens, plan_with, up_to_end, up_to_last_answer}
use Rattle.reg_show.specs.ToldRuns.{EventHasBits}
use Rattle.reg_show.specs.declared.faults.ShowFault.{ShowFault}
use Rattle.reg_show.specs.declared.faults.ShowFault.TheVariants.{Command, TooManyToShorten}
use Rattle.reg_show.specs.declared.players.Player.{Player}
use Rattle.reg_show.specs.declared.short_schedules.TheConstants.{MOST_SHORTENED}
use Rattle.reg_show.proofs.Accepted.{made_schedule}
use Rattle.reg_show.proofs.Beginnings.{beginning_keeps}
use Rattle.reg_show.proofs.Shortened.{all_kept}

-- what a play did up to its last answer, in the parts that the code holds
pub same_beginning : (made : Made) (entries : List Entry) (accepted events : List Event) → entries ≡ made.history
    → accepted ≡ made.accepted → events ≡ take (up_to_last_answer entries) accepted → events ≡ up_to_end made
same_beginning made entries accepted events same_entries same_accepted is =
    is ∙ (ap (λ (h : List Entry). take (up_to_last_answer h) accepted) same_entries ∙ ap (λ (l : List Event). take (up_to_last_answer made.history) l) same_accepted)

-- the events that are left of it are its short form
pub short_of_play : (fair : Bool) (start : Op → ℕ → Start) (work : Load) (made : Made) (is_finished : Bool)
    (shape : Extent) (entries : List Entry) (events short : List Event)
    → shape ≡ work.shape → entries ≡ made.history → events ≡ up_to_end made
    → IsPlayBy fair start work made is_finished → (run_in start made).accepted ≡ made.accepted → made.history ≡ (run_in start made).history
    → Shortens (KeepsAnswers start shape entries) (length events) events short → IsShortPlay fair start work short
short_of_play fair start work made is_finished shape entries events short same_shape same_entries same_events played all history tried =
    let in_shape : Shortens (KeepsAnswers start work.shape entries) (length events) events short = subst (λ (s : Extent). Shortens (KeepsAnswers start s entries) (length events) events short) same_shape tried in
    let in_history : Shortens (KeepsAnswers start work.shape made.history) (length events) events short = subst (λ (h : List Entry). Shortens (KeepsAnswers start work.shape h) (length events) events short) same_entries in_shape in
    let is_short : IsShort start work.shape made short = subst (λ (l : List Event). Shortens (KeepsAnswers start work.shape made.history) (length l) l short) same_events in_history in
    let keeps = beginning_keeps start work.shape made played.play.processes played.play.registers all history in
    record {
      made = made;
      is_finished = is_finished;
      played = played;
      is_short = is_short;
      keeps = all_kept (KeepsAnswers start work.shape made.history) (length (up_to_end made)) (up_to_end made) short keeps is_short;
    }

-- the play is too long
pub long_play : (fair : Bool) (start : Op → ℕ → Start) (work : Load) (made : Made) (is_finished : Bool)
    (events : List Event)
    → events ≡ up_to_end made → IsPlayBy fair start work made is_finished → MOST_SHORTENED < length events
    → IsLongPlay fair start work
long_play fair start work made is_finished events same played many = record { made = made; is_finished = is_finished; played = played; many = subst (λ (l : List Event). MOST_SHORTENED < length l) same many }

-- why there is no short form
pub lacks_short : (fair : Bool) (start : Op → ℕ → Start) (work : Load) (made : Made) (is_finished : Bool)
    (events : List Event)
    → events ≡ up_to_end made → IsPlayBy fair start work made is_finished → (f : ShowFault)
    → (f ≡ Command OutOfMemory) ⊎ ((f ≡ TooManyToShorten) × (MOST_SHORTENED < length events))
    → LacksShort fair start work f
lacks_short fair start work made is_finished events same played f (inl refused) =
    subst (λ x. LacksShort fair start work x) (sym refused) refl
lacks_short fair start work made is_finished events same played f (inr long) = subst (λ x. LacksShort fair start work x) (sym long.0) (long_play fair start work made is_finished events same played long.1)

-- the schedule of events that are all accepted
pub sends_events : (start : Op → ℕ → Start) (work : Load) (Wrote : List ℕ → Type 0) (shape : Extent)
    (names : List (List ℕ)) (front : Front) (events short : List Event)
    → shape ≡ work.shape → names ≡ work.names → front ≡ work.front → events ≡ short
    → IsLoad work → (whole start work.shape.processes work.shape.registers short).accepted ≡ short → ((k : ℕ) (e : Event) → slice_get events k ≡ Some e → EventHasBits e)
    → Wrote (schedule_text (record { shape = shape; names = names; front = front; events = events })) → SendsEvents Wrote work short
sends_events start work Wrote shape names front events short same_shape same_names same_front same_events load all bits written =
    let same : record { shape = shape; names = names; front = front; events = events } ≡ plan_with work short = λ i. record { shape = same_shape i; names = same_names i; front = same_front i; events = same_events i } in
    record {
      schedule = made_schedule start work (after_events start work.shape short) load load.processes load.registers all (λ k e h. bits k e (ap (λ (l : List Event). slice_get l k) same_events ∙ h));
      written = (let P : Plan → Type 0 = λ p. Wrote (schedule_text p) in subst P same written);
    }

-- the schedule that was written is that of the short form
pub shows_short : (fair : Bool) (start : Op → ℕ → Start) (work : Load) (Wrote : List ℕ → Type 0) (shape : Extent)
    (names : List (List ℕ)) (front : Front) (events short : List Event)
    → shape ≡ work.shape → names ≡ work.names → front ≡ work.front → events ≡ short
    → IsLoad work → IsShortPlay fair start work short → ((k : ℕ) (e : Event) → slice_get events k ≡ Some e → EventHasBits e)
    → Wrote (schedule_text (record { shape = shape; names = names; front = front; events = events })) → ShowsShort fair start Wrote work
shows_short fair start work Wrote shape names front events short same_shape same_names same_front same_events load play bits written = record {
  short = short;
  play = play;
  sent = sends_events start work Wrote shape names front events short same_shape same_names same_front same_events load play.keeps.accepted bits written;
}

-- what is written of a workload with another seed is that of the player's play
pub shows_reseeded : (player : Player) (fair : Bool) (seed : Option ℕ) (given work : Load) (Wrote : List ℕ → Type 0)
    → fair ≡ is_fair player → seed ≡ seed_of player → work ≡ reseeded seed given
    → ShowsShort fair (start_of work.front) Wrote work
    → ShowsShort (is_fair player) (start_of given.front) Wrote (reseeded (seed_of player) given)
shows_reseeded player fair seed given work Wrote same_fair same_seed is shown =
    let here : ShowsShort fair (start_of given.front) Wrote (reseeded seed given) = subst (λ (w : Load). ShowsShort fair (start_of w.front) Wrote w) is shown in
    let seeded : ShowsShort fair (start_of given.front) Wrote (reseeded (seed_of player) given) = subst (λ (n : Option ℕ). ShowsShort fair (start_of given.front) Wrote (reseeded n given)) same_seed here in
    subst (λ (b : Bool). ShowsShort b (start_of given.front) Wrote (reseeded (seed_of player) given)) same_fair seeded
