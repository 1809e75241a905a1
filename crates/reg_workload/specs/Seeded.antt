-- Seeded plays: each turn a word says what happens of all that can.
use Rattle.std.specs.Prelude.{ℕ, ◌%◌, nat_lt, cond, List, [], ◌∷◌, ◌++◌, length, Option, Some, None, slice_index_or}
use Rattle.std.specs.List.{flat_map, range_with_len}
use Rattle.reg_base.specs.declared.memory.Op.{Op}
use Rattle.reg_base.specs.Shape.{Extent}
use Rattle.reg_front.specs.declared.starts.Start.{Start}
use Rattle.reg_process.specs.declared.events.Event.TheVariants.{Take, Tick}
use Rattle.reg_workload.specs.declared.choices.Choice.{Choice}
use Rattle.reg_workload.specs.declared.choices.Choice.TheVariants.{Call as CallNext, Take as TakeNext, Tick as PutAgain}
use Rattle.reg_workload.specs.Plays.{Playing, new_play, steps, may_call, next_frame, pending_at, makes, calls_next}
use Rattle.reg_workload.specs.Plays.{passes}
use Rattle.reg_base.specs.Words.{says}

-- what one process can call, what one wire brings, and what one process can put again
abbrev pub call_choice : (Op → ℕ → Start) → Playing → ℕ → List Choice
call_choice start s p = cond (may_call start s p) (CallNext p ∷ []) []

abbrev pub take_of : ℕ → ℕ → Option ℕ → List Choice
take_of from to None = []
take_of from to (Some number) = TakeNext from to number ∷ []

abbrev pub take_choice : (Op → ℕ → Start) → Playing → ℕ → ℕ → List Choice
take_choice start s from to = take_of from to (next_frame start s from to)

abbrev pub tick_choice : (Op → ℕ → Start) → Playing → ℕ → List Choice
tick_choice start s p = cond (nat_lt 0 (pending_at start s p)) (PutAgain p ∷ []) []

-- what the first n processes can call, by rising number
unfoldable pub call_choices : (Op → ℕ → Start) → Playing → ℕ → List Choice
call_choices start s n = flat_map (call_choice start s) (range_with_len 0 n)

unfoldable pub take_choices_from : (Op → ℕ → Start) → Playing → ℕ → ℕ → List Choice
take_choices_from start s from n = flat_map (take_choice start s from) (range_with_len 0 n)

unfoldable pub take_choices : (Op → ℕ → Start) → Playing → ℕ → List Choice
take_choices start s n = flat_map (λ from. take_choices_from start s from s.made.processes) (range_with_len 0 n)

unfoldable pub tick_choices : (Op → ℕ → Start) → Playing → ℕ → List Choice
tick_choices start s n = flat_map (tick_choice start s) (range_with_len 0 n)

-- all choices: the calls, then the takes, then the ticks
unfoldable pub choices_of : (Op → ℕ → Start) → Playing → List Choice
choices_of start s =
    (call_choices start s s.made.processes ++ take_choices start s s.made.processes)
    ++ tick_choices start s s.made.processes

-- A frame is taken. It is passed then, unless the next word says that it can be taken again.
abbrev pub takes_next : {W : Type 0} → (Op → ℕ → Start) → (W → ℕ × W) → ℕ → Playing → ℕ → ℕ → ℕ → W → Playing × W
takes_next start next_word repeat s from to number w = (
  cond (says repeat (next_word w).0) (makes start s (Take from to number))
      (passes (makes start s (Take from to number)) from to),
  (next_word w).1,
)

-- A frame is taken so, unless the next word says that it is lost.
abbrev pub takes_or_loses : {W : Type 0} → (Op → ℕ → Start) → (W → ℕ × W) → ℕ → ℕ → Playing → ℕ → ℕ → ℕ → W
    → Playing × W
takes_or_loses start next_word loss repeat s from to number w =
    cond (says loss (next_word w).0) (passes s from to, (next_word w).1)
    (takes_next start next_word repeat s from to number (next_word w).1)

-- a choice is made
unfoldable pub chooses : {W : Type 0} → (Op → ℕ → Start) → (W → ℕ × W) → ℕ → ℕ → Playing → Choice → W → Playing × W
chooses start next_word loss repeat s (CallNext p) w = (calls_next start s p, w)
chooses start next_word loss repeat s (TakeNext from to number) w =
    takes_or_loses start next_word loss repeat s from to number w
chooses start next_word loss repeat s (PutAgain p) w = (makes start s (Tick p), w)

-- the choice of a word, modulo the number of choices
abbrev pub picked : List Choice → ℕ → Option Choice
picked [] word = None
picked (c ∷ cs) word = Some (slice_index_or (c ∷ cs) (word % length (c ∷ cs)) c)

-- The choice of the next word is made. Where there is none, no word is drawn and nothing changes.
abbrev pub turns_by : {W : Type 0} → (Op → ℕ → Start) → (W → ℕ × W) → ℕ → ℕ → Playing → Option Choice → W → Playing × W
turns_by start next_word loss repeat s None w = (s, w)
turns_by start next_word loss repeat s (Some choice) w = chooses start next_word loss repeat s choice (next_word w).1

-- A turn of a play, with the source of its words.
unfoldable pub turn : {W : Type 0} → (Op → ℕ → Start) → (W → ℕ × W) → ℕ → ℕ → Playing × W → Playing × W
turn start next_word loss repeat x =
    turns_by start next_word loss repeat x.0 (picked (choices_of start x.0) (next_word x.1).0) x.1

-- This number of turns. After one with no choice nothing changes any more: the play has ended.
abbrev pub turns : {W : Type 0} → (Op → ℕ → Start) → (W → ℕ × W) → ℕ → ℕ → ℕ → Playing × W → Playing × W
turns start next_word loss repeat n x = steps (λ _ y. turn start next_word loss repeat y) n x

-- the play of these scripts, one for each process of this shape, with the words of this source
abbrev pub seeded_play : {W : Type 0} → (Op → ℕ → Start) → (W → ℕ × W) → Extent → List (List Op) → ℕ → ℕ → ℕ → W
    → Playing × W
seeded_play start next_word shape scripts loss repeat budget w =
    turns start next_word loss repeat budget (new_play shape scripts, w)
