-- Fair plays: rounds of calls and takes.
use Rattle.std.specs.Prelude.{ℕ, nat_lt, ◌&&◌, cond, List, length, Option, Some, None}
use Rattle.reg_base.specs.declared.memory.Op.{Op}
use Rattle.reg_base.specs.Shape.{Extent}
use Rattle.reg_front.specs.declared.starts.Start.{Start}
use Rattle.reg_process.specs.declared.events.Event.TheVariants.{Take}
use Rattle.reg_workload.specs.Plays.{Playing, new_play, steps, may_call, next_frame, makes, calls_next, passes}

-- the process calls its next operation, where it may and the budget is not used up
unfoldable pub call_in_round : (Op → ℕ → Start) → ℕ → Playing → ℕ → Playing
call_in_round start budget s p =
    cond (may_call start s p && nat_lt (length s.made.accepted) budget) (calls_next start s p) s

-- the first frame of a wire that is not passed is taken, and is passed then, where there is one and the budget is not
-- used up
abbrev pub take_if_room : (Op → ℕ → Start) → ℕ → Playing → ℕ → ℕ → Option ℕ → Playing
take_if_room start budget s from to None = s
take_if_room start budget s from to (Some number) =
    cond (nat_lt (length s.made.accepted) budget) (passes (makes start s (Take from to number)) from to) s

unfoldable pub take_in_round : (Op → ℕ → Start) → ℕ → Playing → ℕ → ℕ → Playing
take_in_round start budget s from to = take_if_room start budget s from to (next_frame start s from to)

-- each of the first n processes calls its next operation so, by rising number
abbrev pub calls_in_round : (Op → ℕ → Start) → ℕ → ℕ → Playing → Playing
calls_in_round start budget n s = steps (λ p t. call_in_round start budget t p) n s

abbrev pub takes_from_in_round : (Op → ℕ → Start) → ℕ → ℕ → ℕ → Playing → Playing
takes_from_in_round start budget from n s = steps (λ to t. take_in_round start budget t from to) n s

abbrev pub takes_in_round : (Op → ℕ → Start) → ℕ → ℕ → Playing → Playing
takes_in_round start budget n s = steps (λ from t. takes_from_in_round start budget from t.made.processes t) n s

-- a round: all calls, and then all takes, by sender and then by receiver
unfoldable pub round : (Op → ℕ → Start) → ℕ → Playing → Playing
round start budget s = takes_in_round start budget s.made.processes (calls_in_round start budget s.made.processes s)

-- This number of rounds. After one that makes no event nothing changes any more: the play has ended.
abbrev pub rounds : (Op → ℕ → Start) → ℕ → ℕ → Playing → Playing
rounds start budget n s = steps (λ _ t. round start budget t) n s

-- the play of these scripts, one for each process of this shape: each round before the end makes an event, so that it
-- ends within as many rounds as the budget says
abbrev pub fair_play : (Op → ℕ → Start) → Extent → List (List Op) → ℕ → Playing
fair_play start shape scripts budget = rounds start budget budget (new_play shape scripts)
