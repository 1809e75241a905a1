-- When a node greets a peer that is silent, and when it ticks. Promises cite it.
use Rattle.std.specs.Prelude.{ℕ, ◌≡◌, ◌+◌, ◌==◌, ◌&&◌, ◌||◌, nat_lt, Bool, false, not, List, replicate, slice_get}
use Rattle.std.specs.Prelude.{slice_set, slice_index_or, Option, None, Some, if◌then◌else◌}
use Rattle.reg_base.specs.declared.limits.TheConstants.{FRAME_NUMBERS, MOST_RESENT}
use Rattle.reg_links.specs.declared.beats.Beat.{Beat}
use Rattle.reg_links.specs.Beats.{is_long, ticks_at, watched, woken}
use Rattle.reg_process.specs.declared.known.Known.{Known}
use Rattle.reg_process.specs.Known.{IsNoPeer, known_of}
use Rattle.reg_process.specs.Process.{peer_at}
use Rattle.reg_node.specs.declared.peers.Look.{Look}
use Rattle.reg_node.specs.declared.peers.Watched.{Watched}
use Rattle.reg_node.specs.Meetings.{MeetingState}

-- whether the node has heard from a process
abbrev pub has_heard : MeetingState → ℕ → Bool
has_heard m peer = slice_index_or m.heard peer false

-- what is watched of a peer that wasn't heard: a number that no frame has
abbrev pub watched_unheard : Option ℕ
watched_unheard = Some FRAME_NUMBERS

-- what is watched of a peer: once it was heard, the first frame to it that isn't acknowledged, if there is one
abbrev pub watch : Bool → Known → Option ℕ
watch heard known = if heard then (if known.first == known.next then None else Some known.first) else watched_unheard

-- a peer that wasn't heard, before the first look
abbrev pub unheard_beat : Beat
unheard_beat = record { first = watched_unheard; silent = 0 }

-- all processes of a node that was just opened
abbrev pub first_watched : ℕ → List Watched
first_watched processes = replicate processes (record { beat = unheard_beat; awaited = None })

-- what is known of a peer's silence after a look, by whether it was heard and what the node knows of it
abbrev pub beat_after : Bool → Known → Beat → Beat
beat_after heard known beat = watched beat (watch heard known) false

-- whether something is due at this look
abbrev pub is_look_due : Bool → Known → Beat → Bool
is_look_due heard known beat = ticks_at beat (watch heard known) false

-- The peer is greeted where it wasn't heard yet, or is silent for long; there is to be a tick where a frame to it isn't
-- acknowledged, and it isn't silent for long.
abbrev pub look_of : Bool → Known → Beat → Look
look_of heard known beat = record {
  greets = is_look_due heard known beat && (not heard || is_long (beat_after heard known beat));
  ticks = is_look_due heard known beat &&
      (not (known.first == known.next) && not (is_long (beat_after heard known beat)));
}

-- the number after the last frame that a tick puts again to a peer, by the numbers of the first frame that it hasn't
-- acknowledged and of the next one; none where the tick leaves no frame that it hasn't
abbrev pub behind : ℕ → ℕ → Option ℕ
behind first next = if nat_lt (first + MOST_RESENT) next then Some (first + MOST_RESENT) else None

-- what is awaited after a look, which is to make the node tick or isn't
abbrev pub awaited_by : Bool → Known → Option ℕ → Option ℕ
awaited_by ticks known awaited = if ticks then behind known.first known.next else awaited

-- what is watched of a peer after a look
abbrev pub looked_at : Bool → Known → Watched → Watched
looked_at heard known w =
    record {
      beat = beat_after heard known w.beat;
      awaited = awaited_by (look_of heard known w.beat).ticks known w.awaited;
    }

-- a peer that has acknowledged all frames before `first` has acknowledged just those that were put again to it
abbrev pub is_answered : Option ℕ → ℕ → Bool
is_answered None first = false
is_answered (Some n) first = first == n

-- What is awaited once something came: the same until all is acknowledged that was put again; then what the next tick
-- puts; and nothing where more is acknowledged, since that peer takes frames as they come.
abbrev pub awaited_of : Option ℕ → Known → Option ℕ
awaited_of None known = None
awaited_of (Some n) known =
    if nat_lt known.first n then Some n else if known.first == n then behind known.first known.next else None

-- what is watched of a peer after something came from it
abbrev pub heard_of : Known → Watched → Watched
heard_of known w = record { beat = woken w.beat; awaited = awaited_of w.awaited known }

-- a look that brings nothing
abbrev pub no_look : Look
no_look = record { greets = false; ticks = false }

-- a look at this peer, of which so much was watched
abbrev pub LooksBy : MeetingState → ℕ → Option Watched → List Watched → Look → List Watched → Type 0
LooksBy m peer None old look new = (look ≡ no_look) × (new ≡ old)
LooksBy m peer (Some w) old look new =
    (look ≡ look_of (has_heard m peer) (known_of (peer_at m.node.process.state peer)) w.beat)
    × (new ≡ slice_set old peer (looked_at (has_heard m peer) (known_of (peer_at m.node.process.state peer)) w))

-- A look at a process of this number: where there is no other one, it brings nothing and nothing changes.
pub record LooksAt (m : MeetingState) (peer : ℕ) (old : List Watched) (look : Look) (new : List Watched) : Type 0 where
  pub other : ¬ IsNoPeer m.node.process.state peer → LooksBy m peer (slice_get old peer) old look new
  pub none : IsNoPeer m.node.process.state peer → (look ≡ no_look) × (new ≡ old)

-- something came from this peer, of which so much was watched
abbrev pub HearsBy : MeetingState → ℕ → Option Watched → List Watched → Bool → List Watched → Type 0
HearsBy m peer None old ticks new = (ticks ≡ false) × (new ≡ old)
HearsBy m peer (Some w) old ticks new =
    (ticks ≡ is_answered w.awaited (known_of (peer_at m.node.process.state peer)).first)
    × (new ≡ slice_set old peer (heard_of (known_of (peer_at m.node.process.state peer)) w))

-- Something came from a process of this number, and whether the node is to tick. Where there is no other one, it isn't
-- and nothing changes.
pub record HearsOf (m : MeetingState) (peer : ℕ) (old : List Watched) (ticks : Bool) (new : List Watched) : Type 0 where
  pub other : ¬ IsNoPeer m.node.process.state peer → HearsBy m peer (slice_get old peer) old ticks new
  pub none : IsNoPeer m.node.process.state peer → (ticks ≡ false) × (new ≡ old)

-- whether a peer is silent for long
abbrev pub is_long_in : Option Watched → Bool
is_long_in None = false
is_long_in (Some w) = is_long w.beat

abbrev pub is_long_at : List Watched → ℕ → Bool
is_long_at all peer = is_long_in (slice_get all peer)
