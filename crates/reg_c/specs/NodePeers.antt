-- What a node that a caller holds knows of the silence of its peers. Promises cite it.
use Rattle.std.specs.Prelude.{ℕ, ◌≡◌, ◌+◌, ◌*◌, Bool, false, List, Option, None, Some}
use Rattle.reg_node.specs.declared.peers.Look.{Look}
use Rattle.reg_node.specs.declared.peers.Watched.{Watched}
use Rattle.reg_node.specs.Meetings.{MeetingState}
use Rattle.reg_node.specs.Peers.{HearsOf, LooksAt, has_heard, is_long_at, no_look}
use Rattle.reg_c.specs.declared.nodes.HeldNode.{HeldNode}
use Rattle.reg_c.specs.declared.nodes.KeptNode.{KeptNode}
use Rattle.reg_c.specs.declared.nodes.KeptNode.TheVariants.{Linear, LocalRead, LocalWrite, Closed}
use Rattle.reg_c.specs.Nodes.{flag, node_state_in}
use Rattle.reg_c.specs.Processes.{TellsKnown}
use Rattle.reg_c.specs.Worlds.{seen}

abbrev pub meeting_in : KeptNode → Option MeetingState
meeting_in (Linear l) = Some l.meeting
meeting_in (LocalRead l) = Some l.meeting
meeting_in (LocalWrite l) = Some l.meeting
meeting_in Closed = None

-- 1 where the peer is to be greeted, and 2 where the node is to tick
abbrev pub look_code : Look → ℕ
look_code look = flag look.greets + 2 * flag look.ticks

-- a look at a peer of the node, if there is one
abbrev pub LooksIn : Option MeetingState → ℕ → List Watched → Look → List Watched → Type 0
LooksIn None peer old look new = (look ≡ no_look) × (new ≡ old)
LooksIn (Some m) peer old look new = LooksAt m peer old look new

abbrev pub WatchesBy : HeldNode → ℕ → Option (List Watched) → HeldNode → ℕ → Type 0
WatchesBy old peer None new code = (code ≡ 0) × (new ≡ old)
WatchesBy old peer (Some all) new code =
    (look : Look) × (after : List Watched) × LooksIn (meeting_in old.node) peer all look after × (code ≡ look_code look)
    × (new ≡ record old { peers = Some after })

-- the node that is held looks at a peer, and what is due is told; nothing is where no node was opened
abbrev pub NodeWatches : ℕ → HeldNode → HeldNode → ℕ → Type 0
NodeWatches peer old new code = WatchesBy old peer old.peers new code

-- something came from a peer of the node, if there is one, and whether it is to tick
abbrev pub HearsIn : Option MeetingState → ℕ → List Watched → Bool → List Watched → Type 0
HearsIn None peer old ticks new = (ticks ≡ false) × (new ≡ old)
HearsIn (Some m) peer old ticks new = HearsOf m peer old ticks new

abbrev pub CameBy : HeldNode → ℕ → Option (List Watched) → HeldNode → ℕ → Type 0
CameBy old peer None new code = (code ≡ 0) × (new ≡ old)
CameBy old peer (Some all) new code =
    (ticks : Bool) × (after : List Watched) × HearsIn (meeting_in old.node) peer all ticks after
    × (code ≡ 2 * flag ticks) × (new ≡ record old { peers = Some after })

-- something came from a peer of the node that is held: 2 where it is to tick, and 0 where no node was opened
abbrev pub CameFrom : ℕ → HeldNode → HeldNode → ℕ → Type 0
CameFrom peer old new code = CameBy old peer old.peers new code

-- What is known of a peer, by a number: 4 tells whether it was heard, and 5 whether it is silent for long. Others are
-- as of a process.
pub record NodeTells (h : HeldNode) (what peer n : ℕ) : Type 0 where
  pub heard : what ≡ 4 → n ≡ seen (λ m. flag (has_heard m peer)) (meeting_in h.node)
  pub silent : what ≡ 5 → n ≡ seen (λ all. flag (is_long_at all peer)) h.peers
  pub known : (what ≡ 4 → ⊥) → (what ≡ 5 → ⊥) → TellsKnown (node_state_in h.node) what peer n
