-- A chapter, as the caller sees it of a node that it holds. Promises cite it.
use Rattle.std.specs.Prelude.{ℕ, ◌≡◌, ◌<◌, ◌⊎◌, Bool, true, not, ◌==◌, List, length, Option, None, Some, is_some}
use Rattle.reg_process.specs.Process.{State}
use Rattle.reg_process.specs.declared.faults.ProcessFault.TheVariants as refusals
use Rattle.reg_node.specs.Chapters.{ChapterState, HearsStanding, IsOver, IsUnheard, TellsStanding}
use Rattle.reg_node.specs.declared.chapters.ToldFault.{ToldFault}
use Rattle.reg_node.specs.declared.chapters.ToldFault.TheVariants.{NoProcess, NoState, OutOfMemory}
use Rattle.reg_commands.specs.Lent.{filled}
use Rattle.reg_c.specs.declared.nodes.HeldNode.{HeldNode}
use Rattle.reg_c.specs.Events.{no_world, refusal_code}
use Rattle.reg_c.specs.Nodes.{node_state_in}

-- bytes that are no state of a process
abbrev pub no_state : ℕ
no_state = 80

abbrev pub told_code : ToldFault → ℕ
told_code NoProcess = refusal_code refusals.NoProcess
told_code NoState = no_state
told_code OutOfMemory = refusal_code refusals.OutOfMemory

-- the state of a process is heard, or the fault is told and nothing has changed
abbrev pub HearsIn : ℕ → List ℕ → Option ChapterState → Option ChapterState → ℕ → Type 0
HearsIn sender bytes None new code = (code ≡ no_world) × (new ≡ None)
HearsIn sender bytes (Some old) new code =
    ((code ≡ 0) × ((after : ChapterState) × HearsStanding old sender bytes after × (new ≡ Some after)))
    ⊎ ((fault : ToldFault) × IsUnheard old sender bytes fault × (code ≡ told_code fault) × (new ≡ Some old))

-- the same of what is held; nothing else changes
abbrev pub NodeHearsState : ℕ → List ℕ → HeldNode → HeldNode → ℕ → Type 0
NodeHearsState sender bytes old new code =
    HearsIn sender bytes old.chapter new.chapter code × (new ≡ record old { chapter = new.chapter })

-- the bytes tell how far the process has come, and it is kept
pub record TellsIn (process : Option State) (is_quiet : Bool) (old : Option ChapterState) (bytes : List ℕ)
    (new : Option ChapterState) : Type 0 where
  pub state : State
  pub before : ChapterState
  pub after : ChapterState
  pub process_is : process ≡ Some state
  pub before_is : old ≡ Some before
  pub told : TellsStanding state is_quiet before bytes after
  pub kept : new ≡ Some after

-- why it isn't told: there is no node or no chapter, or both are there and no memory
abbrev pub IsUntold : Option State → Option ChapterState → ℕ → Type 0
IsUntold process chapter code =
    ((code ≡ no_world) × (process ≡ None ⊎ chapter ≡ None))
    ⊎ ((code ≡ refusal_code refusals.OutOfMemory) × (is_some process ≡ true) × (is_some chapter ≡ true))

-- the room holds the front of these bytes, and the length is theirs; or nothing has changed
abbrev pub NodeTellsState : ℕ → HeldNode → HeldNode → ℕ → List ℕ → List ℕ → ℕ → ℕ → Type 0
NodeTellsState is_quiet old new code old_room new_room old_length new_length =
    ((code ≡ 0) × ((bytes : List ℕ)
    × TellsIn (node_state_in old.node) (not (is_quiet == 0)) old.chapter bytes new.chapter
    × (new ≡ record old { chapter = new.chapter }) × (new_room ≡ filled bytes old_room) × (new_length ≡ length bytes)))
    ⊎ ((0 < code) × IsUntold (node_state_in old.node) old.chapter code
    × (new ≡ old) × (new_room ≡ old_room) × (new_length ≡ old_length))

-- 1 where the chapter is over, and 0 where it isn't, or there is none
abbrev pub TellsOver : Option ChapterState → ℕ → Type 0
TellsOver None code = code ≡ 0
TellsOver (Some chapter) code = ((code ≡ 1) × IsOver chapter.told) ⊎ ((code ≡ 0) × ¬ IsOver chapter.told)
