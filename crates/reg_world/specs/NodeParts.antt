-- What one move does to the nodes, and where nothing is pending. They carry a proof: no promise speaks of them.
use Rattle.std.specs.Prelude.{ℕ, [], Option, Some, None, ◌≡◌, ◌<◌}
use Rattle.reg_base.specs.declared.memory.Op.{Op}
use Rattle.reg_front.specs.declared.starts.Start.{Start}
use Rattle.reg_process.specs.declared.steps.Step.{Step}
use Rattle.reg_world.specs.Nodes.{Nodes, put, after_step}
use Rattle.reg_process.specs.Process.{peer_at}

abbrev pub nodes_after : (Op → ℕ → Start) → Nodes → Option (ℕ × Step) → Nodes
nodes_after start w None = w
nodes_after start w (Some m) = put w m.0 (after_step start (w m.0) m.1)

-- at no link a data frame waits for an acknowledgement
abbrev pub NothingPending : ℕ → Nodes → Type 0
NothingPending n w = (p q : ℕ) → p < n → q < n → (p ≡ q → ⊥) → (peer_at (w p).state q).pending ≡ []
