-- Links with frames that are not acknowledged.
use Rattle.std.proofs.Common.{◌≡◌, ℕ, ◌<◌, length, ap, inl, inr, arith}
use Rattle.std.proofs.lemmas.Bool.{cases_eq}
use Rattle.reg_base.specs.declared.memory.Op.{Op}
use Rattle.reg_front.specs.declared.starts.Start.{Start}
use Rattle.reg_process.specs.Process.{peer_at}
use Rattle.reg_world.specs.Worlds.{Made}
use Rattle.reg_world.proofs.one_order.NodeLaws.{inv_of}
use Rattle.reg_records.specs.RestParts.{nodes_in, link_in, pending_in}
use Rattle.reg_records.proofs.EntryFacts.{pending_none}
use Rattle.reg_records.proofs.Own.{none_own}

-- nothing is pending for the others, so nothing is
pub all_none : (start : Op → ℕ → Start) (m : Made) (p : ℕ) → p < m.processes
    → ((k : ℕ) → k < m.processes → (k ≡ p → ⊥) → length (link_in start m p k).pending ≡ 0) → pending_in start m p ≡ 0
all_none start m p l h =
    let s = (nodes_in start m p).state in
    let size = ((inv_of start m.processes m.registers m.accepted).local p l).size in
    pending_none s.peers (λ a la. elim (cases_eq a p) [
      | inl e ↦
          let own = ap length (none_own start m.processes m.registers m.accepted p).pending in
          let q = ap (λ z. length (peer_at s z).pending) e in
          omega (arith, own, q)
      | inr ne ↦ h a (omega (arith, la, size)) ne
    ])
