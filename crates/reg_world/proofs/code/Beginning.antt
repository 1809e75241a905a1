-- A world in which nothing happened yet.
use Rattle.std.proofs.Common.{◌≡◌, ℕ, zero, suc, ◌<◌, ◌≤◌, false, List, [], ◌∷◌, replicate, Some, refl, sym, ap, ◌∙◌}
use Rattle.std.proofs.Common.{subst, arith}
use Rattle.std.proofs.lemmas.List.{length-replicate}
use Rattle.reg_base.specs.declared.limits.TheConstants.{MOST_PROCESSES}
use Rattle.reg_base.specs.declared.memory.Op.{Op}
use Rattle.reg_base.specs.Shape.{Extent}
use Rattle.reg_front.specs.declared.starts.Start.{Start}
use Rattle.reg_process.specs.Process.{Peer, no_peer}
use Rattle.reg_process.specs.Parts.{merged, nothing, state_of, first_parts}
use Rattle.reg_checkers.specs.History.{IsAt}
use Rattle.reg_world.specs.Histories.{Nothing}
use Rattle.reg_world.specs.Nodes.{first_state}
use Rattle.reg_world.specs.Tallies.{no_calls}
use Rattle.reg_world.specs.Pages.{Pages}
use Rattle.reg_world.specs.Members.{Standing, listed}
use Rattle.reg_world.specs.WorldParts.{IsWorld, first_standing}
use Rattle.reg_world.proofs.code.Sending.{length-listed, listed_empty}
use Rattle.reg_world.proofs.code.Telling.{at_listed}

none_merged : (n : ℕ) → merged (replicate n 0) (replicate n 0) (replicate n nothing) ≡ replicate n no_peer
none_merged zero = refl
none_merged (suc n) = ap (λ l. no_peer ∷ l) (none_merged n)

first_is : (p n registers : ℕ) → state_of (first_parts p n registers) ≡ first_state n registers p
first_is p n registers = ap (λ (l : List Peer). record (first_state n registers p) { peers = l }) (none_merged n)

at_replicate : {X : Type 0} (n p : ℕ) (x : X) → p < n → IsAt (replicate n x) p x
at_replicate zero p x l = absurd (omega arith)
at_replicate (suc n) zero x l = refl
at_replicate (suc n) (suc p) x l = at_replicate n p x (omega arith)

abbrev pub blank_book : Extent → Pages
blank_book shape = record { shape = shape; accepted = []; ahead = []; entries = []; order = []; reads = []; tallies = replicate shape.processes no_calls }

pub new_is : (start : Op → ℕ → Start) (shape : Extent) (members : List Standing) (b : Pages)
    → shape.processes ≤ MOST_PROCESSES → members ≡ listed (first_standing shape) shape.processes → b ≡ blank_book shape
    → IsWorld start false members b
new_is start shape members b few stand is =
    subst (λ z. IsWorld start false members z) (sym is) (subst (λ z. IsWorld start false z (blank_book shape)) (sym stand) (record {
      few = few;
      size = length-listed (first_standing shape) shape.processes;
      tells = record {
        accepted = refl;
        entries = refl;
        order = refl;
        reads = refl;
        tallies = record { size = length-replicate shape.processes no_calls; each = λ p l. at_replicate shape.processes p no_calls l };
      };
      makes = Nothing;
      stand = λ h. record {
        each = λ p l. at_listed (first_standing shape) shape.processes p l ∙ λ i. Some (record { failed = false; state = first_is p shape.processes shape.registers i; wires = listed_empty {X = _} [] shape.processes i });
      };
    }))
