-- What is known of a peer, by the parts that keep it.
use Rattle.std.proofs.Common.{◌≡◌, ℕ, ◌-◌, length, sym, ap, ◌∙◌, arith}
use Rattle.std.specs.Prelude.{slice_index_or}
use Rattle.reg_links.specs.Link.{Unacknowledged, next_of}
use Rattle.reg_process.specs.Process.{peer_at}
use Rattle.reg_process.specs.Parts.{Parts, state_of, nothing}
use Rattle.reg_process.specs.Bounds.{Good}
use Rattle.reg_process.specs.Known.{known_of}
use Rattle.reg_process.specs.declared.known.Known.{Known}
use Rattle.reg_process.proofs.Acks.{merged_out_at}
use Rattle.reg_process.proofs.Sending.{merged_next}
use Rattle.reg_process.specs.Process as process

-- the four numbers, where the last two are those of the link
pub known_is : (p : Parts) (good : Good p) (r : ℕ) (link : Unacknowledged) (seen expected next pending : ℕ)
    → slice_index_or p.outs r nothing ≡ link
    → seen ≡ (peer_at (state_of p) r).seen → expected ≡ (peer_at (state_of p) r).expected → next ≡ next_of link → pending ≡ length link.pending
    → let known : Known = record { seen = seen; expected = expected; first = next - pending; next = next } in known ≡ known_of (peer_at (state_of p) r)
known_is p good r link seen expected next pending is s e n l =
    let same : link ≡ record { first = (peer_at (state_of p) r).first; pending = (peer_at (state_of p) r).pending } = sym is ∙ merged_out_at p.waiting.seen p.expected p.outs r good.ins good.out in
    let first : link.first ≡ (peer_at (state_of p) r).first = ap (λ (o : Unacknowledged). o.first) same in
    let begins : next - pending ≡ (peer_at (state_of p) r).first = omega (arith, first, n, l) in
    let ends : next ≡ process.next_of (peer_at (state_of p) r) = n ∙ ap next_of (sym is) ∙ sym (merged_next p.waiting.seen p.expected p.outs r good.ins good.out) in
    λ i. record { seen = s i; expected = e i; first = begins i; next = ends i }
