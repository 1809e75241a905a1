-- The two cases of what `take` gave, and a piece as room for a type. Assumes `Logic`.
use Rattle.std.proofs.Common.{◌≡◌, ℕ, ◌^◌, ◌<◌, ◌≤◌, List, [], ◌∷◌, ◌++◌, IfSome, None, Some, sym, ap, subst, ◌∙◌}
use Rattle.std.proofs.Common.{arith}
use seplogic.Ra.Ura.{Ura}
use mir.Syntax.{Ty, Width, w8, w16, w32, w64, w128}
use mir.Val.{Val, vcons, vnil, of_list, bytes}
use base.Logic.{ent, never, sep, id⊢}
use base.Fml.{fex, fwand, froom}
use prog.Memory.{size, align, capped}
use prog.Align.{Dv, align_w, align-bytes}
use prog.Capped.{capped_is, capped_small}
use types.Logic.{Logic, sem}
use types.Kit.{Item, Goal, Seq, ‵, ◌⊛◌, ◌$◌, ◌∵◌, !, qed, move, drop, use1, split, frame, fsplit, fpick, fpack, feq_l}
use types.Kit.{done}
use types.Match.{live}
use denote.RattleType.{RattleType}
use denote.RawPtr.{Ptr, block_ptr, in_a_block}
use denote.Shadow.{pure_l}
use denote.Steps.{only}
use Rattle.core.specs.contracts.option.Option as option
use Rattle.linked_list_allocator.specs.Ownership.{bytes_at}
use Rattle.linked_list_allocator.proofs.Nodes.{retypes}
use Rattle.linked_list_allocator.proofs.Values.{list_val, list_own, list_told}
use Rattle.reg_heap.specs.Blocks.{IsBlockSize}
use Rattle.reg_heap.specs.Owned.{block_token}
use Rattle.reg_heap.specs.contracts.piece.Piece as piece
use Rattle.reg_heap.proofs.Rounded.{whole, holds}

abbrev pub Taken : RattleType
Taken = option.the_row piece.the_row

abbrev pub Told : ℕ → ℕ → Taken.Denot → Type 0
Told n a x = IfSome x (λ p. IsBlockSize n p.bytes × (a ≤ 16))

divides_16 : (w : Width) → Dv (bytes w) 16
divides_16 w8 = tt
divides_16 w16 = tt
divides_16 w32 = tt
divides_16 w64 = tt
divides_16 w128 = tt

pub hands_out : {M : Type 1} {𝓤 : Ura M} (𝓛 : Logic 𝓤) (τ : Ty) (b o n a m : ℕ) → capped (size τ) ≡ n
    → capped (align τ) ≡ a → IsBlockSize n m → a ≤ 16
    → ent 𝓤 (sem 𝓛 (bytes_at (block_ptr b o) m)) (sep 𝓤 (𝓛.H.room τ b o) (sem 𝓛 (block_token τ (block_ptr b o))))
hands_out {𝓤 = 𝓤} 𝓛 τ b o n a m sized aligned is slim =
    let p : Ptr = block_ptr b o in
    let small : n < 2 ^ 63 = is.0 in
    let short : size τ < 2 ^ 63 = capped_small (size τ) (omega arith) in
    let same : n ≡ size τ = sym sized ∙ capped_is (size τ) (omega arith) in
    let fits : IsBlockSize (size τ) m = subst (λ (k : ℕ). IsBlockSize k m) same is in
    qed 𝓛 (‵ (bytes_at p m) ∷ []) ∵
    use1 𝓛 (‵ (froom τ b o) ⊛ ‵ (fwand (froom τ b o) (bytes_at p m)))
    (retypes 𝓛 b τ o m (whole (size τ) m fits) (holds (size τ) m fits) (subst (λ (k : ℕ). Dv k 16) (sym (align-bytes τ)) (divides_16 (align_w τ)))) $ split ! $ frame ! $
    fpack ! (IsBlockSize (size τ) m) (λ _. fwand (froom τ b o) (bytes_at p m)) fits $ fpack ! ℕ (λ k. fex (IsBlockSize (size τ) k) (λ _. fwand (froom τ b o) (bytes_at p k))) m $ done !

module _ {M : Type 1} {𝓤 : Ura M} {𝓛 : Logic 𝓤} {K : Type 0} {Γ : List (Item 𝓤)} {G : Goal 𝓤 𝓛.H} where
  pub taken : K → (n a : ℕ) (x : Taken.Denot) (v : Val) → Told n a x
      → ((b o m : ℕ) → IsBlockSize n m → a ≤ 16 → v ≡ live 1 (vcons (list_val (block_ptr b o)) vnil) → Seq K 𝓛 (‵ (bytes_at (block_ptr b o) m) ∷ Γ) G)
      → (v ≡ live 0 vnil → Seq K 𝓛 Γ G) → Seq K 𝓛 (‵ (Taken.own_val x (v ∷ [])) ∷ Γ) G
  taken t n a None v told some none =
      fpick t (λ us. fsplit t $ feq_l t (λ is. fpick t (λ vss. fsplit t $ feq_l t (λ is'. drop t $ none (ap only is ∙ ap (λ (ws : List Val). live 0 (of_list ws)) is')))))
  taken t n a (Some w) v told some none =
      fpick t (λ us. fsplit t $ feq_l t (λ is. fpick t (λ vss. fsplit t $ feq_l t (λ is'. fsplit t $ move t (1 ∷ []) $ drop t $ fsplit t $ pure_l t (list_own w.start vss.0) (λ s.
      in_a_block t w.start (λ p. bytes_at p w.bytes) (id⊢ 𝓤 (never 𝓤)) (λ b o at.
      some b o w.bytes told.0 told.1
      (ap only is ∙ ap (λ (xs : List Val). live 1 (of_list xs)) (is' ∙ ap (λ (xs : List Val). xs ++ []) (list_told w.start vss.0 s).0) ∙ ap (λ (p : Ptr). live 1 (vcons (list_val p) vnil)) at)))))))
