-- What a walk has of an unboxed value and of a result, at their machine values, and of the world or the process that
-- was opened. Assumes `Logic`.
--     word, unboxed_out     an unboxed value is a struct of one pointer, and owns what lies there
--     result_out            a result is what its live variant holds, and a fact of it that variant's
--     tells                 a fact that is the goal's first part
--     front_named, process_front           a world, and a process, is of one of the three front ends
use Rattle.std.proofs.Common.{◌≡◌, ◌<◌, ℕ, Some, List, [], ◌∷◌, ◌++◌, ap, ◌∙◌, arith}
use seplogic.Ra.Ura.{Ura}
use mir.Val.{Val, vptr, vstruct, vcons, vnil, of_list}
use base.Fraction.{full_share}
use base.Logic.{SProp, id⊢, via, sep, emp, emp∗, mono_l}
use contract.Monad.{fact, fact_i}
use types.Logic.{Logic}
use types.Kit.{Goal, Step, step, Seq, Item, prop, ‵, ◌$◌, move, drop, fsplit, fpick, feq_l}
use types.Match.{live}
use denote.Builtin.{u32}
use denote.RattleType.{RattleType}
use denote.RawPtr.{Ptr, block_ptr, ptr_val, lies_at, in_a_block}
use Rattle.std.specs.contracts.result.Result as results
use Rattle.std.specs.declared.result.Result.TheVariants.{Ok, Err}
use Rattle.reg_base.specs.Shape.{Extent}
use Rattle.reg_c.specs.declared.holding.Kept.{Kept}
use Rattle.reg_c.specs.Worlds.{kept_at_first}
use Rattle.reg_c.specs.declared.processes.KeptProcess.{KeptProcess}
use Rattle.reg_c.specs.Processes.{process_at_first}
use Rattle.reg_c.specs.contracts.unboxed.Unboxed as unboxed

abbrev pub word : ℕ → ℕ → Val
word b o = vstruct (vcons (vptr b o) vnil)

module _ (R : RattleType) {M : Type 1} {𝓤 : Ura M} {𝓛 : Logic 𝓤} {K : Type 0} {Γ : List (Item 𝓤)} {G : Goal 𝓤 𝓛.H} where
  pub unboxed_out : K → (u : (unboxed.the_row R).Denot) (vs : List Val)
      → ((b o : ℕ) → u.at ≡ block_ptr b o → vs ≡ word b o ∷ [] → Seq K 𝓛 (‵ (lies_at R full_share (block_ptr b o) u.value) ∷ Γ) G)
      → Seq K 𝓛 (‵ ((unboxed.the_row R).own_val u vs) ∷ Γ) G
  unboxed_out t u vs go =
      fsplit t $ fpick t (λ vss. fsplit t $ feq_l t (λ ev. fsplit t $ feq_l t (λ ep. drop t $
      in_a_block t u.at (λ p. lies_at R full_share p u.value) (id⊢ 𝓤 _) (λ b o e. go b o e
      (ev ∙ ap (λ (ws : List Val). vstruct (of_list (ws ++ [])) ∷ []) ep ∙ ap (λ (p : Ptr). vstruct (vcons (ptr_val p) vnil) ∷ []) e)))))

  pub result_out : K → (P : (results.the_row R u32).Denot → Type 0) (r : (results.the_row R u32).Denot) (vs : List Val)
      → P r
      → ((x : R.Denot) (us : List Val) → P (Ok x) → vs ≡ live 0 (of_list (us ++ [])) ∷ [] → Seq K 𝓛 (‵ (R.own_val x us) ∷ Γ) G)
      → ((n : ℕ) (us : List Val) → P (Err n) → vs ≡ live 1 (of_list (us ++ [])) ∷ [] → Seq K 𝓛 (‵ (u32.own_val n us) ∷ Γ) G)
      → Seq K 𝓛 (‵ ((results.the_row R u32).own_val r vs) ∷ Γ) G
  result_out t P (Ok x) vs p ok err = fpick t (λ us. fsplit t $ feq_l t (λ e. fpick t (λ uss. fsplit t $ feq_l t (λ f. fsplit t $ move t (1 ∷ []) $ drop t $
      ok x uss.0 p (e ∙ ap (λ (ws : List Val). live 0 (of_list ws) ∷ []) f)))))
  result_out t P (Err n) vs p ok err = fpick t (λ us. fsplit t $ feq_l t (λ e. fpick t (λ uss. fsplit t $ feq_l t (λ f. fsplit t $ move t (1 ∷ []) $ drop t $
      err n uss.0 p (e ∙ ap (λ (ws : List Val). live 1 (of_list ws) ∷ []) f)))))

pub tells : {M : Type 1} {𝓤 : Ura M} {𝓛 : Logic 𝓤} {K : Type 0} {Γ : List (Item 𝓤)} → K → {φ : Type 0} {P : SProp 𝓤} → φ
    → Step K 𝓛 Γ (prop P) Γ (prop (sep 𝓤 (fact 𝓤 φ) P))
tells {𝓤 = 𝓤} t {φ} {P} x =
    step (λ s. record { prf = via 𝓤 P s.prf (via 𝓤 (sep 𝓤 (emp 𝓤) P) (emp∗ 𝓤 P) (mono_l 𝓤 P (fact_i 𝓤 φ (emp 𝓤) x))) })

pub front_named : (front : ℕ) (shape : Extent) (kept : Kept) → kept_at_first front shape ≡ Some kept → front < 3
front_named front shape kept is = grind arith

pub process_front : (front me : ℕ) (shape : Extent) (kept : KeptProcess) → process_at_first front me shape ≡ Some kept
    → front < 3
process_front front me shape kept is = grind arith
