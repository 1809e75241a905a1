-- `put` writes the place of the pile's first piece into the new one. Assumes `Logic`.
use Rattle.std.proofs.Common.{◌≡◌, ℕ, suc, ◌+◌, ◌%◌, ◌≤◌, List, [], ◌∷◌, ◌++◌, refl, ap, ◌∙◌, arith}
use mir.Syntax.{Fn}
use mir.Val.{Val}
use base.Fraction.{full_share}
use base.Logic.{SProp, emp, never, id⊢}
use base.Fml.{fat, froom, fsep, fwand}
use prog.Wp.{Env, WpFn}
use contract.Monad.{fact, fact_i}
use contract.Running.{tables}
use denote.RattleType.{owns}
use denote.Signature.{types_at}
use denote.Steps.{nothing, heard}
use denote.Triple.Entry.{alive}
use denote.Triple.Walked.{Stays, stay_dropped, walk_of}
use Rattle.core.proofs.alloc.Calls.{Goes-blank}
use Rattle.core.proofs.alloc.Shapes.{after}
use Rattle.std.proofs.raw_atomic.Walks.{proved_at, leaves}
use Rattle.linked_list_allocator.specs.Ownership.{bytes_at}
use Rattle.linked_list_allocator.proofs.Values.{ptr_typed, list_val, list_own, list_told, list_made, list_typed}
use mir.Syntax.{ty_ptr}
use types.Kit.{‵, raw, ◌⊛◌, prop, at_ret, ◌$◌, ◌∵◌, !, qed, by, move, drop, use0, use1, split, rewrite, regoal, fsplit}
use types.Kit.{fjoin, fpack}
use types.Part.{whole, sub, agg}
use types.Run.{stop, fld, init, of_opd, no_more, and_then, assigns_last, first, blocks, exec, returns, enter}
use types.ByLocal.{alloc_all, pass_all, free_all, look_at, get, get_in, through, sets, env}
use denote.RawPtr.{Ptr, block_ptr, ptr_val, in_a_block}
use Rattle.linked_list_allocator.proofs.Nodes.{retypes}
use Rattle.reg_heap.specs.Owned.{pile as pieces}
use Rattle.reg_heap.proofs.Walks.{slot_at}
use Rattle.reg_heap.specs.contracts.pile.Pile as pile
use Rattle.reg_heap.specs.contracts.pile.Pile.put.{ended, clauses}
use Rattle.reg_heap.specs.contracts.pile.Pile.put.Key.{name as #self}
use Rattle.reg_heap.proofs.pile.Pile.put.Statement.{statement}
use Rattle.reg_heap.proofs.pile.Pile.put.Code as compiled

pub put_spec : {M : Type 1} → statement M
put_spec 𝓤 𝓛 𝓜 𝓡 wired =
    let H = 𝓛.H in
    let En₀ = ended in
    let c = clauses 𝓛 𝓜.mem 𝓡.returns in
    let fn : Fn = compiled.function in
    let stays : Stays En₀.signature.params En₀.kept = (stay_dropped (slot_at 0 En₀.signature.params) En₀.kept.0, (stay_dropped (slot_at 1 En₀.signature.params) En₀.kept.1.0, tt)) in
    let C = (tables 𝓤 H 𝓜 𝓡 𝓡.env).C in
    let Λ = (tables 𝓤 H 𝓜 𝓡 𝓡.env).Λ in
    proved_at 𝓛 En₀ stays c 𝓜 𝓡 (Goes-blank 𝓛 0 (slot_at 0 En₀.signature.params) En₀.kept.0 (λ κs x f. tt), (Goes-blank 𝓛 0 (slot_at 1 En₀.signature.params) En₀.kept.1.0 (λ κs x f. tt), tt)) #self fn (compiled.unfolded 𝓤 H 𝓜 𝓡 wired) (λ z are.
    let Post : Val → SProp 𝓤 = (walk_of 𝓛 En₀ stays c).post z in
    let a = z.0.3 in
    let vss = z.0.4 in
    let x = a.0 in
    let w = a.1.0 in
    let m = x.bytes in
    let told = list_told x.first vss.0 are.0.0 in
    let told' = list_told w.start vss.1.0 are.1.0.0 in
    let Same : Type 0 = w.bytes ≡ m in
    let Sized : Type 0 = (16 ≤ m) × (m % 16 ≡ 0) in
    qed 𝓛 ((raw (alive 𝓛 En₀.signature z.0.0 z.0.1) ⊛ ‵ (owns (types_at En₀.signature.params z.0.0) a vss)) ∷ (raw (fact 𝓤 Same) ⊛ raw (fact 𝓤 Sized)) ∷ []) ∵
    move ! (1 ∷ []) $ split ! $ heard ! Same (λ same. heard ! Sized (λ sized. split ! $ move ! (1 ∷ []) $ fsplit ! $ fsplit ! $ drop ! $ move ! (1 ∷ []) $ fsplit ! $ fsplit ! $ drop ! $ move ! (1 ∷ []) $ drop ! $
    in_a_block ! w.start (λ p. bytes_at p w.bytes) (id⊢ 𝓤 (never 𝓤)) (λ b o at.
    let start : Ptr = block_ptr b o in
    rewrite ! 0 (λ (k : ℕ). ‵ (bytes_at start k)) same refl $
    use1 𝓛 (‵ (froom ty_ptr b o) ⊛ ‵ (fwand (froom ty_ptr b o) (bytes_at start m))) (retypes 𝓛 b ty_ptr o m sized.1 (omega arith) tt) $ split ! $
    -- [room for the place; with it the piece; the pile]
    regoal ! (λ (us : List Val). prop (WpFn 𝓤 H C Λ fn us Post)) (λ i. told.0 i ++ ((told'.0 ∙ ap (λ (p : Ptr). list_val p ∷ []) at) i ++ [])) refl $
    enter ! C Λ fn (list_val x.first ∷ list_val start ∷ []) Post $
    alloc_all ! (λ l. pass_all ! refl (list_typed x.first tt, ((tt, (tt, tt)), tt)) $ let En : Env 𝓤 𝓛.H = env fn.locals l in
    sets ! (of_opd ! (get_in ! (fld ! refl (stop !)) (sub ! 0 refl (whole !)))) refl (ptr_typed x.first) $
    sets ! (of_opd ! (get_in ! (fld ! refl (stop !)) (sub ! 0 refl (whole !)))) refl (tt, tt) $
    first ! $ blocks ! $
    sets ! (of_opd ! (get ! refl)) refl (tt, tt) $
    assigns_last ! (of_opd ! (get ! refl)) (through ! refl (stop !)) (init ! 0 refl (ptr_typed x.first)) $
    exec ! C Λ En (after 3 fn.body) (at_ret En Post) $
    sets ! (agg ! (and_then ! (get ! refl) (no_more !))) refl (tt, (tt, tt)) $
    returns ! (look_at ! 0 refl) $ free_all ! refl $
    let y : (pile.the_row).Denot = record { first = start; count = suc x.count; bytes = m } in
    fjoin ! $ fjoin ! $ fpack ! Ptr (λ next. fsep (fsep (fat full_share ty_ptr b o (ptr_val next)) (fwand (froom ty_ptr b o) (bytes_at start m))) (pieces m x.count next)) x.first $
    use0 𝓛 (‵ (list_own start (list_val start ∷ []))) (list_made 𝓛 start tt) $ fjoin ! $
    use0 𝓛 (raw (fact 𝓤 ((suc x.count ≡ x.count + 1) × (m ≡ m)))) (fact_i 𝓤 ((suc x.count ≡ x.count + 1) × (m ≡ m)) (emp 𝓤) (omega arith, refl)) $ nothing ! $ nothing ! $ fjoin ! $ nothing ! $ fjoin ! $ move ! (3 ∷ 0 ∷ 2 ∷ 1 ∷ []) $
    by ! (leaves 𝓛 En₀ stays c z (list_val start) y (tt, (tt, tt)) (tt, (tt, tt))))))))
