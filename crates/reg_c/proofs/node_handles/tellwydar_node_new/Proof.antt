-- `tellwydar_node_new` hands out the pointer to what `new` made: a result is taken apart, and the handle is lent to
-- `put` and comes back.
use Rattle.std.proofs.Common.{◌≡◌, ◌<◌, ℕ, List, [], ◌∷◌, ◌++◌, refl, ap, ◌∙◌, lit<, arith, w32, MutBor}
use Rattle.std.proofs.raw_atomic.Walks.{proved}
use Rattle.std.proofs.alloc.Shapes.{after, head, arm_body}
use Rattle.std.proofs.alloc.Global.TheLaws as global_laws
use Rattle.std.specs.contracts.alloc.Global as global
use Rattle.std.specs.Prelude.{IfOk, IfErr}
use Rattle.std.specs.contracts.result.Result as results
use base.Fraction.{full_share}
use base.Logic.{SProp, id⊢, sep, ex}
use base.Fml.{ftrue, flft, fres}
use mir.Syntax.{named, Body}
use mir.Val.{Val, vint, vptr, of_list}
use prog.Wp.{Wp, after_seq, at_return}
use contract.Monad.{fact}
use contract.Running.{tables}
use types.Logic.{sem}
use types.Kit.{Post as After, any_q, ‵, raw, ◌⊛◌, some, later, at_ret, ◌$◌, ◌∵◌, !, qed, move, keep, drop, use1, use2}
use types.Kit.{use3, split, join, fsplit, fjoin, feq_i, feq_l, pick, await, rewrite, suffices, frame, show, assume}
use types.Kit.{group, done}
use types.Run.{enter, addr, of_opd, lit, stop, fld, no_more, and_then, first, switches_on, exec, returns}
use types.Part.{whole, sub}
use types.Match.{live, vrt, in_variant}
use types.Tokens.{lft_new, lft_end}
use types.ByLocal.{alloc_all, pass_all, free_all, look_at, get, get_in, get_tag, through, sets, sets_last, lands_as}
use types.ByLocal.{env}
use denote.Builtin.{u32, unit}
use denote.Exit.{yes}
use denote.Laws.{Is, shows}
use denote.Lend.{lends_again, comes_back, LentAgain}
use denote.Plain.{uint_Makes}
use denote.RawPtr.{Ptr, RawPtr, block_ptr, lies_at, rawptr_vals}
use denote.Ref.{MutRef, mut_vals, mut_Tells}
use denote.Signature.{plain}
use denote.Steps.{nothing, owned, only, peeks, heard}
use denote.Struct.Laws as laws
use denote.Struct.Loose.{loose_lawful}
use denote.Triple.Call.{calls_at}
use denote.Triple.Clauses.{lasts}
use denote.Triple.Spec.{triple_of}
use denote.Triple.Table.{framed}
use denote.Triple.Walked.{Stays, walk_of, says, stay_dropped, Goes-dropped, stay_ref, Goes-ref, ends_at}
use Rattle.reg_process.specs.declared.faults.ProcessFault.TheVariants.{OutOfMemory}
use Rattle.reg_c.specs.Events.{refusal_code}
use Rattle.reg_c.specs.Nodes.{IsNothing}
use Rattle.reg_c.specs.declared.nodes.HeldNode.{HeldNode}
use Rattle.reg_c.specs.contracts.nodes.HeldNode.{the_row as R}
use Rattle.reg_c.specs.contracts.unboxed.Unboxed as unboxed
use Rattle.reg_c.specs.contracts.node_handles.tellwydar_node_new as f
use Rattle.reg_c.proofs.node_handles.tellwydar_node_new.Statement.{statement}
use Rattle.reg_c.proofs.node_handles.tellwydar_node_new.Code as code
use Rattle.reg_c.specs.contracts.nodes.new as g
use Rattle.reg_c.proofs.nodes.new.Met.{met}
use Rattle.reg_c.specs.contracts.node_handles.put as p
use Rattle.reg_c.proofs.node_handles.put.Met.{met as put_met}
use Rattle.reg_c.proofs.Received.{unboxed_out, result_out, tells}

abbrev stayed : Stays f.ended.signature.params f.ended.kept
stayed = (stay_dropped _ yes, (stay_ref (0 ∷ []) tt (plain (λ _. RawPtr)), tt))

pub tellwydar_node_new_spec : {M : Type 1} → statement M
tellwydar_node_new_spec 𝓤 𝓛 𝓜 𝓡 wired =
    let c = f.clauses 𝓛 𝓜.mem 𝓡.returns in let W = walk_of 𝓛 f.ended stayed c in let 𝓣 = tables 𝓤 𝓛.H 𝓜 𝓡 𝓡.env in
    proved 𝓛 f.ended stayed c 𝓜 𝓡 (Goes-dropped 𝓛 1 (plain (λ _. global.the_row)) yes (λ κs x w. refl), (Goes-ref 𝓛 1 0 tt (plain (λ _. RawPtr)), tt))
    f.Key.name code.function (code.unfolded 𝓤 𝓛.H 𝓜 𝓡 wired)
    (λ κs. (laws.vals global.the_type global_laws.the_laws, (mut_vals, tt)))
    (λ κs. (laws.tells global.the_type global_laws.the_laws, (mut_Tells (named 0) κs.0 RawPtr, tt)))
    (λ κs qs bounds a _ are.
    let κ = κs.0 in let q = qs.0 in let alloc = a.0 in let handle₀ = a.1.0 in
    let av = laws.vals global.the_type global_laws.the_laws alloc in let b = handle₀.ref_ptr.0 in let o = handle₀.ref_ptr.1 in let vs = mut_vals handle₀ in let Ref = λ (κ' : List ℕ) (x : MutBor Ptr). (MutRef (named 0) κ' RawPtr).own_val x vs in
    let y : W.Ghost = ((κs, qs, bounds, a, (av, (vs, tt))), tt) in
    let Res = results.the_row (unboxed.the_row R) u32 in
    let Of : Res.Denot → Type 0 = λ x. IfOk x (λ u. IsNothing u.value) in
    let Why : Res.Denot → Type 0 = λ x. IfErr x (λ code. code ≡ refusal_code OutOfMemory) in
    let G = triple_of 𝓛 g.signature (g.spec 𝓛 𝓜.mem 𝓡.returns) in
    let z : G.Ghost = ((tt, tt, tt, (alloc, tt), (av, tt)), tt) in
    qed 𝓛 (((‵ (flft κ q) ⊛ ‵ ftrue) ⊛ ‵ (global.the_row.own_val alloc av) ⊛ ‵ (Ref κ handle₀) ⊛ ‵ ftrue) ∷ ‵ ftrue ∷ []) ∵
    split ! $ split ! $ move ! (2 ∷ []) $ split ! $ move ! (1 ∷ []) $ split ! $
    -- [the handle; nothing; the allocator; the token; nothing; what is required]
    keep ! (2 ∷ 1 ∷ 4 ∷ 5 ∷ 0 ∷ 3 ∷ []) $ fjoin ! $ move ! (1 ∷ 0 ∷ []) $ join ! $ join ! $
    use1 𝓛 (raw (G.pre z)) (id⊢ 𝓤 _) $
    -- [what `open` is passed; the handle; the token]
    enter ! _ _ _ _ _ $ alloc_all ! (λ l. pass_all ! refl (((loose_lawful global.the_type global_laws.the_loose 𝓛).typed alloc av are.0).0, ((tt, tt), tt)) $
    calls_at ! (framed 𝓤 𝓛.H 𝓜 𝓣) G (met 𝓤 𝓛 𝓜 𝓡 (code.calls-reg_c::nodes::new 𝓡.env wired)) z
    (and_then ! (get ! refl) (no_more !)) (λ v.
    use1 𝓛 (later (some (λ (r : Res.Denot). (‵ ftrue ⊛ ‵ (Res.own_val r (v ∷ []))) ⊛
    some (λ (ws : Unit {0} × Unit {0}). ‵ (lasts g.ended z.0.0 z.0.3 ws) ⊛
    (raw (fact 𝓤 (Of r)) ⊛ raw (fact 𝓤 (Why r))))))) (id⊢ 𝓤 _) $
    await ! tt $ pick ! (λ r. split ! $ split ! $ drop ! $ move ! (1 ∷ []) $ pick ! (λ ws. split ! $ drop ! $ split ! $ heard ! _ (λ is_new. heard ! _ (λ why.
    -- [the result; the handle; the token; the locals]
    let En = env code.function.locals l in let rest = after 2 code.function.body in let both : Body = head (after 1 code.function.body) in
    let Then : After 𝓤 𝓛.H = any_q (after_seq 𝓤 𝓛.H (Wp 𝓤 𝓛.H 𝓣.C 𝓣.Λ En rest (at_return 𝓤 𝓛.H En (W.post y))) (at_return 𝓤 𝓛.H En (W.post y))) in
    let Made : Ptr → HeldNode → SProp 𝓤 = λ p x. sep 𝓤 (sem 𝓛 (lies_at R full_share p x)) (fact 𝓤 (IsNothing x)) in
    result_out (unboxed.the_row R) ! (λ x. Of x × Why x) r (v ∷ []) (is_new, why)
    (λ u us new told. unboxed_out R ! u us (λ b' o' at_is word_is.
    lands_as ! (ap only told ∙ ap (λ (ws : List Val). live 0 (of_list (ws ++ []))) word_is) refl (tt, (record { fits = lit< tt }, ((tt, tt), tt))) $
    first ! $ switches_on ! (get_tag ! (vrt ! refl (fld ! refl (stop !))) (whole !)) $ exec ! 𝓣.C 𝓣.Λ En (arm_body 0 both) Then $
    sets ! (of_opd ! (get_in ! (vrt ! refl (fld ! refl (stop !))) (in_variant ! 0 0 refl refl (whole !)))) refl (tt, (tt, tt)) $
    sets ! (of_opd ! (get_in ! (fld ! refl (stop !)) (sub ! 0 refl (whole !)))) refl (tt, tt) $
    -- [what lies there; the handle; the token; the locals]
    sets ! (addr ! (through ! refl (stop !))) refl (tt, tt) $
    lft_new ! tt (λ α. move ! (2 ∷ 3 ∷ []) $
    use2 𝓛 (later (some (λ (δ : ℕ). ‵ (Ref (α ∷ []) (record handle₀ { ghost_name = δ })) ⊛ ‵ (LentAgain RawPtr κ (α ∷ []) q handle₀.ghost_name b o δ handle₀.now))))
    (lends_again 𝓛 RawPtr (named 0) κ (α ∷ []) q handle₀.ghost_name b o (named 0) handle₀.now) $ await ! tt $ pick ! (λ δ. split ! $
    -- [the loan; what the lender keeps; its token; what lies there; the locals]
    let P = triple_of 𝓛 p.signature (p.spec 𝓛 𝓜.mem 𝓡.returns) in let at : Ptr = block_ptr b' o' in
    let x : P.Ghost = (((α ∷ [], tt), (full_share, tt), tt, (record handle₀ { ghost_name = δ }, (at, tt)), (vs, (rawptr_vals at, tt))), tt) in
    nothing ! $ feq_i ! (List Val) (vptr b' o' ∷ []) (vptr b' o' ∷ []) refl $ fjoin ! $ move ! (1 ∷ 0 ∷ []) $ fjoin ! $ nothing ! $ move ! (3 ∷ 0 ∷ []) $ join ! $ join ! $
    nothing ! $ move ! (1 ∷ 0 ∷ []) $ use2 𝓛 (raw (P.pre x)) (id⊢ 𝓤 _) $
    calls_at ! (framed 𝓤 𝓛.H 𝓜 𝓣) P (put_met 𝓤 𝓛 𝓜 𝓡 (code.calls-reg_c::node_handles::put 𝓡.env wired)) x (and_then ! (get ! refl) (and_then ! (get ! refl) (no_more !))) (λ nil.
    use1 𝓛 (later (some (λ (r : Unit {0}). ((‵ (flft (α ∷ []) full_share) ⊛ ‵ ftrue) ⊛ ‵ (unit.own_val r (nil ∷ []))) ⊛
    some (λ (ws : Ptr × (Unit {0} × Unit {0})). ‵ (lasts p.ended x.0.0 x.0.3 ws) ⊛ raw (fact 𝓤 (ws.0 ≡ at)))))) (id⊢ 𝓤 _) $
    await ! tt $ pick ! (λ _. split ! $ split ! $ split ! $ lft_end ! tt $ move ! (2 ∷ []) $ feq_l ! (λ is_unit. lands_as ! (ap only is_unit) refl (tt, tt) $
    move ! (2 ∷ []) $ pick ! (λ ws. split ! $ move ! (1 ∷ []) $ heard ! _ (λ is. fsplit ! $ fsplit ! $ rewrite ! 0 (λ (w : Ptr). ‵ (fres δ (RawPtr.coded.code w))) is refl $
    -- [the loan's last value; its borrow; nothing; its lifetime is over; nothing; what the lender keeps; what lies there; the locals]
    move ! (3 ∷ 5 ∷ 0 ∷ []) $ use3 𝓛 (later (‵ (Ref κ (record handle₀ { now = at })) ⊛ ‵ (flft κ q))) (comes_back 𝓛 RawPtr (named 0) κ (α ∷ []) q handle₀.ghost_name b o δ handle₀.now at) $ await ! tt $ split ! $
    sets_last ! (of_opd ! (lit ! tt)) refl (tt, record { fits = lit< tt }) $ exec ! 𝓣.C 𝓣.Λ En rest (at_ret En (W.post y)) $ sets ! (of_opd ! (get ! refl)) refl (tt, record { fits = lit< tt }) $
    returns ! (look_at ! 0 refl) $ free_all ! refl $ keep ! (0 ∷ 1 ∷ 5 ∷ []) $
    -- [the handle; the token; what lies there]
    suffices ! _ (ends_at 𝓛 f.ended stayed c y (vint w32 0) 0 (tt, (block_ptr b' o', tt)) (tt, (tt, tt))) $
    nothing ! $ move ! (1 ∷ 0 ∷ []) $ join ! $ nothing ! $ join ! $ nothing ! $ move ! (2 ∷ 0 ∷ []) $ join ! $
    owned ! u32 (Is u32) (uint_Makes 𝓛 w32) 0 _ (refl, lit< tt) $ move ! (1 ∷ 2 ∷ 0 ∷ []) $ group ! 3 $ frame ! $ tells ! (λ (pos : 0 < 0). absurd (omega (arith, pos))) $ tells ! (λ (pos : 0 < 0). absurd (omega (arith, pos))) $
    assume ! (raw (fact 𝓤 (0 ≡ 0))) $ drop ! $ show ! (Made (block_ptr b' o')) u.value $ says ! new.0 $ done !)))))))))
    (λ n us new told. peeks ! u32 (Is u32) (shows 𝓛 u32) n us (λ is.
    lands_as ! (ap only told ∙ ap (λ (ws : List Val). live 1 (of_list (ws ++ []))) is.0) refl (tt, (record { fits = lit< tt }, (record { fits = is.1 }, tt))) $
    first ! $ switches_on ! (get_tag ! (vrt ! refl (fld ! refl (stop !))) (whole !)) $ exec ! 𝓣.C 𝓣.Λ En (arm_body 1 both) Then $
    sets ! (of_opd ! (get_in ! (vrt ! refl (fld ! refl (stop !))) (in_variant ! 1 0 refl refl (whole !)))) refl (tt, record { fits = is.1 }) $ sets_last ! (of_opd ! (get ! refl)) refl (tt, record { fits = is.1 }) $
    exec ! 𝓣.C 𝓣.Λ En rest (at_ret En (W.post y)) $ sets ! (of_opd ! (get ! refl)) refl (tt, record { fits = is.1 }) $
    returns ! (look_at ! 0 refl) $ free_all ! refl $ rewrite ! 0 (λ (ws : List Val). ‵ (u32.own_val n ws)) is.0 refl $ keep ! (1 ∷ 0 ∷ 2 ∷ []) $
    suffices ! _ (ends_at 𝓛 f.ended stayed c y (vint w32 n) n (tt, (handle₀.now, tt)) (tt, (tt, tt))) $
    nothing ! $ move ! (1 ∷ 0 ∷ []) $ join ! $ nothing ! $ join ! $ nothing ! $ move ! (3 ∷ 0 ∷ []) $ join ! $
    let some_code : 0 < n = (let is_23 : n ≡ 23 = new.1 in omega (arith, is_23)) in
    group ! 3 $ frame ! $ tells ! (λ _. refl) $ tells ! (λ _. new.1) $
    assume {P = ex 𝓤 (Made handle₀.now)} ! (raw (fact 𝓤 (n ≡ 0))) $ heard ! _ (λ zero'. absurd (omega (arith, zero', some_code))))))))))))
