-- `tellwydar_node_set_room` meets its contract: what lies behind the handle is lent for a lifetime of the one call, and comes back.
use Rattle.std.proofs.Common.{ℕ, [], ◌∷◌, ◌++◌, refl, w32, w64}
use Rattle.std.proofs.raw_atomic.Walks.{proved}
use base.Fraction.{full_share}
use base.Logic.{id⊢, sep}
use base.Fml.{Lft, GName, ftrue, flft, flent}
use mir.Syntax.{named}
use mir.Val.{vint, vptr}
use prog.Wp.{WpFn}
use contract.Monad.{fact}
use contract.Running.{tables}
use types.Logic.{sem}
use types.SemTy.{Body}
use types.Kit.{‵, raw, ◌⊛◌, some, later, prop, ◌$◌, ◌∵◌, !, qed, move, keep, drop, use1, use2, use3, split, join, fsplit, fjoin, pick, await, regoal, suffices, frame, show, group, done}
use types.Run.{enter, addr, stop, of_opd, no_more, and_then, returns}
use types.ByLocal.{alloc_all, pass_all, free_all, look_at, get, through, sets, lands_as}
use types.Tokens.{lft_new, lft_end}
use denote.Builtin.{u32, u64}
use denote.Exit.{yes}
use denote.Laws.{Is, shows}
use denote.Lend.{lends_ref, ref_back}
use denote.Memory.{mem}
use denote.Plain.{uint_Lawful, uint_Makes, uint_vals, uint_Tells}
use denote.RawPtr.{Ptr, RawPtr, block_ptr, lies_at, in_a_block, rawptr_vals, rawptr_Tells}
use denote.Ref.{MutRef}
use denote.Signature.{plain}
use denote.Steps.{nothing, owned, peeks, heard}
use denote.Triple.Call.{calls_at}
use denote.Triple.Clauses.{lasts}
use denote.Triple.Entry.{on_entry}
use denote.Triple.Spec.{triple_of}
use denote.Triple.Table.{framed}
use denote.Triple.Walked.{Stays, walk_of, says, stay_dropped, Goes-dropped, ends_at}
use Rattle.reg_c.specs.NodeCourses.{NodeHasRoom}
use Rattle.reg_c.specs.declared.nodes.HeldNode.{HeldNode}
use Rattle.reg_c.specs.contracts.nodes.HeldNode.{the_row as R}
use Rattle.reg_c.specs.contracts.course_handles.tellwydar_node_set_room as f
use Rattle.reg_c.proofs.course_handles.tellwydar_node_set_room.Statement.{statement}
use Rattle.reg_c.proofs.course_handles.tellwydar_node_set_room.Code as code
use Rattle.reg_c.specs.contracts.node_courses.set_room as g
use Rattle.reg_c.proofs.node_courses.set_room.Met.{met}

abbrev stayed : Stays f.ended.signature.params f.ended.kept
stayed = (stay_dropped _ yes, (stay_dropped _ yes, (stay_dropped _ yes, (stay_dropped _ yes, tt))))

pub tellwydar_node_set_room_spec : {M : Type 1} → statement M
tellwydar_node_set_room_spec 𝓤 𝓛 𝓜 𝓡 wired =
    let c = f.clauses 𝓛 𝓜.mem 𝓡.returns in let W = walk_of 𝓛 f.ended stayed c in let 𝓣 = tables 𝓤 𝓛.H 𝓜 𝓡 𝓡.env in
    proved 𝓛 f.ended stayed c 𝓜 𝓡 (Goes-dropped 𝓛 0 (plain (λ _. RawPtr)) yes (λ κs x w. refl), (Goes-dropped 𝓛 0 (plain (λ _. u64)) yes (λ κs x w. refl), (Goes-dropped 𝓛 0 (plain (λ _. u64)) yes (λ κs x w. refl), (Goes-dropped 𝓛 0 (plain (λ _. u64)) yes (λ κs x w. refl), tt))))
    f.Key.name code.function (code.unfolded 𝓤 𝓛.H 𝓜 𝓡 wired)
    (λ κs. (rawptr_vals, (uint_vals w64, (uint_vals w64, (uint_vals w64, tt))))) (λ κs. (rawptr_Tells, (uint_Tells w64, (uint_Tells w64, (uint_Tells w64, tt))))) (λ κs qs bounds a held are. let x0 = a.1.0 in let x1 = a.1.1.0 in let x2 = a.1.1.1.0 in
    let y : Ptr → W.Ghost = λ p. ((κs, qs, bounds, (p, (a.1.0, (a.1.1.0, (a.1.1.1.0, tt)))), (rawptr_vals p, (uint_vals w64 a.1.0, (uint_vals w64 a.1.1.0, (uint_vals w64 a.1.1.1.0, tt))))), held) in
    qed 𝓛 (raw (on_entry 𝓛 f.signature κs qs a (y a.0).0.4) ∷ ‵ (lies_at R full_share a.0 held) ∷ []) ∵ drop ! $
    in_a_block ! a.0 (λ p. lies_at R full_share p held) (id⊢ 𝓤 _) (λ b o e.
    regoal ! (λ p. prop (WpFn 𝓤 𝓛.H 𝓣.C 𝓣.Λ code.function (rawptr_vals p ++ (vint w64 a.1.0 ∷ vint w64 a.1.1.0 ∷ vint w64 a.1.1.1.0 ∷ [])) (W.post (y p)))) e refl $
    enter ! _ _ _ _ _ $ alloc_all ! (λ l. pass_all ! refl ((tt, tt), ((tt, record { fits = are.1.0.1 }), ((tt, record { fits = are.1.1.0.1 }), ((tt, record { fits = are.1.1.1.0.1 }), tt)))) $
    lft_new ! tt (λ α. let κ : Lft = α ∷ [] in
    -- [the token; what is held; the locals]
    move ! (1 ∷ []) $ use1 𝓛 (later (some (λ (γ : GName). ‵ ((MutRef (named 0) κ R).own_val (record { ref_ptr = (b, o); ghost_name = γ; now = held }) (vptr b o ∷ [])) ⊛ ‵ (flent κ (Body (mem R) b o γ)))))
    (lends_ref 𝓛 R (named 0) κ held b o) $ await ! tt $ pick ! (λ γ. split ! $
    -- [the loan; what the lender keeps; the token; the locals]
    sets ! (of_opd ! (get ! refl)) refl (tt, tt) $ sets ! (addr ! (through ! refl (stop !))) refl (tt, tt) $
    let G = triple_of 𝓛 g.signature (g.spec 𝓛 𝓜.mem 𝓡.returns) in
    let z : G.Ghost = (((κ, tt), (full_share, tt), tt, (record { ref_ptr = (b, o); ghost_name = γ; now = held }, (a.1.0, (a.1.1.0, (a.1.1.1.0, tt)))), (vptr b o ∷ [], (uint_vals w64 a.1.0, (uint_vals w64 a.1.1.0, (uint_vals w64 a.1.1.1.0, tt))))), tt) in
    nothing ! $ owned ! u64 (Is u64) (uint_Makes 𝓛 w64) a.1.1.1.0 _ (refl, are.1.1.1.0.1) $ fjoin ! $ owned ! u64 (Is u64) (uint_Makes 𝓛 w64) a.1.1.0 _ (refl, are.1.1.0.1) $ fjoin ! $ owned ! u64 (Is u64) (uint_Makes 𝓛 w64) a.1.0 _ (refl, are.1.0.1) $ fjoin ! $ move ! (1 ∷ 0 ∷ []) $ fjoin ! $ nothing ! $ move ! (3 ∷ 0 ∷ []) $ join ! $ join ! $
    nothing ! $ move ! (1 ∷ 0 ∷ []) $ use2 𝓛 (raw (G.pre z)) (id⊢ 𝓤 _) $
    calls_at ! (framed 𝓤 𝓛.H 𝓜 𝓣) G (met 𝓤 𝓛 𝓜 𝓡 (code.calls-reg_c::node_courses::set_room 𝓡.env wired)) z
    (and_then ! (get ! refl) (and_then ! (get ! refl) (and_then ! (get ! refl) (and_then ! (get ! refl) (no_more !))))) (λ v.
    use1 𝓛 (later (some (λ (r : ℕ). ((‵ (flft κ full_share) ⊛ ‵ ftrue) ⊛ ‵ (u32.own_val r (v ∷ []))) ⊛
    some (λ (ws : HeldNode × (Unit {0} × (Unit {0} × (Unit {0} × Unit {0})))). ‵ (lasts g.ended z.0.0 z.0.3 ws) ⊛ raw (fact 𝓤 (NodeHasRoom x0 x1 x2 held ws.0 r)))))) (id⊢ 𝓤 _) $
    await ! tt $ pick ! (λ r. split ! $ split ! $ split ! $ lft_end ! tt $
    -- [the lifetime is over; nothing; the result; what the call ensures; what the lender keeps; the locals]
    move ! (3 ∷ []) $ pick ! (λ ws. split ! $ move ! (1 ∷ []) $ heard ! _ (λ f0. fsplit ! $ fsplit ! $
    -- [the loan's last value; its borrow; nothing; the lifetime is over; nothing; the result; what the lender keeps; the locals]
    move ! (3 ∷ 6 ∷ 0 ∷ []) $ use3 𝓛 (later (‵ ((mem R).own_at ws.0 b o))) (ref_back 𝓛 R κ γ ws.0 b o) $ await ! tt $
    -- [what is held; the loan's borrow; nothing; nothing; the result; the locals]
    move ! (4 ∷ []) $ peeks ! u32 (Is u32) (shows 𝓛 u32) r (v ∷ []) (λ is. lands_as ! refl refl ((uint_Lawful 𝓛 w32).typed r _ is).0 $
    returns ! (look_at ! 0 refl) $ free_all ! refl $ keep ! (0 ∷ 1 ∷ []) $
    suffices ! _ (ends_at 𝓛 f.ended stayed c (y (block_ptr b o)) v r (tt, (tt, (tt, (tt, tt)))) (tt, (tt, (tt, (tt, tt))))) $
    nothing ! $ nothing ! $ join ! $ nothing ! $ join ! $ nothing ! $ join ! $ nothing ! $ join ! $ nothing ! $ group ! 3 $ frame ! $
    show ! (λ (h : HeldNode). sep 𝓤 (sem 𝓛 (lies_at R full_share (block_ptr b o) h)) (fact 𝓤 (NodeHasRoom x0 x1 x2 held h r))) ws.0 $ says ! f0 $ done !))))))))))
