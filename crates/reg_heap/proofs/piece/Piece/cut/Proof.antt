-- `cut` gives both parts of what the piece owns. Assumes `Logic`.
use Rattle.std.proofs.Common.{◌≡◌, ◌+◌, ◌-◌, ◌%◌, ◌≤◌, List, [], ◌∷◌, ◌++◌, refl, ap, ◌∙◌, arith, w64}
use mir.Syntax.{Fn}
use mir.Val.{Val, vint, vptr}
use base.Logic.{SProp, emp, never, id⊢}
use prog.Wp.{Env, WpFn}
use contract.Monad.{fact, fact_i}
use contract.Running.{tables}
use denote.RattleType.{owns}
use denote.Signature.{types_at}
use denote.Steps.{nothing, heard}
use denote.Triple.Entry.{alive}
use denote.Triple.Walked.{Stays, stay_dropped, walk_of, Goes-dropped}
use Rattle.core.proofs.alloc.Calls.{Goes-blank}
use Rattle.core.proofs.alloc.Shapes.{after}
use Rattle.std.proofs.raw_atomic.Walks.{proved_at, leaves}
use Rattle.std_alloc.proofs.Pairs.{pair_of, pair_val}
use Rattle.linked_list_allocator.specs.Ownership.{bytes_at}
use Rattle.linked_list_allocator.proofs.Values.{list_val, list_own, list_told, list_made}
use types.Kit.{‵, raw, ◌⊛◌, prop, at_ret, ◌$◌, ◌∵◌, !, qed, by, move, drop, use0, use1, use2, split, regoal, fsplit}
use types.Kit.{fjoin}
use types.Part.{whole, sub, agg}
use types.Run.{stop, fld, bin, of_opd, no_more, and_then, first, blocks, exec, returns, enter}
use types.ByLocal.{alloc_all, pass_all, free_all, look_at, get, get_in, sets, sets_last, is, env}
use denote.RawPtr.{Ptr, block_ptr, in_a_block}
use denote.Struct.Tuple.{Tuple}
use Rattle.linked_list_allocator.proofs.Nodes.{cuts, resized}
use Rattle.reg_heap.proofs.Walks.{slot_at}
use Rattle.reg_heap.specs.contracts.piece.Piece as piece
use Rattle.reg_heap.specs.contracts.piece.Piece.cut.{ended, clauses}
use Rattle.reg_heap.specs.contracts.piece.Piece.cut.Key.{name as #self}
use Rattle.reg_heap.proofs.piece.Piece.cut.Statement.{statement}
use Rattle.reg_heap.proofs.piece.Piece.cut.Code as compiled

pub cut_spec : {M : Type 1} → statement M
cut_spec 𝓤 𝓛 𝓜 𝓡 wired =
    let H = 𝓛.H in
    let En₀ = ended in
    let c = clauses 𝓛 𝓜.mem 𝓡.returns in
    let fn : Fn = compiled.function in
    let stays : Stays En₀.signature.params En₀.kept = (stay_dropped (slot_at 0 En₀.signature.params) En₀.kept.0, (stay_dropped (slot_at 1 En₀.signature.params) En₀.kept.1.0, tt)) in
    let C = (tables 𝓤 H 𝓜 𝓡 𝓡.env).C in
    let Λ = (tables 𝓤 H 𝓜 𝓡 𝓡.env).Λ in
    proved_at 𝓛 En₀ stays c 𝓜 𝓡 (Goes-blank 𝓛 0 (slot_at 0 En₀.signature.params) En₀.kept.0 (λ κs x f. tt), (Goes-dropped 𝓛 0 (slot_at 1 En₀.signature.params) En₀.kept.1.0 (λ κs x f. refl), tt)) #self fn (compiled.unfolded 𝓤 H 𝓜 𝓡 wired) (λ z are.
    let Post : Val → SProp 𝓤 = (walk_of 𝓛 En₀ stays c).post z in
    let a = z.0.3 in
    let vss = z.0.4 in
    let x = a.0 in
    let n = a.1.0 in
    let left = x.bytes - n in
    let told = list_told x.start vss.0 are.0.0 in
    let Whole : Type 0 = n % 16 ≡ 0 in
    let Within : Type 0 = n ≤ x.bytes in
    qed 𝓛 ((raw (alive 𝓛 En₀.signature z.0.0 z.0.1) ⊛ ‵ (owns (types_at En₀.signature.params z.0.0) a vss)) ∷ (raw (fact 𝓤 Whole) ⊛ raw (fact 𝓤 Within)) ∷ []) ∵
    move ! (1 ∷ []) $ split ! $ heard ! Whole (λ even. heard ! Within (λ within. split ! $ move ! (1 ∷ []) $ fsplit ! $ fsplit ! $ drop ! $ move ! (1 ∷ []) $ drop ! $
    in_a_block ! x.start (λ p. bytes_at p x.bytes) (id⊢ 𝓤 (never 𝓤)) (λ b o at.
    let start : Ptr = block_ptr b o in let behind : Ptr = block_ptr b (o + n) in
    use1 𝓛 (‵ (bytes_at start (n + left))) (resized 𝓛 b o x.bytes (n + left) (omega arith)) $ use1 𝓛 (‵ (bytes_at start n) ⊛ ‵ (bytes_at behind left)) (cuts 𝓛 b o n left even) $ split ! $
    regoal ! (λ (us : List Val). prop (WpFn 𝓤 H C Λ fn us Post)) (λ i. (told.0 ∙ ap (λ (p : Ptr). list_val p ∷ []) at) i ++ (are.1.0.0 i ++ [])) refl $
    enter ! C Λ fn (list_val start ∷ vint w64 n ∷ []) Post $
    alloc_all ! (λ l. pass_all ! refl ((tt, (tt, tt)), ((tt, record { fits = are.1.0.1 }), tt)) $ let En : Env 𝓤 𝓛.H = env fn.locals l in
    sets ! (of_opd ! (get_in ! (fld ! refl (stop !)) (sub ! 0 refl (whole !)))) refl (tt, tt) $
    first ! $ blocks ! $
    sets_last ! (is ! (bin ! (get ! refl) (get ! refl) tt) (ap (vptr b) (omega arith))) refl (tt, tt) $
    exec ! C Λ En (after 2 fn.body) (at_ret En Post) $
    sets ! (of_opd ! (get ! refl)) refl (tt, tt) $
    sets ! (agg ! (and_then ! (get ! refl) (no_more !))) refl (tt, (tt, tt)) $
    sets ! (agg ! (and_then ! (get ! refl) (no_more !))) refl (tt, (tt, tt)) $
    sets ! (agg ! (and_then ! (get ! refl) (and_then ! (get ! refl) (no_more !)))) refl (tt, ((tt, tt), ((tt, tt), tt))) $
    returns ! (look_at ! 0 refl) $ free_all ! refl $
    let w : (piece.the_row).Denot = record { start = start; bytes = n } in let y : (piece.the_row).Denot = record { start = behind; bytes = left } in
    move ! (1 ∷ []) $ use0 𝓛 (‵ (list_own behind (list_val behind ∷ []))) (list_made 𝓛 behind tt) $ fjoin ! $
    move ! (1 ∷ []) $ use0 𝓛 (‵ (list_own start (list_val start ∷ []))) (list_made 𝓛 start tt) $ fjoin ! $
    let v : Val = pair_val (list_val start) (list_val behind) in
    use2 𝓛 (‵ ((Tuple (piece.the_row ∷ piece.the_row ∷ [])).own_val (w, y) (v ∷ []))) (pair_of 𝓛 (piece.the_row) (piece.the_row) w y (list_val start) (list_val behind)) $
    use0 𝓛 (raw (fact 𝓤 ((n ≡ n) × (left ≡ left)))) (fact_i 𝓤 ((n ≡ n) × (left ≡ left)) (emp 𝓤) (refl, refl)) $ nothing ! $ nothing ! $ fjoin ! $ nothing ! $ fjoin ! $ move ! (3 ∷ 0 ∷ 2 ∷ 1 ∷ []) $
    by ! (leaves 𝓛 En₀ stays c z v (w, y) (tt, (tt, tt)) (tt, (tt, tt))))))))
