-- `take` reads the place of the second piece from the first. Assumes `Logic`.
use Rattle.std.proofs.Common.{◌≡◌, ℕ, suc, ◌+◌, ◌<◌, List, [], ◌∷◌, ◌++◌, refl, ap, ◌∙◌, arith}
use mir.Syntax.{Fn}
use mir.Val.{Val}
use base.Logic.{SProp, emp, never, id⊢, apply∗}
use base.Fml.{froom}
use prog.Wp.{Env, WpFn}
use contract.Monad.{fact, fact_i}
use contract.Running.{tables}
use types.Logic.{sem}
use denote.RattleType.{owns}
use denote.Signature.{types_at}
use denote.Steps.{nothing, heard}
use denote.Triple.Entry.{alive}
use denote.Triple.Walked.{Stays, stay_dropped, walk_of}
use Rattle.core.proofs.alloc.Calls.{Goes-blank}
use Rattle.core.proofs.alloc.Shapes.{after}
use Rattle.std.proofs.raw_atomic.Walks.{proved_at, leaves}
use Rattle.std_alloc.proofs.ResultValues.{and_tt}
use Rattle.std_alloc.proofs.Pairs.{pair_of, pair_val}
use Rattle.linked_list_allocator.specs.Ownership.{bytes_at}
use Rattle.linked_list_allocator.proofs.Values.{ptr_typed, list_val, list_own, list_told, list_made, list_typed}
use mir.Syntax.{ty_ptr}
use types.Kit.{‵, raw, ◌⊛◌, prop, at_ret, ◌$◌, ◌∵◌, !, qed, by, move, drop, use0, use1, use2, split, rewrite, regoal}
use types.Kit.{fsplit, fjoin, fpick}
use types.Part.{whole, sub, agg}
use types.Run.{stop, fld, load, look, of_opd, no_more, and_then, first, blocks, exec, returns, enter}
use types.ByLocal.{alloc_all, pass_all, free_all, look_at, get, get_in, through, sets, sets_last, env}
use denote.RawPtr.{Ptr, block_ptr, ptr_val, in_a_block}
use denote.Struct.Tuple.{Tuple}
use Rattle.reg_heap.specs.Owned.{pile as pieces}
use Rattle.reg_heap.proofs.Walks.{slot_at, by_count}
use Rattle.reg_heap.specs.contracts.piece.Piece as piece
use Rattle.reg_heap.specs.contracts.pile.Pile as pile
use Rattle.reg_heap.specs.contracts.pile.Pile.take.{ended, clauses}
use Rattle.reg_heap.specs.contracts.pile.Pile.take.Key.{name as #self}
use Rattle.reg_heap.proofs.pile.Pile.take.Statement.{statement}
use Rattle.reg_heap.proofs.pile.Pile.take.Code as compiled

pub take_spec : {M : Type 1} → statement M
take_spec 𝓤 𝓛 𝓜 𝓡 wired =
    let H = 𝓛.H in
    let En₀ = ended in
    let c = clauses 𝓛 𝓜.mem 𝓡.returns in
    let fn : Fn = compiled.function in
    let stays : Stays En₀.signature.params En₀.kept = (stay_dropped (slot_at 0 En₀.signature.params) En₀.kept.0, tt) in
    let C = (tables 𝓤 H 𝓜 𝓡 𝓡.env).C in
    let Λ = (tables 𝓤 H 𝓜 𝓡 𝓡.env).Λ in
    proved_at 𝓛 En₀ stays c 𝓜 𝓡 (Goes-blank 𝓛 0 (slot_at 0 En₀.signature.params) En₀.kept.0 (λ κs x f. tt), tt) #self fn (compiled.unfolded 𝓤 H 𝓜 𝓡 wired) (λ z are.
    let Post : Val → SProp 𝓤 = (walk_of 𝓛 En₀ stays c).post z in
    let a = z.0.3 in
    let vss = z.0.4 in
    let x = a.0 in
    let m = x.bytes in
    let told = list_told x.first vss.0 are.0.0 in
    let Some : Type 0 = 0 < x.count in
    qed 𝓛 ((raw (alive 𝓛 En₀.signature z.0.0 z.0.1) ⊛ ‵ (owns (types_at En₀.signature.params z.0.0) a vss)) ∷ raw (fact 𝓤 Some) ∷ []) ∵
    move ! (1 ∷ []) $ heard ! Some (λ some. split ! $ move ! (1 ∷ []) $ fsplit ! $ fsplit ! $ drop ! $ move ! (1 ∷ []) $ drop ! $
    by_count x.count (λ none. let gone : ⊥ = omega arith in absurd gone) (λ j more.
    rewrite ! 0 (λ (k : ℕ). ‵ (pieces m k x.first)) more refl $
    in_a_block ! x.first (λ p. pieces m (suc j) p) (id⊢ 𝓤 (never 𝓤)) (λ b o at.
    let start : Ptr = block_ptr b o in
    fpick ! (λ next. fsplit ! $ fsplit ! $
    -- [the place of the next; with its room the piece; the others]
    regoal ! (λ (us : List Val). prop (WpFn 𝓤 H C Λ fn us Post)) (λ i. (told.0 ∙ ap (λ (p : Ptr). list_val p ∷ []) at) i ++ []) refl $
    enter ! C Λ fn (list_val start ∷ []) Post $
    alloc_all ! (λ l. pass_all ! refl ((tt, (tt, tt)), tt) $ let En : Env 𝓤 𝓛.H = env fn.locals l in
    sets ! (of_opd ! (get_in ! (fld ! refl (stop !)) (sub ! 0 refl (whole !)))) refl (tt, tt) $
    first ! $ blocks ! $
    sets ! (of_opd ! (get ! refl)) refl (tt, tt) $
    sets_last ! (of_opd ! (load ! (through ! refl (stop !)) (look ! 0 refl))) refl (ptr_typed next) $
    exec ! C Λ En (after 2 fn.body) (at_ret En Post) $
    sets ! (of_opd ! (get ! refl)) refl (ptr_typed next) $
    sets ! (agg ! (and_then ! (get ! refl) (no_more !))) refl (tt, (tt, tt)) $
    sets ! (agg ! (and_then ! (get ! refl) (no_more !))) refl (list_typed next tt) $
    sets ! (agg ! (and_then ! (get ! refl) (and_then ! (get ! refl) (no_more !)))) refl (and_tt _ ((list_typed next tt).0), ((tt, tt), ((list_typed next tt).1, tt))) $
    returns ! (look_at ! 0 refl) $ free_all ! refl $
    let w : (piece.the_row).Denot = record { start = start; bytes = m } in let y : (pile.the_row).Denot = record { first = next; count = j; bytes = m } in
    use1 𝓛 (‵ (froom ty_ptr b o)) (𝓛.laws.at_room ty_ptr b o (ptr_val next)) $ use2 𝓛 (‵ (bytes_at start m)) (apply∗ 𝓤 (H.room ty_ptr b o) (sem 𝓛 (bytes_at start m))) $
    move ! (1 ∷ []) $ use0 𝓛 (‵ (list_own next (list_val next ∷ []))) (list_made 𝓛 next tt) $ fjoin ! $
    move ! (1 ∷ []) $ use0 𝓛 (‵ (list_own start (list_val start ∷ []))) (list_made 𝓛 start tt) $ fjoin ! $
    let v : Val = pair_val (list_val start) (list_val next) in
    use2 𝓛 (‵ ((Tuple (piece.the_row ∷ pile.the_row ∷ [])).own_val (w, y) (v ∷ []))) (pair_of 𝓛 (piece.the_row) (pile.the_row) w y (list_val start) (list_val next)) $
    let Said : Type 0 = (m ≡ m) × (j + 1 ≡ x.count) × (m ≡ m) in
    use0 𝓛 (raw (fact 𝓤 Said)) (fact_i 𝓤 Said (emp 𝓤) (refl, omega arith, refl)) $ nothing ! $ nothing ! $ fjoin ! $ move ! (3 ∷ 0 ∷ 2 ∷ 1 ∷ []) $
    by ! (leaves 𝓛 En₀ stays c z v (w, y) (tt, tt) (tt, tt))))))))
