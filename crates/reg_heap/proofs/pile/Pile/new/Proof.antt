-- `new` makes a pile of no piece. Assumes `Logic`.
use Rattle.std.proofs.Common.{◌≡◌, List, [], ◌∷◌, ◌++◌, refl, lit<, w64}
use mir.Syntax.{Fn}
use mir.Val.{Val, vint}
use base.Logic.{SProp, emp}
use base.Fml.{ftrue}
use prog.Wp.{Env, WpFn}
use contract.Monad.{fact, fact_i}
use contract.Running.{tables}
use denote.RattleType.{owns}
use denote.Signature.{types_at}
use denote.Steps.{nothing}
use denote.Triple.Entry.{alive}
use denote.Triple.Walked.{Stays, stay_dropped, walk_of, Goes-dropped}
use Rattle.std.proofs.raw_atomic.Walks.{proved_at, leaves}
use Rattle.linked_list_allocator.proofs.Values.{list_val, list_own, list_made}
use types.Kit.{‵, raw, ◌⊛◌, prop, ◌$◌, ◌∵◌, !, qed, by, move, keep, drop, use0, split, regoal, fjoin}
use types.Part.{agg}
use types.Run.{lit, no_more, and_then, returns, enter}
use types.ByLocal.{alloc_all, pass_all, free_all, look_at, sets, env}
use denote.RawPtr.{null_ptr}
use Rattle.reg_heap.proofs.Walks.{slot_at}
use Rattle.reg_heap.specs.contracts.pile.Pile as pile
use Rattle.reg_heap.specs.contracts.pile.Pile.new.{ended, clauses}
use Rattle.reg_heap.specs.contracts.pile.Pile.new.Key.{name as #self}
use Rattle.reg_heap.proofs.pile.Pile.new.Statement.{statement}
use Rattle.reg_heap.proofs.pile.Pile.new.Code as compiled

pub new_spec : {M : Type 1} → statement M
new_spec 𝓤 𝓛 𝓜 𝓡 wired =
    let H = 𝓛.H in
    let En₀ = ended in
    let c = clauses 𝓛 𝓜.mem 𝓡.returns in
    let fn : Fn = compiled.function in
    let stays : Stays En₀.signature.params En₀.kept = (stay_dropped (slot_at 0 En₀.signature.params) En₀.kept.0, tt) in
    let C = (tables 𝓤 H 𝓜 𝓡 𝓡.env).C in
    let Λ = (tables 𝓤 H 𝓜 𝓡 𝓡.env).Λ in
    proved_at 𝓛 En₀ stays c 𝓜 𝓡 (Goes-dropped 𝓛 0 (slot_at 0 En₀.signature.params) En₀.kept.0 (λ κs x f. refl), tt) #self fn (compiled.unfolded 𝓤 H 𝓜 𝓡 wired) (λ z are.
    let Post : Val → SProp 𝓤 = (walk_of 𝓛 En₀ stays c).post z in
    let a = z.0.3 in
    let n = a.0 in
    qed 𝓛 ((raw (alive 𝓛 En₀.signature z.0.0 z.0.1) ⊛ ‵ (owns (types_at En₀.signature.params z.0.0) a z.0.4)) ∷ ‵ ftrue ∷ []) ∵ move ! (1 ∷ []) $ drop ! $ split ! $ keep ! (0 ∷ []) $
    regoal ! (λ (us : List Val). prop (WpFn 𝓤 H C Λ fn us Post)) (λ i. are.0.0 i ++ []) refl $
    enter ! C Λ fn (vint w64 n ∷ []) Post $
    alloc_all ! (λ l. pass_all ! refl ((tt, record { fits = are.0.1 }), tt) $ let En : Env 𝓤 𝓛.H = env fn.locals l in
    sets ! (agg ! (and_then ! (lit ! tt) (no_more !))) refl (tt, (record { fits = lit< tt }, tt)) $
    returns ! (look_at ! 0 refl) $ free_all ! refl $
    let x : (pile.the_row).Denot = record { first = null_ptr; count = 0; bytes = n } in
    nothing ! $ use0 𝓛 (‵ (list_own null_ptr (list_val null_ptr ∷ []))) (list_made 𝓛 null_ptr tt) $ fjoin ! $
    use0 𝓛 (raw (fact 𝓤 ((0 ≡ 0) × (n ≡ n)))) (fact_i 𝓤 ((0 ≡ 0) × (n ≡ n)) (emp 𝓤) (refl, refl)) $ nothing ! $ nothing ! $ fjoin ! $ move ! (3 ∷ 0 ∷ 2 ∷ 1 ∷ []) $
    by ! (leaves 𝓛 En₀ stays c z (list_val null_ptr) x (tt, tt) (tt, tt))))
