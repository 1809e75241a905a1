-- A story is one memory.
use Rattle.std.proofs.Common.{ℕ, zero, suc, ◌≡◌, ◌+◌, ◌<◌, ◌==◌, ◌⊎◌, inl, inr, Bool, true, false, List, [], ◌∷◌, ◌++◌}
use Rattle.std.proofs.Common.{length, map, take, drop, replicate, Option, Some, None, refl, sym, ap, ◌∙◌, subst, arith}
use Rattle.std.proofs.Common.{add-one}
use Rattle.std.specs.Prelude.{⊤, MatchOption}
use Rattle.std.specs.List.{AllZip}
use Rattle.std.proofs.lemmas.Bool.{cases_order, eqb-true}
use Rattle.std.proofs.lemmas.List.{drop_all, length-replicate, nil_from_length, take-append-drop, take-map}
use Rattle.std.proofs.lemmas.Option.{slice_get_within}
use Rattle.reg_base.specs.declared.memory.Answer.{Answer}
use Rattle.reg_base.specs.declared.memory.Op.{Op}
use Rattle.reg_base.specs.declared.memory.OpId.{OpId}
use Rattle.reg_base.specs.Memory.{after, answer_of, memory, memory_after}
use Rattle.reg_base.proofs.Operations.{length-after}
use Rattle.reg_checkers.specs.declared.entries.Entry.{Entry}
use Rattle.reg_checkers.specs.Checks.{AreCalled}
use Rattle.reg_checkers.specs.History.{IsAnswered, IsAt, IsCalled, IsFinished}
use Rattle.reg_checkers.proofs.Bridges.{zip_left, zip_right}
use Rattle.reg_checkers.proofs.Histories.{call_is}
use Rattle.reg_checkers.proofs.NoOrder.{same_ops}
use Rattle.reg_checkers.proofs.Places.{IsAt-map, element_at, same_at}
use Rattle.reg_history.specs.Reports.{Contents}
use Rattle.reg_node.specs.Openings.{opening_of}
use Rattle.reg_node.proofs.Restoring.{opening_restores}
use Rattle.reg_world.proofs.one_memory.Replicas.{memory-append}
use Rattle.reg_verify.specs.Stories.{AreAlike, AreStory, BeginsToOpen, EndsWith, IsOpened, Opens, Passes, opener}
use Rattle.reg_verify.specs.StoryLaws.{Act, AreActs, IsAct, IsOneMemory}
use Rattle.reg_verify.proofs.Judged.{order_called, same_values, serial_of}

-- Answers over a memory

abbrev ops_of : List Act → List Op
ops_of acts = map (λ a. a.op) acts

abbrev AreOver : List ℕ → List Act → Type 0
AreOver m acts = (k : ℕ) (act : Act) (answer : Answer) → IsAt acts k act → act.answer ≡ Some answer → answer ≡ answer_of act.op (memory_after (ops_of (take k acts)) m)

over_both : (m : List ℕ) (xs ys : List Act) → AreOver m xs → AreOver (memory_after (ops_of xs) m) ys
    → AreOver m (xs ++ ys)
over_both m [] ys first second k act answer at is = second k act answer at is
over_both m (x ∷ xs) ys first second zero act answer at is = first zero act answer at is
over_both m (x ∷ xs) ys first second (suc k) act answer at is =
    over_both (after x.op m) xs ys (λ j a b. first (suc j) a b) second k act answer at is

-- the answers under these ids are those over this memory
abbrev AreRight : List Entry → List ℕ → List OpId → List Op → Type 0
AreRight h m ids ops = (k : ℕ) (id : OpId) (op : Op) (at : ℕ) (answer : Answer) → IsAt ids k id → IsAt ops k op → IsAnswered h id at answer → answer ≡ answer_of op (memory_after (take k ops) m)

-- and those behind the first ones over what these leave
right_behind : (h : List Entry) (m : List ℕ) (w : List Op) (ids : List OpId) (ops : List Op) → take (length w) ops ≡ w
    → AreRight h m ids ops → AreRight h (memory_after w m) (drop (length w) ids) (drop (length w) ops)
right_behind h m [] ids ops is right = right
right_behind h m (o ∷ w) [] ops is right = λ k id op at answer here. let e : None ≡ Some id = here in absurd (cc)
right_behind h m (o ∷ w) (i ∷ ids) [] is right = absurd (cc)
right_behind h m (o ∷ w) (i ∷ ids) (p ∷ ops) is right =
    let first : p ≡ o = cc in
    let rest : take (length w) ops ≡ w = cc in
    subst (λ (q : Op). AreRight h (memory_after w (after q m)) (drop (length w) ids) (drop (length w) ops)) first
    (right_behind h (after p m) w ids ops rest (λ k id op at answer here there. right (suc k) id op at answer here there))

over_own : (h : List Entry) (m : List ℕ) (ids : List OpId) (ops : List Op) (own : List Act) → AllZip (IsAct h) ids own
    → ops ≡ ops_of own → AreRight h m ids ops → AreOver m own
over_own h m ids ops own zip is right k act answer at said =
    let found = zip_left (IsAct h) ids own k act zip at in
    let answered : (t : ℕ) × IsAnswered h found.0 t answer = subst (λ (o : Option Answer). MatchOption o (¬ IsFinished h found.0) (λ b. (t : ℕ) × IsAnswered h found.0 t b)) said found.2.answered in
    let op_at : IsAt ops k act.op = subst (λ (l : List Op). IsAt l k act.op) (sym is) (IsAt-map (λ a. a.op) own k act at) in
    let first : take k ops ≡ ops_of (take k own) = ap (take k) is ∙ take-map (λ (a : Act). a.op) k own in
    right k found.0 act.op answered.0 answer found.1 op_at answered.1 ∙ ap (λ (l : List Op). answer_of act.op (memory_after l m)) first

acts_called : (h : List Entry) (ids : List OpId) (own : List Act) → AllZip (IsAct h) ids own
    → AreCalled h ids (ops_of own)
acts_called h [] [] zip = tt
acts_called h [] (a ∷ own) zip = absurd zip
acts_called h (i ∷ ids) [] zip = absurd zip
acts_called h (i ∷ ids) (a ∷ own) zip = (zip.0.called, acts_called h ids own zip.1)

called_behind : (h : List Entry) (n : ℕ) (ids : List OpId) (ops : List Op) → AreCalled h ids ops
    → AreCalled h (drop n ids) (drop n ops)
called_behind h zero ids ops zip = zip
called_behind h (suc n) [] [] zip = tt
called_behind h (suc n) [] (o ∷ ops) zip = absurd zip
called_behind h (suc n) (i ∷ ids) [] zip = absurd zip
called_behind h (suc n) (i ∷ ids) (o ∷ ops) zip = called_behind h n ids ops zip.1

-- One chapter

first_are : (w ops : List Op) → ((n : ℕ) (op : Op) → IsAt w n op → IsAt ops n op) → take (length w) ops ≡ w
first_are [] ops each = refl
first_are (o ∷ w) [] each = let e : None ≡ Some o = each 0 o refl in absurd (cc)
first_are (o ∷ w) (p ∷ ops) each =
    let same : Some p ≡ Some o = each 0 o refl in
    let first : p ≡ o = cc in
    let rest = first_are w ops (λ n op at. each (suc n) op at) in
    cc

no_acts : (h : List Entry) (ids : List OpId) (own : List Act) → ids ≡ [] → AllZip (IsAct h) ids own → own ≡ []
no_acts h [] [] e zip = refl
no_acts h [] (a ∷ own) e zip = absurd zip
no_acts h (i ∷ ids) own e zip = absurd (cc)

-- a chapter that ended while it was opened has nothing behind its opening
nothing_behind : (w : List Op) (r : Contents) → Passes r → BeginsToOpen w r → drop (length w) r.order ≡ []
nothing_behind w r p begins = by (cases_order (length w) (length r.order))
  where
    absurd_at : length w < length r.order → ⊥
    absurd_at lt =
        let found = element_at r.order (length w) lt in
        let called = order_called r p (length w) found.0 found.1 in
        let at = (begins.all found.0 called.0 called.1 called.2).1 in
        let same : found.0.number ≡ length w = ap (λ (i : OpId). i.number) (begins.order (length w) found.0 found.1) in
        let inside = slice_get_within w found.0.number called.1 at in
        omega (arith, inside, same)

    by : (length w ≡ length r.order) ⊎ ((length w < length r.order) ⊎ (length r.order < length w)) → drop (length w) r.order ≡ []
    by (inl e) = drop_all (length w) r.order (omega (arith, e))
    by (inr (inl lt)) = absurd (absurd_at lt)
    by (inr (inr lt)) = drop_all (length w) r.order (omega (arith, lt))

-- All chapters

abbrev Chain : ℕ → List ℕ → List Contents → Type 0
Chain registers values [] = ⊤
Chain registers values (r ∷ rs) =
    Passes r × (r.shape.registers ≡ registers) × (Opens (opening_of values) r ⊎ (BeginsToOpen (opening_of values) r × (rs ≡ []))) × ((ends : List ℕ) → EndsWith r ends → Chain registers ends rs)

memory_length : (ops : List Op) (m : List ℕ) → length (memory_after ops m) ≡ length m
memory_length [] m = refl
memory_length (o ∷ ops) m = memory_length ops (after o m) ∙ length-after o m

ends_restored : (r : Contents) (registers : ℕ) (ends : List ℕ) → r.shape.registers ≡ registers → EndsWith r ends
    → memory registers (opening_of ends) ≡ ends
ends_restored r registers ends is e =
    let size : length ends ≡ registers = ap length e.values_are ∙ (memory_length e.ops (replicate r.shape.registers 0) ∙ (length-replicate r.shape.registers 0 ∙ is)) in
    ap (λ (n : ℕ). memory n (opening_of ends)) (sym size) ∙ opening_restores ends

-- the answers of one chapter, and what it leaves
one_chapter : (registers : ℕ) (values m : List ℕ) (r : Contents) (own : List Act) (ends : List ℕ)
    → memory registers (opening_of values) ≡ m → Passes r → r.shape.registers ≡ registers → Opens (opening_of values) r
    → AllZip (IsAct r.entries) (drop (length (opening_of values)) r.order) own → EndsWith r ends
    → AreOver m own × (memory_after (ops_of own) m ≡ ends)
one_chapter registers values m r own ends start p size opens zip e =
    let w = opening_of values in
    let legal = (serial_of r p.verdicts p.judged p.yes).legal in
    let ops = legal.ops in
    let history = p.good.history in
    let first : take (length w) ops ≡ w = first_are w ops (λ n op at.
    let stands = opens n op at in
    let found = zip_right (λ (i : OpId) (o : Op). (t : ℕ) × IsCalled r.entries i t o) r.order ops n (opener n) legal.called stands.1 in
    let same : found.0 ≡ op = (call_is r.shape.processes r.shape.registers r.entries history (opener n) found.2.0 stands.0.0 found.0 op found.2.1 stands.0.1).1 in
    subst (λ (o : Op). IsAt ops n o) same found.1) in
    let zeros = replicate r.shape.registers 0 in
    let behind : AreRight r.entries (memory_after w zeros) (drop (length w) r.order) (drop (length w) ops) = right_behind r.entries zeros w r.order ops first legal.right in
    let start_is : memory_after w zeros ≡ m = ap (λ (n : ℕ). memory n w) size ∙ start in
    let own_ops : drop (length w) ops ≡ ops_of own = same_ops r.shape.processes r.shape.registers r.entries history (drop (length w) r.order) (drop (length w) ops) (ops_of own) (called_behind r.entries (length w) r.order ops legal.called) (acts_called r.entries (drop (length w) r.order) own zip) in
    let all : w ++ ops_of own ≡ ops = ap (λ (l : List Op). w ++ l) (sym own_ops) ∙ (ap (λ (l : List Op). l ++ drop (length w) ops) (sym first) ∙ take-append-drop (length w) ops) in
    let same_end : ops ≡ e.ops = same_ops r.shape.processes r.shape.registers r.entries history r.order ops e.ops legal.called e.called in (
      over_own r.entries m (drop (length w) r.order) (drop (length w) ops) own zip own_ops (subst (λ (n : List ℕ). AreRight r.entries n (drop (length w) r.order) (drop (length w) ops)) start_is behind),
      ap (memory_after (ops_of own)) (sym start_is) ∙ (sym (memory-append w (ops_of own) zeros) ∙ (ap (λ (l : List Op). memory_after l zeros) (all ∙ same_end) ∙ sym e.values_are)),
    )

over_all : (registers : ℕ) (values m : List ℕ) (rs : List Contents) (acts : List Act)
    → memory registers (opening_of values) ≡ m → Chain registers values rs → AreActs values rs acts → AreOver m acts
over_all registers values m [] acts start chain are =
    subst (AreOver m) (sym are) (λ k act answer at is. let e : None ≡ Some act = at in absurd (cc))
over_all registers values m (r ∷ rs) acts start chain (own, rest, ends, is, zip, e, more) =
    by (over_all registers ends ends rs rest (ends_restored r registers ends chain.1 e) (chain.3 ends e) more) chain.2
  where
    by : AreOver ends rest → Opens (opening_of values) r ⊎ (BeginsToOpen (opening_of values) r × (rs ≡ [])) → AreOver m acts
    by later (inl opens) =
        let here = one_chapter registers values m r own ends start chain.0 chain.1 opens zip e in
        subst (AreOver m) (sym is) (over_both m own rest here.0 (subst (λ (n : List ℕ). AreOver n rest) (sym here.1) later))
    by later (inr (begins, last)) =
        let no_own : own ≡ [] = no_acts r.entries (drop (length (opening_of values)) r.order) own (nothing_behind (opening_of values) r chain.0 begins) zip in
        let no_rest : rest ≡ [] = subst (λ (l : List Contents). AreActs ends l rest) last more in
        let none : acts ≡ [] = is ∙ (ap (λ (l : List Act). l ++ rest) no_own ∙ no_rest) in
        subst (AreOver m) (sym none) (λ k act answer at said. let f : None ≡ Some act = at in absurd (cc))

-- a chapter behind another one, at this place of so many
abbrev IsBehind : ℕ → ℕ → Contents → Contents → Type 0
IsBehind count place a b = AreAlike a b × (values : List ℕ) × EndsWith a values × (Opens (opening_of values) b ⊎ (BeginsToOpen (opening_of values) b × (place + 1 ≡ count)))

opened_so : (count place : ℕ) (w : List Op) (b : Contents) → IsOpened (place + 1 == count) w b
    → Opens w b ⊎ (BeginsToOpen w b × (place + 1 ≡ count))
opened_so count place w b opened = by (place + 1 == count) refl opened
  where
    by : (last : Bool) → (place + 1 == count) ≡ last → IsOpened last w b → Opens w b ⊎ (BeginsToOpen w b × (place + 1 ≡ count))
    by false e it = inl it
    by true e (inl opens) = inl opens
    by true e (inr begins) = inr (begins, eqb-true (place + 1) count e)

same_registers : (a b : Contents) → Passes a → Passes b → AreAlike a b → b.shape.registers ≡ a.shape.registers
same_registers a b p q alike = q.good.registers ∙ (ap length alike.names ∙ sym p.good.registers)

chain_of : (registers : ℕ) (values : List ℕ) (rs : List Contents) → ((k : ℕ) (r : Contents) → IsAt rs k r → Passes r)
    → ((k : ℕ) (a b : Contents) → IsAt rs k a → IsAt rs (suc k) b → IsBehind (length rs) (suc k) a b)
    → ((r : Contents) → IsAt rs 0 r → (r.shape.registers ≡ registers) × (Opens (opening_of values) r ⊎ (BeginsToOpen (opening_of values) r × (1 ≡ length rs)))) → Chain registers values rs
chain_of registers values [] passed follows head = tt
chain_of registers values (r ∷ rs) passed follows head = (
  passed 0 r refl,
  (head r refl).0,
  by (head r refl).1,
  λ ends e. chain_of registers ends rs (λ k x at. passed (suc k) x at) (λ k a b at_a at_b. fewer (suc k) a b (follows (suc k) a b at_a at_b)) (next ends e),
)
  where
    by : Opens (opening_of values) r ⊎ (BeginsToOpen (opening_of values) r × (1 ≡ length (r ∷ rs))) → Opens (opening_of values) r ⊎ (BeginsToOpen (opening_of values) r × (rs ≡ []))
    by (inl opens) = inl opens
    by (inr (begins, one)) = inr (begins, nil_from_length rs (omega (arith, one)))

    fewer : (k : ℕ) (a b : Contents) → IsBehind (suc (length rs)) (suc k) a b → IsBehind (length rs) k a b
    fewer k a b (alike, vs, ends, inl opens) = (alike, vs, ends, inl opens)
    fewer k a b (alike, vs, ends, inr (begins, last)) = (alike, vs, ends, inr (begins, omega (arith, last)))

    to_ends : (ends : List ℕ) → EndsWith r ends → (b : Contents) → IsBehind (length rs) 0 r b → Opens (opening_of ends) b ⊎ (BeginsToOpen (opening_of ends) b × (1 ≡ length rs))
    to_ends ends e b (alike, vs, had, opened) =
        let same : vs ≡ ends = same_values r vs ends (passed 0 r refl).good had e in
        subst (λ (v : List ℕ). Opens (opening_of v) b ⊎ (BeginsToOpen (opening_of v) b × (1 ≡ length rs))) same opened

    next : (ends : List ℕ) → EndsWith r ends → (b : Contents) → IsAt rs 0 b → (b.shape.registers ≡ registers) × (Opens (opening_of ends) b ⊎ (BeginsToOpen (opening_of ends) b × (1 ≡ length rs)))
    next ends e b at =
        let behind = fewer 0 r b (follows 0 r b refl at) in
        (same_registers r b (passed 0 r refl) (passed 1 b at) behind.0 ∙ (head r refl).0, to_ends ends e b behind)

pub one_memory : (reports : List Contents) (first : Contents) (acts : List Act) → AreStory reports
    → IsAt reports 0 first → AreActs [] reports acts → IsOneMemory first.shape.registers acts
one_memory reports first acts s at are =
    over_all first.shape.registers [] (replicate first.shape.registers 0) reports acts refl chain are
  where
    follows : (k : ℕ) (a b : Contents) → IsAt reports k a → IsAt reports (suc k) b → IsBehind (length reports) (suc k) a b
    follows k a b at_a at_b =
        let f = s.follows k a b at_a (rw add-one at_b) in
        (f.alike, f.values, f.ends, opened_so (length reports) (suc k) (opening_of f.values) b (subst (λ (i : ℕ). IsOpened (i + 1 == length reports) (opening_of f.values) b) (add-one k) f.opened))

    head : (r : Contents) → IsAt reports 0 r → (r.shape.registers ≡ first.shape.registers) × (Opens (opening_of []) r ⊎ (BeginsToOpen (opening_of []) r × (1 ≡ length reports)))
    head r there = (ap (λ (x : Contents). x.shape.registers) (same_at reports 0 r first there at), inl (λ number op none. let e : None ≡ Some op = none in absurd (cc)))

    chain : Chain first.shape.registers [] reports
    chain = chain_of first.shape.registers [] reports s.accepted follows head
