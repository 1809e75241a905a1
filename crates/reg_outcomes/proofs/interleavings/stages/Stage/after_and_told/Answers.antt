use Rattle.std.proofs.Common.{◌≡◌, ℕ, ◌+◌, ◌<◌, List, ◌++◌, length, drop, get_or, set, take, ap, ap₂, ◌∙◌, arith}
use Rattle.std.proofs.Common.{append-nil}
use Rattle.std.proofs.lemmas.Grind.{get_or_default_zero}
use Rattle.std.proofs.lemmas.List.{drop_all, take_all}
use Rattle.reg_base.specs.Memory.{after}
use Rattle.reg_outcomes.proofs.interleavings.stages.Stage.after_and_told.Goals as goal

-- the number of a process, read where the numbers were copied
read : (xs ys : List ℕ) (k p n : ℕ) → xs ≡ ys → k ≡ p → n ≡ get_or xs k n → p < length ys → n ≡ get_or ys p 0
read xs ys k p n same here is inside =
    is ∙ ap₂ (λ (l : List ℕ) (j : ℕ). get_or l j n) same here ∙ get_or_default_zero ys p n inside

within : (xs ys : List ℕ) (k p n : ℕ) → xs ≡ ys → k ≡ p → n ≡ length xs → p < length ys → k < n
within xs ys k p n same here len inside = let e = ap length same in omega (arith, here, len, e, inside)

-- a list of the same length that was written over another
written : (new old : List ℕ) (n : ℕ) → length new ≡ length old → n ≡ length old
    → take n (new ++ drop (length new) old) ≡ new
written new old n same len =
    ap (λ (l : List ℕ). take n (new ++ l)) (drop_all (length new) old (omega (arith, same))) ∙ ap (take n) (append-nil new) ∙ take_all n new (omega (arith, same, len))

pub index_mut-requires : goal.index_mut-requires
index_mut-requires g c =
    within c.in_ok-next.next.items c.args.self.now.next.items c.from.result c.args.process c.in_ok-next.next.len (c.in_ok-next.ensures.items ∙ c.as_slice.ensures.value) c.from.ensures c.in_ok-next.next.ok.0 c.requires.process

pub overflow_add-index_mut : goal.overflow_add-index_mut
overflow_add-index_mut g c =
    let number = c.requires.number in
    let is = read c.in_ok-next.next.items c.args.self.now.next.items c.from.result c.args.process c.index_mut.result.now (c.in_ok-next.ensures.items ∙ c.as_slice.ensures.value) c.from.ensures c.index_mut.ensures.value c.requires.process in
    omega (arith, number, is)

pub apply_to-requires : goal.apply_to-requires
apply_to-requires g c = let same = c.deref_mut.ensures.value ∙ c.in_ok-memory.ensures.items ∙ c.as_slice-2.ensures.value in let e = ap length same in let l = c.requires.register in omega (arith, e, l)

pub returns-clause-next : goal.returns-clause-next
returns-clause-next g c =
    let same = c.in_ok-next.ensures.items ∙ c.as_slice.ensures.value in
    let here = c.from.ensures in
    let is = read c.in_ok-next.next.items c.args.self.now.next.items c.from.result c.args.process c.index_mut.result.now same here c.index_mut.ensures.value c.requires.process in
    λ i. set (same i) (here i) (is i + 1)

pub returns-clause-memory : goal.returns-clause-memory
returns-clause-memory g c =
    let same = c.deref_mut.ensures.value ∙ c.in_ok-memory.ensures.items ∙ c.as_slice-2.ensures.value in
    written c.apply_to.new.memory c.in_ok-memory.memory.items c.in_ok-memory.memory.len (c.apply_to.auto.memory ∙ ap length c.deref_mut.ensures.value) c.in_ok-memory.memory.ok.0 ∙ c.apply_to.ensures.memory ∙ ap (after c.args.op) same
