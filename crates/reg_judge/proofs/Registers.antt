-- One register of a memory, and what operations make of it.
use Rattle.std.proofs.Common.{◌≡◌, ◌≢◌, ◌⊎◌, inl, inr, ℕ, zero, suc, ◌<◌, Bool, true, false, cond, ◌==◌, List, [], ◌∷◌}
use Rattle.std.proofs.Common.{Option, Some, None, take, drop, length, refl, ap, sym, ◌∙◌, subst}
use Rattle.std.specs.Prelude.{slice_index, slice_set}
use Rattle.std.specs.Option.{unwrap_or}
use Rattle.std.proofs.lemmas.Bool.{cases_Bool, eq-eqb, eqb-true}
use Rattle.std.proofs.lemmas.List.{get_or-set_same, get_or-set_other}
use Rattle.std.proofs.lemmas.Option.{same_Some}
use Rattle.reg_base.specs.declared.memory.Op.{Op}
use Rattle.reg_base.specs.declared.memory.Op.TheVariants.{Read, Write, Swap, CompareAndSwap}
use Rattle.reg_base.specs.declared.memory.Answer.{Answer}
use Rattle.reg_base.specs.declared.memory.Answer.TheVariants.{Done, Unequal}
use Rattle.reg_base.specs.Memory.{Memory, after, answer_of, memory_after, register_of, updates}
use Rattle.reg_base.proofs.Operations.{length-after}
use Rattle.reg_checkers.specs.declared.facts.Given.{Given}
use Rattle.reg_checkers.specs.History.{IsAt}
use Rattle.reg_judge.specs.declared.acts.Act.{Act}
use Rattle.reg_judge.specs.declared.acts.Ask.{Ask}
use Rattle.reg_judge.specs.declared.acts.Ask.TheVariants.{Anything, Just, AllBut}
use Rattle.reg_judge.specs.Acts.{Suits, acting, asked, made, made_of}

pub memory_next : (m : Memory) (ops : List Op) (k : ℕ) (op : Op) → IsAt ops k op
    → memory_after (take (suc k) ops) m ≡ after op (memory_after (take k ops) m)
memory_next m [] k op h = absurd cc
memory_next m (x ∷ xs) zero op h = ap (λ (y : Op). after y m) (same_Some x op h)
memory_next m (x ∷ xs) (suc k) op h = memory_next (after x m) xs k op h

pub memory_length : (ops : List Op) (m : Memory) → length (memory_after ops m) ≡ length m
memory_length [] m = refl
memory_length (op ∷ ops) m = memory_length ops (after op m) ∙ length-after op m

pub drop_at : {X : Type 0} (xs : List X) (k : ℕ) (x : X) → IsAt xs k x → drop k xs ≡ x ∷ drop (suc k) xs
drop_at [] k x h = absurd cc
drop_at (y ∷ xs) zero x h = ap (λ z. z ∷ xs) (same_Some y x h)
drop_at (y ∷ xs) (suc k) x h = drop_at xs k x h

-- the value that a register has where one is put
put_value : (m : Memory) (q r v : ℕ) → q ≡ r → r < length m → v ≡ slice_index (slice_set m q v) r
put_value m q r v is fits =
    subst (λ (x : ℕ). v ≡ slice_index (slice_set m x v) r) (sym is) (sym (get_or-set_same m r v 0 fits))

-- what a compare-and-swap leaves, by what its comparison says
compared : (q e v : ℕ) (m : Memory) (b : Bool) → (slice_index m q == e) ≡ b
    → after (CompareAndSwap q e v) m ≡ cond b (slice_set m q v) m
compared q e v m b is = ap (λ (x : Bool). cond x (slice_set m q v) m) is

compared_answer : (q e v : ℕ) (m : Memory) (b : Bool) → (slice_index m q == e) ≡ b
    → answer_of (CompareAndSwap q e v) m ≡ cond b Done Unequal
compared_answer q e v m b is = ap (λ (x : Bool). cond x Done Unequal) is

-- An operation may come at a value of its register, and leaves another.
pub record Goes (ask : Ask) (makes : Option ℕ) (was is : ℕ) : Type 0 where
  pub suits : Suits ask was
  pub leaves : unwrap_or makes was ≡ is

-- a compare-and-swap on this register
compare_equal : (q e v : ℕ) (m : Memory) (r : ℕ) → q ≡ r → r < length m → (slice_index m q == e) ≡ true
    → Goes (Just e) (Some v) (slice_index m r) (slice_index (after (CompareAndSwap q e v) m) r)
compare_equal q e v m r is fits eq = record {
  suits = sym (eqb-true (slice_index m q) e eq) ∙ ap (slice_index m) is;
  leaves = put_value m q r v is fits ∙ ap (λ (l : Memory). slice_index l r) (sym (compared q e v m true eq));
}

compare_unequal : (q e v : ℕ) (m : Memory) (r : ℕ) → q ≡ r → (slice_index m q == e) ≡ false
    → Goes (AllBut e) None (slice_index m r) (slice_index (after (CompareAndSwap q e v) m) r)
compare_unequal q e v m r is ne = record {
  suits = λ same. (let eq : (slice_index m q == e) ≡ true = eq-eqb (slice_index m q) e (ap (slice_index m) is ∙ sym same) in let bad : ⊥ = cc in bad);
  leaves = ap (λ (l : Memory). slice_index l r) (sym (compared q e v m false ne));
}

-- an operation that is answered
pub goes_on : (op : Op) (m : Memory) (r : ℕ) (answer : Answer) → register_of op ≡ r → r < length m
    → answer ≡ answer_of op m → Goes (asked op answer) (made op answer) (slice_index m r) (slice_index (after op m) r)
goes_on (Read q) m r answer is fits given = subst (λ (a : Answer). Goes (asked (Read q) a) (made (Read q) a) (slice_index m r) (slice_index m r)) (sym given) (record { suits = ap (slice_index m) is; leaves = refl })
goes_on (Write q v) m r answer is fits given = subst (λ (a : Answer). Goes (asked (Write q v) a) (made (Write q v) a) (slice_index m r) (slice_index (slice_set m q v) r)) (sym given) (record { suits = tt; leaves = put_value m q r v is fits })
goes_on (Swap q v) m r answer is fits given = subst (λ (a : Answer). Goes (asked (Swap q v) a) (made (Swap q v) a) (slice_index m r) (slice_index (slice_set m q v) r)) (sym given) (record { suits = ap (slice_index m) is; leaves = put_value m q r v is fits })
goes_on (CompareAndSwap q e v) m r answer is fits given = elim (cases_Bool (slice_index m q == e)) [
  | inl eq ↦ subst (λ (a : Answer). Goes (asked (CompareAndSwap q e v) a) (made (CompareAndSwap q e v) a) (slice_index m r) (slice_index (after (CompareAndSwap q e v) m) r)) (sym (given ∙ compared_answer q e v m true eq)) (compare_equal q e v m r is fits eq)
  | inr ne ↦ subst (λ (a : Answer). Goes (asked (CompareAndSwap q e v) a) (made (CompareAndSwap q e v) a) (slice_index m r) (slice_index (after (CompareAndSwap q e v) m) r)) (sym (given ∙ compared_answer q e v m false ne)) (compare_unequal q e v m r is ne)
]

-- one that has no answer may leave all as it is
pub goes_alone : (op : Op) (m : Memory) (r : ℕ) → register_of op ≡ r → r < length m → updates op ≡ true
    → Goes (asked op Done) (made_of op) (slice_index m r) (slice_index (after op m) r)
    ⊎ (slice_index m r ≡ slice_index (after op m) r)
goes_alone (Read q) m r is fits up = inr refl
goes_alone (Write q v) m r is fits up = inl (record { suits = tt; leaves = put_value m q r v is fits })
goes_alone (Swap q v) m r is fits up = inl (record { suits = tt; leaves = put_value m q r v is fits })
goes_alone (CompareAndSwap q e v) m r is fits up = elim (cases_Bool (slice_index m q == e)) [
  | inl eq ↦ inl (compare_equal q e v m r is fits eq)
  | inr ne ↦ inr (ap (λ (l : Memory). slice_index l r) (sym (compared q e v m false ne)))
]

-- on another
pub value_off : (op : Op) (m : Memory) (r : ℕ) → register_of op ≢ r → slice_index (after op m) r ≡ slice_index m r
value_off (Read q) m r not = refl
value_off (Write q v) m r not = get_or-set_other m q r v 0 (λ e. not (sym e))
value_off (Swap q v) m r not = get_or-set_other m q r v 0 (λ e. not (sym e))
value_off (CompareAndSwap q e v) m r not = go (slice_index m q == e)
  where
    go : (b : Bool) → slice_index (cond b (slice_set m q v) m) r ≡ slice_index m r
    go true = get_or-set_other m q r v 0 (λ e. not (sym e))
    go false = refl

-- what is known of an operation that asks and leaves this
pub record IsActing (op : Op) (answered : Option Given) (a : Act) : Type 0 where
  pub is : acting op answered ≡ Some a
  pub register : a.register ≡ register_of op
  pub given : (g : Given) → answered ≡ Some g → (a.asks ≡ asked op g.answer) × (a.makes ≡ made op g.answer)
  pub alone : answered ≡ None → (updates op ≡ true) × (a.asks ≡ asked op Done) × (a.makes ≡ made_of op)

pub acts_answered : (op : Op) (g : Given) → (a : Act) × IsActing op (Some g) a
acts_answered op g = (
  record { register = register_of op; asks = asked op g.answer; makes = made op g.answer },
  record { is = refl; register = refl; given = λ x e. (let same : g ≡ x = same_Some g x e in (ap (λ (y : Given). asked op y.answer) same, ap (λ (y : Given). made op y.answer) same)); alone = λ none. absurd cc },
)

pub acts_update : (op : Op) → updates op ≡ true → (a : Act) × IsActing op None a
acts_update (Read r) up = absurd cc
acts_update (Write r v) up = (record { register = r; asks = Anything; makes = Some v }, record { is = refl; register = refl; given = λ g e. absurd cc; alone = λ e. (refl, refl, refl) })
acts_update (Swap r v) up = (record { register = r; asks = Anything; makes = Some v }, record { is = refl; register = refl; given = λ g e. absurd cc; alone = λ e. (refl, refl, refl) })
acts_update (CompareAndSwap r e v) up = (record { register = r; asks = Just e; makes = Some v }, record { is = refl; register = refl; given = λ g e. absurd cc; alone = λ e. (refl, refl, refl) })

-- so it goes on from the value of its register, unless it has no answer and leaves all as it is
pub act_goes : (op : Op) (answered : Option Given) (a : Act) → IsActing op answered a → (m : Memory) (r : ℕ)
    → register_of op ≡ r → r < length m → ((g : Given) → answered ≡ Some g → g.answer ≡ answer_of op m)
    → Goes a.asks a.makes (slice_index m r) (slice_index (after op m) r)
    ⊎ ((answered ≡ None) × (slice_index m r ≡ slice_index (after op m) r))
act_goes op (Some g) a acts m r on fits right =
    let is = acts.given g refl in
    let goes = goes_on op m r g.answer on fits (right g refl) in
    inl (record { suits = subst (λ (x : Ask). Suits x (slice_index m r)) (sym is.0) goes.suits; leaves = ap (λ (x : Option ℕ). unwrap_or x (slice_index m r)) is.1 ∙ goes.leaves })
act_goes op None a acts m r on fits right =
    let is = acts.alone refl in
    elim (goes_alone op m r on fits is.0) [
      | inl goes ↦ inl (record { suits = subst (λ (x : Ask). Suits x (slice_index m r)) (sym is.1) goes.suits; leaves = ap (λ (x : Option ℕ). unwrap_or x (slice_index m r)) is.2 ∙ goes.leaves })
      | inr same ↦ inr (refl, same)
    ]
