-- What is kept of the choices of a seeded play: it is so again once what a choice touched is listed anew, and the
-- choices
-- stand where its bits say.
use Rattle.std.proofs.Common.{◌≡◌, ℕ, zero, ◌+◌, ◌%◌, ◌^◌, ◌<◌, ◌≤◌, ◌≢◌, Bool, true, false, List, [], ◌∷◌, length}
use Rattle.std.proofs.Common.{count_ones, Option, Some, None, refl, sym, ap, ◌∙◌, subst, inl, inr, arith}
use Rattle.std.specs.Prelude.{cond, not, ◌&&◌, ◌==◌, nat_lt, slice_get, slice_index_or}
use Rattle.std.specs.Int.{bit_at}
use Rattle.std.specs.Option.{is_some}
use Rattle.std.proofs.lemmas.Bool.{cond-true, cond-false, and_left, eq-eqb, cases_eq, cases_lt}
use Rattle.std.proofs.lemmas.Nat.{pow_pos, ones-le}
use Rattle.std.proofs.lemmas.Nat.Bits.{bit_at-lt, bit_at-zero}
use Rattle.reg_base.specs.declared.limits.TheConstants.{MOST_PROCESSES}
use Rattle.reg_base.specs.declared.memory.Op.{Op}
use Rattle.reg_front.specs.declared.starts.Start.{Start}
use Rattle.reg_world.specs.Worlds.{run_in}
use Rattle.reg_workload.specs.declared.choices.Chances.{Chances}
use Rattle.reg_workload.specs.declared.choices.Choice.{Choice}
use Rattle.reg_workload.specs.declared.choices.Choice.TheVariants.{Call as CallNext, Take as TakeNext, Tick as PutAgain}
use Rattle.reg_workload.specs.Plays.{Playing, cursor_at, may_call, next_frame}
use Rattle.reg_workload.specs.PlayParts.{IsChoice}
use Rattle.reg_workload.specs.Seeded.{take_of, call_choice, take_choice, tick_choice, call_choices, take_choices_from}
use Rattle.reg_workload.specs.Seeded.{tick_choices}
use Rattle.reg_workload.specs.Listed.{bit_of, may_take, may_tick, takes_at, AreBits, AreListedBut, AreListed, Lists}
use Rattle.reg_workload.specs.Listed.{ListsWire, IsWithin}
use Rattle.reg_workload.proofs.Bits.{bit_true, place_below, all_are, stands_at}

one_if : {X : Type 0} (b : Bool) (x : X) → length (cond b (x ∷ []) []) ≡ bit_of b
one_if true x = refl
one_if false x = refl

one_at : {X : Type 0} (b : Bool) (x : X) → b ≡ true → slice_get (cond b (x ∷ []) []) 0 ≡ Some x
one_at b x e = ap (λ xs. slice_get xs 0) (cond-true b (x ∷ []) [] e)

one_take : (from to : ℕ) (o : Option ℕ) → length (take_of from to o) ≡ bit_of (is_some o)
one_take from to None = refl
one_take from to (Some number) = refl

module _ (start : Op → ℕ → Start) (s : Playing) where
  own_take : (p : ℕ) → may_take start s p p ≡ false
  own_take p =
      let k = cursor_at s p p in
      let left = nat_lt k (length (((run_in start s.made).nodes p).wire p)) in
      ap is_some (cond-false (not (p == p) && left) (Some k) None (and_left (not (p == p)) left (ap not (eq-eqb p p refl))))

  -- a bit that isn't looked at is right: it is known, or it is of no wire
  pub passed_over : (from to known seen : ℕ) → (bit_at known to ≡ 1 → may_take start s from to ≡ true)
      → (to ≢ from → bit_at seen to ≡ bit_at known to) → (bit_at seen to ≡ 0 → ⊥)
      → bit_at known to ≡ bit_of (may_take start s from to)
  passed_over from to known seen so same some = elim (cases_eq (bit_at known to) 1) [
    | inl one ↦ one ∙ sym (ap bit_of (so one))
    | inr not_one ↦
        let less = bit_at-lt known to in
        let none : bit_at known to ≡ 0 = omega (arith, less, not_one) in
        elim (cases_eq to from) [
          | inl e ↦ none ∙ sym (ap bit_of (ap (λ (k : ℕ). may_take start s from k) e ∙ own_take from))
          | inr ne ↦ absurd (some (same ne ∙ none))
        ]
  ]

  -- a process is listed anew
  pub relisted : (acts later : ℕ → Type 0) (passes : ℕ → ℕ → Type 0) (p : ℕ) (old new : Chances)
      → AreListedBut start s acts passes old → Lists start s p old new → ((q : ℕ) → q ≢ p → acts q → later q)
      → AreListedBut start s later passes new
  relisted acts later passes p old new L R more = record {
    processes = L.processes;
    few_calls = R.few_calls L.few_calls;
    few_ticks = R.few_ticks L.few_ticks;
    few_takes = λ q lq. elim (cases_eq q p) [
      | inl e ↦ subst (λ (k : ℕ). takes_at new k < 2 ^ s.made.processes) (sym e) R.take.few
      | inr ne ↦ subst (λ (k : ℕ). k < 2 ^ s.made.processes) (sym (R.takes q ne)) (L.few_takes q lq)
    ];
    known = λ q r lq lr apart set. elim (cases_eq q p) [
      | inl e ↦ subst (λ (k : ℕ). may_take start s k r ≡ true) (sym e) (bit_true (may_take start s p r) (sym (R.take.each r lr) ∙ subst (λ (k : ℕ). bit_at (takes_at new k) r ≡ 1) e set))
      | inr ne ↦ L.known q r lq lr apart (ap (λ (k : ℕ). bit_at k r) (sym (R.takes q ne)) ∙ set)
    ];
    call = λ q lq free. elim (cases_eq q p) [
      | inl e ↦ subst (λ (k : ℕ). bit_at new.calls k ≡ bit_of (may_call start s k)) (sym e) R.call
      | inr ne ↦ R.calls q (wide q lq) ne ∙ L.call q lq (λ a. free (more q ne a))
    ];
    tick = λ q lq free. elim (cases_eq q p) [
      | inl e ↦ subst (λ (k : ℕ). bit_at new.ticks k ≡ bit_of (may_tick start s k)) (sym e) R.tick
      | inr ne ↦ R.ticks q (wide q lq) ne ∙ L.tick q lq (λ a. free (more q ne a))
    ];
    take = λ q r lq lr free apart. elim (cases_eq q p) [
      | inl e ↦ subst (λ (k : ℕ). bit_at (takes_at new k) r ≡ bit_of (may_take start s k r)) (sym e) (R.take.each r lr)
      | inr ne ↦ ap (λ (k : ℕ). bit_at k r) (R.takes q ne) ∙ L.take q r lq lr (λ a. free (more q ne a)) apart
    ];
  }
    where
      wide : (q : ℕ) → q < s.made.processes → q < MOST_PROCESSES
      wide q l = let few = L.processes in omega (arith, l, few)

  -- and a wire
  pub wire_relisted : (acts : ℕ → Type 0) (passes : ℕ → ℕ → Type 0) (from to : ℕ) (old new : Chances)
      → AreListedBut start s acts passes old → ListsWire start s from to old new
      → ((p q : ℕ) → passes p q → (from ≡ p) × (to ≡ q)) → AreListedBut start s acts (λ _ _. ⊥) new
  wire_relisted acts passes from to old new L R only = record {
    processes = L.processes;
    few_calls = subst (λ (k : ℕ). k < 2 ^ s.made.processes) (sym R.calls) L.few_calls;
    few_ticks = subst (λ (k : ℕ). k < 2 ^ s.made.processes) (sym R.ticks) L.few_ticks;
    few_takes = λ p lp. elim (cases_eq p from) [
      | inl e ↦ subst (λ (k : ℕ). takes_at new k < 2 ^ s.made.processes) (sym e) (R.few (subst (λ (k : ℕ). takes_at old k < 2 ^ s.made.processes) e (L.few_takes p lp)))
      | inr ne ↦ subst (λ (k : ℕ). k < 2 ^ s.made.processes) (sym (R.takes p ne)) (L.few_takes p lp)
    ];
    known = λ p q lp lq _ set. elim (cases_eq p from) [
      | inl e ↦ elim (cases_eq q to) [
        | inl f ↦
            let here : bit_at (takes_at new from) to ≡ 1 = subst (λ (k : ℕ). bit_at (takes_at new from) k ≡ 1) f (subst (λ (k : ℕ). bit_at (takes_at new k) q ≡ 1) e set) in
            subst (λ (k : ℕ). may_take start s k q ≡ true) (sym e) (subst (λ (k : ℕ). may_take start s from k ≡ true) (sym f) (bit_true (may_take start s from to) (sym R.here ∙ here)))
        | inr nf ↦ L.known p q lp lq (λ h. nf (sym (only p q h).1)) (sym (subst (λ (k : ℕ). bit_at (takes_at new k) q ≡ bit_at (takes_at old k) q) (sym e) (R.others q (wide q lq) nf)) ∙ set)
      ]
      | inr ne ↦ L.known p q lp lq (λ h. ne (sym (only p q h).0)) (ap (λ (k : ℕ). bit_at k q) (sym (R.takes p ne)) ∙ set)
    ];
    call = λ p lp free. ap (λ (k : ℕ). bit_at k p) R.calls ∙ L.call p lp free;
    tick = λ p lp free. ap (λ (k : ℕ). bit_at k p) R.ticks ∙ L.tick p lp free;
    take = λ p q lp lq free _. elim (cases_eq p from) [
      | inl e ↦ elim (cases_eq q to) [
        | inl f ↦ subst (λ (k : ℕ). bit_at (takes_at new k) q ≡ bit_of (may_take start s k q)) (sym e) (subst (λ (k : ℕ). bit_at (takes_at new from) k ≡ bit_of (may_take start s from k)) (sym f) R.here)
        | inr nf ↦ subst (λ (k : ℕ). bit_at (takes_at new k) q ≡ bit_at (takes_at old k) q) (sym e) (R.others q (wide q lq) nf) ∙ L.take p q lp lq free (λ h. nf (sym (only p q h).1))
      ]
      | inr ne ↦ ap (λ (k : ℕ). bit_at k q) (R.takes p ne) ∙ L.take p q lp lq free (λ h. ne (sym (only p q h).0))
    ];
  }
    where
      wide : (q : ℕ) → q < s.made.processes → q < MOST_PROCESSES
      wide q l = let few = L.processes in omega (arith, l, few)

  -- process by process
  pub none_listed : (takes : List ℕ) → ((p : ℕ) → slice_index_or takes p 0 ≡ 0) → s.made.processes ≤ MOST_PROCESSES
      → AreListedBut start s (λ p. 0 ≤ p) (λ _ _. ⊥) (record { calls = 0; takes = takes; ticks = 0 })
  none_listed takes none few = record {
    processes = few;
    few_calls = pow_pos s.made.processes;
    few_ticks = pow_pos s.made.processes;
    few_takes = λ p l. subst (λ (k : ℕ). k < 2 ^ s.made.processes) (sym (none p)) (pow_pos s.made.processes);
    known = λ p q lp lq _ set. let z : zero ≡ 1 = sym (bit_at-zero q) ∙ (ap (λ (k : ℕ). bit_at k q) (sym (none p)) ∙ set) in absurd (omega (arith, z));
    call = λ p l free. absurd (free (omega arith));
    tick = λ p l free. absurd (free (omega arith));
    take = λ p q lp lq free apart. absurd (free (omega arith));
  }

  pub one_more_listed : (n : ℕ) (old new : Chances) → AreListedBut start s (λ p. n ≤ p) (λ _ _. ⊥) old
      → Lists start s n old new → AreListedBut start s (λ p. n + 1 ≤ p) (λ _ _. ⊥) new
  one_more_listed n old new L R = relisted (λ p. n ≤ p) (λ p. n + 1 ≤ p) (λ _ _. ⊥) n old new L R (λ p ne l. elim (cases_lt n p) [
    | inl less ↦ omega (arith, less)
    | inr not_less ↦ absurd (ne (omega (arith, not_less, l)))
  ])

  pub all_listed : (n : ℕ) (c : Chances) → n ≡ s.made.processes → AreListedBut start s (λ p. n ≤ p) (λ _ _. ⊥) c
      → AreListed start s c
  all_listed n c e L = record {
    processes = L.processes;
    few_calls = L.few_calls;
    few_ticks = L.few_ticks;
    few_takes = L.few_takes;
    known = L.known;
    call = λ p l _. L.call p l (λ a. omega (arith, e, l, a));
    tick = λ p l _. L.tick p l (λ a. omega (arith, e, l, a));
    take = λ p q l m _ apart. L.take p q l m (λ a. omega (arith, e, l, a)) apart;
  }

  pub within_play : (c : Choice) → IsChoice start s c → IsWithin s.made.processes c
  within_play (CallNext p) h = h.0
  within_play (TakeNext from to number) h = (h.0, h.1)
  within_play (PutAgain p) h = h

  -- where all of it is so, the choices are as many as there are ones, and stand where the bits say
  module _ (c : Chances) (L : AreListed start s c) where
    call_bits : AreBits s.made.processes (may_call start s) c.calls
    call_bits = record { few = L.few_calls; each = λ p l. L.call p l (λ a. a) }

    tick_bits : AreBits s.made.processes (may_tick start s) c.ticks
    tick_bits = record { few = L.few_ticks; each = λ p l. L.tick p l (λ a. a) }

    take_bits : (from : ℕ) → from < s.made.processes → AreBits s.made.processes (may_take start s from) (takes_at c from)
    take_bits from l = record { few = L.few_takes from l; each = λ to m. L.take from to l m (λ a. a) (λ a. a) }

    pub calls_are : length (call_choices start s s.made.processes) ≡ count_ones c.calls
    unfolding call_choices
    calls_are = all_are s.made.processes c.calls (may_call start s) (call_choice start s) call_bits (λ p. one_if (may_call start s p) (CallNext p))

    pub ticks_are : length (tick_choices start s s.made.processes) ≡ count_ones c.ticks
    unfolding tick_choices
    ticks_are = all_are s.made.processes c.ticks (may_tick start s) (tick_choice start s) tick_bits (λ p. one_if (may_tick start s p) (PutAgain p))

    pub takes_are : (from m : ℕ) → from < s.made.processes → m ≡ takes_at c from → length (take_choices_from start s from s.made.processes) ≡ count_ones m
    unfolding take_choices_from
    takes_are from m l e = all_are s.made.processes (takes_at c from) (may_take start s from) (take_choice start s from) (take_bits from l) (λ to. one_take from to (next_frame start s from to)) ∙ ap count_ones (sym e)

    pub few_ones : (m : ℕ) → m < 2 ^ s.made.processes → count_ones m ≤ MOST_PROCESSES
    few_ones m l = let most = ones-le s.made.processes m l in let few = L.processes in omega (arith, most, few)

    pub few_taken : (from m : ℕ) → from < s.made.processes → m ≡ takes_at c from → count_ones m ≤ MOST_PROCESSES
    few_taken from m l e = few_ones m (subst (λ (k : ℕ). k < 2 ^ s.made.processes) (sym e) (L.few_takes from l))

    pub call_stands : (p place : ℕ) → bit_at c.calls p ≡ 1 → place ≡ count_ones (c.calls % 2 ^ p) → slice_get (call_choices start s s.made.processes) place ≡ Some (CallNext p)
    unfolding call_choices
    call_stands p place set is = stands_at s.made.processes c.calls (may_call start s) (call_choice start s) call_bits (λ q. one_if (may_call start s q) (CallNext q)) p place (CallNext p) set is (one_at (may_call start s p) (CallNext p))

    pub tick_stands : (p place : ℕ) → bit_at c.ticks p ≡ 1 → place ≡ count_ones (c.ticks % 2 ^ p) → slice_get (tick_choices start s s.made.processes) place ≡ Some (PutAgain p)
    unfolding tick_choices
    tick_stands p place set is = stands_at s.made.processes c.ticks (may_tick start s) (tick_choice start s) tick_bits (λ q. one_if (may_tick start s q) (PutAgain q)) p place (PutAgain p) set is (one_at (may_tick start s p) (PutAgain p))

    pub take_stands : (from to place m : ℕ) (x : Choice) → from < s.made.processes → m ≡ takes_at c from → bit_at m to ≡ 1 → place ≡ count_ones (m % 2 ^ to) → take_choice start s from to ≡ x ∷ [] → slice_get (take_choices_from start s from s.made.processes) place ≡ Some x
    unfolding take_choices_from
    take_stands from to place m x l e set is only =
        stands_at s.made.processes (takes_at c from) (may_take start s from) (take_choice start s from) (take_bits from l) (λ q. one_take from q (next_frame start s from q)) to place x
        (ap (λ (k : ℕ). bit_at k to) (sym e) ∙ set) (is ∙ ap (λ (k : ℕ). count_ones (k % 2 ^ to)) e) (λ _. ap (λ xs. slice_get xs 0) only)

    pub may_be_taken : (from to m : ℕ) → from < s.made.processes → m ≡ takes_at c from → bit_at m to ≡ 1 → (to < s.made.processes) × (may_take start s from to ≡ true)
    may_be_taken from to m l e set =
        let B = take_bits from l in
        let here : bit_at (takes_at c from) to ≡ 1 = ap (λ (k : ℕ). bit_at k to) (sym e) ∙ set in
        let within = place_below s.made.processes (takes_at c from) to B.few here in
        (within, bit_true (may_take start s from to) (sym (B.each to within) ∙ here))
