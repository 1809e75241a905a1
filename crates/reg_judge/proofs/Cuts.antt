-- Cuts of a history and a point order: so many entries, and the points that lie before.
use Rattle.std.proofs.Common.{◌≡◌, ◌≢◌, ◌⊎◌, inl, inr, ℕ, suc, ◌<◌, List, Option, None, take, ap, ap₂, sym, ◌∙◌, subst}
use Rattle.std.proofs.Common.{arith}
use Rattle.std.proofs.lemmas.Bool.{cases_eq, cases_order}
use Rattle.reg_base.specs.declared.memory.OpId.{OpId}
use Rattle.reg_base.specs.declared.memory.Op.{Op}
use Rattle.reg_base.specs.declared.memory.Answer.{Answer}
use Rattle.reg_base.specs.Memory.{register_of}
use Rattle.reg_checkers.specs.declared.entries.Entry.{Entry}
use Rattle.reg_checkers.specs.declared.entries.Entry.TheVariants.{Called, Answered}
use Rattle.reg_checkers.specs.History.{IsAt, IsCalled, IsFinished, IsHistory, MayCall, WasCalled}
use Rattle.reg_checkers.specs.Orders.{IsDistinct}
use Rattle.reg_checkers.proofs.Histories.{answered_before_next, answered_was_called}
use Rattle.reg_checkers.proofs.Noting.{history_front}
use Rattle.reg_checkers.proofs.OneMore.{IsOneMore, one_more}
use Rattle.reg_checkers.proofs.Places.{same_at}
use Rattle.reg_judge.specs.declared.acts.Act.{Act}
use Rattle.reg_judge.specs.Completing.{Running, put}
use Rattle.reg_judge.proofs.Puts.{put_here, put_there}

-- the operation runs after so many entries
abbrev pub IsOpen : List Entry → ℕ → OpId → Type 0
IsOpen h k id = WasCalled (take k h) id × (¬ IsFinished (take k h) id)

-- the process runs nothing after so many entries
abbrev pub Rests : List Entry → ℕ → ℕ → Type 0
Rests h k p = (id : OpId) → id.process ≡ p → WasCalled (take k h) id → IsFinished (take k h) id

-- the operation was called on this register
abbrev pub IsOnRegister : List Entry → ℕ → OpId → Type 0
IsOnRegister h r id = (at : ℕ) × (op : Op) × IsCalled h id at op × (register_of op ≡ r)

-- The first j operations of the order are placed after k entries: they were called, all that are finished are among
-- them; and this runs and is placed on the register, but that of the placed ones without an answer some may not be.
pub record IsCut (h : List Entry) (ids : List OpId) (act : OpId → Option Act) (r k j : ℕ) (run : Running) (placed : ℕ → ℕ) : Type 0 where
  pub low : (i : ℕ) (id : OpId) → IsAt ids i id → i < j → WasCalled (take k h) id
  pub high : (id : OpId) → IsFinished (take k h) id → (i : ℕ) × IsAt ids i id × (i < j)
  pub runs : (id : OpId) → IsOpen h k id → run id.process ≡ act id
  pub idle : (p : ℕ) → Rests h k p → (run p ≡ None) × (placed p ≡ 0)
  pub yes : (id : OpId) (i : ℕ) → IsOpen h k id → IsAt ids i id → i < j → IsOnRegister h r id → IsFinished h id
      → placed id.process ≡ 1
  pub no : (id : OpId) → IsOpen h k id → ((i : ℕ) → IsAt ids i id → i < j → ¬ IsOnRegister h r id)
      → placed id.process ≡ 0

module _ (n registers : ℕ) (h : List Entry) (good : IsHistory n registers h) where
  -- a process runs one operation
  pub one_open : (k : ℕ) (a b : OpId) → IsOpen h k a → IsOpen h k b → a.process ≡ b.process → a ≡ b
  one_open k a b open_a open_b same = go (cases_order a.number b.number)
    where
      before : (a b : OpId) → IsOpen h k a → IsOpen h k b → a.process ≡ b.process → a.number < b.number → ⊥
      before a b open_a open_b same lt =
          let fin = answered_before_next n registers (take k h) (history_front n registers h k good) a b open_b.0.0 open_b.0.1 open_a.0 open_b.0.2 same lt in
          open_a.1 (fin.0, fin.1, fin.2)

      go : (a.number ≡ b.number) ⊎ ((a.number < b.number) ⊎ (b.number < a.number)) → a ≡ b
      go (inl e) = ap₂ (λ (x y : ℕ). let id : OpId = record { process = x; number = y } in id) same e
      go (inr (inl lt)) = absurd (before a b open_a open_b same lt)
      go (inr (inr lt)) = absurd (before b a open_b open_a (sym same) lt)

  module _ (ids : List OpId) (act : OpId → Option Act) (r k j : ℕ) (run : Running) (placed : ℕ → ℕ) (cut : IsCut h ids act r k j run placed) where
    -- one entry more
    module _ (e : Entry) (here : IsAt h k e) where
      more : IsOneMore (take k h) e (take (suc k) h)
      more = one_more h k e here

      called_more : (id : OpId) → WasCalled (take k h) id → WasCalled (take (suc k) h) id
      called_more id (at, op, was) = (at, op, more.old (Called at id op) was)

      finished_more : (id : OpId) → IsFinished (take k h) id → IsFinished (take (suc k) h) id
      finished_more id (at, answer, was) = (at, answer, more.old (Answered at id answer) was)

    -- a call
    module _ (t : ℕ) (x : OpId) (o : Op) (here : IsAt h k (Called t x o)) where
      may : MayCall n registers (take k h) t x o
      may = good k (Called t x o) here

      not_before : ¬ WasCalled (take k h) x
      not_before was = let lt : x.number < x.number = ((may).next x.number).1 was in omega arith

      finished_less : (id : OpId) → IsFinished (take (suc k) h) id → IsFinished (take k h) id
      finished_less id (at, answer, was) = elim ((more (Called t x o) here).cases (Answered at id answer) was) [
        | inl old ↦ (at, answer, old)
        | inr new ↦ absurd cc
      ]

      -- what runs of another process ran before
      open_less : (id : OpId) → id.process ≢ x.process → IsOpen h (suc k) id → IsOpen h k id
      open_less id apart ((at, op, was), not) = (
        elim ((more (Called t x o) here).cases (Called at id op) was) [
          | inl old ↦ (at, op, old)
          | inr new ↦ absurd (apart (let e : id ≡ x = cc in ap (λ (y : OpId). y.process) e))
        ],
        λ fin. not (finished_more (Called t x o) here id fin),
      )

      -- what runs of this process is what is called
      open_is : (id : OpId) → id.process ≡ x.process → IsOpen h (suc k) id → id ≡ x
      open_is id same ((at, op, was), not) = elim ((more (Called t x o) here).cases (Called at id op) was) [
        | inl old ↦ absurd (not (finished_more (Called t x o) here id ((may).idle id same (at, op, old))))
        | inr new ↦ cc
      ]

      rests_before : Rests h k x.process
      rests_before id same was = (may).idle id same was

      pub cut_call : IsCut h ids act r (suc k) j (put run x.process (act x)) placed
      cut_call = record {
        low = λ i id at lt. called_more (Called t x o) here id (cut.low i id at lt);
        high = λ id fin. cut.high id (finished_less id fin);
        runs = λ id open_. elim (cases_eq id.process x.process) [
          | inl same ↦ put_here run x.process (act x) id.process same ∙ ap act (sym (open_is id same open_))
          | inr apart ↦ put_there run x.process (act x) id.process apart ∙ cut.runs id (open_less id apart open_)
        ];
        idle = λ p rests. (
            let before : Rests h k p = λ id same was. finished_less id (rests id same (called_more (Called t x o) here id was)) in
            let apart : p ≢ x.process = λ e. not_before (let fin = finished_less x (rests x (sym e) (t, o, (more (Called t x o) here).new)) in answered_was_called n registers (take k h) (history_front n registers h k good) x fin.0 fin.1 fin.2) in
            (put_there run x.process (act x) p apart ∙ (cut.idle p before).0, (cut.idle p before).1)
            );
        yes = λ id i open_ at lt on fin. elim (cases_eq id.process x.process) [
          | inl same ↦ absurd (not_before (subst (WasCalled (take k h)) (open_is id same open_) (cut.low i id at lt)))
          | inr apart ↦ cut.yes id i (open_less id apart open_) at lt on fin
        ];
        no = λ id open_ none. elim (cases_eq id.process x.process) [
          | inl same ↦ ap placed same ∙ (cut.idle x.process rests_before).1
          | inr apart ↦ cut.no id (open_less id apart open_) none
        ];
      }

    -- an answer to what is placed
    module _ (t : ℕ) (x : OpId) (y : Answer) (here : IsAt h k (Answered t x y)) (running : IsOpen h k x) (spot : ℕ) (there : IsAt ids spot x) (before : spot < j) (less : ℕ → ℕ) (none_here : less x.process ≡ 0) (others : (q : ℕ) → q ≢ x.process → less q ≡ placed q) where
      called_less : (id : OpId) → WasCalled (take (suc k) h) id → WasCalled (take k h) id
      called_less id (at, op, was) = elim ((more (Answered t x y) here).cases (Called at id op) was) [
        | inl old ↦ (at, op, old)
        | inr new ↦ absurd cc
      ]

      done : IsFinished (take (suc k) h) x
      done = (t, y, (more (Answered t x y) here).new)

      open_old : (id : OpId) → IsOpen h (suc k) id → IsOpen h k id
      open_old id (was, not) = (called_less id was, λ fin. not (finished_more (Answered t x y) here id fin))

      open_apart : (id : OpId) → IsOpen h (suc k) id → id.process ≢ x.process
      open_apart id open_ same = let e = one_open k id x (open_old id open_) running same in open_.1 (subst (IsFinished (take (suc k) h)) (sym e) done)

      finished_before : (id : OpId) → id ≢ x → IsFinished (take (suc k) h) id → IsFinished (take k h) id
      finished_before id apart (at, answer, was) = elim ((more (Answered t x y) here).cases (Answered at id answer) was) [
        | inl old ↦ (at, answer, old)
        | inr new ↦ absurd (apart (let e : id ≡ x = cc in e))
      ]

      pub cut_answer : IsCut h ids act r (suc k) j (put run x.process None) less
      cut_answer = record {
        low = λ i id at lt. called_more (Answered t x y) here id (cut.low i id at lt);
        high = λ id (at, answer, was). elim ((more (Answered t x y) here).cases (Answered at id answer) was) [
          | inl old ↦ cut.high id (at, answer, old)
          | inr new ↦ (spot, subst (IsAt ids spot) (let e : x ≡ id = cc in e) there, before)
        ];
        runs = λ id open_. put_there run x.process None id.process (open_apart id open_) ∙ cut.runs id (open_old id open_);
        idle = λ p rests. elim (cases_eq p x.process) [
          | inl same ↦ (put_here run x.process None p same, ap less same ∙ none_here)
          | inr apart ↦
              let old : Rests h k p = λ id same was. finished_before id (λ e. apart (sym same ∙ ap (λ (z : OpId). z.process) e)) (rests id same (called_more (Answered t x y) here id was)) in
              (put_there run x.process None p apart ∙ (cut.idle p old).0, others p apart ∙ (cut.idle p old).1)
        ];
        yes = λ id i open_ at lt on fin. others id.process (open_apart id open_) ∙ cut.yes id i (open_old id open_) at lt on fin;
        no = λ id open_ none. others id.process (open_apart id open_) ∙ cut.no id (open_old id open_) none;
      }

    -- one operation of the order more
    module _ (distinct : IsDistinct ids) (y : OpId) (there : IsAt ids j y) (running : IsOpen h k y) (next : ℕ → ℕ) (on : IsOnRegister h r y → IsFinished h y → next y.process ≡ 1) (off : ¬ IsOnRegister h r y → next y.process ≡ placed y.process) (others : (q : ℕ) → q ≢ y.process → next q ≡ placed q) where
      is_next : (id : OpId) → IsOpen h k id → id.process ≡ y.process → id ≡ y
      is_next id open_ same = one_open k id y open_ running same

      pub cut_place : IsCut h ids act r k (suc j) run next
      cut_place = record {
        low = λ i id at lt. elim (cases_eq i j) [
          | inl e ↦ subst (WasCalled (take k h)) (same_at ids j y id there (subst (λ (l : ℕ). IsAt ids l id) e at)) running.0
          | inr not ↦ cut.low i id at (omega (arith, lt, not))
        ];
        high = λ id fin. (let was = cut.high id fin in let lt = was.2 in (was.0, was.1, omega (arith, lt)));
        runs = cut.runs;
        idle = λ p rests. ((cut.idle p rests).0, others p (λ e. running.1 (rests y (sym e) running.0)) ∙ (cut.idle p rests).1);
        yes = λ id i open_ at lt is fin. elim (cases_eq id.process y.process) [
          | inl same ↦ let e = is_next id open_ same in ap next same ∙ on (subst (IsOnRegister h r) e is) (subst (IsFinished h) e fin)
          | inr apart ↦ others id.process apart ∙ cut.yes id i open_ at (let not : i ≢ j = λ e. apart (ap (λ (z : OpId). z.process) (same_at ids j id y (subst (λ (l : ℕ). IsAt ids l id) e at) there)) in omega (arith, lt, not)) is fin
        ];
        no = λ id open_ none. elim (cases_eq id.process y.process) [
          | inl same ↦
              let e = is_next id open_ same in
              let not : ¬ IsOnRegister h r id = none j (subst (IsAt ids j) (sym e) there) (omega arith) in
              ap next same ∙ off (λ is. not (subst (IsOnRegister h r) (sym e) is)) ∙ ap placed (sym same) ∙ cut.no id open_ (λ i at lt. none i at (omega (arith, lt)))
          | inr apart ↦ others id.process apart ∙ cut.no id open_ (λ i at lt. none i at (omega (arith, lt)))
        ];
      }
