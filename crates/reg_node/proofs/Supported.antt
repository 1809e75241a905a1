-- Orders of entries in which each frame is put before it is taken. The newest entry of an order stands first.
use Rattle.std.proofs.Common.{◌≡◌, ◌⊎◌, inl, inr, ℕ, suc, ◌+◌, ◌<◌, ◌≤◌, Bool, List, [], ◌∷◌, min, Some, ap, sym, ◌∙◌}
use Rattle.std.proofs.Common.{subst, arith}
use Rattle.std.specs.Prelude.{cond, ◌==◌, nat_lt, slice_get}
use Rattle.std.proofs.lemmas.Bool.{cases_eq, cond_both, eq-eqb, ne_eqb, ltb-true, ltb-false}
use Rattle.std.proofs.lemmas.List.Sums.{sum_by-cons}
use Rattle.reg_base.specs.Order.{In}
use Rattle.reg_frames.specs.declared.bodies.Frame.{Frame}
use Rattle.reg_frames.specs.declared.puts.Put.{Put}
use Rattle.reg_process.specs.declared.steps.Step.{Step}
use Rattle.reg_process.specs.declared.steps.Step.TheVariants.{Call, Take, Tick}
use Rattle.reg_process.specs.Puts.{put_to}
use Rattle.reg_records.specs.declared.entries.LogEntry.{LogEntry}
use Rattle.reg_records.specs.Records.{mentions}
use Rattle.reg_node.specs.Logs.{Outgoing}

-- what one process has: its log, what goes out of the entries, and how many of them are durable
pub record Share : Type 0 where
  pub log : List LogEntry
  pub outputs : List Outgoing
  pub durable : ℕ

-- the frame for p goes out of one of so many first entries of the sender, which is durable
pub record IsPut (sender : Share) (before p : ℕ) (frame : Frame) : Type 0 where
  pub place : ℕ
  pub output : Outgoing
  pub stands : slice_get sender.outputs place ≡ Some output
  pub older : place < before
  pub safe : place < sender.durable
  pub put : In (put_to p frame) output.frames

abbrev pub IsBacked : (ℕ → Share) → List ℕ → ℕ → Step → Type 0
IsBacked shares older p (Call op) = Unit {0}
IsBacked shares older p (Take from frame) = IsPut (shares from) (mentions from older) p frame
IsBacked shares older p Tick = Unit {0}

-- a mention of p, behind older ones, stands for an entry
pub record Stands (shares : ℕ → Share) (older : List ℕ) (p : ℕ) : Type 0 where
  pub entry : LogEntry
  pub at : slice_get (shares p).log (mentions p older) ≡ Some entry
  pub backed : IsBacked shares older p entry.step

-- each mention does, of one of n processes
abbrev pub AreSupported : ℕ → (ℕ → Share) → List ℕ → Type 0
AreSupported n shares [] = Unit {0}
AreSupported n shares (p ∷ older) = (p < n) × Stands shares older p × AreSupported n shares older

pub mention_yes : (p q : ℕ) (xs : List ℕ) → q ≡ p → mentions p (q ∷ xs) ≡ suc (mentions p xs)
mention_yes p q xs e =
    let parts : mentions p (q ∷ xs) ≡ cond (q == p) 1 0 + mentions p xs = sum_by-cons (λ x. cond (x == p) 1 0) q xs in
    let one : ◌≡◌ {A = ℕ} (cond (q == p) 1 0) 1 = ap (λ (b : Bool). cond b 1 0) (eq-eqb q p e) in
    omega (arith, parts, one)

pub mention_no : (p q : ℕ) (xs : List ℕ) → (q ≡ p → ⊥) → mentions p (q ∷ xs) ≡ mentions p xs
mention_no p q xs other =
    let parts : mentions p (q ∷ xs) ≡ cond (q == p) 1 0 + mentions p xs = sum_by-cons (λ x. cond (x == p) 1 0) q xs in
    let none : ◌≡◌ {A = ℕ} (cond (q == p) 1 0) 0 = ap (λ (b : Bool). cond b 1 0) (ne_eqb q p other) in
    omega (arith, parts, none)

-- the order without the mentions of each process behind so many first ones
abbrev pub keep_first : (ℕ → ℕ) → List ℕ → List ℕ
keep_first kept [] = []
keep_first kept (p ∷ older) =
    cond (nat_lt (mentions p older) (kept p)) (p ∷ keep_first kept older) (keep_first kept older)

kept_yes : (kept : ℕ → ℕ) (p q : ℕ) (xs left : List ℕ) → mentions q xs < kept q
    → mentions p left ≡ min (kept p) (mentions p xs) → (q ≡ p) ⊎ (q ≡ p → ⊥)
    → mentions p (q ∷ left) ≡ min (kept p) (mentions p (q ∷ xs))
kept_yes kept p q xs left lt h (inl e) =
    let a = mention_yes p q left e in
    let b = mention_yes p q xs e in
    let here : mentions p xs < kept p = subst (λ (r : ℕ). mentions r xs < kept r) e lt in
    omega (arith, a, b, h, here)
kept_yes kept p q xs left lt h (inr other) =
    let a = mention_no p q left other in
    let b = mention_no p q xs other in
    a ∙ (h ∙ ap (λ (k : ℕ). min (kept p) k) (sym b))

kept_no : (kept : ℕ → ℕ) (p q : ℕ) (xs left : List ℕ) → kept q ≤ mentions q xs
    → mentions p left ≡ min (kept p) (mentions p xs) → (q ≡ p) ⊎ (q ≡ p → ⊥)
    → mentions p left ≡ min (kept p) (mentions p (q ∷ xs))
kept_no kept p q xs left le h (inl e) =
    let b = mention_yes p q xs e in
    let here : kept p ≤ mentions p xs = subst (λ (r : ℕ). kept r ≤ mentions r xs) e le in
    omega (arith, b, h, here)
kept_no kept p q xs left le h (inr other) = h ∙ ap (λ (k : ℕ). min (kept p) k) (sym (mention_no p q xs other))

pub mentions_kept : (kept : ℕ → ℕ) (p : ℕ) (xs : List ℕ)
    → mentions p (keep_first kept xs) ≡ min (kept p) (mentions p xs)
mentions_kept kept p [] = omega arith
mentions_kept kept p (q ∷ xs) = cond_both (nat_lt (mentions q xs) (kept q)) (q ∷ keep_first kept xs) (keep_first kept xs) (λ ys. mentions p ys ≡ min (kept p) (mentions p (q ∷ xs)))
    (λ e. kept_yes kept p q xs (keep_first kept xs) (ltb-true (mentions q xs) (kept q) e) (mentions_kept kept p xs) (cases_eq q p))
    (λ e. kept_no kept p q xs (keep_first kept xs) (ltb-false (mentions q xs) (kept q) e) (mentions_kept kept p xs) (cases_eq q p))

-- so many first entries stay where they are, among them each durable one that put a frame, and these stay durable
pub record IsKept (kept : ℕ) (old new : Share) : Type 0 where
  pub entries : (k : ℕ) (e : LogEntry) → k < kept → slice_get old.log k ≡ Some e → slice_get new.log k ≡ Some e
  pub outputs : (k : ℕ) (o : Outgoing) → k < kept → slice_get old.outputs k ≡ Some o → slice_get new.outputs k ≡ Some o
  pub safe : (k : ℕ) (o : Outgoing) (x : Put) → k < old.durable → slice_get old.outputs k ≡ Some o → In x o.frames
      → k < kept
  pub durable : min kept old.durable ≤ new.durable

module _ (kept : ℕ → ℕ) (old new : ℕ → Share) (is : (p : ℕ) → IsKept (kept p) (old p) (new p)) where
  backed_kept : (older : List ℕ) (p : ℕ) (e : Step) → IsBacked old older p e → IsBacked new (keep_first kept older) p e
  backed_kept older p (Call op) b = tt
  backed_kept older p (Take from frame) b =
      let few = mentions_kept kept from older in
      let there = is from in
      let safe = b.safe in
      let within = there.safe b.place b.output (put_to p frame) safe b.stands b.put in
      let more = there.durable in
      let before = b.older in
      record {
        place = b.place;
        output = b.output;
        stands = there.outputs b.place b.output within b.stands;
        older = omega (arith, few, within, before);
        safe = omega (arith, safe, within, more);
        put = b.put;
      }
  backed_kept older p Tick b = tt

  stands_kept : (older : List ℕ) (p : ℕ) → mentions p older < kept p → Stands old older p → Stands new (keep_first kept older) p
  stands_kept older p lt t =
      let few = mentions_kept kept p older in
      let same : mentions p older ≡ mentions p (keep_first kept older) = omega (arith, few, lt) in
      record {
        entry = t.entry;
        at = subst (λ (k : ℕ). slice_get (new p).log k ≡ Some t.entry) same ((is p).entries (mentions p older) t.entry lt t.at);
        backed = backed_kept older p t.entry.step t.backed;
      }

  -- what is kept of an order stays supported: what backs an entry that stays is durable, so it stays too
  pub supported_kept : (n : ℕ) (xs : List ℕ) → AreSupported n old xs → AreSupported n new (keep_first kept xs)
  supported_kept n [] s = tt
  supported_kept n (p ∷ older) s = cond_both (nat_lt (mentions p older) (kept p)) (p ∷ keep_first kept older) (keep_first kept older) (λ ys. AreSupported n new ys)
      (λ e. (s.0, stands_kept older p (ltb-true (mentions p older) (kept p) e) s.1, supported_kept n older s.2))
      (λ e. supported_kept n older s.2)
