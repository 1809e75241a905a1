use Rattle.std.proofs.Common.{◌≡◌, ◌⊎◌, inl, inr, ◌<◌, ◌+◌, ℕ, List, arith, length, map, refl, ◌∙◌, subst, sym}
use Rattle.std.proofs.lemmas.List.{length-map}
use Rattle.std.proofs.lemmas.Bool.{cases_eq}
use Rattle.reg_base.specs.declared.memory.Op.{Op}
use Rattle.reg_front.specs.declared.starts.Start.{Start}
use Rattle.reg_records.specs.declared.entries.LogEntry.{LogEntry}
use Rattle.reg_records.specs.declared.going.Search.TheVariants.{Whole}
use Rattle.reg_records.specs.declared.placing.Next.{Next}
use Rattle.reg_records.specs.declared.placing.Next.TheVariants.{Waits, Done}
use Rattle.reg_records.specs.Placing.{Stand, CannotGo, HasPlaced}
use Rattle.reg_records.proofs.Placed.{goes_on_refl}
use Rattle.reg_records.proofs.placing.Placing.place_any.Goals as goal

-- nothing was placed
stays : (start : Op → ℕ → Start) (logs : List (List LogEntry)) (p : ℕ) (old new : Stand) (next : Next)
    → (next ≡ Waits) ⊎ (next ≡ Done) → HasPlaced start logs p old Whole next new
    → (new ≡ old) × CannotGo start logs old p
stays start logs p old new next (inl e) has = let h = rw e at has in (h.0, h.1 refl)
stays start logs p old new next (inr e) has = let h = rw e at has in (h.0, h.1 refl)

one_more : (start : Op → ℕ → Start) (logs : List (List LogEntry)) (k : ℕ) (s : Stand)
    → ((p : ℕ) → p < k → CannotGo start logs s p) → CannotGo start logs s k → (p : ℕ) → p < k + 1
    → CannotGo start logs s p
one_more start logs k s before here p lt = by (cases_eq p k)
  where
    by : (p ≡ k) ⊎ (p ≡ k → ⊥) → CannotGo start logs s p
    by (inl e) = subst (λ (q : ℕ). CannotGo start logs s q) (sym e) here
    by (inr off) = before p (omega arith)

pub loop-process-preserved : goal.loop-process-preserved
loop-process-preserved g c =
    let r = stays g.F.FrontEnd.start (map (λ v. v.items) c.args.logs.now) c.loop-process.process c.loop-process.self c.place.new.self c.in_ok-place.field-0 c.in-Waits.is c.in_ok-place.ensures.next in
    record {
      same = r.0 ∙ c.loop-process.invariant.same;
      cannot = one_more g.F.FrontEnd.start (map (λ v. v.items) c.args.logs.now) c.loop-process.process c.args.self.now c.loop-process.invariant.cannot
          (subst (λ (s : Stand). CannotGo g.F.FrontEnd.start (map (λ v. v.items) c.args.logs.now) s c.loop-process.process) c.loop-process.invariant.same r.1);
    }

pub returns-clause-any : goal.returns-clause-any
returns-clause-any g c = (
  rw c.loop-process.invariant.same (goes_on_refl g.F.FrontEnd.start (map (λ v. v.items) c.args.logs.now) c.args.self.now c.requires.placing),
  subst (λ (s : Stand). (p : ℕ) → p < length (map (λ v. v.items) c.args.logs.now) → CannotGo g.F.FrontEnd.start (map (λ v. v.items) c.args.logs.now) s p) (sym c.loop-process.invariant.same)
      (λ p lt. c.loop-process.invariant.cannot p (let h = rw length-map at lt in omega arith)),
)
