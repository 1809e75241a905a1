use Rattle.std.proofs.Common.{◌≡◌, ◌<◌, ℕ, List, ◌∷◌, [], ◌++◌, set, length, get_or, refl, ap, sym, ◌∙◌, subst, arith}
use Rattle.std.proofs.Common.{rules}
use Rattle.reg_checkers.specs.declared.entries.Entry.{Entry}
use Rattle.reg_checkers.specs.declared.place.Progress.{Progress}
use Rattle.reg_checkers.specs.History.{IsInPlace}
use Rattle.reg_checkers.specs.Progress.{IsKept, id_of, progress_after}
use Rattle.reg_checkers.proofs.Keeping.{entry_within, is_numbered, kept_more}
use Rattle.reg_checkers.proofs.log.History.push.Goals as goal

-- the process of the entry has its progress
inside : (count registers : ℕ) (es ys : List Entry) (ps : List Progress) (e : Entry) (i : ℕ)
    → IsKept count registers es ps → ys ≡ es → IsInPlace count registers ys e → i ≡ (id_of e).process → i < length ps
inside count registers es ys ps e i kept same may is =
    let lt : (id_of e).process < length ps = entry_within count registers es ps e kept (subst (λ (xs : List Entry). IsInPlace count registers xs e) same may) in
    omega arith

more : (count registers : ℕ) (es ys zs : List Entry) (ps : List Progress) (e : Entry) (i : ℕ) (d v : Progress)
    → IsKept count registers es ps → ys ≡ es → IsInPlace count registers ys e → i ≡ (id_of e).process
    → zs ≡ es ++ e ∷ [] → v ≡ progress_after d e → d ≡ get_or ps i d → IsKept count registers zs (set ps i v)
more count registers es ys zs ps e i d v kept same may is pushed next before =
    let lt : i < length ps = inside count registers es ys ps e i kept same may is in
    let good = kept_more count registers es ps i d kept lt e is (subst (λ (xs : List Entry). IsInPlace count registers xs e) same may) in
    let w : progress_after (get_or ps i d) e ≡ v = ap (λ (x : Progress). progress_after x e) (sym before) ∙ sym next in
    subst (λ (xs : List Entry). IsKept count registers xs (set ps i v)) (sym pushed) (subst (λ (x : Progress). IsKept count registers (es ++ e ∷ []) (set ps i x)) w good)

pub advance-requires-clause-within : goal.advance-requires-clause-within
advance-requires-clause-within g c =
    inside c.self.inside.shape.processes c.self.inside.shape.registers c.self.inside.entries.items c.deref.result.now c.self.inside.progress.items c.args.entry (id_of c.args.entry).process c.self.invariant c.deref.ensures.value (c.if-not-is_in_place.ensures.0 refl) refl

pub advance-requires-clause-numbered : goal.advance-requires-clause-numbered
advance-requires-clause-numbered g c = is_numbered c.self.inside.shape.processes c.self.inside.shape.registers c.deref.result.now c.args.entry (c.if-not-is_in_place.ensures.0 refl)

pub invariant_of-self-2 : goal.invariant_of-self-2
invariant_of-self-2 g c =
    let told = c.advance.ensures in
    let kept = more c.self.inside.shape.processes c.self.inside.shape.registers c.self.inside.entries.items c.deref.result.now c.push_reserved.new.self.items c.self.inside.progress.items c.args.entry (id_of c.args.entry).process
    told.0 (progress_after told.0 c.args.entry) c.self.invariant c.deref.ensures.value (c.if-not-is_in_place.ensures.0 refl) refl
    (c.push_reserved.ensures.items ∙ ap (λ (xs : List Entry). xs ++ c.args.entry ∷ []) c.reserve.ensures.items) refl told.1 in
    subst (λ (ps : List Progress). IsKept c.self.inside.shape.processes c.self.inside.shape.registers c.push_reserved.new.self.items ps) (sym told.2) kept

pub returns-then-not-is_in_place : goal.returns-then-not-is_in_place
returns-then-not-is_in_place g c = search rules

pub returns : goal.returns
returns g c = search rules
