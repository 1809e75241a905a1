-- Reports in a row, one by one.
use Rattle.std.proofs.Common.{ℕ, suc, ◌≡◌, ◌≢◌, ◌+◌, ◌<◌, ◌≤◌, ◌==◌, ◌⊎◌, inl, inr, ◌&&◌, Bool, true, false, List, []}
use Rattle.std.proofs.Common.{◌∷◌, ◌++◌, length, Option, Some, None, refl, sym, ap, ◌∙◌, subst, arith}
use Rattle.std.specs.Prelude.{MatchOption}
use Rattle.std.proofs.lemmas.Bool.{cond_both}
use Rattle.std.proofs.lemmas.Option.{slice_get_within}
use Rattle.reg_base.specs.declared.memory.Op.{Op}
use Rattle.reg_base.specs.declared.memory.Op.TheVariants as ops
use Rattle.reg_base.specs.declared.memory.OpId.{OpId}
use Rattle.reg_base.specs.Memory.{memory}
use Rattle.reg_checkers.specs.declared.entries.Point.{Point}
use Rattle.reg_checkers.specs.declared.faults.CheckFault.TheVariants.{OutOfMemory}
use Rattle.reg_checkers.specs.History.{IsAt, IsCalled, WasCalled}
use Rattle.reg_checkers.specs.Orders.{IsPointOrder, IsSerial}
use Rattle.reg_checkers.proofs.Bridges.{zip_right}
use Rattle.reg_checkers.proofs.NoOrder.{fault_not_points, fault_not_serial, same_ops}
use Rattle.reg_checkers.proofs.Places.{same_at}
use Rattle.reg_history.specs.Reports.{Contents, IsReport}
use Rattle.reg_commands.specs.declared.verdicts.Reason.{Reason}
use Rattle.reg_commands.specs.declared.verdicts.Reason.TheVariants as reasons
use Rattle.reg_commands.specs.declared.verdicts.Verdict.{Verdict}
use Rattle.reg_commands.specs.declared.verdicts.Verdict.TheVariants.{Yes, No}
use Rattle.reg_commands.specs.declared.verdicts.Verdicts.{Verdicts}
use Rattle.reg_commands.specs.Verdicts.{AllPointsSay, Judges, PointsSay, SerialSays, all_yes, fault_of, is_yes}
use Rattle.reg_commands.specs.Verdicts.{is_yes_or_none}
use Rattle.reg_node.specs.Openings.{opening_of, writes_from}
use Rattle.reg_verify.specs.declared.stories.breaches.Breach.{Breach}
use Rattle.reg_verify.specs.declared.stories.breaches.Breach.TheVariants.{Order, Points}
use Rattle.reg_verify.specs.Stories.{AreAlike, AreStory, EndsWith, Follows, GoesOn, IsBreach}
use Rattle.reg_verify.specs.Stories.{IsBreachBehind, IsOpened, IsRefused, IsUnopened, Passes, is_last}

-- One report

both_true : (a b : Bool) → (a && b) ≡ true → (a ≡ true) × (b ≡ true)
both_true true b e = (refl, e)
both_true false b e = absurd (cc)

-- the order of a report that passes is serial
pub serial_of : (r : Contents) (v : Verdicts) → Judges r v → all_yes v ≡ true
    → IsSerial r.shape.registers r.entries r.order
serial_of r v judged agreed = by v.serial refl
  where
    by : (s : Verdict) → v.serial ≡ s → IsSerial r.shape.registers r.entries r.order
    by Yes e = subst (SerialSays r) e judged.0
    by (No reason) e =
        let clash : false ≡ true = sym (ap is_yes e) ∙ (both_true (is_yes v.serial) (is_yes_or_none v.points) agreed).0 in
        absurd (cc)

-- and its points are a point order
points_of : (r : Contents) (v : Verdicts) (ps : List Point) → Judges r v → all_yes v ≡ true → r.points ≡ Some ps
    → IsPointOrder r.shape.registers r.entries ps
points_of r v ps judged agreed is = by v.points refl
  where
    says : AllPointsSay r (Some ps) v.points
    says = subst (λ (o : Option (List Point)). AllPointsSay r o v.points) is judged.1

    by : (o : Option Verdict) → v.points ≡ o → IsPointOrder r.shape.registers r.entries ps
    by None e = absurd (subst (AllPointsSay r (Some ps)) e says)
    by (Some Yes) e = subst (AllPointsSay r (Some ps)) e says
    by (Some (No reason)) e =
        let clash : false ≡ true = sym (ap is_yes_or_none e) ∙ (both_true (is_yes v.serial) (is_yes_or_none v.points) agreed).1 in
        absurd (cc)

-- a reason is no lack of memory
not_memory : (reason : Reason) → fault_of reason ≢ OutOfMemory
not_memory reasons.Unknown e = absurd (cc)
not_memory reasons.Twice e = absurd (cc)
not_memory reasons.Missing e = absurd (cc)
not_memory reasons.OwnOrder e = absurd (cc)
not_memory (reasons.Answer place) e = absurd (cc)
not_memory (reasons.Outside place) e = absurd (cc)
not_memory (reasons.Falling place) e = absurd (cc)

pub refused_order : (r : Contents) (v : Verdicts) (reason : Reason) → IsReport r → Judges r v → v.serial ≡ No reason
    → IsRefused r (Order reason)
refused_order r v reason good judged is = record {
  good = good;
  verdicts = v;
  judged = judged;
  says = inl (reason, refl, is);
  never = λ p. fault_not_serial r.shape.processes r.shape.registers r.entries good.history r.order (fault_of reason) (not_memory reason) (subst (SerialSays r) is judged.0) (serial_of r p.verdicts p.judged p.yes);
}

pub refused_points : (r : Contents) (v : Verdicts) (reason : Reason) → IsReport r → Judges r v → v.serial ≡ Yes
    → v.points ≡ Some (No reason) → IsRefused r (Points reason)
refused_points r v reason good judged serial is = record {
  good = good;
  verdicts = v;
  judged = judged;
  says = inr (reason, refl, serial, is);
  never = λ p. by r.points refl p;
}
  where
    by : (o : Option (List Point)) → r.points ≡ o → ¬ Passes r
    by None e p = absurd (subst (λ (o : Option (List Point)). AllPointsSay r o (Some (No reason))) e (subst (AllPointsSay r r.points) is judged.1))
    by (Some ps) e p =
        let says : PointsSay r ps (No reason) = subst (λ (o : Option (List Point)). AllPointsSay r o (Some (No reason))) e (subst (AllPointsSay r r.points) is judged.1) in
        fault_not_points r.shape.processes r.shape.registers r.entries good.history ps (fault_of reason) (not_memory reason) says (points_of r p.verdicts ps p.judged p.yes e)

pub passes : (r : Contents) (v : Verdicts) → IsReport r → Judges r v → v.serial ≡ Yes → is_yes_or_none v.points ≡ true
    → Passes r
passes r v good judged serial points =
    let both : all_yes v ≡ true = ap (λ (s : Verdict). is_yes s && is_yes_or_none v.points) serial ∙ points in
    record { good = good; verdicts = v; judged = judged; yes = both }

-- each operation of its order was called
pub order_called : (r : Contents) → Passes r → (place : ℕ) (id : OpId) → IsAt r.order place id → WasCalled r.entries id
order_called r p place id at =
    let legal = (serial_of r p.verdicts p.judged p.yes).legal in
    let found = zip_right (λ (i : OpId) (o : Op). (t : ℕ) × IsCalled r.entries i t o) r.order legal.ops place id legal.called at in
    (found.2.0, found.0, found.2.1)

pub same_values : (r : Contents) (u v : List ℕ) → IsReport r → EndsWith r u → EndsWith r v → u ≡ v
same_values r u v good a b =
    a.values_are ∙ (ap (memory r.shape.registers) (same_ops r.shape.processes r.shape.registers r.entries good.history r.order a.ops b.ops a.called b.called) ∙ sym b.values_are)

-- Openings

few_writes : (register : ℕ) (values : List ℕ) → length (writes_from register values) ≤ length values
few_writes register [] = omega arith
few_writes register (value ∷ values) =
    let few = few_writes (register + 1) values in
    cond_both (value == 0) [] (ops.Write register value ∷ []) (λ (writes : List Op). length (writes ++ writes_from (register + 1) values) ≤ suc (length values)) (λ _. omega (arith, few)) (λ _. omega (arith, few))

pub few_in_opening : (values : List ℕ) → length (opening_of values) ≤ length values
few_in_opening values = few_writes 0 values

-- A report behind another one

pub behind_so : (last : Bool) (a b : Contents) (values : List ℕ) (writes : List Op) (o : Option Breach) → IsReport a
    → AreAlike a b → EndsWith a values → writes ≡ opening_of values
    → MatchOption o (IsOpened last writes b) (λ breach. IsUnopened writes b breach × ¬ IsOpened last writes b)
    → MatchOption o (Follows last a b) (λ breach. IsBreachBehind last a b breach)
behind_so last a b values writes None good alike ends is m =
    record { alike = alike; values = values; ends = ends; opened = subst (λ (w : List Op). IsOpened last w b) is m }
behind_so last a b values writes (Some breach) good alike ends is m = record {
  says = inr (record { alike = alike; values = values; ends = ends; first = subst (λ (w : List Op). IsUnopened w b breach) is m.0 });
  never = λ f. m.1 (subst (λ (w : List Op). IsOpened last w b) (sym is) (subst (λ (v : List ℕ). IsOpened last (opening_of v) b) (same_values a f.values values good f.ends ends) f.opened));
}

-- All reports

pub refused_at : (reports : List Contents) (place : ℕ) (r : Contents) (breach : Breach) → IsAt reports place r
    → IsRefused r breach → IsBreach reports place breach
refused_at reports place r breach at refused = record { report = r; at = at; wrong = inl refused }

pub goes_so : (reports : List Contents) (place k : ℕ) (a r : Contents) (last : Bool) (o : Option Breach)
    → IsAt reports place r → Passes r → place ≡ k + 1 → IsAt reports k a → last ≡ is_last reports place
    → MatchOption o (Follows last a r) (λ breach. IsBreachBehind last a r breach) → MatchOption o (GoesOn reports place) (λ breach. IsBreach reports place breach)
goes_so reports place k a r last None at passed e before is m = record {
  report = r;
  at = at;
  accepted = passed;
  follows = λ j b f there.
      let same_place : k ≡ j = omega (arith, e, f) in
      let same : a ≡ b = same_at reports k a b before (subst (λ (i : ℕ). IsAt reports i b) (sym same_place) there) in
      subst (λ (x : Contents). Follows (is_last reports place) x r) same (subst (λ (l : Bool). Follows l a r) is m);
}
goes_so reports place k a r last (Some breach) at passed e before is m = record {
  report = r;
  at = at;
  wrong = inr (passed, (k, a, e, before, subst (λ (l : Bool). IsBreachBehind l a r breach) is m));
}

pub never_story : (reports : List Contents) (place : ℕ) (breach : Breach) → IsBreach reports place breach
    → ¬ AreStory reports
never_story reports place breach b s = by b.wrong
  where
    by : IsRefused b.report breach ⊎ (Passes b.report × ((k : ℕ) × (a : Contents) × (place ≡ k + 1) × IsAt reports k a × IsBreachBehind (is_last reports place) a b.report breach)) → ⊥
    by (inl refused) = refused.never (s.accepted place b.report b.at)
    by (inr (passed, (k, a, e, there, behind))) =
        let at = subst (λ (i : ℕ). IsAt reports i b.report) e b.at in
        behind.never (subst (λ (i : ℕ). Follows (is_last reports i) a b.report) (sym e) (s.follows k a b.report there at))

pub all_go_on : (reports : List Contents) (n : ℕ) → 0 < length reports → length reports ≤ n
    → ((k : ℕ) → k < n → GoesOn reports k) → AreStory reports
all_go_on reports n some all each = record {
  some = some;
  accepted = λ k r at.
      let inside = slice_get_within reports k r at in
      let g : GoesOn reports k = each k (omega (arith, inside, all)) in
      subst Passes (same_at reports k g.report r g.at at) g.accepted;
  follows = λ k a b at_a at_b.
      let inside = slice_get_within reports (k + 1) b at_b in
      let g : GoesOn reports (k + 1) = each (k + 1) (omega (arith, inside, all)) in
      subst (λ (x : Contents). Follows (is_last reports (k + 1)) a x) (same_at reports (k + 1) g.report b g.at at_b) (g.follows k a refl at_a);
}

pub passed_before : (reports : List Contents) (n : ℕ) → ((k : ℕ) → k < n → GoesOn reports k) → (k : ℕ) (r : Contents)
    → k < n → IsAt reports k r → Passes r
passed_before reports n each k r lt at =
    let g = each k lt in subst Passes (same_at reports k g.report r g.at at) g.accepted
