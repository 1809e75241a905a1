-- The text of a schedule is read as that schedule.
use Rattle.std.proofs.Common.{ℕ, suc, ◌≡◌, ◌<◌, List, [], ◌∷◌, ◌++◌, length, map, codes, None, Some, refl, ap, ◌∙◌}
use Rattle.std.proofs.Common.{arith, append-nil}
use Rattle.std.specs.Prelude.{slice_get, slice_index_or}
use Rattle.std.specs.Fmt.{decimal}
use Rattle.reg_base.specs.Names.{names_fault, is_name}
use Rattle.std.proofs.Common.{true}
use Rattle.reg_front.specs.declared.named.Front.{Front}
use Rattle.reg_front.specs.declared.named.Front.TheVariants.{Linear, LocalRead, LocalWrite}
use Rattle.reg_front.specs.Table.{front_name}
use Rattle.reg_text.specs.Parts.{Lacks}
use Rattle.reg_text.specs.Lines.{text_of, lines_of, kept}
use Rattle.reg_text.specs.Ops.{op_text}
use Rattle.reg_text.specs.Words.{names_text}
use Rattle.reg_text.proofs.NamesLack.{name_lacks, well_spelt}
use Rattle.reg_text.proofs.Joining.{joined, number, op_lacks}
use Rattle.reg_text.proofs.Split.{AllLack, lines_text, none_left, kept_line, none_kept}
use Rattle.reg_process.specs.declared.events.Event.{Event}
use Rattle.reg_process.specs.declared.events.Event.TheVariants.{Call, Take, Tick}
use Rattle.reg_inputs.specs.Schedules.{Plan, IsPlan, EventFits, event_text, plan_lines}
use Rattle.reg_inputs.specs.ScheduleText.{IsScheduleText}

pub names_lack : (ns : List (List ℕ)) → ((r : ℕ) → r < length ns → is_name (slice_index_or ns r []) ≡ true)
    → Lacks 10 (names_text ns)
names_lack [] h = refl
names_lack (n ∷ ns) h = joined 10 (32 ∷ n) (names_text ns) (joined 10 (32 ∷ []) n refl (name_lacks 10 n (omega arith) (h 0 (omega arith)))) (names_lack ns (λ r l. h (suc r) (omega arith)))

pub front_lacks : (f : Front) → Lacks 10 (codes "front " ++ front_name f)
front_lacks Linear = refl
front_lacks LocalRead = refl
front_lacks LocalWrite = refl

event_lacks : (names : List (List ℕ)) (e : Event) → names_fault names ≡ None → EventFits names e
    → Lacks 10 (event_text names e)
event_lacks names (Call p op) ok fits =
    joined 10 (codes "call ") (decimal p ++ 32 ∷ op_text names op) refl
    (joined 10 (decimal p) (32 ∷ op_text names op) (number p (let l = fits.0 in omega (arith, l))) (joined 10 (32 ∷ []) (op_text names op) refl (op_lacks names op ok fits.1)))
event_lacks names (Take from to i) ok fits =
    joined 10 (codes "take ") (decimal from ++ 32 ∷ (decimal to ++ 32 ∷ decimal i)) refl
    (joined 10 (decimal from) (32 ∷ (decimal to ++ 32 ∷ decimal i)) (number from (let l = fits.0 in omega (arith, l)))
    (joined 10 (32 ∷ []) (decimal to ++ 32 ∷ decimal i) refl
    (joined 10 (decimal to) (32 ∷ decimal i) (number to (let l = fits.1 in omega (arith, l))) (joined 10 (32 ∷ []) (decimal i) refl (number i (let l = fits.2 in omega (arith, l)))))))
event_lacks names (Tick p) ok fits = joined 10 (codes "tick ") (decimal p) refl (number p (omega (arith, fits)))

events_lack : (names : List (List ℕ)) (es : List Event) → names_fault names ≡ None
    → ((k : ℕ) (e : Event) → slice_get es k ≡ Some e → EventFits names e) → AllLack (map (event_text names) es)
events_lack names [] ok fit = tt
events_lack names (e ∷ es) ok fit =
    (event_lacks names e ok (fit 0 e refl), events_lack names es ok (λ k x h. fit (suc k) x h))

event_kept : (names : List (List ℕ)) (e : Event) (lines : List (List ℕ))
    → kept (event_text names e ∷ lines) ≡ event_text names e ∷ kept lines
event_kept names (Call p op) lines = kept_line (event_text names (Call p op)) lines refl
event_kept names (Take from to i) lines = kept_line (event_text names (Take from to i)) lines refl
event_kept names (Tick p) lines = kept_line (event_text names (Tick p)) lines refl

events_kept : (names : List (List ℕ)) (es : List Event) → kept (map (event_text names) es) ≡ map (event_text names) es
events_kept names [] = none_kept
events_kept names (e ∷ es) =
    event_kept names e (map (event_text names) es) ∙ ap (λ l. event_text names e ∷ l) (events_kept names es)

plan_kept : (p : Plan) → kept (plan_lines p) ≡ plan_lines p
plan_kept p =
    let a : List ℕ = codes "processes " ++ decimal p.shape.processes in
    let b : List ℕ = codes "registers" ++ names_text p.names in
    let c : List ℕ = codes "front " ++ front_name p.front in
    let es : List (List ℕ) = map (event_text p.names) p.events in
    kept_line a (b ∷ c ∷ es) refl ∙ ap (λ l. a ∷ l) (kept_line b (c ∷ es) refl ∙ ap (λ l. b ∷ l) (kept_line c es refl ∙ ap (λ l. c ∷ l) (events_kept p.names p.events)))

plan_lacks : (p : Plan) → IsPlan p → AllLack (plan_lines p)
plan_lacks p good = (
  joined 10 (codes "processes ") (decimal p.shape.processes) refl (number p.shape.processes (let l = good.processes in omega (arith, l))),
  (
    joined 10 (codes "registers") (names_text p.names) refl (names_lack p.names (λ r l. well_spelt p.names r good.names l)),
    (front_lacks p.front, events_lack p.names p.events good.names good.events),
  ),
)

pub schedule_spelled : (p : Plan) → IsPlan p → IsScheduleText p
schedule_spelled p good = record {
  good = good;
  spelled = ap kept (ap lines_of (append-nil' (text_of (plan_lines p))) ∙ (lines_text (plan_lines p) [] (plan_lacks p good) ∙ (ap (λ l. plan_lines p ++ l) none_left ∙ append-nil (plan_lines p)))) ∙ plan_kept p;
}
  where
    append-nil' : (l : List ℕ) → l ≡ l ++ []
    append-nil' [] = refl
    append-nil' (x ∷ l) = ap (λ t. x ∷ t) (append-nil' l)
