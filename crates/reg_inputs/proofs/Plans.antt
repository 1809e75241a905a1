-- Where and why the reader of a schedule stops, after its header lines and in a text.
use Rattle.std.proofs.Common.{ℕ, suc, ◌≡◌, ◌⊎◌, inl, inr, ◌-◌, ◌<◌, ◌≤◌, ◌^◌, true, List, [], ◌∷◌, ◌++◌, length, map}
use Rattle.std.proofs.Common.{get_or, drop, codes, None, Some, Result, Ok, Err, refl, sym, ap, ◌∙◌, subst, arith}
use Rattle.std.proofs.Common.{append_assoc, append-nil}
use Rattle.std.specs.Prelude.{slice_get, IfErr}
use Rattle.reg_base.specs.Names.{names_fault}
use Rattle.reg_base.specs.declared.limits.TheConstants.{MOST_PROCESSES, MOST_EVENTS}
use Rattle.reg_front.specs.declared.named.Front.{Front}
use Rattle.reg_front.specs.Table.{front_name}
use Rattle.reg_text.specs.Reading.{GoesOn}
use Rattle.reg_text.specs.Lines.{lines_of, kept, AllFit, Rest}
use Rattle.reg_text.specs.declared.faults.TextFault.{TextFault}
use Rattle.reg_text.specs.declared.faults.TextFault.TheVariants.{Line, OutOfMemory}
use Rattle.reg_text.specs.declared.faults.Why.{Why}
use Rattle.reg_text.proofs.Numbered.{starts, few_lines, stopped_behind, stopped_numbered}
use Rattle.reg_process.specs.declared.events.Event.{Event}
use Rattle.reg_inputs.specs.Refusals.{IsBegun, RefusesLine}
use Rattle.reg_inputs.specs.Schedules.{Plan, IsPlan, plan_head, plan_lines, event_text, EventFits}
use Rattle.reg_inputs.specs.Stops.{StopsFirst, IsWrongEvent}
use Rattle.reg_inputs.proofs.Heads.{processes_line, registers_line}

-- after the lines of these events the next one is that of an event
find : (f : Event → List ℕ) (F : Event → Type 0) (line : List ℕ) (more : List (List ℕ)) (before es : List Event)
    → map f es ≡ map f before ++ line ∷ more → ((k : ℕ) (e : Event) → slice_get es k ≡ Some e → F e)
    → (e : Event) × F e × (line ≡ f e) × (length before < length es)
find f F line more [] [] same fit = absurd (cc)
find f F line more [] (e ∷ es) same fit = (e, fit 0 e refl, sym (ap (λ l. get_or l 0 []) same), omega arith)
find f F line more (b ∷ before) [] same fit = absurd (cc)
find f F line more (b ∷ before) (e ∷ es) same fit =
    let found = find f F line more before es (ap (drop 1) same) (λ k x h. fit (suc k) x h) in
    let few = found.3 in
    (found.0, found.1, found.2, omega (arith, few))

abbrev head : ℕ → List (List ℕ) → Front → List (List ℕ)
head processes names front = processes_line processes ∷ registers_line names ∷ (codes "front " ++ front_name front) ∷ []

-- the head lines of two plans that begin alike
same_head : (old left more : List (List ℕ)) (n m : ℕ) (names others : List (List ℕ)) (front other : Front)
    (events : List Event) (rest : List (List ℕ))
    → old ≡ plan_head n names front left
    → plan_head m others other (map (event_text others) events) ≡ (head n names front ++ rest) ++ more → old ≡ plan_head m others other left
same_head old left more n m names others front other events rest read e =
    read ∙ ap (λ l. l ∷ registers_line names ∷ (codes "front " ++ front_name front) ∷ left) (sym (ap (λ l. get_or l 0 []) e))
    ∙ ap (λ l. processes_line m ∷ l ∷ (codes "front " ++ front_name front) ∷ left) (sym (ap (λ l. get_or l 1 []) e))
    ∙ ap (λ l. processes_line m ∷ registers_line others ∷ l ∷ left) (sym (ap (λ l. get_or l 2 []) e))

module _ (old mid new : Rest) (processes : ℕ) (names : List (List ℕ)) (front : Front) (why : Why) (some : 0 < processes) (few : processes ≤ MOST_PROCESSES) (spelt : names_fault names ≡ None)
    (read : old.left ≡ plan_head processes names front mid.left)
    (alone : (m : ℕ) (others : List (List ℕ)) (other : Front) (rest : List (List ℕ)) → 0 < m → m ≤ MOST_PROCESSES → names_fault others ≡ None → old.left ≡ plan_head m others other rest → names ≡ others)
    (w : IsWrongEvent names mid new why) where
  abbrev plan : Plan
  plan = record { shape = record { processes = processes; registers = length names }; names = names; front = front; events = w.before }

  good : IsPlan plan
  good = record { names = spelt; some_process = some; processes = few; registers = refl; events = w.fit; few = w.few }

  none_further : (es : List Event) → AllFit (λ _ e. EventFits names e) es → length es ≤ MOST_EVENTS → (more : List (List ℕ)) → map (event_text names) es ≡ map (event_text names) w.before ++ w.line ∷ more → ⊥
  none_further es fit short more same =
      let found = find (event_text names) (EventFits names) w.line more w.before es same fit in
      let further = found.3 in
      w.none (omega (arith, further, short)) found.0 found.1 found.2

  not_begun : ¬ IsBegun ((head processes names front ++ map (event_text names) w.before) ++ w.line ∷ [])
  not_begun (q, fits, more, e) =
      let same : names ≡ q.names = alone q.shape.processes q.names q.front mid.left fits.some_process fits.processes fits.names
      (same_head old.left mid.left (w.line ∷ [] ++ more) processes q.shape.processes names q.names front q.front q.events (map (event_text names) w.before) read (e ∙ append_assoc (head processes names front ++ map (event_text names) w.before) (w.line ∷ []) more)) in
      let lines : map (event_text q.names) q.events ≡ map (event_text names) w.before ++ w.line ∷ more = ap (drop 3) e ∙ append_assoc (map (event_text names) w.before) (w.line ∷ []) more in
      none_further q.events (subst (λ (ns : List (List ℕ)). AllFit (λ _ x. EventFits ns x) q.events) (sym same) fits.events) fits.few more
      (subst (λ (ns : List (List ℕ)). map (event_text ns) q.events ≡ map (event_text names) w.before ++ w.line ∷ more) (sym same) lines)

  -- an event is refused: the lines before it are those of a schedule
  pub events_stopped : GoesOn old mid → StopsFirst old new why
  events_stopped on = record {
    before = head processes names front ++ map (event_text names) w.before;
    next = Some w.line;
    stopped = stopped_behind (head processes names front) (map (event_text names) w.before) (Some w.line) old mid new read on w.stopped;
    first = record {
      begun = (plan, good, [], sym (append-nil (plan_lines plan)));
      wrong = (not_begun, record { plan = plan; good = good; read = refl; none = w.why_none; further = w.why_further });
    };
  }

-- the line of the text at which the reader stops
one_line : (text : List ℕ) (old new : Rest) (f : TextFault) → length text < 2 ^ 64 - 1 → old.left ≡ kept (lines_of text)
    → old.all ≡ lines_of text → old.number ≡ 0 → old.skips ≡ true
    → (f ≡ OutOfMemory) ⊎ ((why : Why) × (f ≡ Line new.number why) × StopsFirst old new why) → (f ≡ OutOfMemory) ⊎ ((number : ℕ) × (why : Why) × (f ≡ Line number why) × RefusesLine number why text)
one_line text old new f few left all number skips (inl memory) = inl memory
one_line text old new f few left all number skips (inr (why, is, s)) =
    let short = few_lines text in
    inr (
      new.number,
      why,
      is,
      record {
        before = s.before;
        next = s.next;
        numbered = stopped_numbered true (lines_of text) s.before old new left (starts true (lines_of text) old all number left skips (omega (arith, short, few))) s.next s.stopped;
        first = s.first;
      },
    )

pub text_line : {A : Type 0} (text : List ℕ) (old new : Rest) (r : Result A TextFault) → length text < 2 ^ 64 - 1
    → old.left ≡ kept (lines_of text) → old.all ≡ lines_of text → old.number ≡ 0 → old.skips ≡ true
    → IfErr r (λ f. (f ≡ OutOfMemory) ⊎ ((why : Why) × (f ≡ Line new.number why) × StopsFirst old new why)) → IfErr r (λ f. (f ≡ OutOfMemory) ⊎ ((number : ℕ) × (why : Why) × (f ≡ Line number why) × RefusesLine number why text))
text_line text old new (Ok x) few left all number skips s = tt
text_line text old new (Err f) few left all number skips s = one_line text old new f few left all number skips s
